use Rattle.std.proofs.Common.{◌≡◌, None}
use Rattle.imap_lexer.specs.Units.{first}
use Rattle.imap_lexer.proofs.lexer.tests.is_taken_in_pieces.Given as goal

abbrev pub invariant-pieces : goal.invariant-pieces
invariant-pieces l = first l.lexer.form l.lexer.bytes ≡ None
