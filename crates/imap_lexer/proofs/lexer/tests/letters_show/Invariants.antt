use Rattle.std.proofs.Common.{◌≡◌, None}
use Rattle.imap_lexer.specs.Units.{first}
use Rattle.imap_lexer.proofs.lexer.tests.letters_show.Given as goal

abbrev pub invariant-bytes : goal.invariant-bytes
invariant-bytes l = first l.lexer.form l.lexer.bytes ≡ None
