use Rattle.std.proofs.Common.{◌≡◌, None}
use Rattle.imap_lexer.specs.Units.{first}
use Rattle.imap_lexer.proofs.lexer.tests.is_one_command.Given as goal

abbrev pub invariant-bytes : goal.invariant-bytes
invariant-bytes l = first l.lexer.form l.lexer.bytes ≡ None
