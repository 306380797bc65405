use Rattle.std.proofs.Common.{◌≡◌, None}
use Rattle.imap_lexer.specs.Units.{first}
use Rattle.imap_bench.proofs.units.is_unit.Given as goal

abbrev pub invariant-pieces : goal.invariant-pieces
invariant-pieces l = first l.lexer.form l.lexer.bytes ≡ None
