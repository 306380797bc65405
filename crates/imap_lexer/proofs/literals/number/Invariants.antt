use Rattle.std.proofs.Common.{◌≡◌, ◌≤◌, drop}
use Rattle.imap_lexer.specs.Literals.{number as number_of, number_behind}
use Rattle.imap_lexer.specs.Lexer.{capped, too_many}
use Rattle.imap_lexer.proofs.literals.number.Given as goal

-- The number is that of the digits so far and then the others.
abbrev pub invariant-digits : goal.invariant-digits
invariant-digits l = record {
  small : l.value ≤ too_many;
  same : capped (number_of l.text) ≡ capped (number_behind l.value (drop l.digit-index l.text));
}
