use Rattle.std.proofs.Common.{sym, ◌∙◌, arith}
use Rattle.imap_lexer.proofs.Numbers.{number-digit}
use Rattle.imap_lexer.proofs.literals.number.Goals as goal

pub digits-preserved : goal.digits-preserved
digits-preserved c = record {
  small = omega (arith, c.with_digit-value.ensures);
  same = c.digits.invariant.same
      ∙ number-digit c.args.text.now c.digits.digit-index c.digits.value c.with_digit-value.result c.digits-test.true (sym c.is_ascii_digit.ensures.value ∙ c.if-not-is_ascii_digit.false) c.with_digit-value.ensures;
}
