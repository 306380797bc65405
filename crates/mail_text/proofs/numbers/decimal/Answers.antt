use Rattle.std.proofs.Common.{◌+◌, ◌-◌, ◌*◌, ◌^◌, ◌≤◌, get_or, sym, ◌∙◌, arith, subst}
use Rattle.mail_text.proofs.DecimalLemmas.{IsRead, read_more, read_too_large, read_all}
use Rattle.mail_text.proofs.numbers.decimal.Goals as goal

pub returns-in-None : goal.returns-in-None
returns-in-None c =
    let too_large : 2 ^ 64 ≤ c.loop-b.value * 10 + (get_or c.args.text.now c.loop-b.b-index 0 - 48) = omega (arith, c.in-None.ensures) in
    read_too_large c.args.text.now c.loop-b.b-index c.loop-b.value c.loop-b-test.true too_large c.loop-b.invariant

pub loop-b-preserved : goal.loop-b-preserved
loop-b-preserved c =
    let is_digit = sym c.is_ascii_digit.ensures.value ∙ c.if-not-is_ascii_digit.false in
    subst (IsRead c.args.text.now (c.loop-b.b-index + 1)) (sym c.in-Some.ensures.1)
    (read_more c.args.text.now c.loop-b.b-index c.loop-b.value c.loop-b-test.true is_digit c.in-Some.ensures.0 c.loop-b.invariant)

pub returns : goal.returns
returns c = read_all c.args.text.now c.loop-b.b-index c.loop-b.value c.loop-b-test.false c.loop-b.invariant
