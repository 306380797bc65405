use Rattle.std.proofs.Common.{sym, ◌∙◌, arith, ◌≡◌, ◌+◌, ◌*◌, take}
use Rattle.std.specs.Str.Parse.{digits_value}
use Rattle.mail_server.proofs.Numbers.{number_step, number_up_to-greater}
use Rattle.mail_server.proofs.serve_words.number_up_to.Goals as goal

pub returns-then-value-most-clause-value : goal.returns-then-value-most-clause-value
returns-then-value-most-clause-value c =
    let step : c.loop-digit.value * 10 + c.from.result ≡ digits_value 10 (take (c.loop-digit.digit-index + 1) c.args.digits.now) =
    number_step c.args.digits.now c.loop-digit.digit-index c.loop-digit.value c.from.result (sym c.is_decimal.ensures ∙ c.if-not-is_decimal.false) c.loop-digit-test.true c.from.ensures c.loop-digit.invariant.0 in
    sym (number_up_to-greater c.args.most c.args.digits.now (c.loop-digit.digit-index + 1) (omega arith))

pub loop-digit-preserved : goal.loop-digit-preserved
loop-digit-preserved c = (
  number_step c.args.digits.now c.loop-digit.digit-index c.loop-digit.value c.from.result (sym c.is_decimal.ensures ∙ c.if-not-is_decimal.false) c.loop-digit-test.true c.from.ensures c.loop-digit.invariant.0,
  omega arith,
)
