use Rattle.std.proofs.Common.{◌≡◌, ◌∙◌, ap, ℤ, arith}
use Rattle.std.proofs.lemmas.Int.{ints}
use Rattle.jiff_core.specs.Date.{epoch_day}
use Rattle.jiff_core.specs.Calendar.{days_from_civil}
use Rattle.date_grammar.proofs.DayLemmas.{exists_date}
use Rattle.date_grammar.proofs.days.day_of.Goals as goal

pub returns-clause-exists : goal.returns-clause-exists
returns-clause-exists c = exists_date c.date_at-date.result c.year_of.result c.year_of.ensures c.date_at-date.ensures.positive

pub returns-clause-value : goal.returns-clause-value
returns-clause-value c =
    let value : epoch_day c.date_at-date.result ≡ c.args.number = omega (arith, ints, c.date_at-date.ensures.value) in
    ap (λ (y : ℤ). days_from_civil y c.date_at-date.result.month c.date_at-date.result.day) c.year_of.ensures ∙ value
