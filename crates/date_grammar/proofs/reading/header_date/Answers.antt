use Rattle.std.proofs.Common.{◌≡◌, true, false}
use Rattle.date_grammar.proofs.ReadingLemmas.{reading_none}
use Rattle.date_grammar.proofs.reading.header_date.Goals as goal

pub returns-then-not-is_gap : goal.returns-then-not-is_gap
returns-then-not-is_gap c =
    reading_none c.args.value.now c.in_ok-day.day.now c.in_ok-month.month.now c.in_ok-year.year.now c.in_ok-time.time.now c.in_ok-zone.zone.now
    c.in_ok-day.rest.now c.in_ok-month.rest.now c.in_ok-year.rest.now c.in_ok-time.rest.now c.in_ok-zone.rest.now
    c.in_ok-day.ensures c.in_ok-month.ensures c.in_ok-year.ensures c.in_ok-time.ensures c.in_ok-zone.ensures
    (λ e. let gap : c.is_gap.result ≡ true = c.is_gap.ensures.1 e in let isnt : c.is_gap.result ≡ false = c.if-not-is_gap.true in cc)
