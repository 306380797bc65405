use Rattle.jiff_core.proofs.DateLemmas.{days_from_civil-max}
use Rattle.date_grammar.proofs.DayLemmas.{days_from_civil-first}
use Rattle.date_grammar.proofs.StampLaws.{civil_day-stamp}
use Rattle.date_grammar.proofs.ValueLemmas.{sent_value, now_value}
use Rattle.date_grammar.proofs.laws.law_values.Goals as goal

pub returns : goal.returns
returns c = record { sent = sent_value; now = now_value; first_day = days_from_civil-first; last_day = days_from_civil-max; own_day = λ d h k. civil_day-stamp d (record { is_date = h; no_leap = k }) }
