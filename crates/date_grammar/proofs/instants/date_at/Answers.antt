use Rattle.std.proofs.Common.{◌≡◌, ◌∙◌, ℕ, ap, arith, pos, ◌+ℤ◌, ◌*ℤ◌}
use Rattle.std.specs.Int.{int_rem_euclid}
use Rattle.std.proofs.lemmas.Int.{ints}
use Rattle.date_grammar.specs.Calendar.{day_number, second_of_day, minutes_ahead}
use Rattle.date_grammar.specs.Stamps.{civil_day_of}
use Rattle.date_grammar.proofs.InstantLemmas.{moment_at}
use Rattle.date_grammar.proofs.instants.date_at.Goals as goal

pub returns : goal.returns
returns c =
    let zone : minutes_ahead c.zone_at-zone.result ≡ c.args.stamp.zone = omega (arith, ints, c.zone_at-zone.ensures.value) in
    let number : day_number c.day_of-day.result ≡ c.civil_day.result = omega (arith, ints, c.day_of-day.ensures.value) in
    let day : day_number c.day_of-day.result ≡ civil_day_of c.args.stamp = number ∙ c.civil_day.ensures in
    let second : pos (second_of_day c.time_at-time.result) ≡ int_rem_euclid (c.args.stamp.seconds +ℤ pos 60 *ℤ c.args.stamp.zone) (pos 86400) =
    ap (λ (n : ℕ). pos n) c.time_at-time.ensures.value ∙ c.local_second.ensures.value in
    record {
      is_date = record { day = c.day_of-day.ensures.exists; time = c.time_at-time.ensures.shown; zone = c.zone_at-zone.ensures.bound };
      no_leap = c.time_at-time.ensures.no_leap;
      moment_is = moment_at c.args.stamp.seconds c.args.stamp.zone (day_number c.day_of-day.result) (minutes_ahead c.zone_at-zone.result) (second_of_day c.time_at-time.result) day second zone;
      zone_is = zone;
      sign = c.zone_at-zone.ensures.sign;
    }
