-- The first day of the year 1, and days behind it.
use Rattle.std.proofs.Common.{◌≡◌, ℕ, true, ◌&&◌, leb, ◌≤◌, refl, sym, subst, arith, ℤ, pos, neg_ℤ, ◌≤ℤ◌}
use Rattle.std.proofs.lemmas.Int.{by_lt_z}
use Rattle.std.proofs.lemmas.Bool.{and_from, and_parts, le-leb, leb-true}
use Rattle.date_grammar.specs.Calendar.{exists}
use Rattle.date_grammar.specs.declared.parts.CalendarDay.{CalendarDay}
use Rattle.jiff_core.specs.declared.civil.date.Date.{Date}
use Rattle.jiff_core.specs.Calendar.{day_count, days_from_civil, days_in_month}
use Rattle.jiff_core.specs.Date.{epoch_day}
use Rattle.jiff_core.proofs.SignedLemmas.{signed_arith}
use Rattle.jiff_core.proofs.MarchLemmas.{day_count-early}
use Rattle.jiff_core.proofs.CalendarLemmas.{days_from_civil-day_count, day_count-lt_year, days_in_month_bounds}
use Rattle.jiff_core.proofs.DateLemmas.{civil}

pub day_count-first : day_count (pos 1) 1 1 ≡ 3_652_791
day_count-first = day_count-early (pos 1) 10000 1 1 refl (omega arith) (omega arith) (omega arith)

pub days_from_civil-first : days_from_civil (pos 1) 1 1 ≡ neg_ℤ (pos 719_162)
days_from_civil-first = omega (arith, signed_arith, days_from_civil-day_count, day_count-first)

pub year_positive : (date : Date) → neg_ℤ (pos 719_162) ≤ℤ epoch_day date → pos 1 ≤ℤ date.year
year_positive date h =
    by_lt_z date.year (pos 1)
    (λ lt. absurd (omega (arith, signed_arith, days_from_civil-day_count, day_count-first, day_count-lt_year date.year date.month date.day (pos 1) 1 1 (civil date) (omega arith) lt)))
    (λ le. le)

-- what the calendar's having a day says
pub record IsDay (year month day : ℕ) : Type 0 where
  pub year_low : 1 ≤ year
  pub year_high : year ≤ 9999
  pub month_low : 1 ≤ month
  pub month_high : month ≤ 12
  pub day_low : 1 ≤ day
  pub day_high : day ≤ days_in_month (pos year) month

pub exists_from : (d : CalendarDay) → IsDay d.year d.month d.day → exists d ≡ true
unfolding exists
exists_from d h =
    let long = days_in_month (pos d.year) d.month in
    and_from (leb 1 d.year && leb d.year 9999) ((leb 1 d.month && leb d.month 12) && (leb 1 d.day && leb d.day long))
    (and_from (leb 1 d.year) (leb d.year 9999) (le-leb 1 d.year h.year_low) (le-leb d.year 9999 h.year_high))
    (and_from (leb 1 d.month && leb d.month 12) (leb 1 d.day && leb d.day long)
    (and_from (leb 1 d.month) (leb d.month 12) (le-leb 1 d.month h.month_low) (le-leb d.month 12 h.month_high))
    (and_from (leb 1 d.day) (leb d.day long) (le-leb 1 d.day h.day_low) (le-leb d.day long h.day_high)))

pub exists_parts : (d : CalendarDay) → exists d ≡ true → IsDay d.year d.month d.day
unfolding exists
exists_parts d h =
    let long = days_in_month (pos d.year) d.month in
    let parts = and_parts (leb 1 d.year && leb d.year 9999) ((leb 1 d.month && leb d.month 12) && (leb 1 d.day && leb d.day long)) h in
    let year = and_parts (leb 1 d.year) (leb d.year 9999) parts.0 in
    let rest = and_parts (leb 1 d.month && leb d.month 12) (leb 1 d.day && leb d.day long) parts.1 in
    let month = and_parts (leb 1 d.month) (leb d.month 12) rest.0 in
    let day = and_parts (leb 1 d.day) (leb d.day long) rest.1 in
    record {
      year_low = leb-true 1 d.year year.0;
      year_high = leb-true d.year 9999 year.1;
      month_low = leb-true 1 d.month month.0;
      month_high = leb-true d.month 12 month.1;
      day_low = leb-true 1 d.day day.0;
      day_high = leb-true d.day long day.1;
    }

pub exists_date : (date : Date) (y : ℕ) → pos y ≡ date.year → pos 1 ≤ℤ date.year → exists (record { year = y; month = date.month; day = date.day }) ≡ true
exists_date date y e h =
    exists_from (record { year = y; month = date.month; day = date.day }) (record {
      year_low = omega (arith, signed_arith);
      year_high = omega (arith, signed_arith, date.year_in);
      month_low = omega (arith, date.month_in);
      month_high = omega (arith, date.month_in);
      day_low = omega (arith, date.day_in);
      day_high = subst (λ (z : ℤ). date.day ≤ days_in_month z date.month) (sym e) date.day_in.1;
    })

pub exists_bounds : (d : CalendarDay) → exists d ≡ true → (1 ≤ d.month) × (d.month ≤ 12) × (d.day ≤ 31) × (d.year ≤ 9999)
exists_bounds d h =
    let day = exists_parts d h in
    let long = days_in_month_bounds (pos d.year) d.month in
    (day.month_low, day.month_high, omega (arith, day.day_high, long.0), day.year_high)
