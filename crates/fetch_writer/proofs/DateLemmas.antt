-- The internal date of a moment in its zone is its print.
use Rattle.std.proofs.Common.{◌≡◌, ℕ, zero, suc, ◌+◌, ◌-◌, ◌<◌, ◌≤◌, Bool, true, false, cond, ltb, List, [], ◌∷◌, refl, sym, ◌∙◌, ap, subst, arith}
use Rattle.std.proofs.lemmas.Int.{ints}
use Rattle.std.specs.Prelude.{ℤ, pos, negsuc, neg_ℤ, ◌+ℤ◌, ◌-ℤ◌, ◌*ℤ◌, unsigned_abs, ◌≤ℤ◌}
use Rattle.std.specs.Int.{int_div_euclid, int_rem_euclid}
use Rattle.std.proofs.lemmas.Bool.{cond_both, and_from, le-leb, ltb-true, ltb-false}
use Rattle.jiff_core.specs.Calendar.{is_leap_year, days_in_year, days_in_month, days_of_years, days_of_months, day_count, days_from_civil, IsBetween, IsWithin}
use Rattle.jiff_core.proofs.SignedLemmas.{signed_arith}
use Rattle.date_grammar.specs.declared.parts.CalendarDay.{CalendarDay}
use Rattle.date_grammar.specs.declared.parts.Stamp.{Stamp}
use Rattle.date_grammar.specs.Calendar.{exists, day_number, second_of_day, minutes_ahead, IsShown}
use Rattle.date_grammar.specs.Dates.{IsInternalPrint}
use Rattle.date_grammar.specs.Stamps.{HasPrint, civil_day_of}
use Rattle.mime_reader.specs.Arrival.{day_in_months, all_months, day_in_years}
use Rattle.fetch_writer.specs.InternalDates.{day_of, time_of, zone_of, local_second, date_of, internal_text}

years_step : (n : ℕ) → days_of_years (suc n) ≡ days_of_years n + days_in_year (pos n -ℤ pos 10000)
unfolding days_of_years
years_step n = refl

months_step : (y : ℤ) (n : ℕ) → days_of_months y (suc n) ≡ days_of_months y n + days_in_month y (suc n)
unfolding days_of_months
months_step y n = refl

months_none : (y : ℤ) → days_of_months y 0 ≡ 0
unfolding days_of_months
months_none y = refl

back : (y : ℕ) → pos (y + 10000) -ℤ pos 10000 ≡ pos y
back y = omega (arith, ints)

-- one year more
year_more : (y : ℕ) → days_of_years (y + 1 + 10000) ≡ days_of_years (y + 10000) + days_in_year (pos y)
year_more y =
    ap days_of_years (let e : y + 1 + 10000 ≡ suc (y + 10000) = omega arith in e) ∙ years_step (y + 10000)
    ∙ ap (λ z. days_of_years (y + 10000) + days_in_year z) (back y)

-- The months from one on.
abbrev AreFrom : ℕ → List ℕ → Type 0
AreFrom m [] = m ≡ 13
AreFrom m (x ∷ xs) = (x ≡ m) × AreFrom (m + 1) xs

abbrev days_in : ℤ → List ℕ → ℕ
days_in y [] = 0
days_in y (m ∷ ms) = days_in_month y m + days_in y ms

-- A day of a year.
record IsDayOf (y : ℕ) (days : ℕ) (d : CalendarDay) : Type 0 where
  year : d.year ≡ y
  from : 1 ≤ d.month
  to : d.month ≤ 12
  first : 1 ≤ d.day
  last : d.day ≤ days_in_month (pos y) d.month
  place : days_of_months (pos y) (d.month - 1) + d.day ≡ days + 1

from_bound : (m : ℕ) (xs : List ℕ) → AreFrom (m + 1) xs → m ≤ 12
from_bound m [] f = omega (arith, f)
from_bound m (x ∷ xs) f = omega (arith, from_bound (m + 1) xs f.1)

month_more : (y m x before : ℕ) → x ≡ m → 1 ≤ m → days_of_months (pos y) (m - 1) ≡ before → days_of_months (pos y) (m + 1 - 1) ≡ before + days_in_month (pos y) x
month_more y m x before is h e =
    let pred : m + 1 - 1 ≡ suc (m - 1) = omega arith in
    let same : suc (m - 1) ≡ x = omega (arith, is) in
    ap (days_of_months (pos y)) pred ∙ months_step (pos y) (m - 1) ∙ ap (λ n. days_of_months (pos y) (m - 1) + days_in_month (pos y) n) same
    ∙ ap (λ n. n + days_in_month (pos y) x) e

day_of_months : (y m : ℕ) (ms : List ℕ) (before days : ℕ) → AreFrom m ms → 1 ≤ m → days_of_months (pos y) (m - 1) ≡ before → days < days_in (pos y) ms →
    IsDayOf y (before + days) (day_in_months y ms days)
day_of_months y m [] before days f h e l = absurd (omega (arith, l))
day_of_months y m (x ∷ xs) before days f h e l =
    let later : CalendarDay = record { year = y; month = x; day = days + 1 } in
    let size = days_in_month (pos y) x in
    let x_is : x ≡ m = f.0 in
    let bound = from_bound m xs f.1 in
    cond_both (ltb days size) later (day_in_months y xs (days - size)) (IsDayOf y (before + days))
    (λ t.
    let below = ltb-true days size t in
    record {
      year = refl;
      from = omega (arith, x_is);
      to = omega (arith, x_is, bound);
      first = omega arith;
      last = omega (arith, below);
      place = ap (λ z. days_of_months (pos y) (z - 1) + (days + 1)) x_is ∙ ap (λ z. z + (days + 1)) e
          ∙ (let same : before + (days + 1) ≡ before + days + 1 = omega arith in same);
    })
    (λ t.
    let above = ltb-false days size t in
    let rest : IsDayOf y (before + size + (days - size)) (day_in_months y xs (days - size)) =
    day_of_months y (m + 1) xs (before + size) (days - size) f.1 (omega arith) (month_more y m x before x_is h e) (omega (arith, l, above)) in
    subst (λ n. IsDayOf y n (day_in_months y xs (days - size))) (let same : before + size + (days - size) ≡ before + days = omega (arith, above) in same) rest)

sum_of : (b : Bool) → 31 + (cond b 29 28 + (31 + (30 + (31 + (30 + (31 + (31 + (30 + (31 + (30 + (31 + 0))))))))))) ≡ cond b 366 365
sum_of true = refl
sum_of false = refl

year_sum : (y : ℤ) → days_in y all_months ≡ days_in_year y
year_sum y = sum_of (is_leap_year y)

-- A day of the calendar with its place in it.
record IsDayNumber (n : ℕ) (d : CalendarDay) : Type 0 where
  year_from : 1 ≤ d.year
  year_to : d.year ≤ 9999
  from : 1 ≤ d.month
  to : d.month ≤ 12
  first : 1 ≤ d.day
  last : d.day ≤ days_in_month (pos d.year) d.month
  count : day_count (pos d.year) d.month d.day ≡ n

ahead : (y : ℕ) → unsigned_abs (pos y +ℤ pos 10000) ≡ y + 10000
ahead y = ap unsigned_abs (let e : pos y +ℤ pos 10000 ≡ pos (y + 10000) = omega (arith, ints) in e)

count_is : (y days : ℕ) (d : CalendarDay) → IsDayOf y days d → day_count (pos d.year) d.month d.day ≡ days_of_years (y + 10000) + days
unfolding day_count
count_is y days d i =
    ap (λ n. days_of_years (unsigned_abs (pos n +ℤ pos 10000)) + (days_of_months (pos n) (d.month - 1) + d.day - 1)) i.year
    ∙ ap (λ n. days_of_years n + (days_of_months (pos y) (d.month - 1) + d.day - 1)) (ahead y)
    ∙ ap (λ n. days_of_years (y + 10000) + (n - 1)) i.place
    ∙ (let e : days_of_years (y + 10000) + (days + 1 - 1) ≡ days_of_years (y + 10000) + days = omega arith in e)

in_year : (y days : ℕ) → 1 ≤ y → y ≤ 9999 → days < days_in_year (pos y) → IsDayNumber (days_of_years (y + 10000) + days) (day_in_months y all_months days)
in_year y days h k l =
    let d = day_in_months y all_months days in
    let i : IsDayOf y (0 + days) d =
    day_of_months y 1 all_months 0 days (refl, (refl, (refl, (refl, (refl, (refl, (refl, (refl, (refl, (refl, (refl, (refl, refl)))))))))))) (omega arith) (months_none (pos y))
    (omega (arith, year_sum (pos y), l)) in
    let year = i.year in
    record {
      year_from = omega (arith, year);
      year_to = omega (arith, year);
      from = i.from;
      to = i.to;
      first = i.first;
      last = subst (λ n. d.day ≤ days_in_month (pos n) d.month) (sym year) i.last;
      count = count_is y (0 + days) d i ∙ (let e : days_of_years (y + 10000) + (0 + days) ≡ days_of_years (y + 10000) + days = omega arith in e);
    }

in_years : (more y days : ℕ) → 1 ≤ y → y + more ≤ 9999 → days_of_years (y + 10000) + days < days_of_years (y + more + 1 + 10000) →
    IsDayNumber (days_of_years (y + 10000) + days) (day_in_years more y days)
unfolding day_in_years
in_years zero y days h k l =
    let same = ap days_of_years (let e : y + 0 + 1 + 10000 ≡ y + 1 + 10000 = omega arith in e) in
    in_year y days h (omega (arith, k)) (omega (arith, l, same, year_more y))
in_years (suc more) y days h k l =
    let size = days_in_year (pos y) in
    cond_both (ltb days size) (day_in_months y all_months days) (day_in_years more (y + 1) (days - size)) (IsDayNumber (days_of_years (y + 10000) + days))
    (λ t. in_year y days h (omega (arith, k)) (ltb-true days size t))
    (λ t.
    let above = ltb-false days size t in
    let step = year_more y in
    let same = ap days_of_years (let e : y + suc more + 1 + 10000 ≡ y + 1 + more + 1 + 10000 = omega arith in e) in
    let rest = in_years more (y + 1) (days - size) (omega arith) (omega (arith, k)) (omega (arith, l, step, same, above)) in
    subst (λ n. IsDayNumber n (day_in_years more (y + 1) (days - size)))
    (let e : days_of_years (y + 1 + 10000) + (days - size) ≡ days_of_years (y + 10000) + days = omega (arith, step, above) in e) rest)

-- What the calendar's first and last day tell.
abbrev FirstDay : Type 0
FirstDay = day_number (record { year = 1; month = 1; day = 1 }) ≡ neg_ℤ (pos 719_162)

abbrev LastDay : Type 0
LastDay = day_number (record { year = 9999; month = 12; day = 31 }) ≡ pos 2_932_896

last_count : day_count (pos 9999) 12 31 ≡ days_of_years 19999 + 364
unfolding day_count days_of_months
last_count = refl

first_count : day_count (pos 1) 1 1 ≡ days_of_years 10001 + 0
unfolding day_count days_of_months
first_count = refl

number_is : (d : CalendarDay) → day_number d ≡ pos (day_count (pos d.year) d.month d.day) -ℤ pos (day_count (pos 1970) 1 1)
unfolding days_from_civil
number_is d = refl

-- the first day's place, by that of 1970-01-01
epoch_is : FirstDay → day_count (pos 1970) 1 1 ≡ days_of_years 10001 + 719_162
epoch_is first =
    let number = sym (number_is (record { year = 1; month = 1; day = 1 })) ∙ first in
    let whole : pos (days_of_years 10001 + 0) -ℤ pos (day_count (pos 1970) 1 1) ≡ neg_ℤ (pos 719_162) =
    sym (ap (λ n. pos n -ℤ pos (day_count (pos 1970) 1 1)) first_count) ∙ number in
    omega (arith, ints, whole)

all_years : FirstDay → LastDay → days_of_years 20000 ≡ days_of_years 10001 + 3_652_059
all_years first last =
    let number = sym (number_is (record { year = 9999; month = 12; day = 31 })) ∙ last in
    let whole : pos (days_of_years 19999 + 364) -ℤ pos (day_count (pos 1970) 1 1) ≡ pos 2_932_896 =
    sym (ap (λ n. pos n -ℤ pos (day_count (pos 1970) 1 1)) last_count) ∙ number in
    let final : days_of_years 20000 ≡ days_of_years 19999 + 365 = years_step 19999 in
    omega (arith, ints, whole, final, epoch_is first)

-- the days from the first one on
size_is : (z : ℤ) → pos 0 ≤ℤ z → pos (unsigned_abs z) ≡ z
size_is (pos n) h = refl
size_is (negsuc n) h = absurd (let e : ⊥ = omega (arith, signed_arith, h) in e)

count_of : (z : ℤ) → IsBetween (neg_ℤ (pos 719_162)) (pos 2_932_896) z → pos (unsigned_abs (z +ℤ pos 719_162)) ≡ z +ℤ pos 719_162
count_of z h = size_is (z +ℤ pos 719_162) (omega (arith, signed_arith, h.0, h.1))

few_days : (z : ℤ) → IsBetween (neg_ℤ (pos 719_162)) (pos 2_932_896) z → unsigned_abs (z +ℤ pos 719_162) ≤ 3_652_058
few_days z h = omega (arith, signed_arith, h.0, h.1, count_of z h)

day_of_is : FirstDay → LastDay → (z : ℤ) → IsBetween (neg_ℤ (pos 719_162)) (pos 2_932_896) z →
    IsDayNumber (days_of_years 10001 + unsigned_abs (z +ℤ pos 719_162)) (day_of z)
unfolding day_of
day_of_is first last z h =
    in_years 9998 1 (unsigned_abs (z +ℤ pos 719_162)) (omega arith) (omega arith) (omega (arith, all_years first last, few_days z h))

number_of : FirstDay → LastDay → (z : ℤ) → IsBetween (neg_ℤ (pos 719_162)) (pos 2_932_896) z → day_number (day_of z) ≡ z
number_of first last z h =
    let n = unsigned_abs (z +ℤ pos 719_162) in
    let i = day_of_is first last z h in
    number_is (day_of z) ∙ ap (λ m. pos m -ℤ pos (day_count (pos 1970) 1 1)) i.count ∙ ap (λ m. pos (days_of_years 10001 + n) -ℤ pos m) (epoch_is first)
    ∙ (let e : pos (days_of_years 10001 + n) -ℤ pos (days_of_years 10001 + 719_162) ≡ z = omega (arith, ints, count_of z h) in e)

exists_at : FirstDay → LastDay → (z : ℤ) → IsBetween (neg_ℤ (pos 719_162)) (pos 2_932_896) z → exists (day_of z) ≡ true
unfolding exists
exists_at first last z h =
    let i = day_of_is first last z h in
    let d = day_of z in
    and_from _ _ (and_from _ _ (le-leb 1 d.year i.year_from) (le-leb d.year 9999 i.year_to))
    (and_from _ _ (and_from _ _ (le-leb 1 d.month i.from) (le-leb d.month 12 i.to))
    (and_from _ _ (le-leb 1 d.day i.first) (le-leb d.day (days_in_month (pos d.year) d.month) i.last)))

-- the second of the day
second_bound : (x : ℤ) → unsigned_abs (int_rem_euclid x (pos 86400)) < 86400
second_bound x = omega (arith, signed_arith)

second_is : (x : ℤ) → pos (unsigned_abs (int_rem_euclid x (pos 86400))) ≡ int_rem_euclid x (pos 86400)
second_is x = omega (arith, signed_arith)

time_shown : (s : ℕ) → s < 86400 → IsShown (time_of s)
time_shown s h = (omega arith, omega arith, omega arith)

time_is : (s : ℕ) → second_of_day (time_of s) ≡ s
time_is s = omega arith

-- the zone
zone_is : (z : ℤ) → minutes_ahead (zone_of z) ≡ z
zone_is (pos minutes) = refl
zone_is (negsuc n) = ap (λ k. neg_ℤ (pos k)) (let e : n + 1 ≡ suc n = omega arith in e)

zone_few : (z : ℤ) → IsWithin 1439 z → (zone_of z).minutes < 1440
zone_few (pos minutes) h = omega (arith, signed_arith, h.0, h.1)
zone_few (negsuc n) h = omega (arith, signed_arith, h.0, h.1)

zone_sign : (z : ℤ) → (zone_of z).behind ≡ true → 0 < (zone_of z).minutes
zone_sign (pos minutes) e = absurd (cc)
zone_sign (negsuc n) e = omega arith

moment_at : (s z day ahead : ℤ) (second : ℕ) → day ≡ int_div_euclid (s +ℤ pos 60 *ℤ z) (pos 86400) → pos second ≡ int_rem_euclid (s +ℤ pos 60 *ℤ z) (pos 86400) →
    ahead ≡ z → day *ℤ pos 86400 +ℤ pos second -ℤ pos 60 *ℤ ahead ≡ s
moment_at s z day ahead second d r e = omega (arith, signed_arith)

pub is_internal : FirstDay → LastDay → (stamp : Stamp) → HasPrint stamp → IsInternalPrint stamp (internal_text stamp)
unfolding internal_text
is_internal first last stamp h =
    let z = civil_day_of stamp in
    let x = stamp.seconds +ℤ pos 60 *ℤ stamp.zone in
    let s = local_second stamp in
    let few = second_bound x in
    let second : pos (second_of_day (time_of s)) ≡ int_rem_euclid x (pos 86400) = ap (λ (n : ℕ). pos n) (time_is s) ∙ second_is x in
    record {
      date = date_of stamp;
      at = record {
        is_date = record { day = exists_at first last z h.year; time = time_shown s few; zone = zone_few stamp.zone h.zone };
        no_leap = omega arith;
        moment_is = moment_at stamp.seconds stamp.zone (day_number (day_of z)) (minutes_ahead (zone_of stamp.zone)) (second_of_day (time_of s)) (number_of first last z h.year) second (zone_is stamp.zone);
        zone_is = zone_is stamp.zone;
        sign = zone_sign stamp.zone;
      };
      text_is = refl;
    }
