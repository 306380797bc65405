-- Prints of moments are read as these moments.
use Rattle.std.proofs.Common.{◌≡◌, ℕ, ◌+◌, ◌/◌, ◌%◌, ◌<◌, ◌≤◌, true, false, min, eqb, ltb, List, [], ◌∷◌, Option, Some, None, refl, sym, ◌∙◌, ap, subst, arith, ℤ, pos, neg_ℤ, ◌+ℤ◌, ◌-ℤ◌, ◌*ℤ◌, ◌≤ℤ◌}
use Rattle.std.specs.Option.{option_map, option_and_then}
use Rattle.std.specs.Int.{int_div_euclid}
use Rattle.std.proofs.lemmas.Bool.{cond-true, cond-false, lt-ltb}
use Rattle.std.proofs.lemmas.Bool.Decides.{nat_tests}
use Rattle.std.proofs.lemmas.Int.{by_lt_z}
use Rattle.jiff_core.specs.Calendar.{day_count, IsCivilDate}
use Rattle.jiff_core.proofs.SignedLemmas.{signed_arith}
use Rattle.jiff_core.proofs.CalendarLemmas.{days_from_civil-day_count, day_count-lt_year, day_count-day_of_year, day_count_bounds, day_count-epoch}
use Rattle.mail_text.specs.Decimals.{decimal_value}
use Rattle.mime_tree.specs.declared.values.SentDate.{SentDate}
use Rattle.date_grammar.specs.declared.parts.CalendarDay.{CalendarDay}
use Rattle.date_grammar.specs.declared.parts.TimeOfDay.{TimeOfDay}
use Rattle.date_grammar.specs.declared.parts.Zone.{Zone}
use Rattle.date_grammar.specs.declared.parts.DateTime.{DateTime}
use Rattle.date_grammar.specs.declared.parts.Stamp.{Stamp}
use Rattle.date_grammar.specs.Calendar.{exists, day_number, moment, second_of_day, minutes_ahead, IsShown}
use Rattle.date_grammar.specs.Parts.{calendar_day, month_of, numeric_zone}
use Rattle.date_grammar.specs.Reading.{date_time, reading}
use Rattle.date_grammar.specs.Printing.{two_digits, four_digits, month_name, printed_time, printed_zone, sent}
use Rattle.date_grammar.specs.Stamps.{padded_day, date_text, unless_leap, clock_time, internal_date, stamp_of, civil_day_of, HasPrint, IsDateAt, printed_dashed, printed_internal}
use Rattle.date_grammar.specs.Dates.{sent_date, internal_stamp, IsInternalPrint, IsNowPrint, last_second}
use Rattle.date_grammar.proofs.DayLemmas.{exists_parts, exists_bounds, day_count-first}
use Rattle.date_grammar.proofs.NameLemmas.{IsThree, three_month}
use Rattle.date_grammar.proofs.PartLemmas.{IsRead, reading_read}
use Rattle.date_grammar.proofs.StampLemmas.{IsClockDate, ahead_bound, internal_read}
use Rattle.date_grammar.proofs.AgainLemmas.{decimal-two, decimal-four, month_again, time_again, numeric_again, calendar_again}
use Rattle.date_grammar.proofs.LawLemmas.{printed_again}

-- the parts of a printed internal date
internal_parts : (d : DateTime) → IsThree (month_name d.day.month) →
    internal_date (printed_internal d) ≡ date_time (date_text (printed_dashed d.day)) (clock_time (printed_time d.time)) (numeric_zone (printed_zone d.zone))
internal_parts d m = rw m.is refl

dashed_parts : (d : CalendarDay) → IsThree (month_name d.month) →
    date_text (printed_dashed d) ≡ calendar_day (padded_day (two_digits d.day)) (month_of (month_name d.month)) (decimal_value (four_digits d.year))
dashed_parts d m = rw m.is refl

no_space : (n : ℕ) → eqb (48 + n) 32 ≡ false
no_space n = grind (arith, nat_tests)

padded_again : (n : ℕ) → n < 100 → padded_day (two_digits n) ≡ Some n
padded_again n h =
    ap decimal_value (cond-false (eqb (48 + n / 10) 32) ((48 + n % 10) ∷ []) (two_digits n) (no_space (n / 10))) ∙ decimal-two n h

dashed_again : (d : CalendarDay) → exists d ≡ true → date_text (printed_dashed d) ≡ Some d
dashed_again d h =
    let bounds = exists_bounds d h in
    let day : d.day < 100 = omega arith in
    let year : d.year < 10000 = omega arith in
    dashed_parts d (three_month d.month bounds.0 bounds.1)
    ∙ calendar_again d (padded_day (two_digits d.day)) (month_of (month_name d.month)) (decimal_value (four_digits d.year)) h
    (padded_again d.day day) (month_again d.month bounds.0 bounds.1) (decimal-four d.year year)

clock_again : (t : TimeOfDay) → IsShown t → t.second < 60 → clock_time (printed_time t) ≡ Some t
clock_again t h k = ap (option_and_then unless_leap) (time_again t h) ∙ cond-true (ltb t.second 60) (Some t) None (lt-ltb t.second 60 k)

pub internal_again : (d : DateTime) → IsClockDate d → internal_date (printed_internal d) ≡ Some d
internal_again d h =
    let bounds = exists_bounds d.day h.is_date.day in
    internal_parts d (three_month d.day.month bounds.0 bounds.1)
    ∙ ap (λ (o : Option CalendarDay). date_time o (clock_time (printed_time d.time)) (numeric_zone (printed_zone d.zone))) (dashed_again d.day h.is_date.day)
    ∙ ap (λ (o : Option TimeOfDay). date_time (Some d.day) o (numeric_zone (printed_zone d.zone))) (clock_again d.time h.is_date.time h.no_leap)
    ∙ ap (λ (o : Option Zone). date_time (Some d.day) (Some d.time) o) (numeric_again d.zone h.is_date.zone)

stamp_is : (d : DateTime) (stamp : Stamp) → IsDateAt stamp.seconds stamp.zone d → stamp_of d ≡ stamp
stamp_is d stamp h =
    let there : stamp_of d ≡ record { seconds = stamp.seconds; zone = minutes_ahead d.zone } = ap (λ (s : ℤ). record { seconds = s; zone = minutes_ahead d.zone }) h.moment_is in
    there ∙ ap (λ (z : ℤ). record { seconds = stamp.seconds; zone = z }) h.zone_is

pub internal_print_again : (stamp : Stamp) (text : List ℕ) → IsInternalPrint stamp text → internal_stamp text ≡ Some stamp
unfolding internal_stamp
internal_print_again stamp text p =
    let clock : IsClockDate p.date = record { is_date = p.at.is_date; no_leap = p.at.no_leap } in
    ap (λ (t : List ℕ). option_map stamp_of (internal_date t)) p.text_is ∙ ap (option_map stamp_of) (internal_again p.date clock)
    ∙ ap Some (stamp_is p.date stamp p.at)

pub civil : (d : CalendarDay) → exists d ≡ true → IsCivilDate (pos d.year) d.month d.day
civil d h =
    let day = exists_parts d h in
    ((omega (arith, signed_arith, day.year_high), omega (arith, signed_arith, day.year_high)), (day.month_low, day.month_high), (day.day_low, day.day_high))

first_exists : exists (record { year = 1; month = 1; day = 1 }) ≡ true
unfolding exists
first_exists = refl

-- 0001-01-01 is the first day, and 9999-12-31 the last
day_bounds : (d : CalendarDay) → exists d ≡ true → (neg_ℤ (pos 719_162) ≤ℤ day_number d) × (day_number d ≤ℤ pos 2_932_896)
day_bounds d h =
    let day = exists_parts d h in
    let first : 3_652_791 ≤ day_count (pos d.year) d.month d.day =
    by_lt_z (pos 1) (pos d.year)
    (λ lt. omega (arith, day_count-first, day_count-lt_year (pos 1) 1 1 (pos d.year) d.month d.day (civil (record { year = 1; month = 1; day = 1 }) first_exists) day.day_low lt))
    (λ le. let one : pos d.year ≡ pos 1 = omega (arith, signed_arith, day.year_low) in
    subst (λ (y : ℤ). 3_652_791 ≤ day_count y d.month d.day) (sym one) (omega (arith, day_count-first, day_count-day_of_year (pos 1) d.month d.day day.day_low))) in (
      omega (arith, signed_arith, days_from_civil-day_count, first),
      omega (arith, signed_arith, days_from_civil-day_count, day_count_bounds (pos d.year) d.month d.day (civil d h)),
    )

same_day : (day ahead : ℤ) (second : ℕ) → second < 86400 → int_div_euclid (day *ℤ pos 86400 +ℤ pos second -ℤ pos 60 *ℤ ahead +ℤ pos 60 *ℤ ahead) (pos 86400) ≡ day
same_day day ahead second h = omega (arith, signed_arith)

day_of_moment : (day ahead : ℤ) (second n : ℕ) → second < 86400 → ahead ≡ pos 0 → day *ℤ pos 86400 +ℤ pos second -ℤ pos 60 *ℤ ahead ≡ pos n → day ≡ pos (n / 86400)
day_of_moment day ahead second n h e m = omega (arith, signed_arith)

mapped_some : (o : Option DateTime) (stamp : Stamp) → option_map stamp_of o ≡ Some stamp → (d : DateTime) × (o ≡ Some d) × (stamp_of d ≡ stamp)
mapped_some None stamp h = absurd (cc)
mapped_some (Some d) stamp h = (d, refl, cc)

-- a date lies on its own day where its zone is
pub civil_day-stamp : (d : DateTime) → IsClockDate d → civil_day_of (stamp_of d) ≡ day_number d.day
civil_day-stamp d h =
    let second : second_of_day d.time < 86400 = omega (arith, h.is_date.time.0, h.is_date.time.1, h.no_leap) in
    same_day (day_number d.day) (minutes_ahead d.zone) (second_of_day d.time) second

pub read_has_print : (text : List ℕ) (stamp : Stamp) → internal_stamp text ≡ Some stamp → HasPrint stamp
unfolding internal_stamp
read_has_print text stamp h =
    let found = mapped_some (internal_date text) stamp h in
    let clock = internal_read text found.0 found.1 in
    let bounds = day_bounds found.0.day clock.is_date.day in
    subst HasPrint found.2 (record { year = subst (λ (z : ℤ). (neg_ℤ (pos 719_162) ≤ℤ z) × (z ≤ℤ pos 2_932_896)) (sym (civil_day-stamp found.0 clock)) bounds; zone = ahead_bound found.0.zone clock.is_date.zone })

-- a moment from 1970 on is of a year from 1970 on
late_year : (d : CalendarDay) → exists d ≡ true → pos 0 ≤ℤ day_number d → 1900 ≤ d.year
late_year d h k =
    by_lt_z (pos d.year) (pos 1970)
    (λ lt. absurd (omega (arith, signed_arith, days_from_civil-day_count, day_count-epoch, day_count-lt_year (pos d.year) d.month d.day (pos 1970) 1 1 (civil d h) (omega arith) lt)))
    (λ le. omega (arith, signed_arith))

pub now_again : (now : ℕ) (text : List ℕ) → IsNowPrint now text →
    sent_date text ≡ Some (record { text = text; seconds = pos (min now last_second); day = pos (min now last_second / 86400) })
unfolding sent_date
now_again now text p =
    let d = p.date in
    let at = p.at in
    let is = p.text_is in
    let n = min now last_second in
    let second : second_of_day d.time < 86400 = omega (arith, at.is_date.time.0, at.is_date.time.1, at.no_leap) in
    let day : day_number d.day ≡ pos (n / 86400) = day_of_moment (day_number d.day) (minutes_ahead d.zone) (second_of_day d.time) n second at.zone_is at.moment_is in
    let positive : pos 0 ≤ℤ day_number d.day = subst (λ (z : ℤ). pos 0 ≤ℤ z) (sym day) (omega (arith, signed_arith)) in
    let read : IsRead d = record { is_date = at.is_date; late = late_year d.day at.is_date.day positive } in
    ap (λ (t : List ℕ). option_map sent (reading t)) is ∙ ap (option_map sent) (printed_again d read)
    ∙ ap (λ (t : List ℕ). Some (record { text = t; seconds = moment d; day = day_number d.day })) (sym is)
    ∙ ap (λ (s : ℤ). Some (record { text = text; seconds = s; day = day_number d.day })) at.moment_is
    ∙ ap (λ (z : ℤ). Some (record { text = text; seconds = pos n; day = z })) day

pub sent_once : (o : Option DateTime) (d : SentDate) → option_map sent o ≡ Some d → (w : DateTime) × (o ≡ Some w) × (sent w ≡ d)
sent_once None d h = absurd (cc)
sent_once (Some w) d h = (w, refl, cc)

pub sent_again : (value : List ℕ) (d : SentDate) → sent_date value ≡ Some d → sent_date d.text ≡ Some d
unfolding sent_date
sent_again value d h =
    let found = sent_once (reading value) d h in
    ap (λ (x : SentDate). option_map sent (reading x.text)) (sym found.2) ∙ ap (option_map sent) (printed_again found.0 (reading_read value found.0 found.1)) ∙ ap Some found.2
