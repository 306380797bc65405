-- What is read of IMAP's dates is a date.
use Rattle.std.proofs.Common.{◌≡◌, ℕ, ◌+◌, ◌<◌, true, ◌&&◌, ltb, eqb, cond, List, length, get_or, Option, Some, None, subst, arith, pos, neg_ℤ}
use Rattle.std.proofs.lemmas.Bool.{ltb-true, cond_both}
use Rattle.std.proofs.lemmas.Option.{cond_some, option_and_then_some}
use Rattle.jiff_core.specs.Calendar.{IsWithin}
use Rattle.jiff_core.proofs.SignedLemmas.{signed_arith}
use Rattle.mail_text.specs.Decimals.{decimal_value}
use Rattle.date_grammar.specs.declared.parts.CalendarDay.{CalendarDay}
use Rattle.date_grammar.specs.declared.parts.TimeOfDay.{TimeOfDay}
use Rattle.date_grammar.specs.declared.parts.Zone.{Zone}
use Rattle.date_grammar.specs.declared.parts.DateTime.{DateTime}
use Rattle.date_grammar.specs.Calendar.{exists, IsShown, IsDateTime, minutes_ahead}
use Rattle.date_grammar.specs.Parts.{part, calendar_day, month_of, numeric_zone, time_of}
use Rattle.date_grammar.specs.Reading.{date_time}
use Rattle.date_grammar.specs.Stamps.{padded_day, dashed_day, date_text, unless_leap, clock_time, spaced_date, internal_date}
use Rattle.date_grammar.proofs.PartLemmas.{time_shown, numeric_bound, calendar_parts, date_parts}

dashed_exists : (n : ℕ) (text : List ℕ) (d : CalendarDay) → dashed_day n text ≡ Some d → exists d ≡ true
dashed_exists n text d h =
    let day = calendar_day (padded_day (part 0 n text)) (month_of (part (n + 1) 3 text)) (decimal_value (part (n + 5) 4 text)) in
    cond_both (eqb (get_or text n 0) 45 && eqb (get_or text (n + 4) 0) 45) day None (λ o. o ≡ Some d → exists d ≡ true)
    (λ _ e. (calendar_parts (padded_day (part 0 n text)) (month_of (part (n + 1) 3 text)) (decimal_value (part (n + 5) 4 text)) d e).0) (λ _ e. cc) h

pub date_exists : (text : List ℕ) (d : CalendarDay) → date_text text ≡ Some d → exists d ≡ true
date_exists text d h =
    let P : Option CalendarDay → Type 0 = λ o. o ≡ Some d → exists d ≡ true in
    cond_both (eqb (length text) 10) (dashed_day 1 text) (cond (eqb (length text) 11) (dashed_day 2 text) None) P
    (λ _. dashed_exists 1 text d)
    (λ _. cond_both (eqb (length text) 11) (dashed_day 2 text) None P (λ _. dashed_exists 2 text d) (λ _ e. cc)) h

-- a date of IMAP that was read
pub record IsClockDate (d : DateTime) : Type 0 where
  pub is_date : IsDateTime d
  pub no_leap : d.time.second < 60

clock_shown : (text : List ℕ) (t : TimeOfDay) → clock_time text ≡ Some t → IsShown t × (t.second < 60)
clock_shown text t h =
    option_and_then_some unless_leap (time_of text) t h
    (λ read e f. let found = cond_some (ltb read.second 60) read t f in
    (subst IsShown found.1 (time_shown text read e), subst (λ (x : TimeOfDay). x.second < 60) found.1 (ltb-true read.second 60 found.0)))

spaced_read : (n : ℕ) (text : List ℕ) (d : DateTime) → spaced_date n text ≡ Some d → IsClockDate d
spaced_read n text d h =
    let date = date_time (date_text (part 0 n text)) (clock_time (part (n + 1) 8 text)) (numeric_zone (part (n + 10) 5 text)) in
    cond_both (eqb (get_or text n 0) 32 && eqb (get_or text (n + 9) 0) 32) date None (λ o. o ≡ Some d → IsClockDate d)
    (λ _ e. let parts = date_parts (date_text (part 0 n text)) (clock_time (part (n + 1) 8 text)) (numeric_zone (part (n + 10) 5 text)) d e in
    let time = clock_shown (part (n + 1) 8 text) d.time parts.1 in
    record {
      is_date = record { day = date_exists (part 0 n text) d.day parts.0; time = time.0; zone = numeric_bound (part (n + 10) 5 text) d.zone parts.2 };
      no_leap = time.1;
    })
    (λ _ e. cc) h

pub internal_read : (text : List ℕ) (d : DateTime) → internal_date text ≡ Some d → IsClockDate d
internal_read text d h =
    let P : Option DateTime → Type 0 = λ o. o ≡ Some d → IsClockDate d in
    cond_both (eqb (length text) 25) (spaced_date 10 text) (cond (eqb (length text) 26) (spaced_date 11 text) None) P
    (λ _. spaced_read 10 text d)
    (λ _. cond_both (eqb (length text) 26) (spaced_date 11 text) None P (λ _. spaced_read 11 text d) (λ _ e. cc)) h

pub ahead_bound : (z : Zone) → z.minutes < 1440 → IsWithin 1439 (minutes_ahead z)
ahead_bound z h =
    cond_both z.behind (neg_ℤ (pos z.minutes)) (pos z.minutes) (λ m. IsWithin 1439 m)
    (λ _. (omega (arith, signed_arith), omega (arith, signed_arith))) (λ _. (omega (arith, signed_arith), omega (arith, signed_arith)))
