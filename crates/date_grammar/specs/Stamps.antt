-- Dates of IMAP (RFC 3501 §9).
use Rattle.std.specs.Prelude.{◌≡◌, ℕ, ◌+◌, ◌<◌, true, ◌&&◌, ◌==◌, nat_lt, if◌then◌else◌, List, ◌++◌, length, slice_index, codes, Option, Some, None, ℤ, pos, neg_ℤ, ◌+ℤ◌, ◌*ℤ◌}
use Rattle.std.specs.Int.{int_div_euclid}
use Rattle.std.specs.Option.{option_and_then}
use Rattle.jiff_core.specs.Calendar.{IsBetween, IsWithin}
use Rattle.mail_text.specs.Decimals.{decimal_value}
use Rattle.date_grammar.specs.declared.parts.CalendarDay.{CalendarDay}
use Rattle.date_grammar.specs.declared.parts.TimeOfDay.{TimeOfDay}
use Rattle.date_grammar.specs.declared.parts.DateTime.{DateTime}
use Rattle.date_grammar.specs.declared.parts.Stamp.{Stamp}
use Rattle.date_grammar.specs.Calendar.{minutes_ahead, moment, IsDateTime}
use Rattle.date_grammar.specs.Parts.{part, calendar_day, month_of, numeric_zone, time_of}
use Rattle.date_grammar.specs.Reading.{date_time}
use Rattle.date_grammar.specs.Printing.{two_digits, four_digits, month_name, printed_time, printed_zone}

-- A day of one or two digits, or of a space and a digit.
abbrev pub padded_day : List ℕ → Option ℕ
padded_day text = decimal_value (if (length text == 2) && (slice_index text 0 == 32) then part 1 1 text else text)

-- A day with dashes, whose first part has so many bytes: `1-Jul-2003`. The year has four digits.
abbrev pub dashed_day : ℕ → List ℕ → Option CalendarDay
dashed_day n text =
    if (slice_index text n == 45) && (slice_index text (n + 4) == 45)
    then calendar_day (padded_day (part 0 n text)) (month_of (part (n + 1) 3 text)) (decimal_value (part (n + 5) 4 text))
    else None

abbrev pub date_text : List ℕ → Option CalendarDay
date_text text = if length text == 10 then dashed_day 1 text else (if length text == 11 then dashed_day 2 text else None)

-- A time `hh:mm:ss` without a leap second.
abbrev pub unless_leap : TimeOfDay → Option TimeOfDay
unless_leap t = if nat_lt t.second 60 then Some t else None

abbrev pub clock_time : List ℕ → Option TimeOfDay
clock_time text = option_and_then unless_leap (time_of text)

-- A date whose day has so many bytes, a space, a time, a space and a zone: `1-Jul-2003 10:52:37 +0200`.
abbrev pub spaced_date : ℕ → List ℕ → Option DateTime
spaced_date n text =
    if (slice_index text n == 32) && (slice_index text (n + 9) == 32)
    then date_time (date_text (part 0 n text)) (clock_time (part (n + 1) 8 text)) (numeric_zone (part (n + 10) 5 text))
    else None

abbrev pub internal_date : List ℕ → Option DateTime
internal_date text = if length text == 25 then spaced_date 10 text else (if length text == 26 then spaced_date 11 text else None)

-- A moment with its zone.
abbrev pub stamp_of : DateTime → Stamp
stamp_of d = record { seconds = moment d; zone = minutes_ahead d.zone }

-- The day of a moment where its zone is, the number of days since 1970-01-01 rounded down.
abbrev pub civil_day_of : Stamp → ℤ
civil_day_of stamp = int_div_euclid (stamp.seconds +ℤ pos 60 *ℤ stamp.zone) (pos 86400)

-- A moment that has a print: its day there is from 0001-01-01 to 9999-12-31, and its zone is less than 24 hours.
pub record HasPrint (stamp : Stamp) : Type 0 where
  pub year : IsBetween (neg_ℤ (pos 719_162)) (pos 2_932_896) (civil_day_of stamp)
  pub zone : IsWithin 1439 stamp.zone

-- The date of a moment in a zone, which is +0000 where it isn't ahead or behind.
pub record IsDateAt (seconds zone : ℤ) (d : DateTime) : Type 0 where
  pub is_date : IsDateTime d
  pub no_leap : d.time.second < 60
  pub moment_is : moment d ≡ seconds
  pub zone_is : minutes_ahead d.zone ≡ zone
  pub sign : d.zone.behind ≡ true → 0 < d.zone.minutes

-- A day as `01-Jul-2003`.
abbrev pub printed_dashed : CalendarDay → List ℕ
printed_dashed d = two_digits d.day ++ codes "-" ++ month_name d.month ++ codes "-" ++ four_digits d.year

-- A date as `01-Jul-2003 10:52:37 +0200`.
abbrev pub printed_internal : DateTime → List ℕ
printed_internal d = printed_dashed d.day ++ codes " " ++ printed_time d.time ++ codes " " ++ printed_zone d.zone
