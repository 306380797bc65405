-- The internal date of a message as it is told (RFC 3501 §9, date-time).
use Rattle.std.specs.Prelude.{ℕ, ◌+◌, ◌/◌, ◌%◌, true, false, List, ℤ, pos, negsuc, ◌+ℤ◌, ◌*ℤ◌, unsigned_abs}
use Rattle.std.specs.Int.{int_rem_euclid}
use Rattle.date_grammar.specs.declared.parts.CalendarDay.{CalendarDay}
use Rattle.date_grammar.specs.declared.parts.TimeOfDay.{TimeOfDay}
use Rattle.date_grammar.specs.declared.parts.Zone.{Zone}
use Rattle.date_grammar.specs.declared.parts.DateTime.{DateTime}
use Rattle.date_grammar.specs.declared.parts.Stamp.{Stamp}
use Rattle.date_grammar.specs.Stamps.{civil_day_of, printed_internal}
use Rattle.mime_reader.specs.Arrival.{day_in_years}

-- The day with a number, where 1970-01-01 is 0 and 0001-01-01 is -719162, up to the year 9999.
unfoldable pub day_of : ℤ → CalendarDay
day_of number = day_in_years 9998 1 (unsigned_abs (number +ℤ pos 719_162))

abbrev pub time_of : ℕ → TimeOfDay
time_of second = record { hour = second / 3600; minute = second % 3600 / 60; second = second % 60 }

-- A zone so many minutes ahead.
abbrev pub zone_of : ℤ → Zone
zone_of (pos minutes) = record { behind = false; minutes = minutes }
zone_of (negsuc n) = record { behind = true; minutes = n + 1 }

-- The seconds since midnight where the zone is.
abbrev pub local_second : Stamp → ℕ
local_second stamp = unsigned_abs (int_rem_euclid (stamp.seconds +ℤ pos 60 *ℤ stamp.zone) (pos 86400))

abbrev pub date_of : Stamp → DateTime
date_of stamp = record { day = day_of (civil_day_of stamp); time = time_of (local_second stamp); zone = zone_of stamp.zone }

-- A moment in its zone, as `01-Jul-2003 10:52:37 +0200`.
unfoldable pub internal_text : Stamp → List ℕ
internal_text stamp = printed_internal (date_of stamp)
