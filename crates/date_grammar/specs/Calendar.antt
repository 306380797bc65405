-- Days of the calendar, times and zones as numbers. The calendar is the Gregorian one, also for the years before it came.
use Rattle.std.specs.Prelude.{◌≡◌, ℕ, ◌+◌, ◌*◌, ◌<◌, Bool, true, ◌&&◌, nat_le, if◌then◌else◌, ℤ, pos, neg_ℤ, ◌+ℤ◌, ◌-ℤ◌, ◌*ℤ◌}
use Rattle.jiff_core.specs.Calendar.{days_in_month, days_from_civil}
use Rattle.date_grammar.specs.declared.parts.CalendarDay.{CalendarDay}
use Rattle.date_grammar.specs.declared.parts.TimeOfDay.{TimeOfDay}
use Rattle.date_grammar.specs.declared.parts.Zone.{Zone}
use Rattle.date_grammar.specs.declared.parts.DateTime.{DateTime}

-- Whether the calendar has the day. Its years are 1 to 9999.
unfoldable pub exists : CalendarDay → Bool
exists d =
    (nat_le 1 d.year && nat_le d.year 9999)
    && ((nat_le 1 d.month && nat_le d.month 12) && (nat_le 1 d.day && nat_le d.day (days_in_month (pos d.year) d.month)))

-- The day's number, where 1970-01-01 is 0.
abbrev pub day_number : CalendarDay → ℤ
day_number d = days_from_civil (pos d.year) d.month d.day

-- The seconds since midnight.
abbrev pub second_of_day : TimeOfDay → ℕ
second_of_day t = 3600 * t.hour + 60 * t.minute + t.second

-- A time of the day that the clock shows, but for a leap second.
abbrev pub IsShown : TimeOfDay → Type 0
IsShown t = (t.hour < 24) × (t.minute < 60) × (t.second < 61)

-- The minutes that a zone is ahead of universal time.
abbrev pub minutes_ahead : Zone → ℤ
minutes_ahead z = if z.behind then neg_ℤ (pos z.minutes) else pos z.minutes

-- The moment in seconds since 1970-01-01 00:00:00 +0000. A second 60 is the first of the next minute.
abbrev pub moment : DateTime → ℤ
moment d = day_number d.day *ℤ pos 86400 +ℤ pos (second_of_day d.time) -ℤ pos 60 *ℤ minutes_ahead d.zone

-- What is a date: a day that the calendar has, a time that a clock shows, and a zone of less than 24 hours.
pub record IsDateTime (d : DateTime) : Type 0 where
  pub day : exists d.day ≡ true
  pub time : IsShown d.time
  pub zone : d.zone.minutes < 1440
