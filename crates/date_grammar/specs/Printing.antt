-- Dates as they are printed (RFC 5322 §3.3).
use Rattle.std.specs.Prelude.{ℕ, ◌+◌, ◌-◌, ◌/◌, ◌%◌, if◌then◌else◌, List, [], ◌∷◌, ◌++◌, codes}
use Rattle.std.specs.List.{slice_index_or}
use Rattle.jiff_core.specs.Calendar.{weekday_number}
use Rattle.mime_tree.specs.declared.values.SentDate.{SentDate}
use Rattle.date_grammar.specs.declared.parts.CalendarDay.{CalendarDay}
use Rattle.date_grammar.specs.declared.parts.TimeOfDay.{TimeOfDay}
use Rattle.date_grammar.specs.declared.parts.Zone.{Zone}
use Rattle.date_grammar.specs.declared.parts.DateTime.{DateTime}
use Rattle.date_grammar.specs.Names.{weekdays, months}
use Rattle.date_grammar.specs.Calendar.{day_number, moment}

-- Two digits, and four.
abbrev pub two_digits : ℕ → List ℕ
two_digits n = (48 + n / 10) ∷ (48 + n % 10) ∷ []

abbrev pub four_digits : ℕ → List ℕ
four_digits n = two_digits (n / 100) ++ two_digits (n % 100)

abbrev pub weekday_name : CalendarDay → List ℕ
weekday_name d = slice_index_or weekdays (weekday_number (day_number d)) []

abbrev pub month_name : ℕ → List ℕ
month_name month = slice_index_or months (month - 1) []

abbrev pub printed_time : TimeOfDay → List ℕ
printed_time t = two_digits t.hour ++ codes ":" ++ two_digits t.minute ++ codes ":" ++ two_digits t.second

abbrev pub printed_zone : Zone → List ℕ
printed_zone z = (if z.behind then 45 else 43) ∷ two_digits (z.minutes / 60) ++ two_digits (z.minutes % 60)

-- A day as `Tue, 01 Jul 2003`.
abbrev pub printed_day : CalendarDay → List ℕ
printed_day d = weekday_name d ++ codes ", " ++ two_digits d.day ++ codes " " ++ month_name d.month ++ codes " " ++ four_digits d.year

-- A date as `Tue, 01 Jul 2003 10:52:37 +0200`.
abbrev pub printed : DateTime → List ℕ
printed d = printed_day d.day ++ codes " " ++ printed_time d.time ++ codes " " ++ printed_zone d.zone

-- A date as it is kept: its print, its moment, and the day as it is written.
abbrev pub sent : DateTime → SentDate
sent d = record { text = printed d; seconds = moment d; day = day_number d.day }
