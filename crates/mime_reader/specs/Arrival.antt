-- The moment at which a mail came, as the date of a field (RFC 5322 §3.3).
use Rattle.std.specs.Prelude.{ℕ, zero, suc, ◌+◌, ◌-◌, ◌/◌, ◌%◌, min, false, nat_lt, if◌then◌else◌, List, [], ◌∷◌, pos}
use Rattle.jiff_core.specs.Calendar.{days_in_month, days_in_year}
use Rattle.mime_tree.specs.declared.values.SentDate.{SentDate}
use Rattle.date_grammar.specs.declared.parts.CalendarDay.{CalendarDay}
use Rattle.date_grammar.specs.declared.parts.DateTime.{DateTime}
use Rattle.date_grammar.specs.Dates.{last_second}
use Rattle.date_grammar.specs.Printing.{printed}

-- The day of a year that so many days of its months from these on lie before.
abbrev pub day_in_months : ℕ → List ℕ → ℕ → CalendarDay
day_in_months year [] days = record { year = year; month = 12; day = 31 }
day_in_months year (month ∷ months) days =
    if nat_lt days (days_in_month (pos year) month) then record { year = year; month = month; day = days + 1 }
    else day_in_months year months (days - days_in_month (pos year) month)

abbrev pub all_months : List ℕ
all_months = 1 ∷ 2 ∷ 3 ∷ 4 ∷ 5 ∷ 6 ∷ 7 ∷ 8 ∷ 9 ∷ 10 ∷ 11 ∷ 12 ∷ []

-- The day that so many days lie before, from the first day of a year on, within that year and so many more.
unfoldable pub day_in_years : ℕ → ℕ → ℕ → CalendarDay
day_in_years zero year days = day_in_months year all_months days
day_in_years (suc more) year days =
    if nat_lt days (days_in_year (pos year)) then day_in_months year all_months days
    else day_in_years more (year + 1) (days - days_in_year (pos year))

-- The day with a number, where 1970-01-01 is 0, up to the year 9999.
unfoldable pub day_at : ℕ → CalendarDay
day_at number = day_in_years 8029 1970 number

-- A moment in +0000.
abbrev pub date_at : ℕ → DateTime
date_at second = record {
  day = day_at (second / 86400);
  time = record { hour = second % 86400 / 3600; minute = second % 3600 / 60; second = second % 60 };
  zone = record { behind = false; minutes = 0 };
}

-- A moment as it is kept. One behind the year 9999 is its last second.
abbrev pub arrival : ℕ → SentDate
arrival now = record {
  text = printed (date_at (min now last_second));
  seconds = pos (min now last_second);
  day = pos (min now last_second / 86400);
}
