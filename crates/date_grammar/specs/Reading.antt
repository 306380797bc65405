-- A date as the value of a header field (RFC 5322 §3.3).
use Rattle.std.specs.Prelude.{ℕ, ◌&&◌, ◌==◌, nat_le, if◌then◌else◌, List, [], ◌∷◌, length, take, drop, slice_index, Option, None, option_map}
use Rattle.std.specs.Option.{option_and_then}
use Rattle.std.specs.List.{list_all}
use Rattle.std.specs.Char.{is_ascii_alphabetic}
use Rattle.date_grammar.specs.declared.parts.CalendarDay.{CalendarDay}
use Rattle.date_grammar.specs.declared.parts.TimeOfDay.{TimeOfDay}
use Rattle.date_grammar.specs.declared.parts.Zone.{Zone}
use Rattle.date_grammar.specs.declared.parts.DateTime.{DateTime}
use Rattle.date_grammar.specs.Words.{words, put_word}
use Rattle.date_grammar.specs.Parts.{day_of_month, month_of, year_of, calendar_day, time_of, zone_of}

-- A word without the name of a day and the comma behind it, where it begins with these. Any three letters are the name of a day.
abbrev pub without_day_name : List ℕ → List ℕ
without_day_name word = if nat_le 4 (length word) && ((slice_index word 3 == 44) && list_all is_ascii_alphabetic (take 3 word)) then drop 4 word else word

-- The words of a date without the name of the day.
abbrev pub date_words : List (List ℕ) → List (List ℕ)
date_words [] = []
date_words (word ∷ ws) = put_word (without_day_name word) ws

abbrev pub date_time : Option CalendarDay → Option TimeOfDay → Option Zone → Option DateTime
date_time day time zone =
    option_and_then (λ d. option_and_then (λ t. option_map (λ z. record { day = d; time = t; zone = z }) zone) time) day

-- Day, month, year, time and zone.
abbrev pub date_of : List (List ℕ) → Option DateTime
date_of (day ∷ month ∷ year ∷ time ∷ zone ∷ []) =
    date_time (calendar_day (day_of_month day) (month_of month) (year_of year)) (time_of time) (zone_of zone)
date_of _ = None

-- The date that a value reads as.
abbrev pub reading : List ℕ → Option DateTime
reading value = option_and_then (λ ws. date_of (date_words ws)) (words value)
