-- How words read as the parts of a date (RFC 5322 §3.3, §4.3).
use Rattle.std.specs.Prelude.{ℕ, suc, ◌+◌, ◌*◌, Bool, true, false, ◌&&◌, ◌==◌, nat_lt, nat_le, if◌then◌else◌, List, [], ◌∷◌, length, take, drop, slice_index, position, Option, Some, None, option_map}
use Rattle.std.specs.Option.{option_and_then}
use Rattle.std.specs.List.{list_any, list_all}
use Rattle.std.specs.Char.{is_ascii_alphabetic}
use Rattle.mail_text.specs.Case.{is_same}
use Rattle.mail_text.specs.Decimals.{decimal_value}
use Rattle.date_grammar.specs.declared.parts.CalendarDay.{CalendarDay}
use Rattle.date_grammar.specs.declared.parts.TimeOfDay.{TimeOfDay}
use Rattle.date_grammar.specs.declared.parts.Zone.{Zone}
use Rattle.date_grammar.specs.Names.{months, universal, american}
use Rattle.date_grammar.specs.Calendar.{exists}

-- A number that is below the limit.
abbrev pub below : ℕ → Option ℕ → Option ℕ
below limit None = None
below limit (Some n) = if nat_lt n limit then Some n else None

-- So many bytes of a text, from a place on.
abbrev pub part : ℕ → ℕ → List ℕ → List ℕ
part at size text = take size (drop at text)

-- The number of the two digits at a place.
abbrev pub pair_at : ℕ → List ℕ → ℕ → Option ℕ
pair_at at text limit = below limit (decimal_value (part at 2 text))

-- A day of one or two digits.
abbrev pub day_of_month : List ℕ → Option ℕ
day_of_month word = if nat_le (length word) 2 then decimal_value word else None

-- A month by its name, in any case.
abbrev pub month_of : List ℕ → Option ℕ
month_of word = option_map suc (position (λ name. is_same word name) months)

-- The year that digits stand for: two digits are a year from 1950 to 2049, three are counted from 1900, and four are the year itself,
-- from 1900 on.
abbrev pub year_by_digits : ℕ → ℕ → Option ℕ
year_by_digits digits n =
    if digits == 2 then (if nat_lt n 50 then Some (n + 2000) else Some (n + 1900))
    else (if digits == 3 then Some (n + 1900)
    else (if (digits == 4) && nat_le 1900 n then Some n else None))

abbrev pub year_of : List ℕ → Option ℕ
year_of word = option_and_then (λ n. year_by_digits (length word) n) (decimal_value word)

-- A day that the calendar has.
abbrev pub existing : CalendarDay → Option CalendarDay
existing d = if exists d then Some d else None

abbrev pub calendar_day : Option ℕ → Option ℕ → Option ℕ → Option CalendarDay
calendar_day day month year =
    option_and_then (λ d. option_and_then (λ m. option_and_then (λ y. existing (record { year = y; month = m; day = d })) year) month) day

abbrev pub time_of_day : Option ℕ → Option ℕ → Option ℕ → Option TimeOfDay
time_of_day hour minute second =
    option_and_then (λ h. option_and_then (λ m. option_map (λ s. record { hour = h; minute = m; second = s }) second) minute) hour

-- A time `hh:mm` or `hh:mm:ss`.
abbrev pub seconds_at : List ℕ → Option ℕ
seconds_at word =
    if length word == 5 then Some 0
    else (if (length word == 8) && (slice_index word 5 == 58) then pair_at 6 word 61 else None)

abbrev pub time_of : List ℕ → Option TimeOfDay
time_of word = if slice_index word 2 == 58 then time_of_day (pair_at 0 word 24) (pair_at 3 word 60) (seconds_at word) else None

-- Four digits behind the sign of a zone: hours and minutes.
abbrev pub zone_by : Bool → Option ℕ → Option ℕ → Option Zone
zone_by behind hours minutes = option_and_then (λ h. option_map (λ m. record { behind = behind; minutes = 60 * h + m }) minutes) hours

abbrev pub signed_zone : Bool → List ℕ → Option Zone
signed_zone behind word = if length word == 5 then zone_by behind (pair_at 1 word 24) (pair_at 3 word 60) else None

-- The hours that a zone is behind by its name. Other names tell nothing of the zone, which is written -0000.
abbrev pub hours_behind : List (List ℕ × ℕ) → List ℕ → ℕ
hours_behind [] word = 0
hours_behind (zone ∷ zones) word = if is_same word zone.0 then zone.1 else hours_behind zones word

abbrev pub named_zone : List ℕ → Zone
named_zone word =
    if list_any (λ name. is_same word name) universal then record { behind = false; minutes = 0 }
    else record { behind = true; minutes = 60 * hours_behind american word }

-- A zone as a sign and four digits.
abbrev pub numeric_zone : List ℕ → Option Zone
numeric_zone word =
    if slice_index word 0 == 43 then signed_zone false word else (if slice_index word 0 == 45 then signed_zone true word else None)

-- A zone: a word of one to five letters, in any case, or a sign and four digits.
abbrev pub zone_of : List ℕ → Option Zone
zone_of word =
    if nat_le 1 (length word) && (nat_le (length word) 5 && list_all is_ascii_alphabetic word) then Some (named_zone word) else numeric_zone word
