-- What is read is a date.
use Rattle.std.proofs.Common.{◌≡◌, ℕ, ◌+◌, ◌*◌, ◌<◌, ◌≤◌, Bool, true, false, ◌&&◌, ltb, leb, eqb, cond, List, [], ◌∷◌, length, get_or, take, drop, Option, Some, None, refl, sym, ap, subst, arith, lit<}
use Rattle.std.specs.List.{list_all, list_any}
use Rattle.std.specs.Char.{is_ascii_alphabetic}
use Rattle.std.proofs.lemmas.Bool.{ltb-true, cond_both}
use Rattle.std.proofs.lemmas.Option.{cond_some, option_and_then_some}
use Rattle.std.proofs.lemmas.Bool.Decides.{nat_tests}
use Rattle.mail_text.specs.Decimals.{decimal_value}
use Rattle.mail_text.specs.Case.{is_same}
use Rattle.date_grammar.specs.declared.parts.CalendarDay.{CalendarDay}
use Rattle.date_grammar.specs.declared.parts.TimeOfDay.{TimeOfDay}
use Rattle.date_grammar.specs.declared.parts.Zone.{Zone}
use Rattle.date_grammar.specs.declared.parts.DateTime.{DateTime}
use Rattle.date_grammar.specs.Names.{universal, american}
use Rattle.date_grammar.specs.Calendar.{exists, IsShown, IsDateTime}
use Rattle.date_grammar.specs.Words.{words}
use Rattle.date_grammar.specs.Parts.{below, pair_at, existing, calendar_day, time_of_day, seconds_at, time_of, zone_by, signed_zone, hours_behind, named_zone, numeric_zone, zone_of, year_by_digits, year_of, day_of_month, month_of}
use Rattle.date_grammar.specs.Reading.{date_time, date_of, date_words, reading}

below_bound : (limit : ℕ) (o : Option ℕ) (n : ℕ) → below limit o ≡ Some n → n < limit
below_bound limit None n h = cc
below_bound limit (Some m) n h =
    let found = cond_some (ltb m limit) m n h in
    rw (← found.1) (ltb-true m limit found.0)

time_parts : (h m s : Option ℕ) (t : TimeOfDay) → time_of_day h m s ≡ Some t → (h ≡ Some t.hour) × (m ≡ Some t.minute) × (s ≡ Some t.second)
time_parts None m s t e = cc
time_parts (Some h) None s t e = cc
time_parts (Some h) (Some m) None t e = cc
time_parts (Some h) (Some m) (Some s) t e =
    let same : record { hour = h; minute = m; second = s } ≡ t = cc in
    (ap (λ (z : TimeOfDay). Some z.hour) same, ap (λ (z : TimeOfDay). Some z.minute) same, ap (λ (z : TimeOfDay). Some z.second) same)

seconds_bound : (word : List ℕ) (s : ℕ) → seconds_at word ≡ Some s → s < 61
seconds_bound word s h =
    let P : Option ℕ → Type 0 = λ o. o ≡ Some s → s < 61 in
    cond_both (eqb (length word) 5) (Some 0) (cond (eqb (length word) 8 && eqb (get_or word 5 0) 58) (pair_at 6 word 61) None) P
    (λ _ e. let zero_is : 0 ≡ s = cc in omega arith)
    (λ _. cond_both (eqb (length word) 8 && eqb (get_or word 5 0) 58) (pair_at 6 word 61) None P
    (λ _ e. below_bound 61 (decimal_value (take 2 (drop 6 word))) s e) (λ _ e. cc)) h

pub time_shown : (word : List ℕ) (t : TimeOfDay) → time_of word ≡ Some t → IsShown t
time_shown word t h =
    let P : Option TimeOfDay → Type 0 = λ o. o ≡ Some t → IsShown t in
    cond_both (eqb (get_or word 2 0) 58) (time_of_day (pair_at 0 word 24) (pair_at 3 word 60) (seconds_at word)) None P
    (λ _ e. let parts = time_parts (pair_at 0 word 24) (pair_at 3 word 60) (seconds_at word) t e in
    (below_bound 24 (decimal_value (take 2 (drop 0 word))) t.hour parts.0, below_bound 60 (decimal_value (take 2 (drop 3 word))) t.minute parts.1, seconds_bound word t.second parts.2))
    (λ _ e. cc) h

zone_parts : (behind : Bool) (h m : Option ℕ) (z : Zone) → zone_by behind h m ≡ Some z →
    (hours minutes : ℕ) × (h ≡ Some hours) × (m ≡ Some minutes) × (z ≡ record { behind = behind; minutes = 60 * hours + minutes })
zone_parts behind None m z e = cc
zone_parts behind (Some h) None z e = cc
zone_parts behind (Some h) (Some m) z e = (h, m, refl, refl, (let same : record { behind = behind; minutes = 60 * h + m } ≡ z = cc in sym same))

signed_bound : (behind : Bool) (word : List ℕ) (z : Zone) → signed_zone behind word ≡ Some z → z.minutes < 1440
signed_bound behind word z h =
    let found = cond_both (eqb (length word) 5) (zone_by behind (pair_at 1 word 24) (pair_at 3 word 60)) None (λ o. o ≡ Some z → z.minutes < 1440)
    (λ _ e. let parts = zone_parts behind (pair_at 1 word 24) (pair_at 3 word 60) z e in
    let hours : parts.0 < 24 = below_bound 24 (decimal_value (take 2 (drop 1 word))) parts.0 parts.2 in
    let minutes : parts.1 < 60 = below_bound 60 (decimal_value (take 2 (drop 3 word))) parts.1 parts.3 in
    let is : z.minutes ≡ 60 * parts.0 + parts.1 = ap (λ (y : Zone). y.minutes) parts.4 in
    omega arith)
    (λ _ e. cc) in
    found h

abbrev pub AllBelow : List (List ℕ × ℕ) → Type 0
AllBelow [] = Unit {0}
AllBelow (z ∷ zs) = (z.1 < 24) × AllBelow zs

american_bound : (zones : List (List ℕ × ℕ)) (word : List ℕ) → AllBelow zones → hours_behind zones word < 24
american_bound [] word h = omega arith
american_bound (z ∷ zs) word h = cond_both (is_same word z.0) z.1 (hours_behind zs word) (λ n. n < 24) (λ _. h.0) (λ _. american_bound zs word h.1)

named_bound : (word : List ℕ) → (named_zone word).minutes < 1440
named_bound word =
    let few : hours_behind american word < 24 =
    american_bound american word (lit< tt, (lit< tt, (lit< tt, (lit< tt, (lit< tt, (lit< tt, (lit< tt, (lit< tt, tt)))))))) in
    cond_both (list_any (λ name. is_same word name) universal) (record { behind = false; minutes = 0 }) (record { behind = true; minutes = 60 * hours_behind american word })
    (λ (z : Zone). z.minutes < 1440) (λ _. omega arith) (λ _. omega arith)

pub numeric_bound : (word : List ℕ) (z : Zone) → numeric_zone word ≡ Some z → z.minutes < 1440
numeric_bound word z h =
    let P : Option Zone → Type 0 = λ o. o ≡ Some z → z.minutes < 1440 in
    cond_both (eqb (get_or word 0 0) 43) (signed_zone false word) (cond (eqb (get_or word 0 0) 45) (signed_zone true word) None) P
    (λ _. signed_bound false word z)
    (λ _. cond_both (eqb (get_or word 0 0) 45) (signed_zone true word) None P (λ _. signed_bound true word z) (λ _ e. cc)) h

pub zone_bound : (word : List ℕ) (z : Zone) → zone_of word ≡ Some z → z.minutes < 1440
zone_bound word z h =
    let letters = leb 1 (length word) && (leb (length word) 5 && list_all is_ascii_alphabetic word) in
    cond_both letters (Some (named_zone word)) (numeric_zone word) (λ o. o ≡ Some z → z.minutes < 1440)
    (λ _ e. let is : named_zone word ≡ z = cc in subst (λ (y : Zone). y.minutes < 1440) is (named_bound word)) (λ _. numeric_bound word z) h

existing_parts : (day d : CalendarDay) → existing day ≡ Some d → (exists d ≡ true) × (day ≡ d)
existing_parts day d h =
    let found = cond_some (exists day) day d h in
    (subst (λ (z : CalendarDay). exists z ≡ true) found.1 found.0, found.1)

pub calendar_parts : (day month year : Option ℕ) (d : CalendarDay) → calendar_day day month year ≡ Some d →
    (exists d ≡ true) × (day ≡ Some d.day) × (month ≡ Some d.month) × (year ≡ Some d.year)
calendar_parts None month year d h = cc
calendar_parts (Some day) None year d h = cc
calendar_parts (Some day) (Some month) None d h = cc
calendar_parts (Some day) (Some month) (Some year) d h =
    let found = existing_parts (record { year = year; month = month; day = day }) d h in
    (found.0, ap (λ (z : CalendarDay). Some z.day) found.1, ap (λ (z : CalendarDay). Some z.month) found.1, ap (λ (z : CalendarDay). Some z.year) found.1)

pub digits_year : (digits n y : ℕ) → year_by_digits digits n ≡ Some y → 1900 ≤ y
digits_year digits n y h = grind (arith, nat_tests)

pub year_low : (word : List ℕ) (y : ℕ) → year_of word ≡ Some y → 1900 ≤ y
year_low word y h = option_and_then_some (λ n. year_by_digits (length word) n) (decimal_value word) y h (λ n _ e. digits_year (length word) n y e)

pub date_parts : (o : Option CalendarDay) (t : Option TimeOfDay) (z : Option Zone) (d : DateTime) → date_time o t z ≡ Some d →
    (o ≡ Some d.day) × (t ≡ Some d.time) × (z ≡ Some d.zone)
date_parts None t z d h = cc
date_parts (Some o) None z d h = cc
date_parts (Some o) (Some t) None d h = cc
date_parts (Some o) (Some t) (Some z) d h =
    let same : record { day = o; time = t; zone = z } ≡ d = cc in
    (ap (λ (x : DateTime). Some x.day) same, ap (λ (x : DateTime). Some x.time) same, ap (λ (x : DateTime). Some x.zone) same)

-- a date that some value reads as
pub record IsRead (d : DateTime) : Type 0 where
  pub is_date : IsDateTime d
  pub late : 1900 ≤ d.day.year

words_read : (ws : List (List ℕ)) (d : DateTime) → date_of ws ≡ Some d → IsRead d
words_read [] d h = cc
words_read (a ∷ []) d h = cc
words_read (a ∷ b ∷ []) d h = cc
words_read (a ∷ b ∷ c ∷ []) d h = cc
words_read (a ∷ b ∷ c ∷ e ∷ []) d h = cc
words_read (day ∷ month ∷ year ∷ time ∷ zone ∷ []) d h =
    let parts = date_parts (calendar_day (day_of_month day) (month_of month) (year_of year)) (time_of time) (zone_of zone) d h in
    let found = calendar_parts (day_of_month day) (month_of month) (year_of year) d.day parts.0 in
    record {
      is_date = record { day = found.0; time = time_shown time d.time parts.1; zone = zone_bound zone d.zone parts.2 };
      late = year_low year d.day.year found.3;
    }
words_read (a ∷ b ∷ c ∷ e ∷ f ∷ g ∷ ws) d h = cc

pub reading_read : (value : List ℕ) (d : DateTime) → reading value ≡ Some d → IsRead d
reading_read value d h = option_and_then_some (λ ws. date_of (date_words ws)) (words value) d h (λ ws _ e. words_read (date_words ws) d e)

pub reading_date : (value : List ℕ) (d : DateTime) → reading value ≡ Some d → IsDateTime d
reading_date value d h = (reading_read value d h).is_date
