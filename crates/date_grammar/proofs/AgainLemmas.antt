-- The parts of a printed date, read again.
use Rattle.std.proofs.Common.{◌≡◌, ℕ, zero, suc, ◌+◌, ◌*◌, ◌/◌, ◌%◌, ◌^◌, ◌<◌, ◌≤◌, Bool, true, false, ◌&&◌, ltb, leb, cond, List, [], ◌∷◌, ◌++◌, Option, Some, None, refl, ◌∙◌, ap, arith}
use Rattle.std.specs.Option.{option_and_then}
use Rattle.std.specs.Char.{is_ascii_digit}
use Rattle.std.proofs.lemmas.Bool.{cond-true, and_from, lt-ltb, le-leb}
use Rattle.std.proofs.lemmas.Bool.Decides.{nat_tests}
use Rattle.mail_text.specs.Decimals.{are_digits, digits_value, decimal_value}
use Rattle.date_grammar.specs.declared.parts.CalendarDay.{CalendarDay}
use Rattle.date_grammar.specs.declared.parts.TimeOfDay.{TimeOfDay}
use Rattle.date_grammar.specs.declared.parts.Zone.{Zone}
use Rattle.date_grammar.specs.Calendar.{exists, IsShown}
use Rattle.date_grammar.specs.Parts.{below, month_of, year_of, year_by_digits, time_of_day, zone_by, calendar_day, time_of, signed_zone, numeric_zone, zone_of}
use Rattle.date_grammar.specs.Printing.{two_digits, four_digits, month_name, printed_time, printed_zone}

is_digit : (d : ℕ) → d < 10 → is_ascii_digit (48 + d) ≡ true
is_digit d h = grind (arith, nat_tests)

value_two : (n : ℕ) → digits_value (two_digits n) ≡ n
value_two n = omega arith

digits_two : (n : ℕ) → n < 100 → are_digits (two_digits n) ≡ true
digits_two n h =
    let tens : n / 10 < 10 = omega arith in
    let ones : n % 10 < 10 = omega arith in
    and_from (is_ascii_digit (48 + n / 10)) (is_ascii_digit (48 + n % 10) && true) (is_digit (n / 10) tens)
    (and_from (is_ascii_digit (48 + n % 10)) true (is_digit (n % 10) ones) refl)

decimal_is : (c : ℕ) (cs : List ℕ) (n : ℕ) → are_digits (c ∷ cs) ≡ true → digits_value (c ∷ cs) ≡ n → n < 2 ^ 64 → decimal_value (c ∷ cs) ≡ Some n
decimal_is c cs n digits value h =
    let fits : ltb (digits_value (c ∷ cs)) (2 ^ 64) ≡ true = lt-ltb (digits_value (c ∷ cs)) (2 ^ 64) (rw value h) in
    cond-true (are_digits (c ∷ cs) && ltb (digits_value (c ∷ cs)) (2 ^ 64)) (Some (digits_value (c ∷ cs))) None
    (and_from (are_digits (c ∷ cs)) (ltb (digits_value (c ∷ cs)) (2 ^ 64)) digits fits) ∙ ap Some value

pub decimal-two : (n : ℕ) → n < 100 → decimal_value (two_digits n) ≡ Some n
decimal-two n h = decimal_is (48 + n / 10) ((48 + n % 10) ∷ []) n (digits_two n h) (value_two n) (omega arith)

value_four : (n : ℕ) → digits_value (four_digits n) ≡ n
value_four n = omega arith

digits_four : (n : ℕ) → n < 10000 → are_digits (four_digits n) ≡ true
digits_four n h =
    let thousands : n / 100 / 10 < 10 = omega arith in
    let hundreds : n / 100 % 10 < 10 = omega arith in
    let rest : n % 100 < 100 = omega arith in
    and_from (is_ascii_digit (48 + n / 100 / 10)) (is_ascii_digit (48 + n / 100 % 10) && are_digits (two_digits (n % 100))) (is_digit (n / 100 / 10) thousands)
    (and_from (is_ascii_digit (48 + n / 100 % 10)) (are_digits (two_digits (n % 100))) (is_digit (n / 100 % 10) hundreds) (digits_two (n % 100) rest))

pub decimal-four : (n : ℕ) → n < 10000 → decimal_value (four_digits n) ≡ Some n
decimal-four n h =
    decimal_is (48 + n / 100 / 10) ((48 + n / 100 % 10) ∷ two_digits (n % 100)) n (digits_four n h) (value_four n) (omega arith)

below-some : (limit : ℕ) (o : Option ℕ) (n : ℕ) → o ≡ Some n → n < limit → below limit o ≡ Some n
below-some limit o n e h = ap (below limit) e ∙ cond-true (ltb n limit) (Some n) None (lt-ltb n limit h)

pub year_again : (y : ℕ) → 1900 ≤ y → y ≤ 9999 → year_of (four_digits y) ≡ Some y
year_again y low high =
    let small : y < 10000 = omega arith in
    ap (option_and_then (λ n. year_by_digits 4 n)) (decimal-four y small) ∙ cond-true (leb 1900 y) (Some y) None (le-leb 1900 y low)

pub time_again : (t : TimeOfDay) → IsShown t → time_of (printed_time t) ≡ Some t
time_again t h =
    let hour : below 24 (decimal_value (two_digits t.hour)) ≡ Some t.hour = below-some 24 (decimal_value (two_digits t.hour)) t.hour (decimal-two t.hour (omega arith)) h.0 in
    let minute : below 60 (decimal_value (two_digits t.minute)) ≡ Some t.minute = below-some 60 (decimal_value (two_digits t.minute)) t.minute (decimal-two t.minute (omega arith)) h.1 in
    let second : below 61 (decimal_value (two_digits t.second)) ≡ Some t.second = below-some 61 (decimal_value (two_digits t.second)) t.second (decimal-two t.second (omega arith)) h.2 in
    ap (λ (o : Option ℕ). time_of_day o (below 60 (decimal_value (two_digits t.minute))) (below 61 (decimal_value (two_digits t.second)))) hour
    ∙ ap (λ (o : Option ℕ). time_of_day (Some t.hour) o (below 61 (decimal_value (two_digits t.second)))) minute
    ∙ ap (λ (o : Option ℕ). time_of_day (Some t.hour) (Some t.minute) o) second

signed_again : (sign : ℕ) (behind : Bool) (minutes : ℕ) → minutes < 1440 →
    signed_zone behind (sign ∷ two_digits (minutes / 60) ++ two_digits (minutes % 60)) ≡ Some (record { behind = behind; minutes = minutes })
signed_again sign behind minutes h =
    let h_small : minutes / 60 < 24 = omega arith in
    let m_small : minutes % 60 < 60 = omega arith in
    let hours : below 24 (decimal_value (two_digits (minutes / 60))) ≡ Some (minutes / 60) = below-some 24 (decimal_value (two_digits (minutes / 60))) (minutes / 60) (decimal-two (minutes / 60) (omega arith)) h_small in
    let rest : below 60 (decimal_value (two_digits (minutes % 60))) ≡ Some (minutes % 60) = below-some 60 (decimal_value (two_digits (minutes % 60))) (minutes % 60) (decimal-two (minutes % 60) (omega arith)) m_small in
    let whole : 60 * (minutes / 60) + minutes % 60 ≡ minutes = omega arith in
    ap (λ (o : Option ℕ). zone_by behind o (below 60 (decimal_value (two_digits (minutes % 60))))) hours
    ∙ ap (λ (o : Option ℕ). zone_by behind (Some (minutes / 60)) o) rest
    ∙ ap (λ (n : ℕ). Some (record { behind = behind; minutes = n })) whole

numeric_by : (behind : Bool) (minutes : ℕ) → minutes < 1440 →
    numeric_zone ((cond behind 45 43) ∷ two_digits (minutes / 60) ++ two_digits (minutes % 60)) ≡ Some (record { behind = behind; minutes = minutes })
numeric_by true minutes h = signed_again 45 true minutes h
numeric_by false minutes h = signed_again 43 false minutes h

pub numeric_again : (z : Zone) → z.minutes < 1440 → numeric_zone (printed_zone z) ≡ Some z
numeric_again z h = numeric_by z.behind z.minutes h

zone_by_sign : (behind : Bool) (minutes : ℕ) → minutes < 1440 →
    zone_of ((cond behind 45 43) ∷ two_digits (minutes / 60) ++ two_digits (minutes % 60)) ≡ Some (record { behind = behind; minutes = minutes })
zone_by_sign true minutes h = signed_again 45 true minutes h
zone_by_sign false minutes h = signed_again 43 false minutes h

pub zone_again : (z : Zone) → z.minutes < 1440 → zone_of (printed_zone z) ≡ Some z
zone_again z h = zone_by_sign z.behind z.minutes h

pub calendar_again : (d : CalendarDay) (day month year : Option ℕ) → exists d ≡ true → day ≡ Some d.day → month ≡ Some d.month → year ≡ Some d.year →
    calendar_day day month year ≡ Some d
calendar_again d day month year h e f g = rw (e, f, g) (cond-true (exists d) (Some d) None h)

pub month_again : (m : ℕ) → 1 ≤ m → m ≤ 12 → month_of (month_name m) ≡ Some m
month_again zero low high = absurd (omega arith)
month_again (suc zero) low high = refl
month_again (suc (suc zero)) low high = refl
month_again (suc (suc (suc zero))) low high = refl
month_again (suc (suc (suc (suc zero)))) low high = refl
month_again (suc (suc (suc (suc (suc zero))))) low high = refl
month_again (suc (suc (suc (suc (suc (suc zero)))))) low high = refl
month_again (suc (suc (suc (suc (suc (suc (suc zero))))))) low high = refl
month_again (suc (suc (suc (suc (suc (suc (suc (suc zero)))))))) low high = refl
month_again (suc (suc (suc (suc (suc (suc (suc (suc (suc zero))))))))) low high = refl
month_again (suc (suc (suc (suc (suc (suc (suc (suc (suc (suc zero)))))))))) low high = refl
month_again (suc (suc (suc (suc (suc (suc (suc (suc (suc (suc (suc zero))))))))))) low high = refl
month_again (suc (suc (suc (suc (suc (suc (suc (suc (suc (suc (suc (suc zero)))))))))))) low high = refl
month_again (suc (suc (suc (suc (suc (suc (suc (suc (suc (suc (suc (suc (suc m))))))))))))) low high = absurd (omega arith)
