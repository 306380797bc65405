-- Decimal numbers.
use Rattle.std.proofs.Common.{◌≡◌, ℕ, ◌+◌, ◌-◌, ◌*◌, ◌<◌, ◌≤◌, true, false, List, length, get_or, take, nat_le, arith}
use Rattle.std.specs.Prelude.{None}
use Rattle.std.specs.List.{list_all}
use Rattle.std.specs.Char.{digit_value, is_ascii_digit}
use Rattle.std.specs.Str.Parse.{digits_value}
use Rattle.std.proofs.lemmas.Str.Parse.{digits_value-take-le}
use Rattle.std.proofs.lemmas.Bool.Decides.{nat_tests}
use Rattle.std.proofs.lemmas.List.Sums.{AllPass-from_list_all}
use Rattle.std.proofs.lemmas.Int.Digits.{digits_value_more}
use Rattle.port_model.specs.Script.{is_number, number_up_to}

digit_value-decimal : (c : ℕ) → 48 ≤ c → c ≤ 57 → digit_value c ≡ c - 48
digit_value-decimal c low high = grind (arith, nat_tests)

pub number_up_to-greater : (most : ℕ) (digits : List ℕ) (k : ℕ) → most < digits_value 10 (take k digits) → number_up_to most digits ≡ None
number_up_to-greater most digits k above =
    let whole = digits_value-take-le 10 digits k (omega arith) in
    let is_above : nat_le (digits_value 10 digits) most ≡ false = grind (arith, nat_tests) in
    grind (arith, nat_tests)

pub number_step : (digits : List ℕ) (i value digit : ℕ) → is_number digits ≡ true → i < length digits → digit ≡ get_or digits i 0 - 48 → value ≡ digits_value 10 (take i digits) → value * 10 + digit ≡ digits_value 10 (take (i + 1) digits)
number_step digits i value digit numeral within is so_far =
    let all : list_all is_ascii_digit digits ≡ true = grind (arith, nat_tests) in
    let here = AllPass-from_list_all is_ascii_digit digits all i 0 within in
    let low : 48 ≤ get_or digits i 0 = grind (arith, nat_tests) in
    let high : get_or digits i 0 ≤ 57 = grind (arith, nat_tests) in
    let of_digit = digit_value-decimal (get_or digits i 0) low high in
    omega (arith, digits_value_more 10 digits i within)
