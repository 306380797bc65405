-- Numbers of few digits.
use Rattle.std.proofs.Common.{◌≡◌, ℕ, ◌+◌, ◌-◌, ◌*◌, ◌^◌, ◌<◌, true, ◌&&◌, ltb, List, [], ◌∷◌, length, Some, arith}
use Rattle.std.proofs.lemmas.Bool.{and_parts}
use Rattle.std.proofs.lemmas.Option.{cond_some}
use Rattle.std.proofs.lemmas.Bool.Decides.{nat_tests}
use Rattle.std.proofs.Math.Nat.{pow-suc}
use Rattle.std.specs.Char.{is_ascii_digit}
use Rattle.mail_text.specs.Decimals.{are_digits, digits_value, decimal_value}

digit_bound : (c : ℕ) → is_ascii_digit c ≡ true → c - 48 < 10
digit_bound c h = grind (arith, nat_tests)

bound_more : (d p r : ℕ) → d < 10 → r < p → d * p + r < p * 10
bound_more d p r h k = grind arith

pub digits_bound : (text : List ℕ) → are_digits text ≡ true → digits_value text < 10 ^ length text
digits_bound [] h = omega arith
digits_bound (c ∷ cs) h =
    let parts = and_parts (is_ascii_digit c) (are_digits cs) h in
    rw (pow-suc 10 (length cs)) (bound_more (c - 48) (10 ^ length cs) (digits_value cs) (digit_bound c parts.0) (digits_bound cs parts.1))

pub decimal_bound : (text : List ℕ) (n : ℕ) → decimal_value text ≡ Some n → n < 10 ^ length text
decimal_bound [] n h = cc
decimal_bound (c ∷ cs) n h =
    let test = are_digits (c ∷ cs) && ltb (digits_value (c ∷ cs)) (2 ^ 64) in
    let found = cond_some test (digits_value (c ∷ cs)) n h in
    rw (← found.1) (digits_bound (c ∷ cs) (and_parts (are_digits (c ∷ cs)) (ltb (digits_value (c ∷ cs)) (2 ^ 64)) found.0).0)
