-- The value of digits, read from the first on.
use Rattle.std.proofs.Common.{◌≡◌, ℕ, zero, suc, ◌+◌, ◌-◌, ◌*◌, ◌^◌, ◌<◌, ◌≤◌, true, false, ◌&&◌, ltb, List, [], ◌∷◌, length, get_or, drop, Some, None, refl, sym, ◌∙◌, ap, arith}
use Rattle.std.proofs.lemmas.List.{drop_more, drop_all}
use Rattle.std.proofs.lemmas.Bool.{cond-false, cond-true, and_left, and_right, and_from, le-ltb, lt-ltb}
use Rattle.std.proofs.Math.Nat.{pow-suc}
use Rattle.std.specs.Char.{is_ascii_digit}
use Rattle.mail_text.specs.Decimals.{are_digits, digits_value, decimal_value}

-- What was read of a text, and what is left of it.
pub record IsRead (text : List ℕ) (at value : ℕ) : Type 0 where
  pub some : 0 < length text
  pub small : value < 2 ^ 64
  pub value_is : digits_value text ≡ value * 10 ^ length (drop at text) + digits_value (drop at text)
  pub digits_are : are_digits text ≡ are_digits (drop at text)

pub read_none : (text : List ℕ) → 0 < length text → IsRead text 0 0
read_none text h = record { some = h; small = omega arith; value_is = omega arith; digits_are = refl }

digit_more : (v d p r : ℕ) → v * (p * 10) + (d * p + r) ≡ (v * 10 + d) * p + r
digit_more v d p r = grind arith

pub read_more : (text : List ℕ) (at value : ℕ) → at < length text → is_ascii_digit (get_or text at 0) ≡ true →
    value * 10 + (get_or text at 0 - 48) < 2 ^ 64 → IsRead text at value → IsRead text (at + 1) (value * 10 + (get_or text at 0 - 48))
read_more text at value h is small r =
    let c = get_or text at 0 in
    let rest = drop (at + 1) text in
    let here = drop_more text at 0 h in
    record {
      some = r.some;
      small = small;
      value_is = r.value_is ∙ ap (λ z. value * 10 ^ length z + digits_value z) here ∙ ap (λ p. value * p + digits_value (c ∷ rest)) (pow-suc 10 (length rest))
          ∙ digit_more value (c - 48) (10 ^ length rest) (digits_value rest);
      digits_are = r.digits_are ∙ ap are_digits here ∙ ap (λ t. t && are_digits rest) is;
    }

none_where : (text : List ℕ) → (are_digits text && ltb (digits_value text) (2 ^ 64)) ≡ false → None ≡ decimal_value text
none_where [] h = refl
none_where (c ∷ cs) h = sym (cond-false (are_digits (c ∷ cs) && ltb (digits_value (c ∷ cs)) (2 ^ 64)) (Some (digits_value (c ∷ cs))) None h)

pub read_stops : (text : List ℕ) (at value : ℕ) → at < length text → is_ascii_digit (get_or text at 0) ≡ false → IsRead text at value → None ≡ decimal_value text
read_stops text at value h isnt r =
    let no_digits : are_digits text ≡ false =
    r.digits_are ∙ ap are_digits (drop_more text at 0 h) ∙ and_left (is_ascii_digit (get_or text at 0)) (are_digits (drop (at + 1) text)) isnt in
    none_where text (and_left (are_digits text) (ltb (digits_value text) (2 ^ 64)) no_digits)

at_least : (v p r total : ℕ) → 0 < p → 2 ^ 64 ≤ v → total ≡ v * p + r → 2 ^ 64 ≤ total
at_least v p r total h big e = grind arith

tens_positive : (n : ℕ) → 0 < 10 ^ n
tens_positive zero = omega arith
tens_positive (suc n) = rw (pow-suc 10 n) (omega (arith, tens_positive n))

pub read_too_large : (text : List ℕ) (at value : ℕ) → at < length text → 2 ^ 64 ≤ value * 10 + (get_or text at 0 - 48) → IsRead text at value →
    None ≡ decimal_value text
read_too_large text at value h big r =
    let c = get_or text at 0 in
    let rest = drop (at + 1) text in
    let value_is : digits_value text ≡ (value * 10 + (c - 48)) * 10 ^ length rest + digits_value rest =
    r.value_is ∙ ap (λ z. value * 10 ^ length z + digits_value z) (drop_more text at 0 h) ∙ ap (λ p. value * p + digits_value (c ∷ rest)) (pow-suc 10 (length rest))
    ∙ digit_more value (c - 48) (10 ^ length rest) (digits_value rest) in
    let large : 2 ^ 64 ≤ digits_value text =
    at_least (value * 10 + (c - 48)) (10 ^ length rest) (digits_value rest) (digits_value text) (tens_positive (length rest)) big value_is in
    none_where text (and_right (are_digits text) (ltb (digits_value text) (2 ^ 64)) (le-ltb (digits_value text) (2 ^ 64) large))

pub read_all : (text : List ℕ) (at value : ℕ) → length text ≤ at → IsRead text at value → Some value ≡ decimal_value text
read_all [] at value h r = absurd (omega (arith, r.some))
read_all (c ∷ cs) at value h r =
    let text = c ∷ cs in
    let none = drop_all at text h in
    let is : digits_value text ≡ value = r.value_is ∙ ap (λ z. value * 10 ^ length z + digits_value z) none ∙ (let one : value * 1 + 0 ≡ value = omega arith in one) in
    let digits : are_digits text ≡ true = r.digits_are ∙ ap are_digits none in
    let fits : ltb (digits_value text) (2 ^ 64) ≡ true = lt-ltb (digits_value text) (2 ^ 64) (rw is r.small) in
    ap Some (sym is) ∙ sym (cond-true (are_digits text && ltb (digits_value text) (2 ^ 64)) (Some (digits_value text)) None (and_from (are_digits text) (ltb (digits_value text) (2 ^ 64)) digits fits))
