-- Two tests of texts without regard to case are one.
use Rattle.std.proofs.Common.{◌≡◌, ℕ, Bool, true, false, ◌&&◌, eqb, List, [], ◌∷◌, map, refl, sym, ◌∙◌, ap}
use Rattle.std.specs.Char.{to_ascii_lowercase, eq_ignore_ascii_case}
use lib.Pointwise.{pointwise, bytes_decides}
use Rattle.mail_text.specs.Case.{is_same}

is_same-mapped : (a b : List ℕ) → is_same a b ≡ pointwise eqb (map to_ascii_lowercase a) (map to_ascii_lowercase b)
is_same-mapped [] [] = refl
is_same-mapped [] (y ∷ ys) = refl
is_same-mapped (x ∷ xs) [] = refl
is_same-mapped (x ∷ xs) (y ∷ ys) = ap (λ t. eq_ignore_ascii_case x y && t) (is_same-mapped xs ys)

same_bool : (s t : Bool) → (s ≡ true → t ≡ true) → (t ≡ true → s ≡ true) → s ≡ t
same_bool true t there back = sym (there refl)
same_bool false true there back = back refl
same_bool false false there back = refl

pub is_same-value : (a b : List ℕ) (r : Bool) → ((r ≡ true) → map to_ascii_lowercase a ≡ map to_ascii_lowercase b) →
    (map to_ascii_lowercase a ≡ map to_ascii_lowercase b → r ≡ true) → r ≡ is_same a b
is_same-value a b r there back =
    let decided = bytes_decides (map to_ascii_lowercase a) (map to_ascii_lowercase b) in
    same_bool r (is_same a b) (λ e. is_same-mapped a b ∙ decided.1 (there e)) (λ e. back (decided.0 (sym (is_same-mapped a b) ∙ e)))
