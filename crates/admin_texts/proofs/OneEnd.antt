-- Lines and texts end once.
use Rattle.std.proofs.Common.{◌≡◌, ℕ, suc, pos, negsuc, ◌^◌, ◌+◌, ◌/◌, ◌%◌, ◌<◌, false, not, List, [], ◌∷◌, ◌++◌, refl, ◌∙◌, arith, ◌==◌, nat_lt, nat_le, ◌&&◌, if◌then◌else◌}
use Rattle.std.specs.Prelude.{codes, decimal, flat_map}
use Rattle.std.specs.List.{AllByRecursion}
use Rattle.std.specs.Char.{digit_char}
use Rattle.std.proofs.lemmas.Bool.{cond_both}
use Rattle.std.proofs.lemmas.Bool.Decides.{nat_tests}
use Rattle.std.proofs.lemmas.List.Folds.{list_all-append}
use Rattle.std.proofs.lemmas.Fmt.{decimal_by_steps}
use Rattle.admin_texts.specs.Columns.{Column, hexadecimal, spelled, spaced, line}
use Rattle.admin_texts.specs.Columns.Column.{number, integer, text, digest}
use Rattle.admin_texts.specs.Laws.{Lacks, HasSmallNumber, LinesEndOnce, TextsEndOnce}

joined : (e : ℕ) (xs ys : List ℕ) → Lacks e xs → Lacks e ys → Lacks e (xs ++ ys)
joined e xs ys first second = list_all-append (λ c. not (c == e)) xs ys ∙ rw (first, second) refl

all_joined : {X : Type 0} (e : ℕ) (f : X → List ℕ) → ((x : X) → Lacks e (f x)) → (xs : List X) → Lacks e (flat_map f xs)
all_joined e f each [] = refl
all_joined e f each (x ∷ xs) = joined e (f x) (flat_map f xs) (each x) (all_joined e f each xs)

single : (e c : ℕ) → (c == e) ≡ false → Lacks e (c ∷ [])
single e c is = rw is refl

digit : (e d : ℕ) → e < 48 → (digit_char d == e) ≡ false
digit e d low = cond_both (nat_lt d 10) (48 + d) (87 + d) (λ c. (c == e) ≡ false) (λ _. grind (arith, nat_tests)) (λ _. grind (arith, nat_tests))

two_digits : (e c : ℕ) → e < 48 → Lacks e (hexadecimal c)
two_digits e c low = rw (digit e (c / 16) low, digit e (c % 16) low) refl

-- a byte that isn't told by its own case stands for itself, or in hexadecimal
spelled_byte : (e c : ℕ) → e < 48 → Lacks e (codes "\\r") → Lacks e (codes "\\n") → Lacks e (codes "\\\\") → Lacks e (codes "\\x22")
    → ((c == 10) ≡ false → (c == 34) ≡ false → (c == e) ≡ false) → Lacks e (spelled c)
spelled_byte e c low cr lf backslash quote other =
    let in_digits = codes "\\x" ++ hexadecimal c in
    let last = if nat_le 32 c && nat_le c 126 then c ∷ [] else in_digits in
    let behind_backslash = if c == 34 then codes "\\x22" else last in
    let behind_lf = if c == 92 then codes "\\\\" else behind_backslash in
    let behind_cr = if c == 10 then codes "\\n" else behind_lf in
    let escape : Lacks e (codes "\\x") = grind (arith, nat_tests) in
    cond_both (c == 13) (codes "\\r") behind_cr (Lacks e) (λ _. cr)
    (λ _. cond_both (c == 10) (codes "\\n") behind_lf (Lacks e) (λ _. lf)
    (λ no_lf. cond_both (c == 92) (codes "\\\\") behind_backslash (Lacks e) (λ _. backslash)
    (λ _. cond_both (c == 34) (codes "\\x22") last (Lacks e) (λ _. quote)
    (λ no_quote. cond_both (nat_le 32 c && nat_le c 126) (c ∷ []) in_digits (Lacks e) (λ _. single e c (other no_lf no_quote))
    (λ _. joined e (codes "\\x") (hexadecimal c) escape (two_digits e c low))))))

pub texts_end_once : TextsEndOnce
texts_end_once bytes = all_joined 34 spelled (λ c. spelled_byte 34 c (omega arith) refl refl refl refl (λ _ is. is)) bytes

decimal_digits : (n : ℕ) → n < 2 ^ 64 → Lacks 10 (decimal n)
decimal_digits n small =
    decimal_by_steps (λ _ ds. Lacks 10 ds)
    (λ d _. single 10 (48 + d) (grind (arith, nat_tests)))
    (λ m ds _ before. joined 10 ds ((48 + m % 10) ∷ []) before (single 10 (48 + m % 10) (grind (arith, nat_tests))))
    n small

column_within : (column : Column) → HasSmallNumber column → Lacks 10 (spaced column)
unfolding spaced
column_within (number n) small = decimal_digits n small
column_within (integer (pos n)) small = decimal_digits n (omega (arith, small.sfits))
column_within (integer (negsuc n)) small = joined 10 (codes "-") (decimal (suc n)) refl (decimal_digits (suc n) (omega (arith, small.sfits)))
column_within (text bytes) _ = joined 10 (flat_map spelled bytes) (codes "\"") (all_joined 10 spelled (λ c. spelled_byte 10 c (omega arith) refl refl refl refl (λ is _. is)) bytes) refl
column_within (digest bytes) _ = all_joined 10 hexadecimal (λ c. two_digits 10 c (omega arith)) bytes

columns_within : (columns : List Column) → AllByRecursion HasSmallNumber columns → Lacks 10 (flat_map spaced columns)
columns_within [] _ = refl
columns_within (column ∷ columns) (small, rest) = joined 10 (spaced column) (flat_map spaced columns) (column_within column small) (columns_within columns rest)

pub lines_end_once : LinesEndOnce
unfolding line
lines_end_once name columns within small = (name ++ flat_map spaced columns, refl, joined 10 name (flat_map spaced columns) within (columns_within columns small))
