-- Names that begin with another.
use Rattle.std.proofs.Common.{ℕ, ◌≡◌, Bool, true, false, List, [], ◌∷◌, ◌++◌, length, take, drop, refl, sym, ap, ◌∙◌, ⊎_elim, append_assoc, append-nil}
use Rattle.std.specs.Prelude.{nat_eq}
use Rattle.std.specs.Cmp.{both_ways}
use Rattle.std.specs.Cmp.Lexicographic.{pointwise, bytes_decides}
use Rattle.std.proofs.Math.Seq.{drop-append_seam}
use Rattle.std.proofs.lemmas.Bool.{true≢false, eqb-true, or_cases, or_left, or_right, false_from_ne_true}
use Rattle.std.proofs.lemmas.List.{take-append-drop, take_at}
use Rattle.mail_world.specs.Names.{same_name, separator, is_inferior, is_renamed}
use Rattle.mailbox_core.specs.Renaming.{ends_name}

same_bytes : (a b : List ℕ) → pointwise nat_eq a b ≡ true → a ≡ b
same_bytes a b e = (bytes_decides a b).0 e

bytes_same : (a b : List ℕ) → a ≡ b → pointwise nat_eq a b ≡ true
bytes_same a b e = (bytes_decides a b).1 e

-- what comes behind an upper name
below : (from name : List ℕ) → is_inferior from name ≡ true → name ≡ from ++ separator ∷ drop (length (from ++ separator ∷ [])) name
below from name e =
    let front = same_bytes (from ++ separator ∷ []) (take (length (from ++ separator ∷ [])) name) e in
    sym (take-append-drop (length (from ++ separator ∷ [])) name)
    ∙ ap (λ first. first ++ drop (length (from ++ separator ∷ [])) name) (sym front)
    ∙ append_assoc from (separator ∷ []) (drop (length (from ++ separator ∷ [])) name)

behind : (from name rest : List ℕ) → name ≡ from ++ rest → drop (length from) name ≡ rest
behind from name rest e = ap (drop (length from)) e ∙ drop-append_seam from rest

-- a renamed name goes on behind the name
pub goes_on : {P : Type 0} (from name : List ℕ) → is_renamed from name ≡ true → ((rest : List ℕ) → name ≡ from ++ rest → ends_name rest ≡ true → P) → P
goes_on from name under use_it =
    ⊎_elim (λ same. use_it [] (same_bytes name from same ∙ sym (append-nil from)) refl)
    (λ lower. use_it (separator ∷ drop (length (from ++ separator ∷ [])) name) (below from name lower) refl)
    (or_cases (same_name name from) (is_inferior from name) under)

renamed_by : (from rest : List ℕ) → ends_name rest ≡ true → is_renamed from (from ++ rest) ≡ true
renamed_by from [] ends = or_left (same_name (from ++ []) from) (is_inferior from (from ++ [])) (bytes_same (from ++ []) from (append-nil from))
renamed_by from (b ∷ rest) ends =
    let one = from ++ separator ∷ [] in
    let is = ap (λ c. from ++ c ∷ rest) (eqb-true b separator ends) ∙ sym (append_assoc from (separator ∷ []) rest) in
    or_right (same_name (from ++ b ∷ rest) from) (is_inferior from (from ++ b ∷ rest))
    (bytes_same one (take (length one) (from ++ b ∷ rest)) (sym (ap (take (length one)) is ∙ take_at one rest (length one) refl)))

-- a name that begins with another is renamed with it where it ends there, or a level of it does
pub renamed_if : (from name : List ℕ) (ends : Bool) → pointwise nat_eq (take (length from) name) from ≡ true → ends ≡ ends_name (drop (length from) name) → is_renamed from name ≡ ends
renamed_if from name ends begins is =
    let rest = drop (length from) name in
    let whole : name ≡ from ++ rest = sym (take-append-drop (length from) name) ∙ ap (λ front. front ++ rest) (same_bytes (take (length from) name) from begins) in
    both_ways (is_renamed from name) (ends_name rest)
    (λ under. goes_on from name under (λ other same ends. ap ends_name (behind from name other same) ∙ ends))
    (λ ends. ap (is_renamed from) whole ∙ renamed_by from rest ends)
    ∙ sym is

pub not_renamed : (from name : List ℕ) → pointwise nat_eq (take (length from) name) from ≡ false → is_renamed from name ≡ false
not_renamed from name other =
    false_from_ne_true (is_renamed from name) (λ under. goes_on from name under (λ rest same ends.
    true≢false (sym (bytes_same (take (length from) name) from (ap (take (length from)) same ∙ take_at from rest (length from) refl)) ∙ other)))
