-- What is found in lists that were changed.
use Rattle.std.proofs.Common.{◌≡◌, Bool, true, false, cond, List, [], ◌∷◌, ◌++◌, map, Option, Some, None, refl, sym, ap, subst, ◌∙◌, ◌⊎◌, inl, inr}
use Rattle.std.specs.List.{find, filter}
use Rattle.std.specs.Option.{option_map, option_or}
use Rattle.std.proofs.lemmas.List.Folds.{find-append}
use Rattle.std.proofs.lemmas.Bool.{true≢false, false≢true}
use Rattle.std.proofs.lemmas.Option.{none-some, same_Some}

found-map : {X : Type 0} (f : X → X) (x : X) (b : Bool) (r s : Option X) → r ≡ option_map f s → cond b (Some (f x)) r ≡ option_map f (cond b (Some x) s)
found-map f x true r s e = refl
found-map f x false r s e = e

-- where the test sees no change
pub find-map : {X : Type 0} (p : X → Bool) (f : X → X) → ((x : X) → p (f x) ≡ p x) → (xs : List X) → find p (map f xs) ≡ option_map f (find p xs)
find-map p f keeps [] = refl
find-map p f keeps (x ∷ xs) = rw (keeps x) (found-map f x (p x) (find p (map f xs)) (find p xs) (find-map p f keeps xs))

passed : {X : Type 0} (p : X → Bool) (x : X) (ys : List X) (r : Option X) (b c : Bool) → p x ≡ b → (b ≡ true → c ≡ true) → find p ys ≡ r → find p (cond c (x ∷ ys) ys) ≡ cond b (Some x) r
passed p x ys r b true e h i = rw e (ap (λ o. cond b (Some x) o) i)
passed p x ys r false false e h i = i
passed p x ys r true false e h i = absurd (false≢true (h refl))

-- where a filter keeps all that the test finds
pub find-filter_same : {X : Type 0} (p q : X → Bool) → ((x : X) → p x ≡ true → q x ≡ true) → (xs : List X) → find p (filter q xs) ≡ find p xs
find-filter_same p q h [] = refl
find-filter_same p q h (x ∷ xs) = passed p x (filter q xs) (find p xs) (p x) (q x) refl (h x) (find-filter_same p q h xs)

left_out : {X : Type 0} (p : X → Bool) (x : X) (ys : List X) (b c : Bool) → p x ≡ b → (b ≡ true → c ≡ false) → find p ys ≡ None → find p (cond c (x ∷ ys) ys) ≡ None
left_out p x ys b false e h i = i
left_out p x ys false true e h i = rw e i
left_out p x ys true true e h i = absurd (true≢false (h refl))

-- where a filter keeps nothing that the test finds
pub find-filter_none : {X : Type 0} (p q : X → Bool) → ((x : X) → p x ≡ true → q x ≡ false) → (xs : List X) → find p (filter q xs) ≡ None
find-filter_none p q h [] = refl
find-filter_none p q h (x ∷ xs) = left_out p x (filter q xs) (p x) (q x) refl (h x) (find-filter_none p q h xs)

found_here : {X : Type 0} (p : X → Bool) (x y : X) (b : Bool) (r : Option X) → p x ≡ b → (r ≡ Some y → p y ≡ true) → cond b (Some x) r ≡ Some y → p y ≡ true
found_here p x y true r e h found = subst (λ z. p z ≡ true) (same_Some x y found) e
found_here p x y false r e h found = h found

-- what is found passes
pub find_passes : {X : Type 0} (p : X → Bool) (xs : List X) (y : X) → find p xs ≡ Some y → p y ≡ true
find_passes p [] y found = absurd (none-some y found)
find_passes p (x ∷ xs) y found = found_here p x y (p x) (find p xs) refl (find_passes p xs y) found

in_one : {X : Type 0} (o r : Option X) (x : X) → option_or o r ≡ Some x → (o ≡ Some x) ⊎ ((o ≡ None) × (r ≡ Some x))
in_one None r x found = inr (refl, found)
in_one (Some y) r x found = inl found

-- what is found in two lists is found in one
pub find-append_cases : {X : Type 0} (p : X → Bool) (xs ys : List X) (x : X) → find p (xs ++ ys) ≡ Some x → (find p xs ≡ Some x) ⊎ ((find p xs ≡ None) × (find p ys ≡ Some x))
find-append_cases p xs ys x found = in_one (find p xs) (find p ys) x (sym (find-append p xs ys) ∙ found)

-- what is found in the first list is found
pub find-append_first : {X : Type 0} (p : X → Bool) (xs ys : List X) (x : X) → find p xs ≡ Some x → find p (xs ++ ys) ≡ Some x
find-append_first p xs ys x found = find-append p xs ys ∙ ap (λ o. option_or o (find p ys)) found
