-- Lists in the order of numbers, and what is found in them.
use Rattle.std.proofs.Common.{ℕ, ◌≡◌, ◌<◌, ◌≤◌, ◌==◌, Bool, true, false, cond, not, List, [], ◌∷◌, ◌++◌, map, Option, Some, None, refl, sym, subst, ⊎_elim, arith}
use Rattle.std.specs.Prelude.{nat_lt}
use Rattle.std.specs.List.{find, filter, AllByRecursion}
use Rattle.std.proofs.lemmas.Bool.{eqb-true, eqb-false, eq-eqb, ne_eqb, ltb-true, ltb-false, not-true, cases_order}
use Rattle.std.proofs.lemmas.List.{map-append}
use Rattle.std.proofs.lemmas.Option.{none-some, same_Some}
use Rattle.mail_world.specs.Legal.{Ascend}
use Rattle.mail_world.proofs.Finding.{find_passes}

pub all-weaker : {X : Type 0} (P Q : X → Type 0) → ((x : X) → P x → Q x) → (xs : List X) → AllByRecursion P xs → AllByRecursion Q xs
all-weaker P Q h [] all = tt
all-weaker P Q h (x ∷ xs) all = (h x all.0, all-weaker P Q h xs all.1)

pub all-append : {X : Type 0} (P : X → Type 0) → (xs ys : List X) → AllByRecursion P xs → AllByRecursion P ys → AllByRecursion P (xs ++ ys)
all-append P [] ys all more = more
all-append P (x ∷ xs) ys all more = (all.0, all-append P xs ys all.1 more)

pub all-map : {X Y : Type 0} (P : Y → Type 0) (f : X → Y) (xs : List X) → AllByRecursion (λ x. P (f x)) xs → AllByRecursion P (map f xs)
all-map P f [] all = tt
all-map P f (x ∷ xs) all = (all.0, all-map P f xs all.1)

pub all-unmap : {X Y : Type 0} (P : Y → Type 0) (f : X → Y) (xs : List X) → AllByRecursion P (map f xs) → AllByRecursion (λ x. P (f x)) xs
all-unmap P f [] all = tt
all-unmap P f (x ∷ xs) all = (all.0, all-unmap P f xs all.1)

kept_all : {X : Type 0} (P : X → Type 0) (x : X) (ys : List X) (b : Bool) → P x → AllByRecursion P ys → AllByRecursion P (cond b (x ∷ ys) ys)
kept_all P x ys true px all = (px, all)
kept_all P x ys false px all = all

pub all-filter : {X : Type 0} (P : X → Type 0) (q : X → Bool) (xs : List X) → AllByRecursion P xs → AllByRecursion P (filter q xs)
all-filter P q [] all = tt
all-filter P q (x ∷ xs) all = kept_all P x (filter q xs) (q x) all.0 (all-filter P q xs all.1)

pub ascend-append : (n : ℕ) (xs ys : List ℕ) → Ascend xs → Ascend ys → AllByRecursion (λ x. x < n) xs → AllByRecursion (λ y. n ≤ y) ys → Ascend (xs ++ ys)
ascend-append n [] ys first second low high = second
ascend-append n (x ∷ xs) ys first second low high =
    (all-append (λ m. x < m) xs ys first.0 (all-weaker (λ y. n ≤ y) (λ y. x < y) (λ y h. omega (arith, h, low.0)) ys high), ascend-append n xs ys first.1 second low.1 high)

kept_ascend : {X : Type 0} (f : X → ℕ) (x : X) (ys : List X) (b : Bool) → AllByRecursion (λ m. f x < m) (map f ys) → Ascend (map f ys) → Ascend (map f (cond b (x ∷ ys) ys))
kept_ascend f x ys true all ascend = (all, ascend)
kept_ascend f x ys false all ascend = ascend

pub ascend-filter : {X : Type 0} (f : X → ℕ) (q : X → Bool) (xs : List X) → Ascend (map f xs) → Ascend (map f (filter q xs))
ascend-filter f q [] ascend = tt
ascend-filter f q (x ∷ xs) ascend =
    kept_ascend f x (filter q xs) (q x)
    (all-map (λ m. f x < m) f (filter q xs) (all-filter (λ y. f x < f y) q xs (all-unmap (λ m. f x < m) f xs ascend.0)))
    (ascend-filter f q xs ascend.1)

-- what is found has the number that is asked for
pub number_is : {X : Type 0} (f : X → ℕ) (n : ℕ) (xs : List X) (x : X) → find (λ y. f y == n) xs ≡ Some x → f x ≡ n
number_is f n xs x found = eqb-true (f x) n (find_passes (λ y. f y == n) xs x found)

found_holds : {X : Type 0} (P : X → Type 0) (x y : X) (b : Bool) (r : Option X) → P x → (r ≡ Some y → P y) → cond b (Some x) r ≡ Some y → P y
found_holds P x y true r px rest found = subst P (same_Some x y found) px
found_holds P x y false r px rest found = rest found

-- what is found is among the elements
pub all_found : {X : Type 0} (P : X → Type 0) (p : X → Bool) (xs : List X) (y : X) → AllByRecursion P xs → find p xs ≡ Some y → P y
all_found P p [] y all found = absurd (none-some y found)
all_found P p (x ∷ xs) y all found = found_holds P x y (p x) (find p xs) all.0 (all_found P p xs y all.1) found

still : {X : Type 0} (f : X → ℕ) (x y : X) (n : ℕ) (r : Option X) → f x < f y → f y ≡ n → r ≡ Some y → cond (f x == n) (Some x) r ≡ Some y
still f x y n r less is found = rw (ne_eqb (f x) n (λ same. omega (arith, less, is, same))) found

-- In order, what holds of all that is found holds of all.
pub listed : {X : Type 0} (f : X → ℕ) (P : X → Type 0) (xs : List X) → Ascend (map f xs) → ((n : ℕ) (x : X) → find (λ y. f y == n) xs ≡ Some x → P x) → AllByRecursion P xs
listed f P [] ascend holds = tt
listed f P (x ∷ xs) ascend holds = (
  holds (f x) x (rw (eq-eqb (f x) (f x) refl) refl),
  listed f P xs ascend.1 (λ n y found. holds n y (still f x y n (find (λ z. f z == n) xs) (all_found (λ z. f x < f z) (λ z. f z == n) xs y (all-unmap (λ m. f x < m) f xs ascend.0) found) (number_is f n xs y found) found)),
)

nothing : {X : Type 0} (f : X → ℕ) (n : ℕ) (xs : List X) (o : Option X) → find (λ y. f y == n) xs ≡ o → AllByRecursion (λ x. n < f x) xs → o ≡ None
nothing f n xs None found all = refl
nothing f n xs (Some x) found all = absurd (less_itself (all_found (λ y. n < f y) (λ y. f y == n) xs x all found) (number_is f n xs x found))
  where
    less_itself : n < f x → f x ≡ n → ⊥
    less_itself less same = omega (arith, less, same)

-- nothing is found below all numbers
pub none_below : {X : Type 0} (f : X → ℕ) (n : ℕ) (xs : List X) → AllByRecursion (λ x. n < f x) xs → find (λ y. f y == n) xs ≡ None
none_below f n xs all = nothing f n xs (find (λ y. f y == n) xs) refl all

-- With one element more, behind those of lesser numbers.
abbrev placed_by : {X : Type 0} → (X → ℕ) → X → List X → List X
placed_by f x xs = filter (λ y. nat_lt (f y) (f x)) xs ++ x ∷ filter (λ y. not (nat_lt (f y) (f x))) xs

pub passes_all : {X : Type 0} (q : X → Bool) (xs : List X) → AllByRecursion (λ x. q x ≡ true) (filter q xs)
passes_all q [] = tt
passes_all q (x ∷ xs) = passes_one (q x) refl (passes_all q xs)
  where
    passes_one : (b : Bool) → q x ≡ b → AllByRecursion (λ x. q x ≡ true) (filter q xs) → AllByRecursion (λ x. q x ≡ true) (cond b (x ∷ filter q xs) (filter q xs))
    passes_one true e all = (e, all)
    passes_one false e all = all

all_both : {X : Type 0} (P Q R : X → Type 0) → ((x : X) → P x → Q x → R x) → (xs : List X) → AllByRecursion P xs → AllByRecursion Q xs → AllByRecursion R xs
all_both P Q R h [] p q = tt
all_both P Q R h (x ∷ xs) p q = (h x p.0 q.0, all_both P Q R h xs p.1 q.1)

differs : {X : Type 0} (f : X → ℕ) (n : ℕ) (xs : List X) → find (λ y. f y == n) xs ≡ None → AllByRecursion (λ x. (f x == n) ≡ false) xs
differs f n [] none = tt
differs f n (x ∷ xs) none = one (f x == n) refl none (differs f n xs)
  where
    one : (b : Bool) → (f x == n) ≡ b → cond b (Some x) (find (λ y. f y == n) xs) ≡ None → (find (λ y. f y == n) xs ≡ None → AllByRecursion (λ y. (f y == n) ≡ false) xs) → AllByRecursion (λ y. (f y == n) ≡ false) (x ∷ xs)
    one true e gone rest = absurd (none-some x (sym gone))
    one false e gone rest = (e, rest gone)

pub ascend-placed : {X : Type 0} (f : X → ℕ) (x : X) (xs : List X) → Ascend (map f xs) → find (λ y. f y == f x) xs ≡ None → Ascend (map f (placed_by f x xs))
ascend-placed f x xs ascend none =
    subst Ascend (sym (map-append f (filter (λ y. nat_lt (f y) (f x)) xs) (x ∷ filter (λ y. not (nat_lt (f y) (f x))) xs)))
    (ascend-append (f x) (map f (filter (λ y. nat_lt (f y) (f x)) xs)) (f x ∷ map f (filter (λ y. not (nat_lt (f y) (f x))) xs))
    (ascend-filter f (λ y. nat_lt (f y) (f x)) xs ascend) (
      all-map (λ m. f x < m) f (filter (λ y. not (nat_lt (f y) (f x))) xs)
          (all_both (λ y. not (nat_lt (f y) (f x)) ≡ true) (λ y. (f y == f x) ≡ false) (λ y. f x < f y)
          (λ y high other. more y (ltb-false (f y) (f x) (not-true (nat_lt (f y) (f x)) high)) (eqb-false (f y) (f x) other))
          (filter (λ y. not (nat_lt (f y) (f x))) xs) (passes_all (λ y. not (nat_lt (f y) (f x))) xs) (all-filter (λ y. (f y == f x) ≡ false) (λ y. not (nat_lt (f y) (f x))) xs (differs f (f x) xs none))),
      ascend-filter f (λ y. not (nat_lt (f y) (f x))) xs ascend,
    )
    (all-map (λ m. m < f x) f (filter (λ y. nat_lt (f y) (f x)) xs) (all-weaker (λ y. nat_lt (f y) (f x) ≡ true) (λ y. f y < f x) (λ y e. ltb-true (f y) (f x) e) (filter (λ y. nat_lt (f y) (f x)) xs) (passes_all (λ y. nat_lt (f y) (f x)) xs))) (
      omega arith,
      all-map (λ m. f x ≤ m) f (filter (λ y. not (nat_lt (f y) (f x))) xs)
          (all-weaker (λ y. not (nat_lt (f y) (f x)) ≡ true) (λ y. f x ≤ f y) (λ y e. ltb-false (f y) (f x) (not-true (nat_lt (f y) (f x)) e)) (filter (λ y. not (nat_lt (f y) (f x))) xs) (passes_all (λ y. not (nat_lt (f y) (f x))) xs)),
    ))
  where
    more : (y : _) → f x ≤ f y → (f y ≡ f x → ⊥) → f x < f y
    more y le ne = ⊎_elim (λ same. absurd (ne same)) (λ other. ⊎_elim (λ less. omega (arith, less, le)) (λ greater. greater) other) (cases_order (f y) (f x))
