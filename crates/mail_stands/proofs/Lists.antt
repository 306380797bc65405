-- Lists, and what is found in them.
use Rattle.std.proofs.Common.{ℕ, zero, suc, ◌≡◌, ◌+◌, ◌<◌, ◌==◌, Bool, true, false, cond, List, [], ◌∷◌, ◌++◌, map, Option, Some, None, refl, subst, arith}
use Rattle.std.specs.List.{find, filter, AllByRecursion, range_with_len}
use Rattle.std.specs.Option.{option_map, is_some}
use Rattle.std.proofs.lemmas.Bool.{true≢false, eqb-true, eq-eqb, ne_eqb}
use Rattle.std.proofs.lemmas.Option.{none-some, same_Some}
use Rattle.ordered_rows.specs.RowKey.{RowKey}
use Rattle.ordered_rows.specs.Listed.{has_key, with_row, with_replaced}
use Rattle.mail_world.specs.Legal.{Ascend}

-- ---- what holds of all

pub all-weaker : {X : Type 0} (P Q : X → Type 0) → ((x : X) → P x → Q x) → (xs : List X) → AllByRecursion P xs → AllByRecursion Q xs
all-weaker P Q h [] all = tt
all-weaker P Q h (x ∷ xs) all = (h x all.0, all-weaker P Q h xs all.1)

pub all_both : {X : Type 0} (P Q R : X → Type 0) → ((x : X) → P x → Q x → R x) → (xs : List X) → AllByRecursion P xs → AllByRecursion Q xs → AllByRecursion R xs
all_both P Q R h [] p q = tt
all_both P Q R h (x ∷ xs) p q = (h x p.0 q.0, all_both P Q R h xs p.1 q.1)

pub all-map : {X Y : Type 0} (P : Y → Type 0) (f : X → Y) (xs : List X) → AllByRecursion (λ x. P (f x)) xs → AllByRecursion P (map f xs)
all-map P f [] all = tt
all-map P f (x ∷ xs) all = (all.0, all-map P f xs all.1)

pub all-unmap : {X Y : Type 0} (P : Y → Type 0) (f : X → Y) (xs : List X) → AllByRecursion P (map f xs) → AllByRecursion (λ x. P (f x)) xs
all-unmap P f [] all = tt
all-unmap P f (x ∷ xs) all = (all.0, all-unmap P f xs all.1)

pub all-append : {X : Type 0} (P : X → Type 0) → (xs ys : List X) → AllByRecursion P xs → AllByRecursion P ys → AllByRecursion P (xs ++ ys)
all-append P [] ys all more = more
all-append P (x ∷ xs) ys all more = (all.0, all-append P xs ys all.1 more)

kept_all : {X : Type 0} (P : X → Type 0) (x : X) (ys : List X) (b : Bool) → P x → AllByRecursion P ys → AllByRecursion P (cond b (x ∷ ys) ys)
kept_all P x ys true px all = (px, all)
kept_all P x ys false px all = all

pub all-filter : {X : Type 0} (P : X → Type 0) (q : X → Bool) (xs : List X) → AllByRecursion P xs → AllByRecursion P (filter q xs)
all-filter P q [] all = tt
all-filter P q (x ∷ xs) all = kept_all P x (filter q xs) (q x) all.0 (all-filter P q xs all.1)

-- with a row more, and with one in the place of another
pub all-with : {X : Type 0} (key : X → RowKey) (P : X → Type 0) (row : X) (rows : List X) → AllByRecursion P rows → P row → AllByRecursion P (with_row key row rows)
all-with key P row rows all p = all-append P (filter _ rows) (row ∷ filter _ rows) (all-filter P _ rows all) (p, all-filter P _ rows all)

pub all-replaced : {X : Type 0} (key : X → RowKey) (P : X → Type 0) (row : X) (rows : List X) → AllByRecursion P rows → P row → AllByRecursion P (with_replaced key row rows)
all-replaced key P row [] all p = tt
all-replaced {X} key P row (x ∷ xs) all p = (by (has_key key (key row) x), all-replaced key P row xs all.1 p)
  where
    by : (b : Bool) → P (cond b row x)
    by true = p
    by false = all.0

pub none_passes : {X : Type 0} (p : X → Bool) (xs : List X) → AllByRecursion (λ x. p x ≡ false) xs → find p xs ≡ None
none_passes p [] all = refl
none_passes p (x ∷ xs) all = rw all.0 (none_passes p xs all.1)

-- ---- what is found

mapped_one : {X Y : Type 0} (f : X → Y) (x : X) (b : Bool) (r : Option Y) (s : Option X) → r ≡ option_map f s → cond b (Some (f x)) r ≡ option_map f (cond b (Some x) s)
mapped_one f x true r s e = refl
mapped_one f x false r s e = e

-- among what comes of a list, where the tests agree
pub find-map : {X Y : Type 0} (p : Y → Bool) (q : X → Bool) (f : X → Y) → ((x : X) → p (f x) ≡ q x) → (xs : List X) → find p (map f xs) ≡ option_map f (find q xs)
find-map p q f same [] = refl
find-map p q f same (x ∷ xs) = rw (same x) (mapped_one f x (q x) (find p (map f xs)) (find q xs) (find-map p q f same xs))

found_here : {X : Type 0} (p : X → Bool) (x y : X) (b : Bool) (r : Option X) → p x ≡ b → (r ≡ Some y → p y ≡ true) → cond b (Some x) r ≡ Some y → p y ≡ true
found_here p x y true r e h found = subst (λ z. p z ≡ true) (same_Some x y found) e
found_here p x y false r e h found = h found

pub find_passes : {X : Type 0} (p : X → Bool) (xs : List X) (y : X) → find p xs ≡ Some y → p y ≡ true
find_passes p [] y found = absurd (none-some y found)
find_passes p (x ∷ xs) y found = found_here p x y (p x) (find p xs) refl (find_passes p xs y) found

-- what is found has the number that is asked for
pub number_is : {X : Type 0} (f : X → ℕ) (n : ℕ) (xs : List X) (x : X) → find (λ y. f y == n) xs ≡ Some x → f x ≡ n
number_is f n xs x found = eqb-true (f x) n (find_passes (λ y. f y == n) xs x found)

found_holds : {X : Type 0} (P : X → Type 0) (x y : X) (b : Bool) (r : Option X) → P x → (r ≡ Some y → P y) → cond b (Some x) r ≡ Some y → P y
found_holds P x y true r px rest found = subst P (same_Some x y found) px
found_holds P x y false r px rest found = rest found

-- what is found is among the elements
pub all_found : {X : Type 0} (P : X → Type 0) (p : X → Bool) (xs : List X) (y : X) → AllByRecursion P xs → find p xs ≡ Some y → P y
all_found P p [] y all found = absurd (none-some y found)
all_found P p (x ∷ xs) y all found = found_holds P x y (p x) (find p xs) all.0 (all_found P p xs y all.1) found

still : {X : Type 0} (f : X → ℕ) (x y : X) (n : ℕ) (r : Option X) → f x < f y → f y ≡ n → r ≡ Some y → cond (f x == n) (Some x) r ≡ Some y
still f x y n r less is found = rw (ne_eqb (f x) n (λ same. omega (arith, less, is, same))) found

-- In order, what holds of all that is found holds of all.
pub listed : {X : Type 0} (f : X → ℕ) (P : X → Type 0) (xs : List X) → Ascend (map f xs) → ((n : ℕ) (x : X) → find (λ y. f y == n) xs ≡ Some x → P x) → AllByRecursion P xs
listed f P [] ascend holds = tt
listed f P (x ∷ xs) ascend holds = (
  holds (f x) x (rw (eq-eqb (f x) (f x) refl) refl),
  listed f P xs ascend.1 (λ n y found. holds n y (still f x y n (find (λ z. f z == n) xs) (all_found (λ z. f x < f z) (λ z. f z == n) xs y (all-unmap (λ m. f x < m) f xs ascend.0) found) (number_is f n xs y found) found)),
)

-- ---- numbers

pub range_below : (a n : ℕ) → AllByRecursion (λ k. k < a + n) (range_with_len a n)
range_below a zero = tt
range_below a (suc n) = (omega arith, subst (λ top. AllByRecursion (λ k. k < top) (range_with_len (a + 1) n)) (omega arith) (range_below (a + 1) n))

-- ---- options

pub some_map : {X Y : Type 0} (f : X → Y) (o : Option X) → is_some (option_map f o) ≡ is_some o
some_map f None = refl
some_map f (Some x) = refl

pub none_there : {X : Type 0} (o : Option X) → is_some o ≡ false → o ≡ None
none_there None e = refl
none_there (Some x) e = absurd (true≢false e)
