-- What holds of all rows of a list, after the list or what is said of the rows has changed.
use Rattle.std.proofs.Common.{◌≡◌, Bool, true, false, not, cond, if◌then◌else◌, List, [], ◌∷◌, ◌++◌, Option, Some, None, IsSome, refl, sym, ap, ◌∙◌}
use mathlib.Core.Bool.{true≢false}
use Rattle.std.specs.List.{AllByRecursion, filter, find}
use Rattle.ordered_rows.specs.RowKey.{RowKey}
use Rattle.ordered_rows.specs.Listed.{has_key, with_row, with_replaced}

pub all_map : {X : Type 0} (P Q : X → Type 0) → ((x : X) → P x → Q x) → (xs : List X) → AllByRecursion P xs → AllByRecursion Q xs
all_map P Q f [] h = tt
all_map P Q f (x ∷ xs) h = (f x h.0, all_map P Q f xs h.1)

pub all_filter : {X : Type 0} (P : X → Type 0) (g : X → Bool) (xs : List X) → AllByRecursion P xs → AllByRecursion P (filter g xs)
all_filter P g [] h = tt
all_filter {X} P g (x ∷ xs) h = by (g x) (all_filter P g xs h.1)
  where
    by : (b : Bool) → AllByRecursion P (filter g xs) → AllByRecursion P (cond b (x ∷ filter g xs) (filter g xs))
    by true rest = (h.0, rest)
    by false rest = rest

pub all_append : {X : Type 0} (P : X → Type 0) (xs ys : List X) → AllByRecursion P xs → AllByRecursion P ys → AllByRecursion P (xs ++ ys)
all_append P [] ys h k = k
all_append P (x ∷ xs) ys h k = (h.0, all_append P xs ys h.1 k)

pub all_with : {X : Type 0} (key : X → RowKey) (P : X → Type 0) (row : X) (rows : List X) → AllByRecursion P rows → P row → AllByRecursion P (with_row key row rows)
all_with key P row rows h p = all_append P (filter _ rows) (row ∷ filter _ rows) (all_filter P _ rows h) (p, all_filter P _ rows h)

pub none_pass : {X : Type 0} (P : X → Type 0) (g : X → Bool) → ((x : X) → P x → g x ≡ true → ⊥) → (xs : List X) → AllByRecursion P xs → filter g xs ≡ []
none_pass P g f [] h = refl
none_pass {X} P g f (x ∷ xs) h = by (g x) refl (none_pass P g f xs h.1)
  where
    by : (b : Bool) → g x ≡ b → filter g xs ≡ [] → cond b (x ∷ filter g xs) (filter g xs) ≡ []
    by true e rest = absurd (f x h.0 e)
    by false e rest = rest

pub none_found : {X : Type 0} (P : X → Type 0) (g : X → Bool) → ((x : X) → P x → g x ≡ true → ⊥) → (xs : List X) → AllByRecursion P xs → find g xs ≡ None
none_found P g f [] h = refl
none_found {X} P g f (x ∷ xs) h = by (g x) refl (none_found P g f xs h.1)
  where
    by : (b : Bool) → g x ≡ b → find g xs ≡ None → cond b (Some x) (find g xs) ≡ None
    by true e rest = absurd (f x h.0 e)
    by false e rest = rest

pub not_there : {X : Type 0} (o : Option X) → IsSome o → o ≡ None → ⊥
not_there None h e = true≢false (sym h)
not_there (Some x) h e = cc

-- with one row in the place of another
pub all_replaced : {X : Type 0} (key : X → RowKey) (P : X → Type 0) (row : X) (rows : List X) → AllByRecursion P rows → P row → AllByRecursion P (with_replaced key row rows)
all_replaced key P row [] h p = tt
all_replaced {X} key P row (x ∷ xs) h p = (by (has_key key (key row) x), all_replaced key P row xs h.1 p)
  where
    by : (b : Bool) → P (if b then row else x)
    by true = p
    by false = h.0

-- where a test fails, another thing is known: of those that the test leaves, and of all where none passes
pub all_left : {X : Type 0} (P Q : X → Type 0) (g : X → Bool) → ((x : X) → P x → g x ≡ false → Q x) → (xs : List X) → AllByRecursion P xs → AllByRecursion Q (filter (λ x. not (g x)) xs)
all_left P Q g f [] h = tt
all_left {X} P Q g f (x ∷ xs) h = by (g x) refl (all_left P Q g f xs h.1)
  where
    by : (b : Bool) → g x ≡ b → AllByRecursion Q (filter (λ y. not (g y)) xs) → AllByRecursion Q (cond (not b) (x ∷ filter (λ y. not (g y)) xs) (filter (λ y. not (g y)) xs))
    by true e rest = rest
    by false e rest = (f x h.0 e, rest)

pub all_failing : {X : Type 0} (P Q : X → Type 0) (g : X → Bool) → ((x : X) → P x → g x ≡ false → Q x) → (xs : List X) → AllByRecursion P xs → filter g xs ≡ [] → AllByRecursion Q xs
all_failing P Q g f [] h none = tt
all_failing {X} P Q g f (x ∷ xs) h none = by (g x) refl none (λ e. all_failing P Q g f xs h.1 e)
  where
    by : (b : Bool) → g x ≡ b → cond b (x ∷ filter g xs) (filter g xs) ≡ [] → (filter g xs ≡ [] → AllByRecursion Q xs) → AllByRecursion Q (x ∷ xs)
    by true e some rest = absurd cc
    by false e none rest = (f x h.0 e, rest none)

-- a test that implies another finds the same among those that pass the other
pub find_among : {X : Type 0} (g p : X → Bool) → ((x : X) → g x ≡ true → p x ≡ true) → (xs : List X) → find g (filter p xs) ≡ find g xs
find_among g p sub [] = refl
find_among {X} g p sub (x ∷ xs) = by (g x) (p x) refl refl (find_among g p sub xs)
  where
    by : (a b : Bool) → g x ≡ a → p x ≡ b → find g (filter p xs) ≡ find g xs → find g (cond b (x ∷ filter p xs) (filter p xs)) ≡ cond a (Some x) (find g xs)
    by a true q r rest = ap (λ c. cond c (Some x) (find g (filter p xs))) q ∙ ap (λ o. cond a (Some x) o) rest
    by false false q r rest = rest
    by true false q r rest = absurd (true≢false (sym (sub x q) ∙ r))
