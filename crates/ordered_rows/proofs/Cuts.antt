-- Lists whose elements pass a test up to a place, and fail it from there on.
use Rattle.std.proofs.Common.{◌≡◌, ℕ, ◌<◌, ◌≤◌, suc, zero, Bool, true, false, not, cond, List, [], ◌∷◌, ◌++◌, length, take, drop, get_or, refl, sym, ap, ◌∙◌, arith}
use mathlib.Core.Bool.{true≢false}
use Rattle.std.proofs.lemmas.List.{append-nil}
use Rattle.std.proofs.lemmas.List.Elements.{filter-append}
use Rattle.std.specs.List.{filter}
use Rattle.std.specs.List.Sorted.{IsPartitionedBy}

module _ {X : Type 0} (p : X → Bool) where
  -- each answers b
  abbrev pub AllAre : Bool → List X → Type 0
  AllAre b [] = Unit {0}
  AllAre b (x ∷ xs) = (p x ≡ b) × AllAre b xs

  -- behind one that fails, all fail
  abbrev pub Falls : List X → Type 0
  Falls [] = Unit {0}
  Falls (x ∷ xs) = (p x ≡ false → AllAre false xs) × Falls xs

  pub AllAre-append : (b : Bool) (xs ys : List X) → AllAre b xs → AllAre b ys → AllAre b (xs ++ ys)
  AllAre-append b [] ys h g = g
  AllAre-append b (x ∷ xs) ys h g = (h.0, AllAre-append b xs ys h.1 g)

  pub AllAre-left : (b : Bool) (xs ys : List X) → AllAre b (xs ++ ys) → AllAre b xs
  AllAre-left b [] ys h = tt
  AllAre-left b (x ∷ xs) ys h = (h.0, AllAre-left b xs ys h.1)

  pub AllAre-right : (b : Bool) (xs ys : List X) → AllAre b (xs ++ ys) → AllAre b ys
  AllAre-right b [] ys h = h
  AllAre-right b (x ∷ xs) ys h = AllAre-right b xs ys h.1

  pub AllAre-at : (b : Bool) (xs : List X) (k : ℕ) (d : X) → k < length xs → AllAre b xs → p (get_or xs k d) ≡ b
  AllAre-at b [] k d lt h = absurd (omega arith)
  AllAre-at b (x ∷ xs) zero d lt h = h.0
  AllAre-at b (x ∷ xs) (suc k) d lt h = AllAre-at b xs k d (omega arith) h.1

  pub Falls-left : (xs ys : List X) → Falls (xs ++ ys) → Falls xs
  Falls-left [] ys f = tt
  Falls-left (x ∷ xs) ys f = (λ e. AllAre-left false xs ys (f.0 e), Falls-left xs ys f.1)

  pub Falls-right : (xs ys : List X) → Falls (xs ++ ys) → Falls ys
  Falls-right [] ys f = f
  Falls-right (x ∷ xs) ys f = Falls-right xs ys f.1

  -- before one that passes, all pass
  pub passes_before : (xs : List X) (y : X) (ys : List X) → Falls (xs ++ y ∷ ys) → p y ≡ true → AllAre true xs
  passes_before [] y ys f e = tt
  passes_before (x ∷ xs) y ys f e = (by (p x) refl, passes_before xs y ys f.1 e)
    where
      by : (b : Bool) → p x ≡ b → p x ≡ true
      by true q = q
      by false q = absurd (true≢false (sym e ∙ (AllAre-right false xs (y ∷ ys) (f.0 q)).0))

  pub fails_behind : (xs : List X) (y : X) (ys : List X) → Falls (xs ++ y ∷ ys) → p y ≡ false → AllAre false ys
  fails_behind xs y ys f e = (Falls-right xs (y ∷ ys) f).0 e

  -- what `partition_point` asks
  pub partitioned : (xs : List X) → Falls xs → IsPartitionedBy p xs
  partitioned [] f i j d le lt e = absurd (omega arith)
  partitioned (x ∷ xs) f zero zero d le lt e = e
  partitioned (x ∷ xs) f zero (suc j) d le lt e = by (p x) refl
    where
      by : (b : Bool) → p x ≡ b → p x ≡ true
      by true q = q
      by false q = absurd (true≢false (sym e ∙ AllAre-at false xs j d (omega arith) (f.0 q)))
  partitioned (x ∷ xs) f (suc i) zero d le lt e = absurd (omega arith)
  partitioned (x ∷ xs) f (suc i) (suc j) d le lt e = partitioned xs f.1 i j d (omega arith) (omega arith) e

  pub AllAre-take : (b : Bool) (xs : List X) (n : ℕ) → ((k : ℕ) (d : X) → k < n → p (get_or xs k d) ≡ b) → n ≤ length xs → AllAre b (take n xs)
  AllAre-take b xs zero h le = tt
  AllAre-take b [] (suc n) h le = tt
  AllAre-take b (x ∷ xs) (suc n) h le = (h 0 x (omega arith), AllAre-take b xs n (λ k d lt. h (suc k) d (omega arith)) (omega arith))

  pub AllAre-drop : (b : Bool) (xs : List X) (n : ℕ) → ((k : ℕ) (d : X) → n ≤ k → k < length xs → p (get_or xs k d) ≡ b) → AllAre b (drop n xs)
  AllAre-drop b [] zero h = tt
  AllAre-drop b [] (suc n) h = tt
  AllAre-drop b (x ∷ xs) zero h = (h 0 x (omega arith) (omega arith), AllAre-drop b xs zero (λ k d le lt. h (suc k) d (omega arith) (omega arith)))
  AllAre-drop b (x ∷ xs) (suc n) h = AllAre-drop b xs n (λ k d le lt. h (suc k) d (omega arith) (omega arith))

  -- what a filter leaves where all pass and where all fail
  pub filter-passing : (xs : List X) → AllAre true xs → filter p xs ≡ xs
  filter-passing [] h = refl
  filter-passing (x ∷ xs) h = ap (λ b. cond b (x ∷ filter p xs) (filter p xs)) h.0 ∙ ap (λ l. x ∷ l) (filter-passing xs h.1)

  pub filter-failing : (xs : List X) → AllAre false xs → filter p xs ≡ []
  filter-failing [] h = refl
  filter-failing (x ∷ xs) h = ap (λ b. cond b (x ∷ filter p xs) (filter p xs)) h.0 ∙ filter-failing xs h.1

  pub filter-AllAre : (b : Bool) (q : X → Bool) (xs : List X) → AllAre b xs → AllAre b (filter q xs)
  filter-AllAre b q [] h = tt
  filter-AllAre b q (x ∷ xs) h = by (q x) (filter-AllAre b q xs h.1)
    where
      by : (c : Bool) → AllAre b (filter q xs) → AllAre b (cond c (x ∷ filter q xs) (filter q xs))
      by true rest = (h.0, rest)
      by false rest = rest

pub AllAre-not : {X : Type 0} (p : X → Bool) (b : Bool) (xs : List X) → AllAre p b xs → AllAre (λ x. not (p x)) (not b) xs
AllAre-not p b [] h = tt
AllAre-not p b (x ∷ xs) h = (ap not h.0, AllAre-not p b xs h.1)

pub not-false : (b : Bool) → not b ≡ true → b ≡ false
not-false true e = sym e
not-false false e = refl

pub AllAre-back : {X : Type 0} (p : X → Bool) (xs : List X) → AllAre (λ x. not (p x)) true xs → AllAre p false xs
AllAre-back p [] h = tt
AllAre-back p (x ∷ xs) h = (not-false (p x) h.0, AllAre-back p xs h.1)

pub filter-keeps : {X : Type 0} (p : X → Bool) (xs : List X) → AllAre p true (filter p xs)
filter-keeps p [] = tt
filter-keeps p (x ∷ xs) = by (p x) refl (filter-keeps p xs)
  where
    by : (c : Bool) → p x ≡ c → AllAre p true (filter p xs) → AllAre p true (cond c (x ∷ filter p xs) (filter p xs))
    by true e rest = (e, rest)
    by false e rest = rest

-- front and back are what the test keeps and what it drops
pub record IsCut {X : Type 0} (p : X → Bool) (xs front back : List X) : Type 0 where
  pub keeps : front ≡ filter p xs
  pub drops : back ≡ filter (λ x. not (p x)) xs
  pub whole : xs ≡ front ++ back

pub cut : {X : Type 0} (p : X → Bool) (xs front back : List X) → xs ≡ front ++ back → AllAre p true front → AllAre p false back → IsCut p xs front back
cut {X = X} p xs front back e pass fail = record {
  keeps = sym (ap (filter p) e ∙ filter-append p front back ∙ ap (λ l. l ++ filter p back) (filter-passing p front pass) ∙ ap (λ l. front ++ l) (filter-failing p back fail) ∙ append-nil front);
  drops = let q : X → Bool = λ x. not (p x) in
      sym (ap (filter q) e ∙ filter-append q front back ∙ ap (λ l. l ++ filter q back) (filter-failing q front (AllAre-not p true front pass)) ∙ filter-passing q back (AllAre-not p false back fail));
  whole = e;
}

-- a list that falls is what the test keeps and then what it drops
pub falls_cut : {X : Type 0} (p : X → Bool) (xs : List X) → Falls p xs → xs ≡ filter p xs ++ filter (λ x. not (p x)) xs
falls_cut p [] f = refl
falls_cut p (x ∷ xs) f = by (p x) refl (falls_cut p xs f.1)
  where
    by : (b : Bool) → p x ≡ b → xs ≡ filter p xs ++ filter (λ y. not (p y)) xs
        → x ∷ xs ≡ cond b (x ∷ filter p xs) (filter p xs) ++ cond (not b) (x ∷ filter (λ y. not (p y)) xs) (filter (λ y. not (p y)) xs)
    by true e rest = ap (λ l. x ∷ l) rest
    by false e rest =
        let none : filter p xs ≡ [] = filter-failing p xs (f.0 e) in
        ap (λ l. x ∷ l) (rest ∙ ap (λ l. l ++ filter (λ y. not (p y)) xs) none) ∙ ap (λ l. l ++ x ∷ filter (λ y. not (p y)) xs) (sym none)
