-- The order of names by their bytes.
use Rattle.std.proofs.Common.{ℕ, ◌≡◌, ◌+◌, ◌<◌, Bool, true, false, cond, List, [], ◌∷◌, ◌++◌, length, Some, refl, sym, ap, ◌∙◌, arith}
use Rattle.std.specs.Prelude.{◌&&◌, nat_eq}
use Rattle.std.specs.List.{filter, find, starts_with}
use Rattle.std.specs.Ordering.{is_lt, is_eq, nat_cmp, ordering_then, ordering_reverse}
use Rattle.std.specs.declared.cmp.Ordering.{Ordering}
use Rattle.std.specs.declared.cmp.Ordering.TheVariants.{Less, Equal, Greater}
use Rattle.std.specs.Cmp.{tied_itself, nat_cmp_total}
use Rattle.std.specs.Cmp.Lexicographic.{bytes_decides, nat_list_cmp_total, slice_cmp}
use Rattle.std.proofs.lemmas.Bool.{true≢false, false≢true, eq-eqb}
use Rattle.std.proofs.lemmas.Cmp.{ranked}
use Rattle.std.proofs.lemmas.Option.{none-some, same_Some}
use Rattle.std.proofs.lemmas.Map.Text.{is_eq-slice_cmp}

abbrev order : List ℕ → List ℕ → Ordering
order = slice_cmp nat_cmp

-- how two names are ordered
pub data InOrder (a b : List ℕ) : Type 0 where
  Below : is_lt (slice_cmp nat_cmp a b) ≡ true → InOrder a b
  Same : a ≡ b → InOrder a b
  Above : is_lt (slice_cmp nat_cmp b a) ≡ true → InOrder a b

pub in_order : (a b : List ℕ) → InOrder a b
in_order a b = by (slice_cmp nat_cmp a b) refl
  where
    by : (o : Ordering) → slice_cmp nat_cmp a b ≡ o → InOrder a b
    by Less e = Below (ap is_lt e)
    by Equal e = Same ((bytes_decides a b).0 (sym (is_eq-slice_cmp a b) ∙ ap is_eq e))
    by Greater e = Above (ap is_lt (nat_list_cmp_total.antisymm b a ∙ ap ordering_reverse e))

pub not_below_itself : (a : List ℕ) → is_lt (slice_cmp nat_cmp a a) ≡ false
not_below_itself a = ap is_lt (tied_itself nat_list_cmp_total a)

less : (o : Ordering) → is_lt o ≡ true → o ≡ Less
less Less e = refl
less Equal e = absurd (false≢true e)
less Greater e = absurd (false≢true e)

pub below_below : (a b c : List ℕ) → is_lt (slice_cmp nat_cmp a b) ≡ true → is_lt (slice_cmp nat_cmp b c) ≡ true → is_lt (slice_cmp nat_cmp a c) ≡ true
below_below a b c e f = ap is_lt (nat_list_cmp_total.trans a b c (less (slice_cmp nat_cmp a b) e) (less (slice_cmp nat_cmp b c) f))

-- a name isn't below one that it begins with
pub not_below_front : (a rest : List ℕ) → is_lt (slice_cmp nat_cmp (a ++ rest) a) ≡ false
not_below_front [] [] = refl
not_below_front [] (x ∷ rest) = refl
not_below_front (x ∷ a) rest = ap (λ o. is_lt (ordering_then o (slice_cmp nat_cmp (a ++ rest) a))) (tied_itself nat_cmp_total x) ∙ not_below_front a rest

-- ---- fewer pass a stronger test that one of them fails

pub no_more : {X : Type 0} (p q : X → Bool) (xs : List X) → ((x : X) → p x ≡ true → q x ≡ true) → length (filter p xs) < length (filter q xs) + 1
no_more p q [] h = omega arith
no_more {X} p q (x ∷ xs) h = by (p x) (q x) refl refl (no_more p q xs h)
  where
    by : (a b : Bool) → p x ≡ a → q x ≡ b → length (filter p xs) < length (filter q xs) + 1 → length (cond a (x ∷ filter p xs) (filter p xs)) < length (cond b (x ∷ filter q xs) (filter q xs)) + 1
    by true true e f rest = omega (arith, rest)
    by true false e f rest = absurd (true≢false (sym (h x e) ∙ f))
    by false true e f rest = omega (arith, rest)
    by false false e f rest = rest

pub fewer : {X : Type 0} (p q g : X → Bool) (y : X) (xs : List X) → ((x : X) → p x ≡ true → q x ≡ true) → find g xs ≡ Some y → q y ≡ true → p y ≡ false → length (filter p xs) < length (filter q xs)
fewer p q g y [] h found passes fails = absurd (none-some y found)
fewer {X} p q g y (x ∷ xs) h found passes fails = by (g x) (p x) (q x) refl refl found (λ later. fewer p q g y xs h later passes fails)
  where
    here : cond true (Some x) (find g xs) ≡ Some y → x ≡ y
    here e = same_Some x y e

    by : (c a b : Bool) → p x ≡ a → q x ≡ b → cond c (Some x) (find g xs) ≡ Some y → (find g xs ≡ Some y → length (filter p xs) < length (filter q xs))
        → length (cond a (x ∷ filter p xs) (filter p xs)) < length (cond b (x ∷ filter q xs) (filter q xs))
    by true true b e f is rest = absurd (true≢false (sym e ∙ (ap p (here is) ∙ fails)))
    by true false true e f is rest = omega (arith, no_more p q xs h)
    by true false false e f is rest = absurd (true≢false (sym passes ∙ (ap q (sym (here is)) ∙ f)))
    by false true true e f is rest = omega (arith, rest is)
    by false true false e f is rest = absurd (true≢false (sym (h x e) ∙ f))
    by false false true e f is rest = omega (arith, rest is)
    by false false false e f is rest = rest is

-- A name above another that doesn't begin with it is above all names that do.
pub above_all : (front name rest : List ℕ) → is_lt (slice_cmp nat_cmp front name) ≡ true → starts_with nat_eq name front ≡ false → is_lt (slice_cmp nat_cmp (front ++ rest) name) ≡ true
above_all [] name rest above begins = absurd (true≢false begins)
above_all (x ∷ front) [] rest above begins = absurd (false≢true above)
above_all (x ∷ front) (y ∷ name) rest above begins = by (nat_cmp x y) refl above (λ more other. above_all front name rest more other)
  where
    same_first : nat_cmp x y ≡ Equal → x ≡ y
    same_first e = ranked x y Equal (sym e)

    by : (o : Ordering) → nat_cmp x y ≡ o → is_lt (ordering_then o (slice_cmp nat_cmp front name)) ≡ true
        → (is_lt (slice_cmp nat_cmp front name) ≡ true → starts_with nat_eq name front ≡ false → is_lt (slice_cmp nat_cmp (front ++ rest) name) ≡ true)
        → is_lt (ordering_then (nat_cmp x y) (slice_cmp nat_cmp (front ++ rest) name)) ≡ true
    by Less e more rec = ap (λ o. is_lt (ordering_then o (slice_cmp nat_cmp (front ++ rest) name))) e
    by Equal e more rec =
        ap (λ o. is_lt (ordering_then o (slice_cmp nat_cmp (front ++ rest) name))) e
        ∙ rec more (other_rest (same_first e))
      where
        other_rest : x ≡ y → starts_with nat_eq name front ≡ false
        other_rest same = sym (ap (λ b. b && starts_with nat_eq name front) (eq-eqb x y same)) ∙ begins
    by Greater e more rec = absurd (false≢true more)
