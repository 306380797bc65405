-- Numbers that ascend.
use Rattle.std.proofs.Common.{◌≡◌, ℕ, ◌+◌, ◌<◌, ◌≤◌, ◌^◌, Bool, true, false, cond, List, [], ◌∷◌, ◌++◌, length, get_or, take, drop, add-one, append_assoc, refl, sym, ap, subst, ◌∙◌, arith, inl, inr, zero, suc}
use Rattle.std.specs.Prelude.{All, Option, ◌==◌, nat_lt}
use Rattle.std.specs.List.{AllByRecursion, list_any}
use Rattle.std.specs.List.Sorted.{IsStrictlySortedBy}
use Rattle.std.specs.Ordering.{nat_cmp}
use Rattle.std.specs.Cmp.{nat_cmp_is}
use Rattle.std.specs.declared.cmp.Ordering.TheVariants.{Less}
use Rattle.std.proofs.Math.Seq.{drop-cons}
use Rattle.std.proofs.lemmas.Bool.{ltb-true, lt-ltb, le-ltb, cases_lt, eq-eqb, ne_eqb}
use Rattle.std.proofs.lemmas.Cmp.{nat_cmp_total}
use Rattle.std.proofs.lemmas.List.{take_more, append-nil, get_or_default}
use Rattle.std.proofs.lemmas.List.Folds.{list_any_at, list_any_none}
use Rattle.std.proofs.lemmas.List.Kept.{IsStrictlySortedBy-filter}
use Rattle.std.proofs.lemmas.Map.Keys.{sorted_tail}
use Rattle.std.proofs.lemmas.Map.Views.{length-le_from_below}
use Rattle.session_view.specs.Order.{Ascend, rising}
use Rattle.session_view.specs.Resolving.{greatest, is_in, numbered, resolved}

-- ---- the front that ascends

all_above : (last n : ℕ) (ns : List ℕ) → nat_cmp last n ≡ Less → AllByRecursion (λ y. nat_cmp n y ≡ Less) ns → AllByRecursion (λ y. nat_cmp last y ≡ Less) ns
all_above last n [] less all = tt
all_above last n (x ∷ ns) less all = (nat_cmp_total.trans last n x less all.0, all_above last n ns less all.1)

pub rising_ascends : (last : ℕ) (ns : List ℕ) → Ascend (last ∷ rising last ns)
unfolding IsStrictlySortedBy
rising_ascends last [] = (tt, tt)
rising_ascends last (n ∷ ns) = by (nat_lt last n) refl (rising_ascends n ns)
  where
    by : (b : Bool) → nat_lt last n ≡ b → Ascend (n ∷ rising n ns) → Ascend (last ∷ cond b (n ∷ rising n ns) [])
    by true is rest = let less : nat_cmp last n ≡ Less = sym (nat_cmp_is last n Less (ltb-true last n is)) in ((less, all_above last n (rising n ns) less rest.0), rest)
    by false is rest = (tt, tt)

-- one more number that ascends
pub rising_more : (ns : List ℕ) (place last n : ℕ) → place < length ns → get_or ns place 0 ≡ n → last < n → rising 0 ns ≡ take place ns ++ rising last (drop place ns)
    → rising 0 ns ≡ take (place + 1) ns ++ rising n (drop (place + 1) ns)
rising_more ns place last n lt is less so_far =
    let rest = drop (place + 1) ns in
    let here : drop place ns ≡ n ∷ rest = drop-cons ns place 0 lt ∙ ap (λ x. x ∷ drop (suc place) ns) is ∙ ap (λ k. n ∷ drop k ns) (sym (add-one place)) in
    let taken : take (place + 1) ns ≡ take place ns ++ n ∷ [] = take_more ns place 0 lt ∙ ap (λ x. take place ns ++ x ∷ []) is in
    so_far ∙ ap (λ l. take place ns ++ rising last l) here ∙ ap (λ b. take place ns ++ cond b (n ∷ rising n rest) []) (lt-ltb last n less)
    ∙ sym (append_assoc (take place ns) (n ∷ []) (rising n rest)) ∙ ap (λ l. l ++ rising n rest) (sym taken)

-- one that doesn't
pub rising_stops : (ns : List ℕ) (place last n : ℕ) → place < length ns → get_or ns place 0 ≡ n → n ≤ last → rising 0 ns ≡ take place ns ++ rising last (drop place ns) → take place ns ≡ rising 0 ns
rising_stops ns place last n lt is below so_far =
    let rest = drop (suc place) ns in
    let here : drop place ns ≡ n ∷ rest = drop-cons ns place 0 lt ∙ ap (λ x. x ∷ rest) is in
    sym (so_far ∙ ap (λ l. take place ns ++ rising last l) here ∙ ap (λ b. take place ns ++ cond b (n ∷ rising n rest) []) (le-ltb last n below) ∙ append-nil (take place ns))

-- ---- what ascends from 1 on

pub few : (uids : List ℕ) → Ascend (0 ∷ uids) → ((k : ℕ) → get_or uids k 0 < 2 ^ 32) → length uids < 2 ^ 32
few uids up fit = let most = length-le_from_below (2 ^ 32) (0 ∷ uids) up below in omega (arith, most)
  where
    below : All (λ x. x < 2 ^ 32) (0 ∷ uids)
    below zero d lt = omega arith
    below (suc k) d lt = let same = get_or_default uids k d 0 (omega arith) in omega (arith, fit k, same)

pub is_among : (uid place : ℕ) (uids : List ℕ) → place < length uids → get_or uids place 0 ≡ uid → true ≡ list_any (λ other. other == uid) uids
is_among uid place uids lt is = sym (list_any_at (λ other. other == uid) uids place 0 lt (eq-eqb (get_or uids place 0) uid is))

pub not_among : (uid place : ℕ) (uids : List ℕ) → ((k : ℕ) → k < place → get_or uids k 0 < uid) → ((k : ℕ) → place ≤ k → k < length uids → uid < get_or uids k 0) → false ≡ list_any (λ other. other == uid) uids
not_among uid place uids below above =
    sym (list_any_none (λ other. other == uid) uids (λ k e lt. ne_eqb (get_or uids k e) uid (λ same. elim (cases_lt k place) [
      | inl a ↦ omega (arith, below k a, get_or_default uids k e 0 lt, same)
      | inr a ↦ omega (arith, above k a lt, get_or_default uids k e 0 lt, same)
    ])))

-- ---- what is selected ascends

above_numbered : (x : ℕ) (p : ℕ → Bool) (first : ℕ) (uids : List ℕ) → AllByRecursion (λ y. nat_cmp x y ≡ Less) uids → AllByRecursion (λ y. nat_cmp x y ≡ Less) (numbered p first uids)
above_numbered x p first [] all = tt
above_numbered x p first (uid ∷ uids) all = by (p first) (above_numbered x p (first + 1) uids all.1)
  where
    by : (b : Bool) → AllByRecursion (λ y. nat_cmp x y ≡ Less) (numbered p (first + 1) uids) → AllByRecursion (λ y. nat_cmp x y ≡ Less) (cond b (uid ∷ numbered p (first + 1) uids) (numbered p (first + 1) uids))
    by true rest = (all.0, rest)
    by false rest = rest

numbered_ascends : (p : ℕ → Bool) (first : ℕ) (uids : List ℕ) → Ascend uids → Ascend (numbered p first uids)
unfolding IsStrictlySortedBy
numbered_ascends p first [] up = tt
numbered_ascends p first (uid ∷ uids) up = by (p first) (above_numbered uid p (first + 1) uids up.0) (numbered_ascends p (first + 1) uids up.1)
  where
    by : (b : Bool) → AllByRecursion (λ y. nat_cmp uid y ≡ Less) (numbered p (first + 1) uids) → Ascend (numbered p (first + 1) uids) → Ascend (cond b (uid ∷ numbered p (first + 1) uids) (numbered p (first + 1) uids))
    by true above rest = (above, rest)
    by false above rest = rest

pub resolved_ascends : (uids : List ℕ) (ranges : List (Option ℕ × Option ℕ)) (by_uid : Bool) → Ascend uids → Ascend (resolved uids ranges by_uid)
resolved_ascends uids ranges true up = IsStrictlySortedBy-filter nat_cmp (is_in (greatest uids) ranges) uids up
resolved_ascends uids ranges false up = numbered_ascends (is_in (length uids) ranges) 1 uids up
