-- The messages of a list that aren't seen, as one after another is looked at.
use Rattle.std.proofs.Common.{ℕ, ◌≡◌, ◌<◌, ◌+◌, Bool, true, false, List, [], ◌∷◌, ◌++◌, length, drop, get_or, refl, sym, ap, subst, ◌∙◌}
use Rattle.std.specs.List.{AllByRecursion, filter}
use Rattle.std.specs.Ordering.{nat_cmp}
use Rattle.std.specs.declared.cmp.Ordering.TheVariants.{Less}
use Rattle.std.specs.List.Sorted.{IsStrictlySortedBy}
use Rattle.std.proofs.lemmas.List.{append_assoc, drop_more}

-- ---- order

all_without : {X : Type 0} (P : X → Type 0) (xs : List X) (y : X) (ys : List X) → AllByRecursion P (xs ++ y ∷ ys) → AllByRecursion P (xs ++ ys)
all_without P [] y ys all = all.1
all_without P (x ∷ xs) y ys all = (all.0, all_without P xs y ys all.1)

sorted_without : (xs : List ℕ) (y : ℕ) (ys : List ℕ) → IsStrictlySortedBy nat_cmp (xs ++ y ∷ ys) → IsStrictlySortedBy nat_cmp (xs ++ ys)
unfolding IsStrictlySortedBy
sorted_without [] y ys h = h.1
sorted_without (x ∷ xs) y ys h = (all_without (λ z. nat_cmp x z ≡ Less) xs y ys h.0, sorted_without xs y ys h.1)

filter_taken : (p : ℕ → Bool) (x : ℕ) (xs : List ℕ) → p x ≡ true → x ∷ filter p xs ≡ filter p (x ∷ xs)
filter_taken p x xs e = rw e refl

filter_passed : (p : ℕ → Bool) (x : ℕ) (xs : List ℕ) → p x ≡ false → filter p xs ≡ filter p (x ∷ xs)
filter_passed p x xs e = rw e refl

-- ---- the next one is taken or passed over

module _ (kept uids : List ℕ) (k : ℕ) (within : k < length uids) where
  pub taken : (kept ++ get_or uids k 0 ∷ []) ++ drop (k + 1) uids ≡ kept ++ drop k uids
  taken = append_assoc kept (get_or uids k 0 ∷ []) (drop (k + 1) uids) ∙ ap (λ (l : List ℕ). kept ++ l) (sym (drop_more uids k 0 within))

  pub taken_sorted : IsStrictlySortedBy nat_cmp (kept ++ drop k uids) → IsStrictlySortedBy nat_cmp ((kept ++ get_or uids k 0 ∷ []) ++ drop (k + 1) uids)
  taken_sorted h = subst (λ (l : List ℕ). IsStrictlySortedBy nat_cmp l) (sym taken) h

  pub passed_sorted : IsStrictlySortedBy nat_cmp (kept ++ drop k uids) → IsStrictlySortedBy nat_cmp (kept ++ drop (k + 1) uids)
  passed_sorted h = sorted_without kept (get_or uids k 0) (drop (k + 1) uids) (subst (λ (l : List ℕ). IsStrictlySortedBy nat_cmp (kept ++ l)) (drop_more uids k 0 within) h)

  module _ (p : ℕ → Bool) where
    pub taken_among : p (get_or uids k 0) ≡ true → (kept ++ get_or uids k 0 ∷ []) ++ filter p (drop (k + 1) uids) ≡ kept ++ filter p (drop k uids)
    taken_among e =
        append_assoc kept (get_or uids k 0 ∷ []) (filter p (drop (k + 1) uids))
        ∙ ap (λ (l : List ℕ). kept ++ l) (filter_taken p (get_or uids k 0) (drop (k + 1) uids) e ∙ ap (filter p) (sym (drop_more uids k 0 within)))

    pub passed_among : p (get_or uids k 0) ≡ false → kept ++ filter p (drop (k + 1) uids) ≡ kept ++ filter p (drop k uids)
    passed_among e = ap (λ (l : List ℕ). kept ++ l) (filter_passed p (get_or uids k 0) (drop (k + 1) uids) e ∙ ap (filter p) (sym (drop_more uids k 0 within)))
