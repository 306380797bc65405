-- Names that are gone through in their order.
use Rattle.std.proofs.Common.{ℕ, ◌≡◌, ◌<◌, ◌≤◌, ◌==◌, ◌&&◌, ◌||◌, Bool, true, false, cond, nat_eq, List, [], ◌∷◌, ◌++◌, length, drop, ⊎_elim, refl, sym, ap, subst, ◌∙◌, arith}
use Rattle.std.specs.List.{filter, starts_with}
use Rattle.std.specs.declared.cmp.Ordering.{Ordering}
use Rattle.std.specs.declared.cmp.Ordering.TheVariants.{Less, Equal, Greater}
use Rattle.std.specs.Ordering.{nat_cmp, is_lt, ordering_then, ordering_reverse}
use Rattle.std.specs.Cmp.Lexicographic.{slice_cmp, bytes_decides}
use Rattle.std.proofs.lemmas.Bool.{true≢false, false≢true, and_parts, and_from, or_cases, or_left, or_right, eqb-true, eq-eqb}
use Rattle.std.proofs.lemmas.Slice.Eq.{starts_is}
use Rattle.std.specs.Cmp.{both_ways}
use Rattle.std.proofs.lemmas.Cmp.{nat_list_cmp_total, nat_cmp_total}
use Rattle.std.proofs.lemmas.List.Folds.{list_any-append}
use Rattle.std.proofs.lemmas.Map.Lookups.{exact_bytes, exact_unsigned}
use Rattle.row_tables.specs.Names.{is_after}
use Rattle.mailbox_names.specs.Names.{same_name, has_name}
use Rattle.mailbox_core.specs.Listing.{IsNextName, NoneAfter, Walked}

-- ---- the order of names

less_is : (a b : List ℕ) → is_after a b ≡ true → slice_cmp nat_cmp a b ≡ Less
less_is a b e = by (slice_cmp nat_cmp a b) refl e
  where
    by : (o : Ordering) → slice_cmp nat_cmp a b ≡ o → is_lt o ≡ true → slice_cmp nat_cmp a b ≡ Less
    by Less is e = is
    by Equal is e = absurd (false≢true e)
    by Greater is e = absurd (false≢true e)

pub after_trans : (a b c : List ℕ) → is_after a b ≡ true → is_after b c ≡ true → is_after a c ≡ true
after_trans a b c e f = ap is_lt (nat_list_cmp_total.trans a b c (less_is a b e) (less_is b c f))

pub not_after_itself : (a : List ℕ) → is_after a a ≡ false
not_after_itself a = by (slice_cmp nat_cmp a a) refl
  where
    by : (o : Ordering) → slice_cmp nat_cmp a a ≡ o → is_lt o ≡ false
    by Less e = let h : Less ≡ Greater = sym e ∙ (nat_list_cmp_total.antisymm a a ∙ ap ordering_reverse e) in cc
    by Equal e = refl
    by Greater e = refl

-- neither comes after the other
pub same_place : (a b : List ℕ) → is_after a b ≡ false → is_after b a ≡ false → a ≡ b
same_place a b e f = by (slice_cmp nat_cmp a b) refl e
  where
    by : (o : Ordering) → slice_cmp nat_cmp a b ≡ o → is_lt o ≡ false → a ≡ b
    by Less is e = absurd (true≢false e)
    by Equal is e = exact_bytes a b is
    by Greater is e = absurd (true≢false (sym (ap is_lt (nat_list_cmp_total.antisymm b a ∙ ap ordering_reverse is)) ∙ f))

-- between two names with a front are none but those with it
pub between : (front a b other : List ℕ) → is_after (front ++ a) other ≡ true → is_after other (front ++ b) ≡ true → starts_with nat_eq other front ≡ true
between [] a b other low high = refl
between (p ∷ front) a b [] low high = absurd (false≢true low)
between (p ∷ front) a b (x ∷ other) low high = by (nat_cmp p x) (nat_cmp x p) refl refl low high (between front a b other)
  where
    turned : (o u : Ordering) → nat_cmp p x ≡ o → nat_cmp x p ≡ u → o ≡ ordering_reverse u
    turned o u e f = sym e ∙ (nat_cmp_total.antisymm p x ∙ ap ordering_reverse f)

    by : (o u : Ordering) → nat_cmp p x ≡ o → nat_cmp x p ≡ u → is_lt (ordering_then o (slice_cmp nat_cmp (front ++ a) other)) ≡ true → is_lt (ordering_then u (slice_cmp nat_cmp other (front ++ b))) ≡ true
        → (is_after (front ++ a) other ≡ true → is_after other (front ++ b) ≡ true → starts_with nat_eq other front ≡ true) → starts_with nat_eq (x ∷ other) (p ∷ front) ≡ true
    by Less Less e f low high rest = let h : Less ≡ Greater = turned Less Less e f in cc
    by Less Equal e f low high rest = let h : Less ≡ Equal = turned Less Equal e f in cc
    by Less Greater e f low high rest = absurd (false≢true high)
    by Equal Less e f low high rest = let h : Equal ≡ Greater = turned Equal Less e f in cc
    by Equal Equal e f low high rest = and_from (nat_eq p x) (starts_with nat_eq other front) (eq-eqb p x (exact_unsigned p x e)) (rest low high)
    by Equal Greater e f low high rest = absurd (false≢true high)
    by Greater u e f low high rest = absurd (false≢true low)

nat_same : (p : ℕ) → nat_cmp p p ≡ Equal
nat_same p = by (nat_cmp p p) refl
  where
    turned : (o : Ordering) → nat_cmp p p ≡ o → o ≡ ordering_reverse o
    turned o e = sym e ∙ (nat_cmp_total.antisymm p p ∙ ap ordering_reverse e)

    by : (o : Ordering) → nat_cmp p p ≡ o → nat_cmp p p ≡ Equal
    by Less e = let h : Less ≡ Greater = turned Less e in cc
    by Equal e = e
    by Greater e = let h : Greater ≡ Less = turned Greater e in cc

-- no name with a front comes before it
front_first : (front rest : List ℕ) → is_after (front ++ rest) front ≡ false
front_first [] [] = refl
front_first [] (b ∷ rest) = refl
front_first (p ∷ front) rest = ap (λ o. is_lt (ordering_then o (slice_cmp nat_cmp (front ++ rest) front))) (nat_same p) ∙ front_first front rest

begins_with : (front name : List ℕ) → starts_with nat_eq name front ≡ true → name ≡ front ++ drop (length front) name
begins_with front name e = (starts_is (λ a b. (eqb-true a b, eq-eqb a b)) name front true (sym e)).0 refl

-- ---- going through names with a front

starts_itself : (front : List ℕ) → starts_with nat_eq front front ≡ true
starts_itself [] = refl
starts_itself (p ∷ front) = and_from (p == p) (starts_with nat_eq front front) (eq-eqb p p refl) (starts_itself front)

first_alone : (front name : List ℕ) → starts_with nat_eq name front ≡ true → is_after front name ≡ false → name ≡ front
first_alone front name e last =
    same_place name front (ap (λ l. is_after l front) (begins_with front name e) ∙ front_first front (drop (length front) name)) last

pub walk_none : (front : List ℕ) (names : List (List ℕ)) → has_name front names ≡ false → Walked front names front []
walk_none front names none = record {
  sound = λ name there. absurd (false≢true there);
  complete = λ name e there last. absurd (true≢false (sym there ∙ (ap (λ n. has_name n names) (first_alone front name e last) ∙ none)));
  begins = starts_itself front;
}

pub walk_first : (front : List ℕ) (names : List (List ℕ)) → has_name front names ≡ true → Walked front names front (front ∷ [])
walk_first front names some = record {
  sound = λ name there. ⊎_elim (λ (e : same_name front name ≡ true).
      let is = (bytes_decides front name).0 e in
      and_from (starts_with nat_eq name front) (has_name name names) (subst (λ n. starts_with nat_eq n front ≡ true) is (starts_itself front)) (subst (λ n. has_name n names ≡ true) is some))
      (λ (e : false ≡ true). absurd (false≢true e)) (or_cases (same_name front name) false there);
  complete = λ name e there last. or_left (same_name front name) false ((bytes_decides front name).1 (sym (first_alone front name e last)));
  begins = starts_itself front;
}

module _ (front : List ℕ) (names : List (List ℕ)) (last : List ℕ) (got : List (List ℕ)) (walked : Walked front names last got) where
  none_more : (name : List ℕ) → starts_with nat_eq name front ≡ true → has_name name names ≡ true → (is_after last name ≡ true → has_name name got ≡ true) → has_name name got ≡ true
  none_more name e there later = by (is_after last name) refl
    where
      by : (b : Bool) → is_after last name ≡ b → has_name name got ≡ true
      by true f = later f
      by false f = walked.complete name e there f

  as_walked : ((name : List ℕ) → starts_with nat_eq name front ≡ true → has_name name names ≡ true → is_after last name ≡ true → has_name name got ≡ true)
      → (name : List ℕ) → has_name name got ≡ (starts_with nat_eq name front && has_name name names)
  as_walked later name =
      both_ways (has_name name got) (starts_with nat_eq name front && has_name name names) (walked.sound name)
      (λ e. let parts = and_parts (starts_with nat_eq name front) (has_name name names) e in none_more name parts.0 parts.1 (later name parts.0 parts.1))

  -- no name is left
  pub walk_all : NoneAfter last names → (name : List ℕ) → has_name name got ≡ (starts_with nat_eq name front && has_name name names)
  walk_all none = as_walked (λ name e there f. absurd (true≢false (sym f ∙ none name there)))

  module _ (next : List ℕ) (is : IsNextName last next names) where
    -- a name behind the last is the next, or comes after that
    behind : (name : List ℕ) → has_name name names ≡ true → is_after last name ≡ true → is_after next name ≡ false → name ≡ next
    behind name there f g = same_place name next (is.between name there f) g

    -- the next has another front, and so have all behind it
    pub walk_left : starts_with nat_eq next front ≡ false → (name : List ℕ) → has_name name got ≡ (starts_with nat_eq name front && has_name name names)
    walk_left other = as_walked (λ name e there f. absurd (true≢false (sym (has_front name e there f (is_after next name) refl) ∙ other)))
      where
        has_front : (name : List ℕ) → starts_with nat_eq name front ≡ true → has_name name names ≡ true → is_after last name ≡ true → (b : Bool) → is_after next name ≡ b → starts_with nat_eq next front ≡ true
        has_front name e there f true g =
            between front (drop (length front) last) (drop (length front) name) next
            (subst (λ l. is_after l next ≡ true) (begins_with front last walked.begins) is.after) (subst (λ l. is_after next l ≡ true) (begins_with front name e) g)
        has_front name e there f false g = subst (λ l. starts_with nat_eq l front ≡ true) (behind name there f g) e

    pub walk_on : starts_with nat_eq next front ≡ true → Walked front names next (got ++ next ∷ [])
    walk_on begins = record {
      sound = λ name there. ⊎_elim (walked.sound name) (here name) (or_cases (has_name name got) (has_name name (next ∷ [])) (sym (list_any-append (λ n. same_name n name) got (next ∷ [])) ∙ there));
      complete = λ name e there f. list_any-append (λ n. same_name n name) got (next ∷ []) ∙ added name e there f (is_after last name) refl;
      begins = begins;
    }
      where
        here : (name : List ℕ) → has_name name (next ∷ []) ≡ true → (starts_with nat_eq name front && has_name name names) ≡ true
        here name there = ⊎_elim (λ (e : same_name next name ≡ true).
            let same = (bytes_decides next name).0 e in
            and_from (starts_with nat_eq name front) (has_name name names) (subst (λ n. starts_with nat_eq n front ≡ true) same begins) (subst (λ n. has_name n names ≡ true) same is.there))
            (λ (e : false ≡ true). absurd (false≢true e)) (or_cases (same_name next name) false there)

        added : (name : List ℕ) → starts_with nat_eq name front ≡ true → has_name name names ≡ true → is_after next name ≡ false → (b : Bool) → is_after last name ≡ b → (has_name name got || has_name name (next ∷ [])) ≡ true
        added name e there f true g = or_right (has_name name got) (has_name name (next ∷ [])) (or_left (same_name next name) false ((bytes_decides next name).1 (sym (behind name there g f))))
        added name e there f false g = or_left (has_name name got) (has_name name (next ∷ [])) (walked.complete name e there g)

-- ---- each step leaves fewer

count_le : (p q : List ℕ → Bool) (names : List (List ℕ)) → ((name : List ℕ) → q name ≡ true → p name ≡ true) → length (filter q names) ≤ length (filter p names)
count_le p q [] less = omega arith
count_le p q (name ∷ names) less = by (p name) (q name) refl refl (count_le p q names less)
  where
    by : (b c : Bool) → p name ≡ b → q name ≡ c → length (filter q names) ≤ length (filter p names) → length (cond c (name ∷ filter q names) (filter q names)) ≤ length (cond b (name ∷ filter p names) (filter p names))
    by true true e f rest = omega arith
    by true false e f rest = omega arith
    by false true e f rest = absurd (true≢false (sym (less name f) ∙ e))
    by false false e f rest = rest

count_less : (p q : List ℕ → Bool) (names : List (List ℕ)) (one : List ℕ) → ((name : List ℕ) → q name ≡ true → p name ≡ true) → has_name one names ≡ true → p one ≡ true → q one ≡ false → length (filter q names) < length (filter p names)
count_less p q [] one less there passes fails = absurd (false≢true there)
count_less p q (name ∷ names) one less there passes fails = by (same_name name one) refl (p name) (q name) refl refl (count_le p q names less) (count_less p q names one less)
  where
    by : (s : Bool) → same_name name one ≡ s → (b c : Bool) → p name ≡ b → q name ≡ c → length (filter q names) ≤ length (filter p names)
        → (has_name one names ≡ true → p one ≡ true → q one ≡ false → length (filter q names) < length (filter p names))
        → length (cond c (name ∷ filter q names) (filter q names)) < length (cond b (name ∷ filter p names) (filter p names))
    by true s true true e f le rest = absurd (true≢false (sym f ∙ (ap q ((bytes_decides name one).0 s) ∙ fails)))
    by true s true false e f le rest = omega arith
    by true s false c e f le rest = absurd (true≢false (sym passes ∙ (ap p (sym ((bytes_decides name one).0 s)) ∙ e)))
    by false s true true e f le rest = let h = rest (sym (rw s refl) ∙ there) passes fails in omega arith
    by false s true false e f le rest = omega arith
    by false s false true e f le rest = absurd (true≢false (sym (less name f) ∙ e))
    by false s false false e f le rest = rest (sym (rw s refl) ∙ there) passes fails

pub fewer : (last next : List ℕ) (names : List (List ℕ)) → IsNextName last next names → length (filter (is_after next) names) < length (filter (is_after last) names)
fewer last next names is = count_less (is_after last) (is_after next) names next (λ name e. after_trans last next name is.after e) is.there is.after (not_after_itself next)
