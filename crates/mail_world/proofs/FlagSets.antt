-- Lists in which each flag stands once.
use Rattle.std.proofs.Common.{◌≡◌, Bool, true, false, cond, not, List, [], ◌∷◌, ◌++◌, refl, ap, ◌∙◌}
use Rattle.std.specs.Prelude.{◌||◌}
use Rattle.std.specs.List.{filter, list_any, list_all}
use Rattle.std.proofs.lemmas.Bool.{and_parts, and_from, or_parts, not-true}
use Rattle.std.proofs.lemmas.List.Folds.{list_any-append}
use Rattle.imap_grammar.specs.declared.flags.Flag.{Flag}
use Rattle.imap_grammar.specs.declared.flags.FlagChange.{FlagChange}
use Rattle.imap_grammar.specs.declared.flags.FlagChange.TheVariants.{Set, Add, Remove}
use Rattle.mail_world.specs.Flags.{same_flag, has_flag, distinct, are_distinct, stored_flags, is_flag}

any_one : (q : Flag → Bool) (x : Flag) (ys : List Flag) (b c : Bool) → q x ≡ b → (c ≡ true → b ≡ false) → list_any q ys ≡ false → list_any q (cond c (x ∷ ys) ys) ≡ false
any_one q x ys b false e h none = none
any_one q x ys b true e h none = rw (e ∙ h refl) none

-- what none of the flags passes, none of those that a filter keeps passes
any-filter : (q p : Flag → Bool) (xs : List Flag) → list_any q xs ≡ false → list_any q (filter p xs) ≡ false
any-filter q p [] none = refl
any-filter q p (x ∷ xs) none =
    let parts = or_parts (q x) (list_any q xs) none in any_one q x (filter p xs) (q x) (p x) refl (λ e. parts.0) (any-filter q p xs parts.1)

-- what a filter takes out isn't there
any-filtered : (q : Flag → Bool) (xs : List Flag) → list_any q (filter (λ x. not (q x)) xs) ≡ false
any-filtered q [] = refl
any-filtered q (x ∷ xs) = any_one q x (filter (λ y. not (q y)) xs) (q x) (not (q x)) refl (λ e. not-true (q x) e) (any-filtered q xs)

distinct_one : (x : Flag) (ys : List Flag) (c : Bool) → list_any (same_flag x) ys ≡ false → are_distinct ys ≡ true → are_distinct (cond c (x ∷ ys) ys) ≡ true
distinct_one x ys true none all = rw none all
distinct_one x ys false none all = all

pub distinct-filter : (p : Flag → Bool) (xs : List Flag) → are_distinct xs ≡ true → are_distinct (filter p xs) ≡ true
distinct-filter p [] all = refl
distinct-filter p (x ∷ xs) all =
    let parts = and_parts (not (list_any (same_flag x) xs)) (are_distinct xs) all in
    distinct_one x (filter p xs) (p x) (any-filter (same_flag x) p xs (not-true (list_any (same_flag x) xs) parts.0)) (distinct-filter p xs parts.1)

pub distinct-distinct : (xs : List Flag) → are_distinct (distinct xs) ≡ true
distinct-distinct [] = refl
distinct-distinct (x ∷ xs) = rw (any-filtered (same_flag x) (distinct xs)) (distinct-filter (λ y. not (same_flag x y)) (distinct xs) (distinct-distinct xs))

all_one : (q : Flag → Bool) (x : Flag) (ys : List Flag) (c : Bool) → q x ≡ true → list_all q ys ≡ true → list_all q (cond c (x ∷ ys) ys) ≡ true
all_one q x ys true e all = rw e all
all_one q x ys false e all = all

pub all-filter : (q p : Flag → Bool) (xs : List Flag) → list_all q xs ≡ true → list_all q (filter p xs) ≡ true
all-filter q p [] all = refl
all-filter q p (x ∷ xs) all = let parts = and_parts (q x) (list_all q xs) all in all_one q x (filter p xs) (p x) parts.0 (all-filter q p xs parts.1)

pub all-distinct : (q : Flag → Bool) (xs : List Flag) → list_all q xs ≡ true → list_all q (distinct xs) ≡ true
all-distinct q [] all = refl
all-distinct q (x ∷ xs) all =
    let parts = and_parts (q x) (list_all q xs) all in rw parts.0 (all-filter q (λ y. not (same_flag x y)) (distinct xs) (all-distinct q xs parts.1))

all-append : (q : Flag → Bool) (xs ys : List Flag) → list_all q xs ≡ true → list_all q ys ≡ true → list_all q (xs ++ ys) ≡ true
all-append q [] ys all more = more
all-append q (x ∷ xs) ys all more = let parts = and_parts (q x) (list_all q xs) all in rw parts.0 (all-append q xs ys parts.1 more)

-- Flags that aren't there are added.

or_none : (a b : Bool) → a ≡ false → b ≡ false → (a || b) ≡ false
or_none a b e f = rw e f

kept_apart : (x : Flag) (n ys : List Flag) → ((y : Flag) → list_any (λ z. same_flag z y) n ≡ false → same_flag x y ≡ false) → list_any (same_flag x) (filter (λ y. not (list_any (λ z. same_flag z y) n)) ys) ≡ false
kept_apart x n [] h = refl
kept_apart x n (y ∷ ys) h =
    any_one (same_flag x) y (filter (λ y. not (list_any (λ z. same_flag z y) n)) ys) (same_flag x y) (not (list_any (λ z. same_flag z y) n)) refl (λ e. h y (not-true (list_any (λ z. same_flag z y) n) e)) (kept_apart x n ys h)

pub added-distinct : (xs ys : List Flag) → are_distinct xs ≡ true → are_distinct ys ≡ true → (n : List Flag) → ((y : Flag) → list_any (λ z. same_flag z y) n ≡ false → list_any (λ z. same_flag z y) xs ≡ false)
    → are_distinct (xs ++ filter (λ y. not (list_any (λ z. same_flag z y) n)) ys) ≡ true
added-distinct [] ys first second n sub = distinct-filter (λ y. not (list_any (λ z. same_flag z y) n)) ys second
added-distinct (x ∷ xs) ys first second n sub =
    let parts = and_parts (not (list_any (same_flag x) xs)) (are_distinct xs) first in
    and_from _ _
    (ap not (list_any-append (same_flag x) xs (filter (λ y. not (list_any (λ z. same_flag z y) n)) ys)
    ∙ or_none _ _ (not-true (list_any (same_flag x) xs) parts.0) (kept_apart x n ys (λ y e. (or_parts (same_flag x y) (list_any (λ z. same_flag z y) xs) (sub y e)).0))))
    (added-distinct xs ys parts.1 second n (λ y e. (or_parts (same_flag x y) (list_any (λ z. same_flag z y) xs) (sub y e)).1))

pub stored-distinct : (how : FlagChange) (named flags : List Flag) → are_distinct flags ≡ true → are_distinct (stored_flags how named flags) ≡ true
stored-distinct Set named flags all = distinct-distinct named
stored-distinct Add named flags all = added-distinct flags (distinct named) all (distinct-distinct named) flags (λ y e. e)
stored-distinct Remove named flags all = distinct-filter (λ flag. not (has_flag flag named)) flags all

pub stored-all : (how : FlagChange) (named flags : List Flag) → list_all is_flag named ≡ true → list_all is_flag flags ≡ true → list_all is_flag (stored_flags how named flags) ≡ true
stored-all Set named flags new old = all-distinct is_flag named new
stored-all Add named flags new old = all-append is_flag flags (filter (λ flag. not (has_flag flag flags)) (distinct named)) old (all-filter is_flag (λ flag. not (has_flag flag flags)) (distinct named) (all-distinct is_flag named new))
stored-all Remove named flags new old = all-filter is_flag (λ flag. not (has_flag flag named)) flags old
