-- Flags, each of them once.
use Rattle.std.proofs.Common.{◌≡◌, ℕ, suc, ◌+◌, ◌<◌, ◌||◌, Bool, true, false, cond, not, List, [], ◌∷◌, length, get_or, drop, add-one, refl, sym, ap, ◌∙◌}
use Rattle.std.specs.List.{filter, list_all, list_any}
use Rattle.std.proofs.Math.Seq.{drop-cons}
use Rattle.std.proofs.lemmas.Bool.{and_parts, and_from}
use Rattle.imap_grammar.specs.declared.flags.Flag.{Flag}
use Rattle.mail_world.specs.Flags.{are_distinct, distinct, same_flag}
use Rattle.mailbox_core.specs.Messages.{AreProper}
use Rattle.imap_steps.specs.Appending.{is_fit_flag}
use Rattle.imap_exec.proofs.Fitting.{fit_flags}

-- one flag more in front
pub one_more : (flags : List Flag) (k : ℕ) (x : Flag) (found : List Flag) → k < length flags → x ≡ get_or flags k x → found ≡ distinct (drop (k + 1) flags)
    → x ∷ filter (λ other. not (same_flag x other)) found ≡ distinct (drop k flags)
one_more flags k x found lt is same =
    let here : drop k flags ≡ x ∷ drop (k + 1) flags = drop-cons flags k x lt ∙ ap (λ y. y ∷ drop (suc k) flags) (sym is) ∙ ap (λ n. x ∷ drop n flags) (sym (add-one k)) in
    ap (λ (l : List Flag). x ∷ filter (λ other. not (same_flag x other)) l) same ∙ ap (λ (l : List Flag). distinct l) (sym here)

-- ---- of flags that are kept

any_kept : (q p : Flag → Bool) (flags : List Flag) → list_any q flags ≡ false → list_any q (filter p flags) ≡ false
any_kept q p [] none = refl
any_kept q p (x ∷ flags) none = by (q x) (p x) refl none (any_kept q p flags)
  where
    by : (a b : Bool) → q x ≡ a → (a || list_any q flags) ≡ false → (list_any q flags ≡ false → list_any q (filter p flags) ≡ false) → list_any q (cond b (x ∷ filter p flags) (filter p flags)) ≡ false
    by true b is none rest = cc
    by false true is none rest = ap (λ c. c || list_any q (filter p flags)) is ∙ rest none
    by false false is none rest = rest none

all_kept : (q p : Flag → Bool) (flags : List Flag) → list_all q flags ≡ true → list_all q (filter p flags) ≡ true
all_kept q p [] all = refl
all_kept q p (x ∷ flags) all = let parts = and_parts (q x) (list_all q flags) all in by (p x) parts.0 (all_kept q p flags parts.1)
  where
    by : (b : Bool) → q x ≡ true → list_all q (filter p flags) ≡ true → list_all q (cond b (x ∷ filter p flags) (filter p flags)) ≡ true
    by true is rest = and_from (q x) (list_all q (filter p flags)) is rest
    by false is rest = rest

once_kept : (p : Flag → Bool) (flags : List Flag) → are_distinct flags ≡ true → are_distinct (filter p flags) ≡ true
once_kept p [] once = refl
once_kept p (x ∷ flags) once = let parts = and_parts (not (list_any (same_flag x) flags)) (are_distinct flags) once in by (p x) parts.0 (once_kept p flags parts.1)
  where
    none : (b : Bool) → not b ≡ true → b ≡ false
    none true e = cc
    none false e = refl

    by : (b : Bool) → not (list_any (same_flag x) flags) ≡ true → are_distinct (filter p flags) ≡ true → are_distinct (cond b (x ∷ filter p flags) (filter p flags)) ≡ true
    by true apart rest =
        and_from (not (list_any (same_flag x) (filter p flags))) (are_distinct (filter p flags)) (ap not (any_kept (same_flag x) p flags (none (list_any (same_flag x) flags) apart))) rest
    by false apart rest = rest

none_left : (x : Flag) (flags : List Flag) → list_any (same_flag x) (filter (λ other. not (same_flag x other)) flags) ≡ false
none_left x [] = refl
none_left x (y ∷ flags) = by (same_flag x y) refl (none_left x flags)
  where
    by : (b : Bool) → same_flag x y ≡ b → list_any (same_flag x) (filter (λ other. not (same_flag x other)) flags) ≡ false
        → list_any (same_flag x) (cond (not b) (y ∷ filter (λ other. not (same_flag x other)) flags) (filter (λ other. not (same_flag x other)) flags)) ≡ false
    by true is rest = rest
    by false is rest = ap (λ c. c || list_any (same_flag x) (filter (λ other. not (same_flag x other)) flags)) is ∙ rest

-- ---- distinct flags

pub named_once : (flags : List Flag) → are_distinct (distinct flags) ≡ true
named_once [] = refl
named_once (x ∷ flags) =
    let others = filter (λ other. not (same_flag x other)) (distinct flags) in
    and_from (not (list_any (same_flag x) others)) (are_distinct others) (ap not (none_left x (distinct flags))) (once_kept (λ other. not (same_flag x other)) (distinct flags) (named_once flags))

all_fit : (flags : List Flag) → list_all is_fit_flag flags ≡ true → list_all is_fit_flag (distinct flags) ≡ true
all_fit [] fit = refl
all_fit (x ∷ flags) fit =
    let parts = and_parts (is_fit_flag x) (list_all is_fit_flag flags) fit in
    and_from (is_fit_flag x) (list_all is_fit_flag (filter (λ other. not (same_flag x other)) (distinct flags))) parts.0 (all_kept is_fit_flag (λ other. not (same_flag x other)) (distinct flags) (all_fit flags parts.1))

pub named_properly : (flags : List Flag) → list_all is_fit_flag flags ≡ true → AreProper (distinct flags)
named_properly flags fit = fit_flags (distinct flags) (all_fit flags fit)
