-- Flags, each of them once, as they are found one after another.
use Rattle.std.proofs.Common.{◌≡◌, ◌≤◌, ◌<◌, ℕ, ◌+◌, ◌||◌, Bool, true, false, cond, not, nat_lt, List, [], ◌∷◌, ◌++◌, length, map, get_or, take, drop, refl, sym, ap, ◌∙◌, subst, arith}
use Rattle.std.specs.List.{filter, list_any}
use Rattle.std.specs.Cmp.Lexicographic.{bytes_decides}
use Rattle.std.proofs.lemmas.Bool.{false≢true}
use Rattle.std.proofs.lemmas.List.{take_more, take-append-drop}
use Rattle.imap_grammar.specs.declared.flags.Flag.{Flag}
use Rattle.imap_grammar.specs.declared.flags.Flag.TheVariants.{Answered, Flagged, Deleted, Seen, Draft, Keyword}
use Rattle.mail_world.specs.Flags.{distinct, has_flag, same_flag}

each : (P : Flag → Type 0) → P Answered → P Flagged → P Deleted → P Seen → P Draft → ((name : List ℕ) → P (Keyword name)) → (flag : Flag) → P flag
each P a f d s r k Answered = a
each P a f d s r k Flagged = f
each P a f d s r k Deleted = d
each P a f d s r k Seen = s
each P a f d s r k Draft = r
each P a f d s r k (Keyword name) = k name

abbrev IsSame : Flag → Flag → Type 0
IsSame a b = same_flag a b ≡ true → a ≡ b

differs : {X : Type 0} → false ≡ true → X
differs e = absurd (false≢true e)

-- flags that are the same are equal
same_is : (a b : Flag) → IsSame a b
same_is =
    each (λ a. (b : Flag) → IsSame a b)
    (each (IsSame Answered) (λ e. refl) (λ e. differs e) (λ e. differs e) (λ e. differs e) (λ e. differs e) (λ name e. differs e))
    (each (IsSame Flagged) (λ e. differs e) (λ e. refl) (λ e. differs e) (λ e. differs e) (λ e. differs e) (λ name e. differs e))
    (each (IsSame Deleted) (λ e. differs e) (λ e. differs e) (λ e. refl) (λ e. differs e) (λ e. differs e) (λ name e. differs e))
    (each (IsSame Seen) (λ e. differs e) (λ e. differs e) (λ e. differs e) (λ e. refl) (λ e. differs e) (λ name e. differs e))
    (each (IsSame Draft) (λ e. differs e) (λ e. differs e) (λ e. differs e) (λ e. differs e) (λ e. refl) (λ name e. differs e))
    (λ name.
    each (IsSame (Keyword name)) (λ e. differs e) (λ e. differs e) (λ e. differs e) (λ e. differs e) (λ e. differs e)
    (λ other e. ap Keyword ((bytes_decides name other).0 e)))

abbrev without_flag : Flag → List Flag → List Flag
without_flag y flags = filter (λ other. not (same_flag y other)) flags

-- a flag that isn't taken out is there as before
has_one : (x y z : Flag) (rest kept : List Flag) (b : Bool) → same_flag y z ≡ b → same_flag y x ≡ false → has_flag x kept ≡ has_flag x rest → has_flag x (cond (not b) (z ∷ kept) kept) ≡ has_flag x (z ∷ rest)
has_one x y z rest kept false e apart same = ap (λ (c : Bool). same_flag z x || c) same
has_one x y z rest kept true e apart same = same ∙ sym (ap (λ (c : Bool). c || has_flag x rest) (subst (λ (f : Flag). same_flag f x ≡ false) (same_is y z e) apart))

has_without : (x y : Flag) (flags : List Flag) → same_flag y x ≡ false → has_flag x (without_flag y flags) ≡ has_flag x flags
has_without x y [] apart = refl
has_without x y (z ∷ flags) apart = has_one x y z flags (without_flag y flags) (same_flag y z) refl apart (has_without x y flags apart)

without_one : (y z : Flag) (xs kept all : List Flag) (b : Bool) → all ≡ kept ++ xs → cond b (z ∷ all) all ≡ cond b (z ∷ kept) kept ++ xs
without_one y z xs kept all true e = ap (λ (l : List Flag). z ∷ l) e
without_one y z xs kept all false e = e

without_last : (x y : Flag) (flags : List Flag) → without_flag y (flags ++ x ∷ []) ≡ without_flag y flags ++ without_flag y (x ∷ [])
without_last x y [] = refl
without_last x y (z ∷ flags) =
    without_one y z (without_flag y (x ∷ [])) (without_flag y flags) (without_flag y (flags ++ x ∷ [])) (not (same_flag y z)) (without_last x y flags)

append_none : (flags : List Flag) → flags ++ [] ≡ flags
append_none [] = refl
append_none (x ∷ flags) = ap (λ (l : List Flag). x ∷ l) (append_none flags)

-- a flag more, where it isn't there yet
abbrev with_flag : Flag → List Flag → List Flag
with_flag x found = cond (has_flag x found) found (found ++ x ∷ [])

last_of : (x : Flag) (b : Bool) → cond (not b) (x ∷ []) [] ≡ cond b [] (x ∷ [])
last_of x true = refl
last_of x false = refl

by_flag : (x y : Flag) (found : List Flag) (b c : Bool) → same_flag y x ≡ b → has_flag x found ≡ c → y ∷ without_flag y (cond c found (found ++ x ∷ [])) ≡ cond (b || has_flag x (without_flag y found)) (y ∷ without_flag y found) (y ∷ (without_flag y found ++ x ∷ []))
by_flag x y found true true e h = refl
by_flag x y found true false e h =
    ap (λ (l : List Flag). y ∷ l) (without_last x y found ∙ (ap (λ (c : Bool). without_flag y found ++ cond (not c) (x ∷ []) []) e ∙ append_none (without_flag y found)))
by_flag x y found false true e h =
    sym (ap (λ (c : Bool). cond c (y ∷ without_flag y found) (y ∷ (without_flag y found ++ x ∷ []))) (has_without x y found e ∙ h))
by_flag x y found false false e h =
    ap (λ (l : List Flag). y ∷ l) (without_last x y found ∙ ap (λ (c : Bool). without_flag y found ++ cond (not c) (x ∷ []) []) e)
    ∙ sym (ap (λ (c : Bool). cond c (y ∷ without_flag y found) (y ∷ (without_flag y found ++ x ∷ []))) (has_without x y found e ∙ h))

pub distinct_last : (x : Flag) (flags : List Flag) → distinct (flags ++ x ∷ []) ≡ with_flag x (distinct flags)
distinct_last x [] = refl
distinct_last x (y ∷ flags) =
    ap (λ (l : List Flag). y ∷ without_flag y l) (distinct_last x flags) ∙ by_flag x y (distinct flags) (same_flag y x) (has_flag x (distinct flags)) refl refl

-- ---- more flags

shorter_one : (z : Flag) (xs ys : List Flag) (b : Bool) → length xs ≤ length ys → length (cond b (z ∷ xs) xs) ≤ length (cond b (z ∷ ys) ys)
shorter_one z xs ys true le = omega arith
shorter_one z xs ys false le = le

grows_one : (x : Flag) (found : List Flag) (b : Bool) → length found ≤ length (cond b found (found ++ x ∷ []))
grows_one x found true = omega arith
grows_one x found false = omega (arith, longer found)
  where
    longer : (l : List Flag) → length l ≤ length (l ++ x ∷ [])
    longer [] = omega arith
    longer (y ∷ l) = let rest = longer l in omega arith

-- more flags are no fewer distinct ones
pub distinct_grows : (flags more : List Flag) → length (distinct flags) ≤ length (distinct (flags ++ more))
distinct_grows flags [] = subst (λ (l : List Flag). length (distinct flags) ≤ length (distinct l)) (sym (append_none flags)) (omega arith)
distinct_grows flags (x ∷ more) =
    let one : length (distinct flags) ≤ length (distinct (flags ++ x ∷ [])) =
    subst (λ (l : List Flag). length (distinct flags) ≤ length l) (sym (distinct_last x flags)) (grows_one x (distinct flags) (has_flag x (distinct flags))) in
    let rest : length (distinct (flags ++ x ∷ [])) ≤ length (distinct ((flags ++ x ∷ []) ++ more)) = distinct_grows (flags ++ x ∷ []) more in
    let same : (flags ++ x ∷ []) ++ more ≡ flags ++ (x ∷ more) = again flags in
    subst (λ (l : List Flag). length (distinct flags) ≤ length (distinct l)) same (omega arith)
  where
    again : (l : List Flag) → (l ++ x ∷ []) ++ more ≡ l ++ (x ∷ more)
    again [] = refl
    again (y ∷ l) = ap (λ (k : List Flag). y ∷ k) (again l)

pub any_map : {A B : Type 0} (p : B → Bool) (f : A → B) (xs : List A) → list_any p (map f xs) ≡ list_any (λ x. p (f x)) xs
any_map p f [] = refl
any_map p f (x ∷ xs) = ap (λ (b : Bool). p (f x) || b) (any_map p f xs)

-- ---- one flag after another

pub one_more : (flags : List Flag) (k : ℕ) (x : Flag) (found : List Flag) (b : Bool) → k < length flags → x ≡ get_or flags k x → found ≡ distinct (take k flags) → has_flag x found ≡ b
    → distinct (take (k + 1) flags) ≡ cond b found (found ++ x ∷ [])
one_more flags k x found b less is same has =
    ap (λ (l : List Flag). distinct l) (take_more flags k x less ∙ ap (λ (y : Flag). take k flags ++ y ∷ []) (sym is))
    ∙ (distinct_last x (take k flags)
    ∙ (ap (λ (l : List Flag). with_flag x l) (sym same)
    ∙ ap (λ (c : Bool). cond c found (found ++ x ∷ [])) has))

longer : (x : Flag) (l : List Flag) → length (l ++ x ∷ []) ≡ length l + 1
longer x [] = refl
longer x (y ∷ l) = let rest = longer x l in omega (arith, rest)

-- With as many found as there may be, one more is too many.
pub too_many : (flags : List Flag) (k n : ℕ) (x : Flag) (found : List Flag) → k < length flags → x ≡ get_or flags k x → found ≡ distinct (take k flags) → has_flag x found ≡ false
    → length found ≡ n → n < length (distinct flags)
too_many flags k n x found less is same has size =
    let more : length (distinct (take (k + 1) flags)) ≡ length found + 1 = ap (λ (l : List Flag). length l) (one_more flags k x found false less is same has) ∙ longer x found in
    let grows : length (distinct (take (k + 1) flags)) ≤ length (distinct flags) =
    subst (λ (l : List Flag). length (distinct (take (k + 1) flags)) ≤ length (distinct l)) (take-append-drop (k + 1) flags) (distinct_grows (take (k + 1) flags) (drop (k + 1) flags)) in
    omega (arith, more, grows, size)

-- ---- how many there are

once_among : (x y : Flag) (kept rest : List Flag) (b : Bool) → same_flag y x ≡ b → has_flag x kept ≡ has_flag x rest → (b || has_flag x (without_flag y kept)) ≡ (b || has_flag x rest)
once_among x y kept rest true e same = refl
once_among x y kept rest false e same = has_without x y kept e ∙ same

-- a flag is among flags where it is among each of them once
pub has_distinct : (x : Flag) (flags : List Flag) → has_flag x (distinct flags) ≡ has_flag x flags
has_distinct x [] = refl
has_distinct x (y ∷ flags) = once_among x y (distinct flags) flags (same_flag y x) refl (has_distinct x flags)

-- a flag counts where it stands first
pub counted_more : (flags : List Flag) (k count : ℕ) (x : Flag) (b : Bool) → k < length flags → x ≡ get_or flags k x → count ≡ length (distinct (take k flags)) → has_flag x (take k flags) ≡ b
    → cond b count (count + 1) ≡ length (distinct (take (k + 1) flags))
counted_more flags k count x b less is so_far has =
    by_case b (one_more flags k x (distinct (take k flags)) b less is refl (has_distinct x (take k flags) ∙ has))
  where
    by_case : (c : Bool) → distinct (take (k + 1) flags) ≡ cond c (distinct (take k flags)) (distinct (take k flags) ++ x ∷ []) → cond c count (count + 1) ≡ length (distinct (take (k + 1) flags))
    by_case true e = so_far ∙ sym (ap (λ (l : List Flag). length l) e)
    by_case false e = let size = longer x (distinct (take k flags)) in let same = ap (λ (l : List Flag). length l) e in omega (arith, so_far, size, same)

-- With as many as there may be, one that stands first is too many.
pub counted_over : (flags : List Flag) (k n : ℕ) (x : Flag) → k < length flags → x ≡ get_or flags k x → n ≡ length (distinct (take k flags)) → has_flag x (take k flags) ≡ false
    → true ≡ nat_lt n (length (distinct flags))
counted_over flags k n x less is size has =
    let over : n < length (distinct flags) = too_many flags k n x (distinct (take k flags)) less is refl (has_distinct x (take k flags) ∙ has) (sym size) in
    grind (arith, over)

pub counted_all : (flags : List Flag) (k n count : ℕ) → take k flags ≡ flags → count ≡ length (distinct (take k flags)) → count ≤ n → false ≡ nat_lt n (length (distinct flags))
counted_all flags k n count all size few =
    let same : count ≡ length (distinct flags) = size ∙ ap (λ (l : List Flag). length (distinct l)) all in
    grind (arith, same, few)
