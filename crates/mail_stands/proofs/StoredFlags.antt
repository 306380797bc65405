-- What STORE makes of a message's flags, told by how flags are written.
use Rattle.std.proofs.Common.{ℕ, ◌≡◌, ◌&&◌, ◌||◌, Bool, true, false, cond, not, List, [], ◌∷◌, refl, sym, ap, subst, ◌∙◌}
use Rattle.std.specs.List.{filter, list_all, list_any}
use Rattle.std.specs.Cmp.Lexicographic.{bytes_decides}
use Rattle.std.proofs.lemmas.Bool.{true≢false, false≢true, and_parts, and_from, not-true}
use Rattle.std.proofs.lemmas.List.Folds.{list_all-append, list_any-append}
use Rattle.imap_grammar.specs.declared.flags.Flag.{Flag}
use Rattle.imap_grammar.specs.declared.flags.FlagChange.{FlagChange}
use Rattle.imap_grammar.specs.declared.flags.FlagChange.TheVariants.{Set, Add, Remove}
use Rattle.imap_grammar.specs.Flags.{flag_text}
use Rattle.mail_world.specs.Names.{same_name}
use Rattle.mail_world.specs.Flags.{is_flag, same_flag, has_flag, same_flags, distinct, are_distinct, stored_flags}
use Rattle.mail_stands.specs.Facts.{has_flag_named}
use Rattle.mail_stands.proofs.Written.{written}
use Rattle.mail_stands.proofs.Flags.{same_bool}

-- a flag is among flags where its text is that of one of them
pub named_flag : (f : Flag) (flags : List Flag) → is_flag f ≡ true → list_all is_flag flags ≡ true → has_flag_named (flag_text f) flags ≡ has_flag f flags
named_flag f [] p all = refl
named_flag f (g ∷ flags) p all =
    let parts = and_parts (is_flag g) (list_all is_flag flags) all in
    ap (λ b. b || has_flag_named (flag_text f) flags) (written g f parts.0 p) ∙ ap (λ b. same_flag g f || b) (named_flag f flags p parts.1)

same_text : (a b : List ℕ) → same_name a b ≡ true → a ≡ b
same_text a b e = (bytes_decides a b).0 e

and_false : (b : Bool) → (b && false) ≡ false
and_false true = refl
and_false false = refl

abbrev kept : List Flag → List Flag → List Flag
kept others flags = filter (λ flag. not (has_flag flag others)) flags

-- those of flags that others lack
pub named_without : (name : List ℕ) (flags others : List Flag) → list_all is_flag flags ≡ true → list_all is_flag others ≡ true
    → has_flag_named name (filter (λ flag. not (has_flag flag others)) flags) ≡ (has_flag_named name flags && not (has_flag_named name others))
named_without name [] others p q = refl
named_without name (f ∷ flags) others p q =
    let parts = and_parts (is_flag f) (list_all is_flag flags) p in
    by (has_flag f others) (same_name (flag_text f) name) refl (λ s. sym (ap (λ n. has_flag_named n others) (same_text (flag_text f) name s)) ∙ named_flag f others parts.0 q) (named_without name flags others parts.1 q)
  where
    by : (c b : Bool) → same_name (flag_text f) name ≡ b → (b ≡ true → has_flag_named name others ≡ c) → has_flag_named name (kept others flags) ≡ (has_flag_named name flags && not (has_flag_named name others))
        → has_flag_named name (cond (not c) (f ∷ kept others flags) (kept others flags)) ≡ ((b || has_flag_named name flags) && not (has_flag_named name others))
    by true true s is rest = rest ∙ (ap (λ n. has_flag_named name flags && not n) (is refl) ∙ and_false (has_flag_named name flags) ∙ sym (ap not (is refl)))
    by true false s is rest = rest
    by false true s is rest = ap (λ b. b || has_flag_named name (kept others flags)) s ∙ sym (ap not (is refl))
    by false false s is rest = ap (λ b. b || has_flag_named name (kept others flags)) s ∙ rest

-- ---- flags that are named once

all_kept : {X : Type 0} (p : X → Bool) (xs : List X) → list_any p xs ≡ false → filter (λ x. not (p x)) xs ≡ xs
all_kept p [] e = refl
all_kept {X} p (x ∷ xs) e = by (p x) e (all_kept p xs)
  where
    by : (b : Bool) → (b || list_any p xs) ≡ false → (list_any p xs ≡ false → filter (λ y. not (p y)) xs ≡ xs) → cond (not b) (x ∷ filter (λ y. not (p y)) xs) (filter (λ y. not (p y)) xs) ≡ x ∷ xs
    by true q rest = absurd (true≢false q)
    by false q rest = ap (λ l. x ∷ l) (rest q)

pub distinct_itself : (flags : List Flag) → are_distinct flags ≡ true → distinct flags ≡ flags
distinct_itself [] e = refl
distinct_itself (f ∷ flags) e =
    let parts = and_parts (not (list_any (same_flag f) flags)) (are_distinct flags) e in
    ap (λ l. f ∷ filter (λ other. not (same_flag f other)) l) (distinct_itself flags parts.1)
    ∙ ap (λ l. f ∷ l) (all_kept (same_flag f) flags (not-true (list_any (same_flag f) flags) parts.0))

-- ---- what is there after

-- whether a flag is there, from whether it was, and whether it is named
abbrev pub combined : FlagChange → Bool → Bool → Bool
combined Set had named = named
combined Add had named = had || named
combined Remove had named = had && not named

or_rest : (a n : Bool) → (a || (n && not a)) ≡ (a || n)
or_rest true n = refl
or_rest false true = refl
or_rest false false = refl

module _ (named flags : List Flag) (p : list_all is_flag named ≡ true) (q : list_all is_flag flags ≡ true) (once : are_distinct named ≡ true) where
  pub stored_named : (how : FlagChange) (name : List ℕ) → has_flag_named name (stored_flags how named flags) ≡ combined how (has_flag_named name flags) (has_flag_named name named)
  stored_named Set name = ap (has_flag_named name) (distinct_itself named once)
  stored_named Add name =
      list_any-append (λ flag. same_name (flag_text flag) name) flags (filter (λ flag. not (has_flag flag flags)) (distinct named))
      ∙ (ap (λ l. has_flag_named name flags || has_flag_named name (filter (λ flag. not (has_flag flag flags)) l)) (distinct_itself named once)
      ∙ (ap (λ b. has_flag_named name flags || b) (named_without name named flags p q) ∙ or_rest (has_flag_named name flags) (has_flag_named name named)))
  stored_named Remove name = named_without name flags named q p

proper_kept : (test : Flag → Bool) (flags : List Flag) → list_all is_flag flags ≡ true → list_all is_flag (filter test flags) ≡ true
proper_kept test [] e = refl
proper_kept test (f ∷ flags) e =
    let parts = and_parts (is_flag f) (list_all is_flag flags) e in
    by (test f) parts.0 (proper_kept test flags parts.1)
  where
    by : (b : Bool) → is_flag f ≡ true → list_all is_flag (filter test flags) ≡ true → list_all is_flag (cond b (f ∷ filter test flags) (filter test flags)) ≡ true
    by true first rest = and_from (is_flag f) (list_all is_flag (filter test flags)) first rest
    by false first rest = rest

pub stored_proper : (how : FlagChange) (named flags : List Flag) → list_all is_flag named ≡ true → list_all is_flag flags ≡ true → are_distinct named ≡ true → list_all is_flag (stored_flags how named flags) ≡ true
stored_proper Set named flags p q once = ap (list_all is_flag) (distinct_itself named once) ∙ p
stored_proper Add named flags p q once =
    list_all-append is_flag flags (filter (λ flag. not (has_flag flag flags)) (distinct named))
    ∙ and_from (list_all is_flag flags) (list_all is_flag (filter (λ flag. not (has_flag flag flags)) (distinct named))) q
    (proper_kept (λ flag. not (has_flag flag flags)) (distinct named) (ap (list_all is_flag) (distinct_itself named once) ∙ p))
stored_proper Remove named flags p q once = proper_kept (λ flag. not (has_flag flag named)) flags q

-- ---- flags that are the same

named_there : (a b : List Flag) → list_all is_flag a ≡ true → list_all is_flag b ≡ true → list_all (λ flag. has_flag flag b) a ≡ true → (name : List ℕ) → has_flag_named name a ≡ true → has_flag_named name b ≡ true
named_there [] b p q e name h = absurd (false≢true h)
named_there (f ∷ a) b p q e name h =
    let proper = and_parts (is_flag f) (list_all is_flag a) p in
    let there = and_parts (has_flag f b) (list_all (λ flag. has_flag flag b) a) e in
    by (same_name (flag_text f) name) refl (named_flag f b proper.0 q ∙ there.0) (named_there a b proper.1 q there.1 name) h
  where
    by : (c : Bool) → same_name (flag_text f) name ≡ c → has_flag_named (flag_text f) b ≡ true → (has_flag_named name a ≡ true → has_flag_named name b ≡ true) → (c || has_flag_named name a) ≡ true → has_flag_named name b ≡ true
    by true s first rest g = subst (λ n. has_flag_named n b ≡ true) (same_text (flag_text f) name s) first
    by false s first rest g = rest g

-- the same flags are written the same
pub same_named : (a b : List Flag) → list_all is_flag a ≡ true → list_all is_flag b ≡ true → same_flags a b ≡ true → (name : List ℕ) → has_flag_named name a ≡ has_flag_named name b
same_named a b p q e name =
    let parts = and_parts (list_all (λ flag. has_flag flag b) a) (list_all (λ flag. has_flag flag a) b) e in
    same_bool (has_flag_named name a) (has_flag_named name b) (named_there a b p q parts.0 name) (named_there b a q p parts.1 name)
