-- Flags that are not the same are written differently.
use Rattle.std.proofs.Common.{ℕ, ◌≡◌, ◌&&◌, ◌==◌, nat_eq, Bool, true, false, cond, not, List, [], ◌∷◌, refl, sym, ap, ◌∙◌}
use Rattle.std.specs.Prelude.{codes, nat_le, length}
use Rattle.std.specs.List.{AllByRecursion, list_all, filter}
use Rattle.std.specs.Char.{to_ascii_lowercase}
use Rattle.std.specs.Cmp.Lexicographic.{pointwise}
use Rattle.std.proofs.lemmas.Bool.{true≢false, false≢true, eqb-true, and_parts}
use Rattle.imap_grammar.specs.declared.flags.Flag.{Flag}
use Rattle.imap_grammar.specs.declared.flags.Flag.TheVariants.{Answered, Flagged, Deleted, Seen, Draft, Keyword}
use Rattle.imap_grammar.specs.Classes.{is_atom_byte}
use Rattle.imap_grammar.specs.Flags.{flag_text}
use Rattle.mail_world.specs.Names.{same_name}
use Rattle.mail_world.specs.Flags.{same_flag, distinct, is_flag}
use Rattle.mail_stands.specs.Naming.{Differ}
use Rattle.mail_stands.proofs.Lists.{all_both, all-filter}

-- ---- a keyword begins with no backslash

no_backslash : is_atom_byte 92 ≡ false
unfolding is_atom_byte
no_backslash = refl

starts : (c : ℕ) (rest : List ℕ) → is_flag (Keyword (c ∷ rest)) ≡ true → is_atom_byte c ≡ true
starts c rest e =
    let all = and_parts (nat_le 1 (length (c ∷ rest))) (list_all (λ b. is_atom_byte b && (to_ascii_lowercase b == b)) (c ∷ rest)) e in
    (and_parts (is_atom_byte c) (to_ascii_lowercase c == c) (and_parts (is_atom_byte c && (to_ascii_lowercase c == c)) (list_all (λ b. is_atom_byte b && (to_ascii_lowercase b == b)) rest) all.1).0).0

not_backslash : (c : ℕ) (rest : List ℕ) → is_flag (Keyword (c ∷ rest)) ≡ true → (c == 92) ≡ false
not_backslash c rest e = by (c == 92) refl
  where
    by : (b : Bool) → (c == 92) ≡ b → b ≡ false
    by false q = refl
    by true q = absurd (true≢false (sym (starts c rest e) ∙ (ap is_atom_byte (eqb-true c 92 q) ∙ no_backslash)))

front_differs : (b : Bool) (rest : Bool) → b ≡ false → (b && rest) ≡ false
front_differs true rest e = absurd (true≢false e)
front_differs false rest e = refl

before_keyword : (word name : List ℕ) → is_flag (Keyword name) ≡ true → same_name (92 ∷ word) name ≡ false
before_keyword word [] e = refl
before_keyword word (c ∷ rest) e = front_differs (92 == c) (pointwise nat_eq word rest) (swapped (92 == c) refl)
  where
    swapped : (b : Bool) → (92 == c) ≡ b → b ≡ false
    swapped false q = refl
    swapped true q = absurd (true≢false (sym (starts c rest e) ∙ (ap is_atom_byte (sym (eqb-true 92 c q)) ∙ no_backslash)))

after_keyword : (name word : List ℕ) → is_flag (Keyword name) ≡ true → same_name name (92 ∷ word) ≡ false
after_keyword [] word e = refl
after_keyword (c ∷ rest) word e = front_differs (c == 92) (pointwise nat_eq rest word) (not_backslash c rest e)

-- ---- two flags

-- what is so of each system flag, and of keywords
each : (P : Flag → Type 0) → P Answered → P Flagged → P Deleted → P Seen → P Draft → ((name : List ℕ) → P (Keyword name)) → (flag : Flag) → P flag
each P a f d s r k Answered = a
each P a f d s r k Flagged = f
each P a f d s r k Deleted = d
each P a f d s r k Seen = s
each P a f d s r k Draft = r
each P a f d s r k (Keyword name) = k name

abbrev Same : Flag → Flag → Type 0
Same a b = is_flag a ≡ true → is_flag b ≡ true → same_name (flag_text a) (flag_text b) ≡ same_flag a b

-- flags are written alike exactly where they are the same
pub written : (a b : Flag) → Same a b
written =
    each (λ a. (b : Flag) → Same a b)
    (each (Same Answered) (λ p q. refl) (λ p q. refl) (λ p q. refl) (λ p q. refl) (λ p q. refl) (λ name p q. before_keyword (codes "Answered") name q))
    (each (Same Flagged) (λ p q. refl) (λ p q. refl) (λ p q. refl) (λ p q. refl) (λ p q. refl) (λ name p q. before_keyword (codes "Flagged") name q))
    (each (Same Deleted) (λ p q. refl) (λ p q. refl) (λ p q. refl) (λ p q. refl) (λ p q. refl) (λ name p q. before_keyword (codes "Deleted") name q))
    (each (Same Seen) (λ p q. refl) (λ p q. refl) (λ p q. refl) (λ p q. refl) (λ p q. refl) (λ name p q. before_keyword (codes "Seen") name q))
    (each (Same Draft) (λ p q. refl) (λ p q. refl) (λ p q. refl) (λ p q. refl) (λ p q. refl) (λ name p q. before_keyword (codes "Draft") name q))
    (λ name.
    each (Same (Keyword name)) (λ p q. after_keyword name (codes "Answered") p) (λ p q. after_keyword name (codes "Flagged") p) (λ p q. after_keyword name (codes "Deleted") p) (λ p q. after_keyword name (codes "Seen") p)
    (λ p q. after_keyword name (codes "Draft") p) (λ other p q. refl))

-- ---- each flag once

proper_all : (flags : List Flag) → list_all is_flag flags ≡ true → AllByRecursion (λ flag. is_flag flag ≡ true) flags
proper_all [] e = tt
proper_all (flag ∷ flags) e = let parts = and_parts (is_flag flag) (list_all is_flag flags) e in (parts.0, proper_all flags parts.1)

proper_distinct : (flags : List Flag) → AllByRecursion (λ flag. is_flag flag ≡ true) flags → AllByRecursion (λ flag. is_flag flag ≡ true) (distinct flags)
proper_distinct [] all = tt
proper_distinct (flag ∷ flags) all = (all.0, all-filter (λ f. is_flag f ≡ true) (λ other. not (same_flag flag other)) (distinct flags) (proper_distinct flags all.1))

kept_differ : (flag : Flag) (flags : List Flag) (b : Bool) → AllByRecursion (λ other. same_name (flag_text flag) (flag_text other) ≡ false) flags → Differ flags → Differ (cond b (flag ∷ flags) flags)
kept_differ flag flags true all differ = (all, differ)
kept_differ flag flags false all differ = differ

filter_differs : (p : Flag → Bool) (flags : List Flag) → Differ flags → Differ (filter p flags)
filter_differs p [] differ = tt
filter_differs p (flag ∷ flags) differ =
    kept_differ flag (filter p flags) (p flag) (all-filter (λ other. same_name (flag_text flag) (flag_text other) ≡ false) p flags differ.0) (filter_differs p flags differ.1)

-- those that pass a test, and what holds of them
passing : (p : Flag → Bool) (flags : List Flag) → AllByRecursion (λ flag. p flag ≡ true) (filter p flags)
passing p [] = tt
passing p (flag ∷ flags) = by (p flag) refl (passing p flags)
  where
    by : (b : Bool) → p flag ≡ b → AllByRecursion (λ f. p f ≡ true) (filter p flags) → AllByRecursion (λ f. p f ≡ true) (cond b (flag ∷ filter p flags) (filter p flags))
    by true e rest = (e, rest)
    by false e rest = rest

not_same : (b : Bool) → not b ≡ true → b ≡ false
not_same true e = absurd (false≢true e)
not_same false e = refl

differ_all : (flags : List Flag) → AllByRecursion (λ flag. is_flag flag ≡ true) flags → Differ (distinct flags)
differ_all [] all = tt
differ_all (flag ∷ flags) all =
    let p = λ (other : Flag). not (same_flag flag other) in (
      all_both (λ other. p other ≡ true) (λ other. is_flag other ≡ true) (λ other. same_name (flag_text flag) (flag_text other) ≡ false)
          (λ other apart proper. written flag other all.0 proper ∙ not_same (same_flag flag other) apart) (filter p (distinct flags)) (passing p (distinct flags))
          (all-filter (λ other. is_flag other ≡ true) p (distinct flags) (proper_distinct flags all.1)),
      filter_differs p (distinct flags) (differ_all flags all.1),
    )

-- No two of them are written alike.
pub distinct_differ : (flags : List Flag) → list_all is_flag flags ≡ true → Differ (distinct flags)
distinct_differ flags e = differ_all flags (proper_all flags e)
