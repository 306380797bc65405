-- The names of mailboxes that are renamed.
use Rattle.std.proofs.Common.{ℕ, ◌≡◌, ◌==◌, Bool, true, false, cond, List, [], ◌∷◌, ◌++◌, length, take, drop, refl, sym, ap, subst, ◌∙◌, ⊎_elim, arith, append_assoc, append-nil}
use Rattle.std.specs.Prelude.{◌&&◌, nat_eq, nat_lt, nat_le}
use Rattle.std.specs.List.{list_all, slice_split, onto_first}
use Rattle.std.specs.Cmp.Lexicographic.{pointwise, bytes_decides}
use Rattle.std.proofs.Math.Seq.{drop-append_seam}
use Rattle.std.proofs.lemmas.Bool.{and_parts, and_from, or_cases, ltb-false, le-leb}
use Rattle.std.proofs.lemmas.List.{take-append-drop}
use Rattle.std.proofs.lemmas.List.Folds.{list_all-append}
use Rattle.row_tables.specs.Fits.{IsText}
use Rattle.mail_world.specs.Names.{same_name, separator, is_name_byte, is_level, is_mailbox_name, is_inferior, is_renamed, renamed_as, longest_name}

pub same_bytes : (a b : List ℕ) → pointwise nat_eq a b ≡ true → a ≡ b
same_bytes a b e = (bytes_decides a b).0 e

-- ---- what a renamed name is

-- what comes behind an upper name
below : (from name : List ℕ) → is_inferior from name ≡ true → name ≡ from ++ separator ∷ drop (length (from ++ separator ∷ [])) name
below from name e =
    let front = same_bytes (from ++ separator ∷ []) (take (length (from ++ separator ∷ [])) name) e in
    sym (take-append-drop (length (from ++ separator ∷ [])) name)
    ∙ ap (λ first. first ++ drop (length (from ++ separator ∷ [])) name) (sym front)
    ∙ append_assoc from (separator ∷ []) (drop (length (from ++ separator ∷ [])) name)

behind : (from name rest : List ℕ) → name ≡ from ++ rest → drop (length from) name ≡ rest
behind from name rest e = ap (drop (length from)) e ∙ drop-append_seam from rest

-- ---- levels

-- The levels of a name that goes on behind a separator are those of both parts.
record Levels (a b : List ℕ) : Type 0 where
  first : List ℕ
  rest : List (List ℕ)
  alone : slice_split (λ c. c == separator) a ≡ first ∷ rest
  both : slice_split (λ c. c == separator) (a ++ separator ∷ b) ≡ first ∷ (rest ++ slice_split (λ c. c == separator) b)

levels : (a b : List ℕ) → Levels a b
levels [] b = record { first = []; rest = []; alone = refl; both = refl }
levels (x ∷ a) b = by (x == separator) refl (levels a b)
  where
    by : (t : Bool) → (x == separator) ≡ t → Levels a b → Levels (x ∷ a) b
    by true e its = record {
      first = [];
      rest = its.first ∷ its.rest;
      alone = ap (λ t. cond t ([] ∷ slice_split (λ c. c == separator) a) (onto_first x (slice_split (λ c. c == separator) a))) e ∙ ap (λ parts. [] ∷ parts) its.alone;
      both = ap (λ t. cond t ([] ∷ slice_split (λ c. c == separator) (a ++ separator ∷ b)) (onto_first x (slice_split (λ c. c == separator) (a ++ separator ∷ b)))) e ∙ ap (λ parts. [] ∷ parts) its.both;
    }
    by false e its = record {
      first = x ∷ its.first;
      rest = its.rest;
      alone = ap (λ t. cond t ([] ∷ slice_split (λ c. c == separator) a) (onto_first x (slice_split (λ c. c == separator) a))) e ∙ ap (onto_first x) its.alone;
      both = ap (λ t. cond t ([] ∷ slice_split (λ c. c == separator) (a ++ separator ∷ b)) (onto_first x (slice_split (λ c. c == separator) (a ++ separator ∷ b)))) e ∙ ap (onto_first x) its.both;
    }

abbrev are_levels : List ℕ → Bool
are_levels name = list_all is_level (slice_split (λ c. c == separator) name)

levels_both : (a b : List ℕ) → are_levels (a ++ separator ∷ b) ≡ (are_levels a && are_levels b)
levels_both a b =
    let its = levels a b in
    ap (list_all is_level) its.both ∙ list_all-append is_level (its.first ∷ its.rest) (slice_split (λ c. c == separator) b)
    ∙ ap (λ parts. list_all is_level parts && are_levels b) (sym its.alone)

-- ---- a renamed mailbox has a name again

record IsName (name : List ℕ) : Type 0 where
  bytes : list_all is_name_byte name ≡ true
  levels : are_levels name ≡ true

parts : (name : List ℕ) → is_mailbox_name name ≡ true → IsName name
unfolding is_mailbox_name
parts name e =
    let first = (and_parts (list_all is_name_byte name && are_levels name) (nat_le (length name) longest_name) e).0 in
    let both = and_parts (list_all is_name_byte name) (are_levels name) first in
    record { bytes = both.0; levels = both.1 }

whole : (name : List ℕ) → IsName name → nat_lt longest_name (length name) ≡ false → is_mailbox_name name ≡ true
unfolding is_mailbox_name
whole name its short =
    and_from (list_all is_name_byte name && are_levels name) (nat_le (length name) longest_name)
    (and_from (list_all is_name_byte name) (are_levels name) its.bytes its.levels) (le-leb (length name) longest_name (ltb-false longest_name (length name) short))

moved_below : (from to rest : List ℕ) → IsName to → IsName (from ++ separator ∷ rest) → IsName (to ++ separator ∷ rest)
moved_below from to rest new old = record {
  bytes = list_all-append is_name_byte to (separator ∷ rest) ∙ and_from (list_all is_name_byte to) (list_all is_name_byte (separator ∷ rest)) new.bytes
      (and_parts (list_all is_name_byte from) (list_all is_name_byte (separator ∷ rest)) (sym (list_all-append is_name_byte from (separator ∷ rest)) ∙ old.bytes)).1;
  levels = levels_both to rest ∙ and_from (are_levels to) (are_levels rest) new.levels (and_parts (are_levels from) (are_levels rest) (sym (levels_both from rest) ∙ old.levels)).1;
}

pub renamed_name : (from to name : List ℕ) → is_mailbox_name to ≡ true → is_mailbox_name name ≡ true → is_renamed from name ≡ true → nat_lt longest_name (length (renamed_as from to name)) ≡ false
    → is_mailbox_name (renamed_as from to name) ≡ true
renamed_name from to name proper was under short =
    ⊎_elim (λ same. subst (λ rest. is_mailbox_name (to ++ rest) ≡ true) (sym (behind from name [] (same_bytes name from same ∙ sym (append-nil from)))) (subst (λ n. is_mailbox_name n ≡ true) (sym (append-nil to)) proper))
    (λ lower.
    let rest = drop (length (from ++ separator ∷ [])) name in
    let is = below from name lower in
    whole (renamed_as from to name)
    (subst (λ end. IsName (to ++ end)) (sym (behind from name (separator ∷ rest) is)) (moved_below from to rest (parts to proper) (subst IsName is (parts name was)))) short)
    (or_cases (same_name name from) (is_inferior from name) under)

pub renamed_text : (from to name : List ℕ) → nat_lt longest_name (length (renamed_as from to name)) ≡ false → IsText (renamed_as from to name)
renamed_text from to name short = omega (arith, ltb-false longest_name (length (renamed_as from to name)) short)
