-- What LIST and LSUB tell of names (RFC 3501 §6.3.8, §6.3.9).
use Rattle.std.specs.Prelude.{ℕ, ◌++◌, Bool, not, nat_eq, if◌then◌else◌, List, [], ◌∷◌, map, filter, flat_map}
use Rattle.std.specs.List.{ends_with}
use Rattle.std.specs.Ordering.{nat_cmp}
use Rattle.std.specs.Cmp.Lexicographic.{slice_cmp}
use Rattle.std.specs.BTreeSet.{insert_key}
use Rattle.std.specs.Char.{to_ascii_uppercase}
use Rattle.std.specs.Str.{byte}
use Rattle.mailbox_names.specs.declared.listed.Listed.{Listed}
use Rattle.mailbox_names.specs.Names.{same_name, has_name, inbox, mailbox_name, levels_of}
use Rattle.mailbox_names.specs.Patterns.{matches}

-- INBOX is found in any case, every other name by its bytes.
abbrev pub finds : List ℕ → List ℕ → Bool
finds pattern name = if same_name name inbox then matches (map to_ascii_uppercase pattern) inbox else matches pattern name

-- A pattern that ends with `%` looks for superior levels too.
abbrev pub wants_levels : List ℕ → Bool
wants_levels pattern = ends_with nat_eq pattern (byte "%" ∷ [])

-- The names among which a pattern looks. A level that is INBOX in any case is the name INBOX.
abbrev pub candidates : List ℕ → List (List ℕ) → List (List ℕ)
candidates pattern names = if wants_levels pattern then names ++ map mailbox_name (flat_map levels_of names) else names

-- names by their bytes, each once
abbrev pub in_order : List (List ℕ) → List (List ℕ)
in_order [] = []
in_order (name ∷ names) = insert_key (slice_cmp nat_cmp) (in_order names) name

-- What is told of names where a pattern is asked: those that it finds, and among them the levels that are no names.
unfoldable pub listed : List ℕ → List (List ℕ) → List Listed
listed pattern names = map (λ name. record { name = name; noselect = not (has_name name names) }) (in_order (filter (finds pattern) (candidates pattern names)))
