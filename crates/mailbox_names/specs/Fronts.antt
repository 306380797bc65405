-- Which fronts of a name a pattern matches, and with which front names are looked at.
use Rattle.std.specs.Prelude.{◌≡◌, ℕ, ◌+◌, ◌≤◌, ◌&&◌, ◌||◌, Bool, false, nat_eq, List, length, take, slice_index_or}
use Rattle.std.specs.List.{starts_with}
use Rattle.mailbox_names.specs.Names.{same_name, has_name, inbox}
use Rattle.mailbox_names.specs.Patterns.{matches}

-- For each front of the name, from the empty one to the whole name: whether the pattern matches it.
pub record AreFronts (pattern name : List ℕ) (fronts : List Bool) : Type 0 where
  pub count : length fronts ≡ length name + 1
  pub each : (i : ℕ) → i ≤ length name → slice_index_or fronts i false ≡ matches pattern (take i name)

-- whether a name is INBOX or begins with a front
abbrev pub is_wanted : List ℕ → List ℕ → Bool
is_wanted front name = same_name name inbox || starts_with nat_eq name front

-- The same set as those of the names that are INBOX or begin with a front.
abbrev pub IsPart : List ℕ → List (List ℕ) → List (List ℕ) → Type 0
IsPart front names part = (name : List ℕ) → has_name name part ≡ (is_wanted front name && has_name name names)
