use Rattle.std.proofs.Common.{◌≡◌, ℕ, ◌≤◌, ◌<◌, ◌++◌, true}
use Rattle.std.specs.List.{list_any}
use Rattle.ordered_rows.specs.Listed.{has_number}
use Rattle.row_tables.specs.Keys.{body_part_key}
use Rattle.row_store.proofs.bodies.least_free.Given as goal

-- each id below is taken
abbrev pub invariant-loop-id : goal.invariant-loop-id
invariant-loop-id l = (m : ℕ) → 1 ≤ m → m < l.id → list_any (has_number body_part_key m) (l.tables.shared.bodyparts ++ l.placed) ≡ true
