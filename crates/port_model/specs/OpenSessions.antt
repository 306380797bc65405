-- Which sessions are open after some events of a script, as flags tell it.
use Rattle.std.specs.Prelude.{ℕ, ◌≡◌, ◌<◌, ◌-◌, Bool, false, List, length, slice_index_or, count_by}
use Rattle.std.specs.List.{list_any}
use Rattle.port_model.specs.declared.events.Event.{Event}
use Rattle.port_model.specs.Script.{opens, closes, is_open}

-- There is a flag for each session that was opened, in the order of their numbers, which go from 1. It says whether the
-- session is open. No later session was ended or lost.
pub record TellOpen (events : List Event) (flags : List Bool) : Type 0 where
  pub sessions : length flags ≡ count_by opens events
  pub each : (number : ℕ) → 0 < number → slice_index_or flags (number - 1) false ≡ is_open events number
  pub later : (number : ℕ) → count_by opens events < number → list_any (closes number) events ≡ false
