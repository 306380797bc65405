-- A script as a whole: its events are those of its lines, each of which is good behind the lines before it.
use Rattle.std.specs.Prelude.{ℕ, ◌≡◌, ◌<◌, ◌||◌, Bool, true, false, List, [], ◌∷◌, Some, None, is_some, length, take, slice_index_or, flat_map, if◌then◌else◌}
use Rattle.port_model.specs.declared.events.Event.{Event}
use Rattle.port_model.specs.Script.{says_nothing, line_event, next_event}

-- the event of a line, if it has one
abbrev pub its_events : List ℕ → List Event
its_events line = if says_nothing line then [] else (elim (line_event line) [ None ↦ [] | Some event ↦ event ∷ [] ])

-- whether a line is good behind some others: it says nothing, or has an event that may come after theirs
abbrev pub is_good : List (List ℕ) → List ℕ → Bool
is_good earlier line = says_nothing line || is_some (next_event (flat_map its_events earlier) line)

-- so many of the lines are good, each behind those before it
abbrev pub AreGood : List (List ℕ) → ℕ → Type 0
AreGood lines count = (k : ℕ) → k < count → is_good (take k lines) (slice_index_or lines k []) ≡ true

-- All lines are good, and these are their events.
pub record AreAllGood (lines : List (List ℕ)) (events : List Event) : Type 0 where
  pub good : AreGood lines (length lines)
  pub theirs : events ≡ flat_map its_events lines

-- The first bad line has so many lines before it.
pub record IsFirstBad (lines : List (List ℕ)) (before : ℕ) : Type 0 where
  pub within : before < length lines
  pub good : AreGood lines before
  pub bad : is_good (take before lines) (slice_index_or lines before []) ≡ false
