-- What a script's player holds: the script, and what is left of it.
use Rattle.std.specs.Prelude.{ℕ, ◌≡◌, ◌<◌, Bool, true, not, List, [], ◌∷◌, length, drop, filter}
use Rattle.port_model.specs.declared.calls.PortCall.{PortCall}
use Rattle.port_model.specs.declared.events.Event.{Event}
use Rattle.port_model.specs.declared.events.Event.TheVariants.{Opens, Piece, Ends, Loses}
use Rattle.port_model.specs.Playing.{Plan, Playing, IsAnswered, plays}

-- A piece of a script has one byte at least.
abbrev pub HasBytes : Event → Type 0
HasBytes (Opens kind) = Unit {0}
HasBytes (Piece number bytes moment) = 0 < length bytes
HasBytes (Ends number) = Unit {0}
HasBytes (Loses number) = Unit {0}

-- A plan, and what is left of it.
pub record Played : Type 0 where
  pub plan : Plan
  pub playing : Playing

-- The call has the answer that the script gives, and leaves what it leaves.
pub record Plays (call : PortCall) (old new : Played) : Type 0 where
  pub answered : IsAnswered call old.playing
  pub left : new.playing ≡ plays call old.playing
  pub plan : new.plan ≡ old.plan

-- whether an event happens, where the links of some numbers are closed
abbrev pub is_left : (ℕ → Bool) → Event → Bool
is_left gone (Opens kind) = true
is_left gone (Piece number bytes moment) = not (gone number)
is_left gone (Ends number) = not (gone number)
is_left gone (Loses number) = not (gone number)

-- an event of whose bytes so many were read
abbrev pub past : ℕ → Event → Event
past offset (Opens kind) = Opens kind
past offset (Piece number bytes moment) = Piece number (drop offset bytes) moment
past offset (Ends number) = Ends number
past offset (Loses number) = Loses number

-- events of whose first so many bytes were read
abbrev pub past_first : ℕ → List Event → List Event
past_first offset [] = []
past_first offset (event ∷ later) = past offset event ∷ later

-- the events that are left of these, where so many bytes of the first were read and the links of some numbers are closed
abbrev pub left_of : (ℕ → Bool) → ℕ → List Event → List Event
left_of gone offset events = filter (is_left gone) (past_first offset events)

-- so many bytes of a piece were read, and not all
abbrev pub IsPartRead : ℕ → Event → Type 0
IsPartRead offset (Opens kind) = Unit {0}
IsPartRead offset (Piece number bytes moment) = offset < length bytes
IsPartRead offset (Ends number) = Unit {0}
IsPartRead offset (Loses number) = Unit {0}

-- The first event has bytes left where it is a piece.
abbrev pub HasMore : ℕ → List Event → Type 0
HasMore offset [] = Unit {0}
HasMore offset (event ∷ later) = IsPartRead offset event

-- The first event happens.
abbrev pub Happens : (ℕ → Bool) → List Event → Type 0
Happens gone [] = Unit {0}
Happens gone (event ∷ later) = is_left gone event ≡ true
