-- Histories of calls on ports, the newest first: what came by each link, and what was sent.
use Rattle.std.specs.Prelude.{ℕ, ◌==◌, ◌||◌, Bool, false, List, [], ◌∷◌, ◌++◌, Some, None, Ok, Err, take, if◌then◌else◌}
use Rattle.port_model.specs.declared.calls.Kind.{Kind}
use Rattle.port_model.specs.declared.calls.PortSend.{PortSend}
use Rattle.port_model.specs.declared.calls.PortSend.TheVariants.{Took, Lost as SendLost}
use Rattle.port_model.specs.declared.calls.ReadAnswer.TheVariants.{Gave, Quiet, Ended as HasEnded, Lost as WasLost}
use Rattle.port_model.specs.declared.calls.PortCall.{PortCall}
use Rattle.port_model.specs.declared.calls.PortCall.TheVariants.{Accept, Read, Now, Send, Close}
use Rattle.port_model.specs.Streams.{moment}

-- What happens on a link.
pub data PortEvent : Type 0 where
  -- a new link has this number
  Opened : ℕ → Kind → PortEvent
  -- bytes came, at this moment
  Piece : ℕ → List ℕ → ℕ → PortEvent
  -- the peer closed its side
  Ended : ℕ → PortEvent
  -- the link is lost
  Lost : ℕ → PortEvent

-- the piece that the latest call gave, for a reading of the clock right after it
abbrev pub piece_at : ℕ → List PortCall → List PortEvent
piece_at reading (Read number room (Gave bytes) ∷ older) = Piece number bytes (moment reading) ∷ []
piece_at reading older = []

-- the event of a call after older ones, if it makes one
abbrev pub event_of : PortCall → List PortCall → List PortEvent
event_of (Accept number (Ok (Some kind))) older = Opened number kind ∷ []
event_of (Accept number (Ok None)) older = []
event_of (Accept number (Err fault)) older = []
event_of (Read number room (Gave bytes)) older = []
event_of (Read number room Quiet) older = []
event_of (Read number room HasEnded) older = Ended number ∷ []
event_of (Read number room WasLost) older = Lost number ∷ []
event_of (Now reading) older = piece_at reading older
event_of (Send number bytes (Took n)) older = []
event_of (Send number bytes SendLost) older = Lost number ∷ []
event_of (Close number) older = []

-- the events of a history, the newest first
abbrev pub events : List PortCall → List PortEvent
events [] = []
events (call ∷ older) = event_of call older ++ events older

-- what a send took of what it was offered
abbrev pub taken : PortSend → List ℕ → List ℕ
taken (Took n) bytes = take n bytes
taken SendLost bytes = []

-- the bytes that were sent by the link of a number, in the order of time
abbrev pub sent : List PortCall → ℕ → List ℕ
sent [] number = []
sent (Accept who answer ∷ older) number = sent older number
sent (Read who room answer ∷ older) number = sent older number
sent (Now reading ∷ older) number = sent older number
sent (Send who bytes answer ∷ older) number = if who == number then sent older number ++ taken answer bytes else sent older number
sent (Close who ∷ older) number = sent older number

-- whether the link of a number was closed
abbrev pub is_closed : List PortCall → ℕ → Bool
is_closed [] number = false
is_closed (Accept who answer ∷ older) number = is_closed older number
is_closed (Read who room answer ∷ older) number = is_closed older number
is_closed (Now reading ∷ older) number = is_closed older number
is_closed (Send who bytes answer ∷ older) number = is_closed older number
is_closed (Close who ∷ older) number = who == number || is_closed older number
