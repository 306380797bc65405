-- What one call on ports may answer and leave.
use Rattle.std.specs.Prelude.{ℕ, ◌≤◌, ◌<◌, List, ◌∷◌, take}
use Rattle.port_model.specs.declared.calls.PortCall.{PortCall}
use Rattle.port_model.specs.declared.calls.PortRead.{PortRead}
use Rattle.port_model.specs.declared.calls.PortRead.TheVariants.{Bytes, Quiet, Ended, Lost}
use Rattle.port_model.specs.declared.calls.PortSend.{PortSend}
use Rattle.port_model.specs.declared.calls.PortSend.TheVariants.{Took, Lost as SendLost}
use Rattle.port_model.specs.declared.calls.ReadAnswer.{ReadAnswer}
use Rattle.port_model.specs.declared.calls.ReadAnswer.TheVariants.{Gave, Quiet as WasQuiet, Ended as HasEnded, Lost as WasLost}

-- A call goes on with each history that ports may have had.
abbrev pub Records : PortCall → (List PortCall → Type 0) → (List PortCall → Type 0) → Type 0
Records call old new = (before : List PortCall) → old before → new (call ∷ before)

-- No count of faults fell.
pub record NeverFall (listening : ℕ) (links : ℕ → ℕ) (listening' : ℕ) (links' : ℕ → ℕ) : Type 0 where
  pub listen : listening ≤ listening'
  pub each : (number : ℕ) → links number ≤ links' number

-- what a read answered, with the bytes at the front of its buffer
abbrev pub answer_of_read : PortRead → List ℕ → ReadAnswer
answer_of_read (Bytes n) buffer = Gave (take n buffer)
answer_of_read Quiet buffer = WasQuiet
answer_of_read Ended buffer = HasEnded
answer_of_read Lost buffer = WasLost

-- A read that gives bytes gives one at least, and no more than the buffer has room for.
abbrev pub ReadsWithin : ℕ → PortRead → Type 0
ReadsWithin room (Bytes n) = (0 < n) × (n ≤ room)
ReadsWithin room Quiet = Unit {0}
ReadsWithin room Ended = Unit {0}
ReadsWithin room Lost = Unit {0}

-- A send takes no more than it was offered.
abbrev pub TakesWithin : ℕ → PortSend → Type 0
TakesWithin offered (Took n) = n ≤ offered
TakesWithin offered SendLost = Unit {0}
