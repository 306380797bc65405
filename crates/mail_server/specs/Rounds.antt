-- The rounds that play a script: those of the server, on ports that answer as the script has it.
use Rattle.std.specs.Prelude.{ℕ, ◌≡◌, ◌≢◌, ◌≤◌, zero, suc, ◌==◌, ◌||◌, Bool, false, List, [], ◌∷◌, ◌++◌, length, if◌then◌else◌}
use Rattle.port_model.specs.declared.events.Event.{Event}
use Rattle.port_model.specs.declared.events.Event.TheVariants.{Opens, Piece, Ends, Loses}
use Rattle.port_model.specs.declared.calls.PortCall.{PortCall}
use Rattle.port_model.specs.History.{events, sent}
use Rattle.port_model.specs.Playing.{Plan, IsPlayed, playing}
use Rattle.imap_steps.specs.Stepping.{World}
use Rattle.mail_model.specs.Machine.{after}
use Rattle.mail_rounds.specs.Calls.{Flushes, Takes, is_lost}
use Rattle.mail_server.specs.Script.{script_machine}

-- the events, where each send takes all that it is offered
abbrev pub plan_of : List Event → Plan
plan_of events = record { events = events; sends = [] }

abbrev pub left_in : List Event → List PortCall → List Event
left_in script calls = (playing (plan_of script) calls).left

-- what each session was answered at the end of the last flush that ended before its link was lost, by that of the flushes before
abbrev pub reached : World → List PortCall → (ℕ → List ℕ) → ℕ → List ℕ
reached first flushed before number = if is_lost number (events flushed) then before number else (after first flushed).out number

-- One more round, before which something was left of the script.
pub record NextRound (first : World) (script : List Event) (Earlier : List PortCall → (ℕ → List ℕ) → Type 0) (calls : List PortCall) (got : ℕ → List ℕ) : Type 0 where
  pub before : List PortCall
  pub had : ℕ → List ℕ
  pub earlier : Earlier before had
  pub some_left : left_in script before ≢ []
  pub flushed : List PortCall
  pub flushes : Flushes first before flushed
  pub takes : Takes first flushed calls
  pub got_is : (number : ℕ) → got number ≡ reached first flushed had number

-- These are the calls of so many rounds, in which each session was answered this by the last flush before its link was lost.
abbrev pub PlaysRounds : World → List Event → ℕ → List PortCall → (ℕ → List ℕ) → Type 0
PlaysRounds first script zero calls got = (calls ≡ []) × ((number : ℕ) → got number ≡ [])
PlaysRounds first script (suc turns) calls got = NextRound first script (PlaysRounds first script turns) calls got

-- A history is that of so many rounds on the script's ports, as long as something is left of the script, and of a last flush.
pub record PlaysBy (first : World) (script : List Event) (turns : ℕ) (calls : List PortCall) : Type 0 where
  pub before : List PortCall
  pub had : ℕ → List ℕ
  pub rounds : PlaysRounds first script turns before had
  pub none_left : left_in script before ≡ []
  pub flushes : Flushes first before calls
  pub answered : IsPlayed (plan_of script) calls

-- whether an event of a script is that the link of a number is lost
abbrev pub is_loss_of : ℕ → Event → Bool
is_loss_of number (Opens kind) = false
is_loss_of number (Piece who bytes at) = false
is_loss_of number (Ends who) = false
is_loss_of number (Loses who) = who == number

abbrev pub has_loss : ℕ → List Event → Bool
has_loss number [] = false
has_loss number (event ∷ later) = is_loss_of number event || has_loss number later

-- A history plays a script to its end.
pub record PlaysOut (first : World) (script : List Event) (calls : List PortCall) : Type 0 where
  -- It is the one of the rounds on the script's ports, of which there are no more than the script has events, and nothing is
  -- left of the script: each event was taken or, being of a session whose link is closed, skipped.
  pub turns : ℕ
  pub plays : PlaysBy first script turns calls
  pub bound : turns ≤ length script
  pub nothing_left : left_in script calls ≡ []
  -- What came in it led the machine to where the script does.
  pub machine : after first calls ≡ script_machine first script
  -- Each session was sent what it had been answered at the end of the last flush that ended before its link was lost, and all
  -- that the machine answers it where no event loses its link. That is a front of what the machine answers it.
  pub sends : (number : ℕ) → sent calls number ≡ reached first calls plays.had number
  pub whole : (number : ℕ) → has_loss number script ≡ false → sent calls number ≡ (script_machine first script).out number
  pub front : (number : ℕ) → (rest : List ℕ) × ((script_machine first script).out number ≡ sent calls number ++ rest)
