-- A server, and its core, in the middle of the rounds that serve links.
use Rattle.std.specs.Prelude.{ℕ, List}
use Rattle.port_model.specs.declared.calls.PortCall.{PortCall}
use Rattle.imap_steps.specs.Stepping.{World}
use Rattle.mail_model.specs.Machine.{after}
use Rattle.mail_model.specs.HandedOut.{SendsAnswered}
use Rattle.mail_rounds.specs.Calls.{Rounds, RoundsPart}
use Rattle.mail_rounds.specs.CoreSeen.{CoreSeen}
use Rattle.mail_rounds.specs.Held.{Held}
use Rattle.mail_rounds.specs.Serves.{Serves}
use Rattle.mail_server.specs.LinkHistories.{KeepsOnLinks, MakesRounds, StopsRounds}
use Rattle.mail_server.specs.OnScript.{LeavesMade}

-- A crash now leaves one of these worlds.
abbrev pub LeavesNow : {C : Type 0} → CoreSeen C → C → List World → Type 0
LeavesNow {C} seen core worlds = (then : C) × seen.left core (seen.moments then) worlds

-- What led from one history to a longer one leaves the changes that were made by its end.
abbrev pub LeavesOn : {C : Type 0} → CoreSeen C → C → C → World → List PortCall → List PortCall → Type 0
LeavesOn {C} seen old new first before later =
    (began : C) → LeavesMade seen began old first (after first before).changes → LeavesMade seen began new first (after first later).changes

-- What the sessions of links came to whose history this is: each was sent a front of what it is answered, a crash keeps every change
-- that was handed out, and since earlier moments a crash leaves some of the changes.
pub record HasServed {C : Type 0} (seen : CoreSeen C) (first : World) (calls : List PortCall) (old new : C) : Type 0 where
  pub front : SendsAnswered first calls calls
  pub kept : KeepsOnLinks first calls (LeavesNow seen new)
  pub leaves : LeavesMade seen old new first (after first calls).changes

-- A round was made.
pub record MakesRound {C : Type 0} (seen : CoreSeen C) (first : World) (old new : Held C) (before later : List PortCall) : Type 0 where
  pub rounds : Rounds first before later
  pub serves : Serves seen first later new
  pub kept : KeepsOnLinks first later (LeavesNow seen new.core)
  pub leaves : LeavesOn seen old.core new.core first before later

-- A round was ended by a fault.
pub record StopsRound {C : Type 0} (seen : CoreSeen C) (first : World) (old new : Held C) (before later : List PortCall) : Type 0 where
  pub part : RoundsPart first before later
  pub front : SendsAnswered first later later
  pub kept : KeepsOnLinks first later (LeavesNow seen new.core)
  pub leaves : LeavesOn seen old.core new.core first before later

-- Where the server held what the machine had.
abbrev pub MadeBy : {C : Type 0} → CoreSeen C → Held C → Held C → List PortCall → List PortCall → Type 0
MadeBy seen old new before later = (first : World) → Serves seen first before old → MakesRound seen first old new before later

abbrev pub StoppedBy : {C : Type 0} → CoreSeen C → Held C → Held C → List PortCall → List PortCall → Type 0
StoppedBy seen old new before later = (first : World) → Serves seen first before old → StopsRound seen first old new before later

-- All rounds were made from no history on, from a server that had no link.
pub record MadeAll {C : Type 0} (seen : CoreSeen C) (first : World) (rounds : ℕ) (calls : List PortCall) (old new : Held C) : Type 0 where
  pub made : MakesRounds first rounds calls
  pub serves : Serves seen first calls new
  pub kept : KeepsOnLinks first calls (LeavesNow seen new.core)
  pub leaves : LeavesMade seen old.core new.core first (after first calls).changes

-- Fewer were made.
pub record MadeSome {C : Type 0} (seen : CoreSeen C) (first : World) (rounds : ℕ) (calls : List PortCall) (old new : C) : Type 0 where
  pub stops : StopsRounds first rounds calls
  pub served : HasServed seen first calls old new
