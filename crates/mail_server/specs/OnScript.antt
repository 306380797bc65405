-- A server in the middle of a script, and a core that served one.
use Rattle.std.specs.Prelude.{ℕ, ◌≡◌, false, List, ◌∷◌, ◌++◌}
use Rattle.port_model.specs.declared.calls.PortCall.{PortCall}
use Rattle.port_model.specs.declared.events.Event.{Event}
use Rattle.port_model.specs.Playing.{IsPlayed}
use Rattle.port_model.specs.ScriptPorts.{Scripted}
use Rattle.imap_steps.specs.Stepping.{World}
use Rattle.mail_model.specs.Machine.{Made, after}
use Rattle.mail_rounds.specs.CoreSeen.{CoreSeen}
use Rattle.mail_rounds.specs.Crashes.{MachineCrashes, worlds_since}
use Rattle.mail_rounds.specs.Held.{Held}
use Rattle.mail_rounds.specs.Serves.{Serves}
use Rattle.mail_server.specs.Rounds.{plan_of, PlaysRounds, PlaysOut}
use Rattle.mail_server.specs.Script.{script_machine}

-- The ports recorded all calls, which are those of rounds, and the server holds what the machine has after them.
pub record IsOnScript {C : Type 0} (seen : CoreSeen C) (first : World) (script : List Event) (ports : Scripted) (held : Held C) : Type 0 where
  pub told : ports.starved ≡ false
  pub plan : ports.plan ≡ plan_of script
  pub serves : Serves seen first ports.calls held
  pub turns : ℕ
  pub had : ℕ → List ℕ
  pub rounds : PlaysRounds first script turns ports.calls had
  pub answered : IsPlayed (plan_of script) ports.calls

-- The calls play a script to its end from a world, the last session has this number, and the core stands for what is shared then.
pub record HasPlayed {C : Type 0} (seen : CoreSeen C) (first : World) (script : List Event) (calls : List PortCall) (last : ℕ) (core : C) : Type 0 where
  pub plays : PlaysOut first script calls
  pub last_is : last ≡ (script_machine first script).last
  pub stands : seen.stands core (script_machine first script).shared

-- A crash leaves the world after some of these changes, or, where it may be of an earlier moment than the first world, one of before.
abbrev pub LeavesMade : {C : Type 0} → CoreSeen C → C → C → World → List Made → Type 0
LeavesMade seen old new first made = (since : List ℕ) (earlier : List World) → seen.left old since (first ∷ earlier) → seen.left new since (worlds_since first made earlier)

-- The same of the changes that a script makes.
abbrev pub LeavesScript : {C : Type 0} → CoreSeen C → C → C → World → List Event → Type 0
LeavesScript seen old new first script = LeavesMade seen old new first (script_machine first script).changes

-- The changes that were made by the end of a history are the first ones of a script.
abbrev pub IsPartway : World → List Event → List PortCall → Type 0
IsPartway first script calls = (more : List Made) × ((script_machine first script).changes ≡ more ++ (after first calls).changes)

-- A part of a script was served from a history on, to another one by whose end the changes were made that the script makes first.
pub record PartCrashes {C : Type 0} (seen : CoreSeen C) (old new : C) (first : World) (script : List Event) (before : List PortCall) : Type 0 where
  pub later : List PortCall
  pub crashes : MachineCrashes seen old new first before later
  pub partway : IsPartway first script later
