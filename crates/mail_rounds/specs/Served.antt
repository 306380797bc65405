-- What a call of the server did, and that a crash keeps what was handed out.
use Rattle.std.specs.Prelude.{List}
use Rattle.std.specs.List.{AllByRecursion}
use Rattle.port_model.specs.declared.calls.PortCall.{PortCall}
use Rattle.imap_steps.specs.Stepping.{World}
use Rattle.mail_model.specs.HandedOut.{HasHandedOut, SendsAnswered}
use Rattle.mail_rounds.specs.CoreSeen.{CoreSeen}
use Rattle.mail_rounds.specs.Crashes.{MachineCrashes}
use Rattle.mail_rounds.specs.Held.{Held}
use Rattle.mail_rounds.specs.Serves.{Serves}

-- Each image that a crash leaves of a core, of now or of a moment of a file since an earlier core, stands for the world after a
-- prefix of the changes of a history, and the prefix has every change that was handed out.
pub record KeepsHandedOut {C : Type 0} (seen : CoreSeen C) (since core : C) (first : World) (history : List PortCall) : Type 0 where
  pub worlds : List World
  pub left : seen.left core (seen.moments since) worlds
  pub each : AllByRecursion (HasHandedOut first history) worlds

-- What a call of the server did, from one history to a later one, whether or not it went well.
pub record Served {C : Type 0} (seen : CoreSeen C) (Calls : World → List PortCall → List PortCall → Type 0) (old new : C) (first : World) (before later : List PortCall) : Type 0 where
  -- It made these calls on the ports. All that was sent by its end had been answered before it.
  pub calls : Calls first before later
  pub sends : SendsAnswered first before later
  -- A crash leaves the world after some of the changes that it made, or, where it may be of an earlier moment, one of before.
  pub crash : MachineCrashes seen old new first before later
  -- A crash at any moment since it began keeps every change that was handed out, also by what it sent itself.
  pub keeps : KeepsHandedOut seen old new first later

-- A call that went well: where the server held what the machine had, it holds what the machine has then.
abbrev pub ServesAll : {C : Type 0} → CoreSeen C → (World → List PortCall → List PortCall → Type 0) → Held C → Held C → List PortCall → List PortCall → Type 0
ServesAll seen Calls old new before later =
    (first : World) → Serves seen first before old → Served seen Calls old.core new.core first before later × Serves seen first later new

-- A call that ended with a fault.
abbrev pub ServesPart : {C : Type 0} → CoreSeen C → (World → List PortCall → List PortCall → Type 0) → Held C → Held C → List PortCall → List PortCall → Type 0
ServesPart seen Calls old new before later = (first : World) → Serves seen first before old → Served seen Calls old.core new.core first before later
