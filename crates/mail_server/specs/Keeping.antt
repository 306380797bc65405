-- That a crash keeps every change of a script's sessions that was handed out.
use Rattle.std.specs.Prelude.{ℕ, ◌≡◌, ◌⊎◌, List, [], ◌∷◌, IfOk}
use Rattle.std.specs.List.{AllByRecursion}
use Rattle.disk_model.specs.Told.{Told}
use Rattle.disk_model.specs.declared.disk.Files.{Files}
use Rattle.port_model.specs.declared.calls.PortCall.{PortCall}
use Rattle.port_model.specs.declared.events.Event.{Event}
use Rattle.port_model.specs.Script.{script_events}
use Rattle.port_model.specs.ScriptPorts.{IsPlayedUntil}
use Rattle.row_store.specs.ThreeFiles.{IfRead, moments}
use Rattle.imap_steps.specs.Stepping.{World}
use Rattle.mailbox_core.specs.Left.{HoldsWorld, Left}
use Rattle.mail_model.specs.HandedOut.{HasHandedOut}
use Rattle.mail_rounds.specs.CoreSeen.{CoreSeen}
use Rattle.mail_rounds.specs.Calls.{Flushes, RoundsPart}
use Rattle.mail_rounds.specs.Served.{KeepsHandedOut}
use Rattle.mail_server.specs.Rounds.{PlaysRounds, plan_of}

-- These are the calls of the rounds that play a script, as far as they went: of so many whole rounds, and then none, those of a part
-- of one more, or those of the last flush. The script answers them, up to one from which on they give nothing.
pub record PlaysSome (first : World) (script : List Event) (calls : List PortCall) : Type 0 where
  pub turns : ℕ
  pub before : List PortCall
  pub had : ℕ → List ℕ
  pub rounds : PlaysRounds first script turns before had
  pub then : (calls ≡ before) ⊎ RoundsPart first before calls ⊎ Flushes first before calls
  pub answered : IsPlayedUntil (plan_of script) calls

-- A script was served from a world as far as these calls went. What a crash leaves of the core, now or at a moment since an
-- earlier one, stands for the world after a prefix of the changes, which has every change that was handed out.
pub record KeepsScript {C : Type 0} (seen : CoreSeen C) (core : C) (first : World) (script : List Event) : Type 0 where
  pub calls : List PortCall
  pub plays : PlaysSome first script calls
  pub since : C
  pub keeps : KeepsHandedOut seen since core first calls

-- The same of what a crash leaves of files, now.
pub record FilesKeep {D : Type 0} (told : Told D) (files : Files D) (first : World) (script : List Event) : Type 0 where
  pub calls : List PortCall
  pub plays : PlaysSome first script calls
  pub worlds : List World
  pub left : Left told files (moments told files) worlds
  pub each : AllByRecursion (HasHandedOut first calls) worlds

-- The same where the files stood for a world, as they were read and after a crash.
abbrev pub KeepsSent : {D : Type 0} → Told D → List Event → Files D → Files D → Type 0
KeepsSent told script files files' =
    IfRead told files (λ bytes. (world : World) → HoldsWorld bytes (world ∷ []) → Left told files (moments told files) (world ∷ []) → FilesKeep told files' world script)

-- The same of the script that a text says. One that says none has no session that is handed out anything.
abbrev pub KeepsText : {D : Type 0} → Told D → List ℕ → Files D → Files D → Type 0
KeepsText told text files files' = IfOk (script_events text) (λ script. KeepsSent told script files files')
