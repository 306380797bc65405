-- What it comes to that the sessions of a script are served from a store.
use Rattle.std.specs.Prelude.{ℕ, ◌≡◌, List, [], ◌∷◌, Result, IfOk, IsErr}
use Rattle.disk_model.specs.Told.{Told}
use Rattle.disk_model.specs.declared.disk.Files.{Files}
use Rattle.port_model.specs.declared.events.Event.{Event}
use Rattle.row_store.specs.ThreeFiles.{FaultRose, CountsNoFault, LogMoments}
use Rattle.row_store.specs.Kept.{Store}
use Rattle.imap_steps.specs.Stepping.{World}
use Rattle.mailbox_core.specs.Left.{Left}
use Rattle.mail_rounds.specs.Crashes.{worlds_since}
use Rattle.mail_server.specs.declared.answer.Answer.{Answer}
use Rattle.mail_server.specs.declared.status.Status.{Status}
use Rattle.mail_server.specs.declared.status.Status.TheVariants.{Done, Usage, NoMemory, ReadFault, WriteFault, StoreFault, NotAStore, Refused, BadScript, ListenFault}
use Rattle.mail_server.specs.Keeping.{FilesKeep, KeepsSent}
use Rattle.mail_server.specs.Run.{IsPlayedOut, ServesEnd}
use Rattle.mail_server.specs.Script.{script_machine}
use Rattle.mail_server.specs.WorldFiles.{IfStands, LeavesChanges, SettledFor}

-- From the store that the files hold: how it ends, what a crash leaves, that it keeps what was handed out, and that no call on a file
-- failed where memory was refused.
pub record ServesFiles {D E : Type 0} (told : Told D) (script : List Event) (answer : Result Answer E) (files files' : Files D) : Type 0 where
  pub ends : IfOk answer (λ answer. ServesEnd told script answer.lines.items files files' answer.status)
  pub leaves : LeavesChanges told (λ world. (script_machine world script).changes) files files'
  pub keeps : KeepsSent told script files files'
  pub quiet : IsErr answer → CountsNoFault told files files'

-- How it ends where the store was loaded,
abbrev pub StoreEnd : {D : Type 0} → Told D → List Event → List ℕ → Store D → Files D → Status → Type 0
StoreEnd told script lines store files' Done =
    IfStands told store (λ first. IsPlayedOut first script lines × SettledFor told files' (script_machine first script).shared.world) × CountsNoFault told store.files files'
StoreEnd told script lines store files' StoreFault = (lines ≡ []) × FaultRose told store.files files'
StoreEnd told script lines store files' NotAStore = ⊥
StoreEnd told script lines store files' Usage = ⊥
StoreEnd told script lines store files' NoMemory = ⊥
StoreEnd told script lines store files' ReadFault = ⊥
StoreEnd told script lines store files' WriteFault = ⊥
StoreEnd told script lines store files' Refused = ⊥
StoreEnd told script lines store files' BadScript = ⊥
StoreEnd told script lines store files' ListenFault = ⊥

-- and the same of it.
pub record ServesStore {D E : Type 0} (told : Told D) (script : List Event) (answer : Result Answer E) (store : Store D) (files' : Files D) : Type 0 where
  pub ends : IfOk answer (λ answer. StoreEnd told script answer.lines.items store files' answer.status)
  pub leaves : IfStands told store (λ world. (since : LogMoments) (earlier : List World) → Left told store.files since (world ∷ earlier)
      → Left told files' since (worlds_since world (script_machine world script).changes earlier))
  pub keeps : IfStands told store (λ world. FilesKeep told files' world script)
  pub quiet : IsErr answer → CountsNoFault told store.files files'
