-- What SELECT and EXAMINE are made of (RFC 3501 §6.3.1, §6.3.2). These serve the contracts of private functions alone.
use Rattle.std.specs.Prelude.{ℕ, Bool, List, ◌∷◌, Option, Some, None, if◌then◌else◌, Result, IsOk, IsErrOf}
use Rattle.disk_model.specs.Told.{Told}
use Rattle.row_store.specs.ThreeFiles.{LogMoments, TellsFaults}
use Rattle.row_store.specs.Holding.{stored_by}
use Rattle.row_store.specs.Crashes.{IsSettled}
use Rattle.row_store.specs.Kept.{Store, IfContents}
use Rattle.row_store.specs.declared.faults.StoreFault.{StoreFault}
use Rattle.session_view.specs.declared.sessions.SessionPart.{SessionPart}
use Rattle.session_view.specs.declared.sessions.Selection.{Selection}
use Rattle.session_view.specs.Order.{rising}
use Rattle.mail_world.specs.Worlds.{World}
use Rattle.mail_world.specs.Changes.{Change, TakeRecents}
use Rattle.mail_stands.specs.Stands.{Stands}
use Rattle.mailbox_core.specs.Left.{Left}
use Rattle.mailbox_core.specs.declared.summing.Summary.{Summary}
use Rattle.imap_steps.specs.Stepping.{changed}
use Rattle.imap_exec.specs.Does.{worlds_after}
use Rattle.imap_exec.specs.Ready.{IsReady}

-- the recent messages of a mailbox are taken, or nothing is
abbrev pub recents_if : Bool → ℕ → Option Change
recents_if taken mailbox = if taken then Some (TakeRecents mailbox) else None

-- what a session has of a mailbox of which this was told: the messages, as far as their UIDs ascend, as those of a mailbox do
abbrev pub selection_from : Summary → ℕ → Bool → Selection
selection_from its mailbox read_write = record { mailbox = mailbox; read_write = read_write; view = record { uids = rising 0 its.uids; recent = rising 0 its.recent } }

-- Over tables that stand for a world: after Ok they stand for the world after the change, if there is one, and files that were at rest
-- with them are so again. With whatever answer, what a crash leaves stands for the world before or after it, and for one of those
-- before where a run began earlier.
pub record Changes {D T : Type 0} (told : Told D) (result : Result T StoreFault) (old new : Store D) (world : World) (change : Option Change) : Type 0 where
  pub stands : IsOk result → IfContents told new (λ content. Stands content new.tables (changed world change))
  pub settled : IsOk result → IfContents told old (λ content. IsSettled told old.files (stored_by content old.tables)) → IfContents told new (λ content. IsSettled told new.files (stored_by content new.tables))
  pub leaves : (since : LogMoments) (earlier : List World) → Left told old.files since (world ∷ earlier) → Left told new.files since (worlds_after world change earlier)

-- Whatever the tables are: after Ok the store can be asked again by the sessions that could ask before, and a fault is told only of a
-- disk that counted one.
pub record GoesOn {D T : Type 0} (told : Told D) (result : Result T StoreFault) (old new : Store D) : Type 0 where
  pub ready : IsOk result → (parts : List SessionPart) → IsReady old parts → IsReady new parts
  pub faults : TellsFaults told (IsErrOf result StoreFault.Failed) old.files new.files
