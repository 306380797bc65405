-- What the calls that carry out a step promise.
use Rattle.std.specs.Prelude.{◌≡◌, ℕ, ◌++◌, List, ◌∷◌, Option, Some, None, Result, IsOk, IsErrOf, IfOk}
use Rattle.disk_model.specs.Told.{Told}
use Rattle.row_store.specs.ThreeFiles.{LogMoments, TellsFaults}
use Rattle.row_store.specs.Holding.{stored_by}
use Rattle.row_store.specs.Crashes.{IsSettled}
use Rattle.row_store.specs.Kept.{Store, IfContents}
use Rattle.row_store.specs.declared.faults.StoreFault.{StoreFault}
use Rattle.session_view.specs.declared.sessions.SessionPart.{SessionPart}
use Rattle.mail_world.specs.Worlds.{World}
use Rattle.mail_world.specs.Changes.{Change}
use Rattle.mail_stands.specs.Stands.{Stands}
use Rattle.mailbox_core.specs.Left.{Left}
use Rattle.imap_steps.specs.declared.outcome.Outcome.{Outcome}
use Rattle.imap_steps.specs.Stepping.{Shared, Stepped, applied, changed}
use Rattle.imap_exec.specs.Ready.{IsReady}

-- After Ok the answer of a step was added, and what becomes of the link is told.
pub record Tells (result : Result Outcome StoreFault) (before after : List ℕ) (stepped : Stepped) : Type 0 where
  pub answer : IsOk result → after ≡ before ++ stepped.answer
  pub outcome : IfOk result (λ outcome. (outcome.closes ≡ stepped.closes) × (outcome.awaits ≡ stepped.next))

-- the worlds that a step goes through, the newest first, in front of those before its own
abbrev pub worlds_after : World → Option Change → List World → List World
worlds_after world None earlier = world ∷ earlier
worlds_after world (Some change) earlier = applied world change ∷ world ∷ earlier

-- Over tables that stand for the world that the sessions share: after Ok the tables stand for the world after the step, files that were
-- at rest with the tables are so again, the sessions' own parts are those after it, and its answer was added. With whatever answer, what a crash leaves stands for the world before or
-- after it, and for one of those before where a run began earlier.
pub record Does {D : Type 0} (told : Told D) (result : Result Outcome StoreFault) (old new : Store D) (parts : List SessionPart) (before after : List ℕ) (shared : Shared) (stepped : Stepped) : Type 0 where
  pub stands : IsOk result → IfContents told new (λ content. Stands content new.tables (changed shared.world stepped.change))
  pub settled : IsOk result → IfContents told old (λ content. IsSettled told old.files (stored_by content old.tables)) → IfContents told new (λ content. IsSettled told new.files (stored_by content new.tables))
  pub parts_are : IsOk result → parts ≡ stepped.parts
  pub tells : Tells result before after stepped
  pub leaves : (since : LogMoments) (earlier : List World) → Left told old.files since (shared.world ∷ earlier) → Left told new.files since (worlds_after shared.world stepped.change earlier)

-- what is done by a store and sessions of these parts, whatever the world that the store's tables stand for
abbrev pub Carries : {D : Type 0} → Told D → Result Outcome StoreFault → Store D → Store D → List SessionPart → List SessionPart → List ℕ → List ℕ → (Shared → Stepped) → Type 0
Carries told result old new parts parts' before after steps =
    IfContents told old (λ content. (world : World) → Stands content old.tables world
    → Does told result old new parts' before after (record { world = world; parts = parts }) (steps (record { world = world; parts = parts })))

-- A step is carried out by a store, with the sessions' own parts, and its answer is added to what was answered before.
pub record Executes {D : Type 0} (told : Told D) (result : Result Outcome StoreFault) (old new : Store D) (parts parts' : List SessionPart) (before after : List ℕ) (steps : Shared → Stepped) : Type 0 where
  pub carries : Carries told result old new parts parts' before after steps
  -- whatever the tables are: after Ok the store and the sessions can be asked again
  pub ready : IsOk result → IsReady new parts'
  -- and a fault is told only of a disk that counted one
  pub faults : TellsFaults told (IsErrOf result StoreFault.Failed) old.files new.files
