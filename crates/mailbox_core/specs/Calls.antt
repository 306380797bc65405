-- What the calls that change a store promise.
use Rattle.std.specs.Prelude.{◌≡◌, false, List, [], ◌∷◌, Option, Some, None, Result, Err, IsOk, IsErrOf, MatchResult}
use Rattle.disk_model.specs.Told.{Told}
use Rattle.row_tables.specs.TableRows.{TableRows}
use Rattle.row_store.specs.ThreeFiles.{LogMoments, moments, TellsFaults}
use Rattle.row_store.specs.Holding.{stored_by}
use Rattle.row_store.specs.Crashes.{IsSettled, Commits}
use Rattle.row_store.specs.Kept.{Store, IfContents}
use Rattle.mail_world.specs.Worlds.{World}
use Rattle.mail_world.specs.Changes.{Change, Refusal}
use Rattle.mail_world.specs.Applying.{apply, refused}
use Rattle.mail_stands.specs.Stands.{Stands}
use Rattle.mail_stands.specs.Leading.{KeepsOwners}
use Rattle.mailbox_core.specs.declared.faults.MailFault.{MailFault}
use Rattle.mailbox_core.specs.Faults.{fault_of, IsOutage}
use Rattle.mailbox_core.specs.Left.{Left}

-- ---- over any tables

-- What a call does to a store, whatever its tables are: it commits one list of changes, or nothing. `Keeps` says what stays as it is in
-- tables.
pub record BehavesBy {D T : Type 0} (Keeps : TableRows → TableRows → Type 0) (told : Told D) (result : Result T MailFault) (old new : Store D) : Type 0 where
  -- the tables with its changes
  pub after : TableRows
  pub owners : Keeps old.tables after
  -- at each return what a crash leaves has the tables of before or these
  pub crash : IfContents told old (λ content. Commits told (IsOk result) old.files new.files (stored_by content old.tables) (stored_by content after))
  -- after Ok the store has these, and goes on
  pub done : IsOk result → (new.tables ≡ after) × (new.placed ≡ []) × (new.spent ≡ false)
  -- a refused call changes nothing
  pub unchanged : (refusal : Refusal) → result ≡ Err (fault_of refusal) → new ≡ old
  -- without memory no file is touched
  pub untouched : IsErrOf result MailFault.NoMemory → new.files ≡ old.files
  pub faults : TellsFaults told (IsErrOf result MailFault.Failed) old.files new.files

-- the same of a call that takes nobody's mailbox
abbrev pub Behaves : {D T : Type 0} → Told D → Result T MailFault → Store D → Store D → Type 0
Behaves told result old new = BehavesBy KeepsOwners told result old new

-- ---- over tables that stand for a world

-- the answer, but for a disk's fault and want of memory
abbrev pub AnswersUnlessFailed : {T : Type 0} → Result T MailFault → T → Type 0
AnswersUnlessFailed result answer = MatchResult result (λ given. given ≡ answer) IsOutage

-- How a change is made: after Ok the tables stand for the world after it, and the files are at rest and hold them. At each return,
-- with whatever answer, what a crash leaves stands for the world before or after it, and for one of those before where a run began
-- earlier.
pub record IsMade {D T : Type 0} (told : Told D) (result : Result T MailFault) (old new : Store D) (world after : World) (answer : T) : Type 0 where
  pub answers : AnswersUnlessFailed result answer
  pub stands : IsOk result → IfContents told new (λ content. Stands content new.tables after)
  pub settled : IsOk result → IfContents told new (λ content. IsSettled told new.files (stored_by content new.tables))
  pub within : Left told new.files (moments told old.files) (after ∷ world ∷ [])
  pub since : (since : LogMoments) (earlier : List World) → Left told old.files since (world ∷ earlier) → Left told new.files since (after ∷ world ∷ earlier)

-- How a change is refused: nothing changed.
pub record IsRefused {D T : Type 0} (result : Result T MailFault) (old new : Store D) (refusal : Refusal) : Type 0 where
  pub answers : result ≡ Err (fault_of refusal)
  pub unchanged : new ≡ old

abbrev pub MakesUnless : {D T : Type 0} → Told D → Result T MailFault → Store D → Store D → World → World → T → Option Refusal → Type 0
MakesUnless told result old new world after answer None = IsMade told result old new world after answer
MakesUnless told result old new world after answer (Some refusal) = IsRefused result old new refusal

-- A change of the world is refused or made.
abbrev pub Makes : {D T : Type 0} → Told D → Result T MailFault → Store D → Store D → World → Change → T → Type 0
Makes told result old new world change answer = MakesUnless told result old new world (apply world change) answer (refused world change)
