-- A store in use.
use Rattle.std.specs.Prelude.{◌≡◌, ℕ, Bool, false, List}
use Rattle.disk_model.specs.Told.{Told}
use Rattle.disk_model.specs.Calls.{IsAtRest}
use Rattle.disk_model.specs.declared.disk.Files.{Files}
use Rattle.redo_log.specs.Kept.{Kept, HasLog}
use Rattle.row_tables.specs.TableRows.{TableRows, no_rows}
use Rattle.row_tables.specs.declared.contents.BodyPart.{BodyPart}
use Rattle.row_store.specs.ThreeFiles.{TellsFaults}
use Rattle.row_store.specs.OpenLog.{known_format, open_log}
use Rattle.row_store.specs.Holding.{Replays, stored_by, in_row}
use Rattle.row_store.specs.Crashes.{Stays}

-- What contracts see of a store in use: its files and tables, the bodies that were placed since the last commit, in the order in
-- which they were, and whether it was given up.
pub record Store (D : Type 0) : Type 0 where
  pub files : Files D
  pub tables : TableRows
  pub placed : List BodyPart
  pub spent : Bool

-- A fact about the content of the rows of bodies, those of the tables and those that were placed, where the store tells it.
abbrev pub IfContents : {D : Type 0} → Told D → Store D → ((BodyPart → List ℕ) → Type 0) → Type 0
IfContents told store P = P in_row

-- What a call that keeps the state leaves of a store in use; `done` says that it was Ok, and `tells` that it told of a fault.
pub record KeepsState {D : Type 0} (told : Told D) (done tells : Type 0) (old new : Store D) : Type 0 where
  pub tables : new.tables ≡ old.tables
  pub crash : IfContents told old (λ content. Stays told done old.files new.files (stored_by content old.tables))
  pub faults : TellsFaults told tells old.files new.files
  pub goes_on : done → new.spent ≡ false

-- The log in use has payloads that make the tables, and the files are at rest.
pub record IsKept {D : Type 0} (told : Told D) (log : Kept) (files : Files D) (tables : TableRows) : Type 0 where
  pub payloads : List (List ℕ)
  pub format : log.format ≡ known_format
  pub unspent : log.spent ≡ false
  pub has_log : HasLog told log payloads (open_log files)
  pub replay : Replays no_rows payloads tables
  pub rest1 : IsAtRest told files.log1
  pub rest_bodies : IsAtRest told files.bodies
