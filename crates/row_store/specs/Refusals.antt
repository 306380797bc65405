-- These serve the contracts of private functions alone.
use Rattle.std.specs.Prelude.{◌≡◌, ℕ, false, List, Some}
use Rattle.disk_model.specs.Told.{Told}
use Rattle.redo_log.specs.Kept.{Kept, HasLog}
use Rattle.redo_log.specs.declared.faults.LoadFault.{LoadFault as LogFault}
use Rattle.redo_log.specs.declared.faults.LoadFault.TheVariants.{Failed, NotALog, NoMemory}
use Rattle.ordered_rows.specs.RowKey.{number_key}
use Rattle.ordered_rows.specs.Listed.{row_at}
use Rattle.row_tables.specs.Keys.{body_part_key}
use Rattle.row_tables.specs.TableRows.{TableRows, no_rows}
use Rattle.row_tables.specs.declared.contents.BodyPart.{BodyPart}
use Rattle.row_store.specs.declared.faults.LoadFault.{LoadFault}
use Rattle.row_store.specs.OpenLog.{known_format, HasPayloads}
use Rattle.row_store.specs.Holding.{Replays, in_row}
use Rattle.row_store.specs.Bodies.{HasBytes}

-- why a log was not loaded, as a store answers it
abbrev pub refusal_of : LogFault → LoadFault
refusal_of Failed = LoadFault.Failed
refusal_of NotALog = LoadFault.NotAStore
refusal_of NoMemory = LoadFault.NoMemory

-- the row with the id has the bytes
abbrev pub RowHas : List BodyPart → ℕ → List ℕ → Type 0
RowHas rows id bytes = (row : BodyPart) × (row_at body_part_key (number_key id) rows ≡ Some row) × HasBytes in_row row bytes

-- The disk has this log, whose payloads make the tables.
pub record IsKeptLog {D : Type 0} (told : Told D) (log : Kept) (disk : D) (tables : TableRows) : Type 0 where
  pub payloads : List (List ℕ)
  pub format : log.format ≡ known_format
  pub unspent : log.spent ≡ false
  pub has_log : HasLog told log payloads disk
  pub replay : Replays no_rows payloads tables

-- the bytes are no log whose payloads make tables
abbrev pub MakesNone : List ℕ → Type 0
MakesNone bytes = (generation : ℕ) (payloads : List (List ℕ)) (tables : TableRows) → HasPayloads generation payloads bytes → Replays no_rows payloads tables → ⊥
