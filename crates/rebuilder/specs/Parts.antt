-- What private functions are told of rows.
use Rattle.std.specs.Prelude.{◌≡◌, ℕ, List, Some, length}
use Rattle.mime_tree.specs.declared.values.SentDate.{SentDate}
use Rattle.ordered_rows.specs.Listed.{row_at}
use Rattle.row_tables.specs.Keys.{field_key, date_field_key}
use Rattle.row_tables.specs.TableRows.{TableRows}
use Rattle.row_tables.specs.declared.mails.PartNumber.{PartNumber}
use Rattle.shredder.specs.MessageRows.{date_row, part_at}

-- the row is the one at its key
abbrev pub IsPart : TableRows → PartNumber → Type 0
IsPart t part = part_at t part.message part.path ≡ Some part

-- the date at the place, which has 31 bytes as it is printed
pub record IsDateRow (t : TableRows) (message : ℕ) (path : List ℕ) (place : ℕ) (date : SentDate) : Type 0 where
  pub row : row_at date_field_key (field_key message path place) t.mails.date_fields ≡ Some (date_row message path place date)
  pub printed : length date.text ≡ 31
