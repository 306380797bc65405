-- Changes of rows that change what tables stand for.
use Rattle.std.specs.Prelude.{◌≡◌, ◌==◌, ℕ, false, List, Some, IsSomeAnd}
use Rattle.ordered_rows.specs.RowKey.{number_key}
use Rattle.ordered_rows.specs.Listed.{row_at}
use Rattle.row_tables.specs.Keys.{mailbox_key}
use Rattle.row_tables.specs.TableRows.{TableRows}
use Rattle.row_tables.specs.References.{HasUser}
use Rattle.row_tables.specs.Fits.{Runs}
use Rattle.row_tables.specs.declared.heads.Mailbox.{Mailbox}
use Rattle.row_tables.specs.declared.change.RowChange.{RowChange}
use Rattle.row_tables.specs.declared.contents.BodyPart.{BodyPart}
use Rattle.mail_world.specs.Worlds.{World}
use Rattle.mail_stands.specs.Stands.{Stands}

-- The changes fit one after another, and lead from the tables to ones that stand for the world.
pub record Leads (content : BodyPart → List ℕ) (t : TableRows) (changes : List RowChange) (world : World) : Type 0 where
  pub after : TableRows
  pub runs : Runs t changes after
  pub stands : Stands content after world

-- Whatever the tables stand for: no user is taken away, and no mailbox is taken away or given to another owner.
pub record KeepsOwners (t after : TableRows) : Type 0 where
  pub users : (id : ℕ) → HasUser t id → HasUser after id
  pub mailboxes : (id : ℕ) (row : Mailbox) → row_at mailbox_key (number_key id) t.heads.mailboxes ≡ Some row
      → IsSomeAnd (row_at mailbox_key (number_key id) after.heads.mailboxes) (λ now. now.owner ≡ row.owner)

-- Whatever the tables stand for: all users stay, and all mailboxes but one of an id.
pub record KeepsOthers (id : ℕ) (t after : TableRows) : Type 0 where
  pub users : after.heads.users ≡ t.heads.users
  pub mailboxes : (other : ℕ) → (id == other) ≡ false → row_at mailbox_key (number_key other) after.heads.mailboxes ≡ row_at mailbox_key (number_key other) t.heads.mailboxes
