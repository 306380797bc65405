-- What stays where a mailbox is deleted.
use Rattle.std.specs.Prelude.{◌≡◌, ◌⊎◌, ℕ, false, List, Option, Some, None}
use Rattle.ordered_rows.specs.RowKey.{number_key}
use Rattle.ordered_rows.specs.Listed.{row_at}
use Rattle.row_tables.specs.Keys.{mailbox_key}
use Rattle.row_tables.specs.TableRows.{TableRows}
use Rattle.row_tables.specs.declared.heads.Mailbox.{Mailbox as Head}
use Rattle.mail_world.specs.Worlds.{is_among}

-- Whatever the tables stand for: all users stay, and so does each mailbox but for such of the user as no session has selected.
pub record KeepsHeld (user : ℕ) (held : List ℕ) (t after : TableRows) : Type 0 where
  pub users : after.heads.users ≡ t.heads.users
  pub mailboxes : (id : ℕ) (row : Head) → row_at mailbox_key (number_key id) t.heads.mailboxes ≡ Some row
      → (row_at mailbox_key (number_key id) after.heads.mailboxes ≡ Some row) ⊎ ((row.owner ≡ user) × (is_among id held ≡ false))

-- The id of a mailbox that is found. This serves the contracts of private functions alone.
abbrev pub id_in : Option Head → ℕ
id_in None = 0
id_in (Some row) = row.id
