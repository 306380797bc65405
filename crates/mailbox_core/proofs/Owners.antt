-- Users and mailboxes that stay.
use Rattle.std.proofs.Common.{◌≡◌, Option, Some, IsSomeAnd, refl, sym, subst}
use Rattle.ordered_rows.specs.RowKey.{number_key}
use Rattle.ordered_rows.specs.Listed.{row_at}
use Rattle.row_tables.specs.Keys.{mailbox_key}
use Rattle.row_tables.specs.TableRows.{TableRows}
use Rattle.row_tables.specs.declared.heads.Mailbox.{Mailbox}
use Rattle.mail_stands.specs.Leading.{KeepsOwners}

owner_of : (o : Option Mailbox) (row : Mailbox) → o ≡ Some row → IsSomeAnd o (λ new. new.owner ≡ row.owner)
owner_of o row e = subst (λ (p : Option Mailbox). IsSomeAnd p (λ new. new.owner ≡ row.owner)) (sym e) refl

-- nothing changed
pub keeps_all : (t : TableRows) → KeepsOwners t t
keeps_all t = record {
  users = λ id there. there;
  mailboxes = λ id row found. owner_of (row_at mailbox_key (number_key id) t.heads.mailboxes) row found;
}
