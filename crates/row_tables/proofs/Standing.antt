-- A change that takes no memory, and is none of those that are made in another way, fits nowhere.
use Rattle.std.proofs.Common.{◌≡◌, ℕ, List, refl}
use Rattle.row_tables.specs.TableRows.{TableRows}
use Rattle.row_tables.specs.Fits.{Fits, IsInsertion, applied}
use Rattle.row_tables.specs.declared.heads.Mailbox.{Mailbox}
use Rattle.row_tables.specs.declared.heads.Counters.{Counters}
use Rattle.row_tables.specs.declared.marks.MailboxMessage.{MailboxMessage}
use Rattle.row_tables.specs.declared.change.RowChange.{RowChange}
use Rattle.row_tables.specs.declared.change.RowChange.TheVariants.{InsertUser, InsertMailbox, InsertMessageRow, InsertMailboxMessage, InsertDeletedMessage, InsertFlagName, InsertFlagRow, InsertBodyPart, InsertPartNumber, InsertFieldName, InsertHeaderField, InsertAddressRow, InsertAddressField, InsertDateField, InsertMessageId, InsertUnparsedMessage, InsertSubscription, UpdateMailbox, UpdateMailboxMessage, RemoveMailboxMessage, RemoveFlagRow, RemoveSubscription, UpdateCounters, DropMailbox}

pub record IsOther (change : RowChange) : Type 0 where
  pub not_UpdateMailbox : (x : Mailbox) → change ≡ UpdateMailbox x → ⊥
  pub not_UpdateMailboxMessage : (x : MailboxMessage) → change ≡ UpdateMailboxMessage x → ⊥
  pub not_RemoveMailboxMessage : (x : ℕ × ℕ) → change ≡ RemoveMailboxMessage x → ⊥
  pub not_RemoveFlagRow : (x : ℕ × ℕ × ℕ) → change ≡ RemoveFlagRow x → ⊥
  pub not_RemoveSubscription : (x : ℕ × List ℕ) → change ≡ RemoveSubscription x → ⊥
  pub not_UpdateCounters : (x : Counters) → change ≡ UpdateCounters x → ⊥
  pub not_DropMailbox : (x : ℕ) → change ≡ DropMailbox x → ⊥

pub nothing_done : (t : TableRows) (change : RowChange) → Fits t change → (IsInsertion change → ⊥) → IsOther change → t ≡ applied t change
nothing_done t (InsertUser r) f k o = absurd (k tt)
nothing_done t (InsertMailbox r) f k o = absurd (k tt)
nothing_done t (InsertMessageRow r) f k o = absurd (k tt)
nothing_done t (InsertMailboxMessage r) f k o = absurd (k tt)
nothing_done t (InsertDeletedMessage r) f k o = absurd (k tt)
nothing_done t (InsertFlagName r) f k o = absurd (k tt)
nothing_done t (InsertFlagRow r) f k o = absurd (k tt)
nothing_done t (InsertBodyPart r) f k o = absurd (k tt)
nothing_done t (InsertPartNumber r) f k o = absurd (k tt)
nothing_done t (InsertFieldName r) f k o = absurd (k tt)
nothing_done t (InsertHeaderField r) f k o = absurd (k tt)
nothing_done t (InsertAddressRow r) f k o = absurd (k tt)
nothing_done t (InsertAddressField r) f k o = absurd (k tt)
nothing_done t (InsertDateField r) f k o = absurd (k tt)
nothing_done t (InsertMessageId r) f k o = absurd (k tt)
nothing_done t (InsertUnparsedMessage r) f k o = absurd (k tt)
nothing_done t (InsertSubscription r) f k o = absurd (k tt)
nothing_done t (UpdateMailbox x) f k o = absurd (o.not_UpdateMailbox x refl)
nothing_done t (UpdateMailboxMessage x) f k o = absurd (o.not_UpdateMailboxMessage x refl)
nothing_done t (RemoveMailboxMessage x) f k o = absurd (o.not_RemoveMailboxMessage x refl)
nothing_done t (RemoveFlagRow x) f k o = absurd (o.not_RemoveFlagRow x refl)
nothing_done t (RemoveSubscription x) f k o = absurd (o.not_RemoveSubscription x refl)
nothing_done t (UpdateCounters x) f k o = absurd (o.not_UpdateCounters x refl)
nothing_done t (DropMailbox x) f k o = absurd (o.not_DropMailbox x refl)
nothing_done t _ f k o = absurd f
