-- The numbers that STATUS tells of a mailbox (RFC 3501 §6.3.10).
use Rattle.std.specs.Prelude.{◌≡◌, ℕ, ◌<◌, ◌-◌, ◌^◌, min, codes, nat_le, not, if◌then◌else◌, Bool, List, length, filter, count_by, Some}
use Rattle.std.specs.List.{AllByRecursion}
use Rattle.ordered_rows.specs.RowKey.{number_key}
use Rattle.ordered_rows.specs.Listed.{row_at}
use Rattle.row_tables.specs.Keys.{mailbox_key}
use Rattle.row_tables.specs.References.{uids_of}
use Rattle.row_tables.specs.TableRows.{TableRows}
use Rattle.row_tables.specs.declared.heads.Mailbox.{Mailbox as Head}
use Rattle.mail_world.specs.Worlds.{Mailbox}
use Rattle.mail_world.specs.Summaries.{recent_of, is_unseen}
use Rattle.mail_stands.specs.Flagging.{is_flagged}
use Rattle.mailbox_core.specs.declared.numbers.Status.{Status}

-- The unseen messages are counted only where that is asked for.
pub record IsStatus (counted : Bool) (its : Status) (mailbox : Mailbox) : Type 0 where
  pub messages : its.messages ≡ length mailbox.entries
  pub recent : its.recent ≡ length (recent_of mailbox)
  pub uidnext : its.uidnext ≡ mailbox.head.uidnext
  pub uidvalidity : its.uidvalidity ≡ mailbox.head.id
  pub unseen : its.unseen ≡ (if counted then count_by is_unseen mailbox.entries else 0)
  pub highest : its.highest ≡ mailbox.head.highest

-- ---- the same of rows. This serves the contracts of private functions alone.

-- a count as it is told: one beyond the numbers of IMAP as the greatest of these (RFC 3501 §9)
abbrev pub told : ℕ → ℕ
told count = min count (2 ^ 32 - 1)

-- the UIDs of the messages without a row of `\\Seen`
abbrev pub unseen_uids : TableRows → ℕ → List ℕ
unseen_uids t id = filter (λ uid. not (is_flagged id uid (codes "\\Seen") t.marks.flag_names t.marks.flags)) (uids_of id t.marks.mailbox_messages)

pub record IsRowStatus (t : TableRows) (id : ℕ) (counted : Bool) (its : Status) : Type 0 where
  pub head : (row : Head) → row_at mailbox_key (number_key id) t.heads.mailboxes ≡ Some row → (its.uidnext ≡ row.uidnext) × (its.highest ≡ row.highest)
  pub uidvalidity : its.uidvalidity ≡ id
  pub messages : its.messages ≡ told (length (uids_of id t.marks.mailbox_messages))
  pub recent : (row : Head) → row_at mailbox_key (number_key id) t.heads.mailboxes ≡ Some row
      → AllByRecursion (λ uid. uid < row.uidnext) (uids_of id t.marks.mailbox_messages)
      → its.recent ≡ told (length (filter (λ uid. nat_le row.first_recent uid) (uids_of id t.marks.mailbox_messages)))
  pub unseen : its.unseen ≡ told (if counted then length (unseen_uids t id) else 0)
