-- Messages that are expunged, as rows (RFC 3501 §6.4.3, RFC 4315 §2.1).
use Rattle.std.specs.Prelude.{◌≡◌, ℕ, ◌+◌, ◌&&◌, nat_le, List, [], ◌∷◌, ◌++◌, map, filter, Option, None}
use Rattle.std.specs.List.{AllByRecursion, flat_map, list_any}
use Rattle.ordered_rows.specs.Listed.{row_at}
use Rattle.row_tables.specs.Keys.{uid_key, deleted_message_key}
use Rattle.row_tables.specs.References.{flags_at}
use Rattle.row_tables.specs.InTurn.{entry_removals, gone_insertions}
use Rattle.row_tables.specs.TableRows.{TableRows}
use Rattle.row_tables.specs.declared.heads.Mailbox.{Mailbox}
use Rattle.row_tables.specs.declared.marks.DeletedMessage.{DeletedMessage}
use Rattle.row_tables.specs.declared.marks.FlagRow.{FlagRow}
use Rattle.row_tables.specs.declared.change.RowChange.{RowChange}
use Rattle.row_tables.specs.declared.change.RowChange.TheVariants.{UpdateMailbox}
use Rattle.mail_world.specs.Limits.{last_modseq}
use Rattle.mail_world.specs.Changes.{Refusal, Full, first_refusal}
use Rattle.mail_stands.specs.Refusals.{refused_by}
use Rattle.mail_stands.specs.MovingInbox.{flag_row_removals}
use Rattle.mail_stands.specs.Storing.{is_there, with_next_modseq}

-- of UIDs those that messages of a mailbox have
abbrev pub there_of : TableRows → ℕ → List ℕ → List ℕ
there_of t id uids = filter (is_there t id) uids

abbrev pub expunge_refused : TableRows → ℕ → List ℕ → Option Refusal
expunge_refused t id uids = refused_by t id (λ row. first_refusal ((list_any (is_there t id) uids && nat_le last_modseq row.highest, Full) ∷ []))

-- the rows of the flags of messages
abbrev pub flags_among : TableRows → ℕ → List ℕ → List FlagRow
flags_among t id uids = flat_map (λ uid. flags_at id uid t.marks.flags) uids

-- the messages as gone ones
abbrev pub gone_of : ℕ → ℕ → List ℕ → List DeletedMessage
gone_of id modseq uids = map (λ uid. record { mailbox = id; uid = uid; modseq = modseq }) uids

-- The messages of a mailbox that have these UIDs lose their flags, go, and are gone ones from then on.
abbrev pub expunge_changes : TableRows → Mailbox → List ℕ → List RowChange
expunge_changes t row uids =
    flag_row_removals (flags_among t row.id uids)
    ++ (entry_removals row.id uids ++ (gone_insertions (gone_of row.id (row.highest + 1) uids) ++ UpdateMailbox (with_next_modseq row) ∷ []))

-- none of them is a gone one too
abbrev pub AreNotGone : TableRows → ℕ → List ℕ → Type 0
AreNotGone t id uids = AllByRecursion (λ uid. row_at deleted_message_key (uid_key id uid) t.marks.deleted_messages ≡ None) uids
