-- Lists of changes that run in front of others.
use Rattle.std.proofs.Common.{ℕ, ◌≡◌, ◌==◌, false, List, [], ◌∷◌, ◌++◌, map, None, ap, ◌∙◌}
use Rattle.std.specs.Prelude.{is_some}
use Rattle.std.specs.List.{AllByRecursion}
use Rattle.std.proofs.lemmas.Bool.{and_left}
use Rattle.ordered_rows.specs.RowKey.{same_key}
use Rattle.ordered_rows.specs.Listed.{row_at}
use Rattle.ordered_rows.specs.InsertLaws.{InsertLaws}
use Rattle.row_tables.specs.Keys.{uid_key, mailbox_message_key, deleted_message_key, flag_key}
use Rattle.row_tables.specs.TableRows.{TableRows}
use Rattle.row_tables.specs.References.{FlagRefers, HasFlag}
use Rattle.row_tables.specs.InTurn.{AreNewEntries, AreNewGone, ArePlainEntries, entry_insertions, entry_removals, gone_insertions}
use Rattle.row_tables.specs.Fits.{Runs, applied}
use Rattle.row_tables.specs.declared.marks.MailboxMessage.{MailboxMessage}
use Rattle.row_tables.specs.declared.marks.DeletedMessage.{DeletedMessage}
use Rattle.row_tables.specs.declared.marks.FlagRow.{FlagRow}
use Rattle.row_tables.specs.declared.change.RowChange.{RowChange}
use Rattle.row_tables.specs.declared.change.RowChange.TheVariants.{InsertDeletedMessage, InsertFlagRow, InsertMailboxMessage, RemoveFlagRow, RemoveMailboxMessage}
use Rattle.mail_stands.specs.MovingInbox.{flag_row_insertions, flag_row_removals}
use Rattle.mail_stands.proofs.Batches.{Removes, with_rows, without_rows}

-- ---- messages

abbrev pub with_entries : TableRows → List MailboxMessage → TableRows
with_entries t rows = record t { marks = record t.marks { mailbox_messages = with_rows mailbox_message_key rows t.marks.mailbox_messages } }

module _ (laws : InsertLaws mailbox_message_key) where
  new_still : (t : TableRows) (row : MailboxMessage) (rows : List MailboxMessage) → AllByRecursion (λ other. same_key (mailbox_message_key row) (mailbox_message_key other) ≡ false) rows
      → AreNewEntries t rows → AreNewEntries (applied t (InsertMailboxMessage row)) rows
  new_still t row [] apart new = tt
  new_still t row (other ∷ rows) apart new = (laws.other row (mailbox_message_key other) t.marks.mailbox_messages apart.0 ∙ new.0, new.1, new.2, new_still t row rows apart.1 new.3)

  pub entries_run : (t : TableRows) (rows : List MailboxMessage) (rest : List RowChange) (after : TableRows) → AreNewEntries t rows → Runs (with_entries t rows) rest after → Runs t (entry_insertions rows ++ rest) after
  entries_run t [] rest after new runs = runs
  entries_run t (row ∷ rows) rest after new runs = ((new.0, new.1), entries_run (applied t (InsertMailboxMessage row)) rows rest after (new_still t row rows new.2 new.3) runs)

abbrev pub without_entries : TableRows → ℕ → List ℕ → TableRows
without_entries t mailbox uids = record t { marks = record t.marks { mailbox_messages = without_rows mailbox_message_key (map (uid_key mailbox) uids) t.marks.mailbox_messages } }

module _ (laws : Removes mailbox_message_key) (mailbox : ℕ) where
  plain_still : (t : TableRows) (uid : ℕ) (uids : List ℕ) → AllByRecursion (λ other. (uid == other) ≡ false) uids → ArePlainEntries t mailbox uids → ArePlainEntries (applied t (RemoveMailboxMessage (mailbox, uid))) mailbox uids
  plain_still t uid [] apart plain = tt
  plain_still t uid (other ∷ uids) apart plain =
      (ap is_some (laws.other (uid_key mailbox uid) (uid_key mailbox other) t.marks.mailbox_messages (and_left (uid == other) (mailbox == mailbox) apart.0)) ∙ plain.0, plain.1, plain.2, plain_still t uid uids apart.1 plain.3)

  pub entry_removals_run : (t : TableRows) (uids : List ℕ) (rest : List RowChange) (after : TableRows) → ArePlainEntries t mailbox uids → Runs (without_entries t mailbox uids) rest after → Runs t (entry_removals mailbox uids ++ rest) after
  entry_removals_run t [] rest after plain runs = runs
  entry_removals_run t (uid ∷ uids) rest after plain runs = ((plain.0, plain.1), entry_removals_run (applied t (RemoveMailboxMessage (mailbox, uid))) uids rest after (plain_still t uid uids plain.2 plain.3) runs)

-- ---- gone messages

abbrev pub with_gone_rows : TableRows → List DeletedMessage → TableRows
with_gone_rows t rows = record t { marks = record t.marks { deleted_messages = with_rows deleted_message_key rows t.marks.deleted_messages } }

module _ (laws : InsertLaws deleted_message_key) where
  gone_still : (t : TableRows) (row : DeletedMessage) (rows : List DeletedMessage) → AllByRecursion (λ other. same_key (deleted_message_key row) (deleted_message_key other) ≡ false) rows
      → AreNewGone t rows → AreNewGone (applied t (InsertDeletedMessage row)) rows
  gone_still t row [] apart new = tt
  gone_still t row (other ∷ rows) apart new = (laws.other row (deleted_message_key other) t.marks.deleted_messages apart.0 ∙ new.0, new.1, new.2, gone_still t row rows apart.1 new.3)

  pub gone_run : (t : TableRows) (rows : List DeletedMessage) (rest : List RowChange) (after : TableRows) → AreNewGone t rows → Runs (with_gone_rows t rows) rest after → Runs t (gone_insertions rows ++ rest) after
  gone_run t [] rest after new runs = runs
  gone_run t (row ∷ rows) rest after new runs = ((new.0, new.1), gone_run (applied t (InsertDeletedMessage row)) rows rest after (gone_still t row rows new.2 new.3) runs)

-- ---- flags

-- What the rows refer to is there, the rows aren't, and no two are the same.
abbrev pub AreNewFlagRows : TableRows → List FlagRow → Type 0
AreNewFlagRows t [] = Unit {0}
AreNewFlagRows t (row ∷ rows) =
    (row_at flag_key (flag_key row) t.marks.flags ≡ None) × FlagRefers t row × AllByRecursion (λ other. same_key (flag_key row) (flag_key other) ≡ false) rows × AreNewFlagRows t rows

-- The rows are there, and no two are the same.
abbrev pub AreFlagRows : TableRows → List FlagRow → Type 0
AreFlagRows t [] = Unit {0}
AreFlagRows t (row ∷ rows) = HasFlag t row.mailbox row.uid row.flag × AllByRecursion (λ other. same_key (flag_key row) (flag_key other) ≡ false) rows × AreFlagRows t rows

abbrev pub with_flag_rows : TableRows → List FlagRow → TableRows
with_flag_rows t rows = record t { marks = record t.marks { flags = with_rows flag_key rows t.marks.flags } }

abbrev pub without_flag_rows : TableRows → List FlagRow → TableRows
without_flag_rows t rows = record t { marks = record t.marks { flags = without_rows flag_key (map flag_key rows) t.marks.flags } }

module _ (laws : InsertLaws flag_key) where
  flags_still : (t : TableRows) (row : FlagRow) (rows : List FlagRow) → AllByRecursion (λ other. same_key (flag_key row) (flag_key other) ≡ false) rows → AreNewFlagRows t rows → AreNewFlagRows (applied t (InsertFlagRow row)) rows
  flags_still t row [] apart new = tt
  flags_still t row (other ∷ rows) apart new = (laws.other row (flag_key other) t.marks.flags apart.0 ∙ new.0, new.1, new.2, flags_still t row rows apart.1 new.3)

  pub flag_rows_run : (t : TableRows) (rows : List FlagRow) (rest : List RowChange) (after : TableRows) → AreNewFlagRows t rows → Runs (with_flag_rows t rows) rest after → Runs t (flag_row_insertions rows ++ rest) after
  flag_rows_run t [] rest after new runs = runs
  flag_rows_run t (row ∷ rows) rest after new runs = ((new.0, new.1), flag_rows_run (applied t (InsertFlagRow row)) rows rest after (flags_still t row rows new.2 new.3) runs)

module _ (laws : Removes flag_key) where
  there_still : (t : TableRows) (row : FlagRow) (rows : List FlagRow) → AllByRecursion (λ other. same_key (flag_key row) (flag_key other) ≡ false) rows → AreFlagRows t rows → AreFlagRows (applied t (RemoveFlagRow (row.mailbox, row.uid, row.flag))) rows
  there_still t row [] apart are = tt
  there_still t row (other ∷ rows) apart are = (ap is_some (laws.other (flag_key row) (flag_key other) t.marks.flags apart.0) ∙ are.0, are.1, there_still t row rows apart.1 are.2)

  pub flag_removals_run : (t : TableRows) (rows : List FlagRow) (rest : List RowChange) (after : TableRows) → AreFlagRows t rows → Runs (without_flag_rows t rows) rest after → Runs t (flag_row_removals rows ++ rest) after
  flag_removals_run t [] rest after are runs = runs
  flag_removals_run t (row ∷ rows) rest after are runs = (are.0, flag_removals_run (applied t (RemoveFlagRow (row.mailbox, row.uid, row.flag))) rows rest after (there_still t row rows are.1 are.2) runs)
