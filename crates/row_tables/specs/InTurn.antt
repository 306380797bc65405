-- What lists of changes ask of the tables before the first of them.
use Rattle.std.specs.Prelude.{◌≡◌, ℕ, ◌==◌, ⊤, false, List, [], ◌∷◌, map, None}
use Rattle.std.specs.List.{AllByRecursion}
use Rattle.ordered_rows.specs.RowKey.{same_key}
use Rattle.ordered_rows.specs.Listed.{row_at}
use Rattle.row_tables.specs.Keys.{uid_flag_key, mailbox_message_key, deleted_message_key, flag_key}
use Rattle.row_tables.specs.TableRows.{TableRows}
use Rattle.row_tables.specs.References.{HasFlag, HasMailbox, HasMailboxMessage, MailboxMessageRefers, flags_at}
use Rattle.row_tables.specs.declared.marks.DeletedMessage.{DeletedMessage}
use Rattle.row_tables.specs.declared.marks.MailboxMessage.{MailboxMessage}
use Rattle.row_tables.specs.declared.change.RowChange.{RowChange}
use Rattle.row_tables.specs.declared.change.RowChange.TheVariants.{InsertMailboxMessage, RemoveMailboxMessage, InsertDeletedMessage, InsertFlagRow, RemoveFlagRow}

-- flags for one message of a mailbox
abbrev pub flag_insertions : ℕ → ℕ → List ℕ → List RowChange
flag_insertions mailbox uid flags = map (λ flag. InsertFlagRow (record { mailbox = mailbox; uid = uid; flag = flag })) flags

-- The message has none of the flags, and none comes twice.
abbrev pub AreNewFlags : TableRows → ℕ → ℕ → List ℕ → Type 0
AreNewFlags t mailbox uid [] = ⊤
AreNewFlags t mailbox uid (flag ∷ flags) =
    (row_at flag_key (uid_flag_key mailbox uid flag) t.marks.flags ≡ None) × AllByRecursion (λ other. (flag == other) ≡ false) flags × AreNewFlags t mailbox uid flags

-- flags taken from one message of a mailbox
abbrev pub flag_removals : ℕ → ℕ → List ℕ → List RowChange
flag_removals mailbox uid flags = map (λ flag. RemoveFlagRow (mailbox, uid, flag)) flags

-- The message has the flags, and none comes twice.
abbrev pub AreFlags : TableRows → ℕ → ℕ → List ℕ → Type 0
AreFlags t mailbox uid [] = ⊤
AreFlags t mailbox uid (flag ∷ flags) = HasFlag t mailbox uid flag × AllByRecursion (λ other. (flag == other) ≡ false) flags × AreFlags t mailbox uid flags

abbrev pub gone_insertions : List DeletedMessage → List RowChange
gone_insertions rows = map (λ r. InsertDeletedMessage r) rows

-- The mailboxes of the rows are there, the rows aren't, and no two have the same mailbox and UID.
abbrev pub AreNewGone : TableRows → List DeletedMessage → Type 0
AreNewGone t [] = ⊤
AreNewGone t (r ∷ rows) = (row_at deleted_message_key (deleted_message_key r) t.marks.deleted_messages ≡ None) × HasMailbox t r.mailbox × AllByRecursion (λ other. same_key (deleted_message_key r) (deleted_message_key other) ≡ false) rows × AreNewGone t rows

abbrev pub entry_insertions : List MailboxMessage → List RowChange
entry_insertions rows = map (λ r. InsertMailboxMessage r) rows

-- What the rows refer to is there, the rows aren't, and no two have the same mailbox and UID.
abbrev pub AreNewEntries : TableRows → List MailboxMessage → Type 0
AreNewEntries t [] = ⊤
AreNewEntries t (r ∷ rows) =
    (row_at mailbox_message_key (mailbox_message_key r) t.marks.mailbox_messages ≡ None) × MailboxMessageRefers t r × AllByRecursion (λ other. same_key (mailbox_message_key r) (mailbox_message_key other) ≡ false) rows × AreNewEntries t rows

-- messages taken from one mailbox
abbrev pub entry_removals : ℕ → List ℕ → List RowChange
entry_removals mailbox uids = map (λ uid. RemoveMailboxMessage (mailbox, uid)) uids

-- The mailbox has the messages, they have no flags, and none comes twice.
abbrev pub ArePlainEntries : TableRows → ℕ → List ℕ → Type 0
ArePlainEntries t mailbox [] = ⊤
ArePlainEntries t mailbox (uid ∷ uids) = HasMailboxMessage t mailbox uid × (flags_at mailbox uid t.marks.flags ≡ []) × AllByRecursion (λ other. (uid == other) ≡ false) uids × ArePlainEntries t mailbox uids
