-- Which changes fit, and what they make of the tables.
use Rattle.std.specs.Prelude.{◌≡◌, ℕ, ◌≤◌, ⊤, List, [], ◌∷◌, ◌++◌, length, None}
use Rattle.std.specs.List.{find}
use Rattle.ordered_rows.specs.RowKey.{RowKey, number_key}
use Rattle.ordered_rows.specs.Listed.{row_at, with_row, with_replaced, without, without_number}
use Rattle.row_tables.specs.Keys.{owned_key, uid_key, uid_flag_key, user_key, mailbox_key, subscription_key, mailbox_message_key, deleted_message_key, flag_name_key, flag_key, message_key, body_part_key, part_number_key, field_name_key, header_field_key, address_key, address_field_key, date_field_key, message_id_key, unparsed_message_key}
use Rattle.row_tables.specs.Indexes.{has_flag_name, has_name, has_address}
use Rattle.row_tables.specs.Names.{IsRename}
use Rattle.row_tables.specs.TableRows.{TableRows}
use Rattle.row_tables.specs.References.{HasMailbox, HasSubscription, HasMailboxMessage, HasFlag, flags_at, MailboxRefers, SubscriptionRefers, MailboxMessageRefers, DeletedRefers, FlagRefers, PartRefers, FieldRefers, AddressRefers, DateRefers, IdRefers, UnparsedRefers}
use Rattle.row_tables.specs.declared.change.RowChange.{RowChange}
use Rattle.row_tables.specs.declared.change.RowChange.TheVariants.{InsertUser, InsertMailbox, InsertMessageRow, InsertMailboxMessage, InsertDeletedMessage, InsertFlagName, InsertFlagRow, InsertBodyPart, InsertPartNumber, InsertFieldName, InsertHeaderField, InsertAddressRow, InsertAddressField, InsertDateField, InsertMessageId, InsertUnparsedMessage, InsertSubscription, UpdateMailbox, UpdateMailboxMessage, UpdateCounters, RemoveMailboxMessage, RemoveFlagRow, RemoveSubscription, DropMailbox}

-- a text that a row may hold
abbrev pub IsText : List ℕ → Type 0
IsText text = length text ≤ 4294967295

-- no row has the key of this one
abbrev pub IsNew : {X : Type 0} → (X → RowKey) → X → List X → Type 0
IsNew key row rows = row_at key (key row) rows ≡ None

-- The texts aren't too long. Of an insertion: the key is new, the rows that the row refers to are there, and a flag name, a field
-- name or an address is new. Of an update: the key is there, and so are the rows that the row refers to. Of a removal: the key is
-- there, and a message of a mailbox has no flags. Of a mailbox to be dropped: it is there. No other change fits.
abbrev pub Fits : TableRows → RowChange → Type 0
Fits t (InsertUser r) = IsText r.name × IsNew user_key r t.heads.users
Fits t (InsertMailbox r) = IsText r.name × IsNew mailbox_key r t.heads.mailboxes × MailboxRefers t r
Fits t (UpdateMailbox r) = IsText r.name × HasMailbox t r.id × MailboxRefers t r
Fits t (DropMailbox mailbox) = HasMailbox t mailbox
Fits t (InsertMailboxMessage r) = IsNew mailbox_message_key r t.marks.mailbox_messages × MailboxMessageRefers t r
Fits t (UpdateMailboxMessage r) = HasMailboxMessage t r.mailbox r.uid × MailboxMessageRefers t r
Fits t (RemoveMailboxMessage k) = HasMailboxMessage t k.0 k.1 × (flags_at k.0 k.1 t.marks.flags ≡ [])
Fits t (InsertDeletedMessage r) = IsNew deleted_message_key r t.marks.deleted_messages × DeletedRefers t r
Fits t (InsertFlagName r) = IsText r.name × IsNew flag_name_key r t.marks.flag_names × (find (has_flag_name r.name) t.marks.flag_names ≡ None)
Fits t (InsertFlagRow r) = IsNew flag_key r t.marks.flags × FlagRefers t r
Fits t (RemoveFlagRow k) = HasFlag t k.0 k.1 k.2
Fits t (InsertMessageRow r) = IsNew message_key r t.mails.messages
Fits t (InsertBodyPart r) = IsText r.content × IsNew body_part_key r t.shared.bodyparts
Fits t (InsertPartNumber r) = IsText r.path × IsNew part_number_key r t.mails.part_numbers × PartRefers t r
Fits t (InsertFieldName r) = IsText r.name × IsNew field_name_key r t.shared.field_names × (find (has_name r.name) t.shared.field_names ≡ None)
Fits t (InsertHeaderField r) = IsText r.path × IsText r.value × IsNew header_field_key r t.mails.header_fields × FieldRefers t r
Fits t (InsertAddressRow r) =
    IsText r.name × IsText r.local × IsText r.domain × IsNew address_key r t.shared.addresses × (find (has_address r.name r.local r.domain) t.shared.addresses ≡ None)
Fits t (InsertAddressField r) = IsText r.path × IsNew address_field_key r t.mails.address_fields × AddressRefers t r
Fits t (InsertDateField r) = IsText r.path × IsText r.value × IsNew date_field_key r t.mails.date_fields × DateRefers t r
Fits t (InsertMessageId r) = IsText r.path × IsText r.value × IsNew message_id_key r t.mails.message_ids × IdRefers t r
Fits t (InsertUnparsedMessage r) = IsNew unparsed_message_key r t.mails.unparsed_messages × UnparsedRefers t r
Fits t (InsertSubscription r) = IsText r.name × IsNew subscription_key r t.heads.subscriptions × SubscriptionRefers t r
Fits t (RemoveSubscription k) = IsText k.1 × HasSubscription t k.0 k.1
Fits t (UpdateCounters r) = ⊤
Fits t _ = ⊥

-- the rows after a change
abbrev pub applied : TableRows → RowChange → TableRows
applied t (InsertUser r) = record t { heads = record t.heads { users = with_row user_key r t.heads.users } }
applied t (InsertMailbox r) = record t { heads = record t.heads { mailboxes = with_row mailbox_key r t.heads.mailboxes } }
applied t (UpdateMailbox r) = record t { heads = record t.heads { mailboxes = with_replaced mailbox_key r t.heads.mailboxes } }
applied t (DropMailbox mailbox) = record t {
  heads = record t.heads { mailboxes = without mailbox_key (number_key mailbox) t.heads.mailboxes };
  marks = record t.marks {
    mailbox_messages = without_number mailbox_message_key mailbox t.marks.mailbox_messages;
    deleted_messages = without_number deleted_message_key mailbox t.marks.deleted_messages;
    flags = without_number flag_key mailbox t.marks.flags;
  };
}
applied t (InsertMailboxMessage r) = record t { marks = record t.marks { mailbox_messages = with_row mailbox_message_key r t.marks.mailbox_messages } }
applied t (UpdateMailboxMessage r) = record t { marks = record t.marks { mailbox_messages = with_replaced mailbox_message_key r t.marks.mailbox_messages } }
applied t (RemoveMailboxMessage k) = record t { marks = record t.marks { mailbox_messages = without mailbox_message_key (uid_key k.0 k.1) t.marks.mailbox_messages } }
applied t (InsertDeletedMessage r) = record t { marks = record t.marks { deleted_messages = with_row deleted_message_key r t.marks.deleted_messages } }
applied t (InsertFlagName r) = record t { marks = record t.marks { flag_names = with_row flag_name_key r t.marks.flag_names } }
applied t (InsertFlagRow r) = record t { marks = record t.marks { flags = with_row flag_key r t.marks.flags } }
applied t (RemoveFlagRow k) = record t { marks = record t.marks { flags = without flag_key (uid_flag_key k.0 k.1 k.2) t.marks.flags } }
applied t (InsertMessageRow r) = record t { mails = record t.mails { messages = with_row message_key r t.mails.messages } }
applied t (InsertBodyPart r) = record t { shared = record t.shared { bodyparts = with_row body_part_key r t.shared.bodyparts } }
applied t (InsertPartNumber r) = record t { mails = record t.mails { part_numbers = with_row part_number_key r t.mails.part_numbers } }
applied t (InsertFieldName r) = record t { shared = record t.shared { field_names = with_row field_name_key r t.shared.field_names } }
applied t (InsertHeaderField r) = record t { mails = record t.mails { header_fields = with_row header_field_key r t.mails.header_fields } }
applied t (InsertAddressRow r) = record t { shared = record t.shared { addresses = with_row address_key r t.shared.addresses } }
applied t (InsertAddressField r) = record t { mails = record t.mails { address_fields = with_row address_field_key r t.mails.address_fields } }
applied t (InsertDateField r) = record t { mails = record t.mails { date_fields = with_row date_field_key r t.mails.date_fields } }
applied t (InsertMessageId r) = record t { mails = record t.mails { message_ids = with_row message_id_key r t.mails.message_ids } }
applied t (InsertUnparsedMessage r) = record t { mails = record t.mails { unparsed_messages = with_row unparsed_message_key r t.mails.unparsed_messages } }
applied t (InsertSubscription r) = record t { heads = record t.heads { subscriptions = with_row subscription_key r t.heads.subscriptions } }
applied t (RemoveSubscription k) = record t { heads = record t.heads { subscriptions = without subscription_key (owned_key k.0 k.1) t.heads.subscriptions } }
applied t (UpdateCounters r) = record t { heads = record t.heads { counters = r } }
applied t _ = t

-- a change that adds a row
abbrev pub IsInsertion : RowChange → Type 0
IsInsertion (InsertUser r) = ⊤
IsInsertion (InsertMailbox r) = ⊤
IsInsertion (InsertMessageRow r) = ⊤
IsInsertion (InsertMailboxMessage r) = ⊤
IsInsertion (InsertDeletedMessage r) = ⊤
IsInsertion (InsertFlagName r) = ⊤
IsInsertion (InsertFlagRow r) = ⊤
IsInsertion (InsertBodyPart r) = ⊤
IsInsertion (InsertPartNumber r) = ⊤
IsInsertion (InsertFieldName r) = ⊤
IsInsertion (InsertHeaderField r) = ⊤
IsInsertion (InsertAddressRow r) = ⊤
IsInsertion (InsertAddressField r) = ⊤
IsInsertion (InsertDateField r) = ⊤
IsInsertion (InsertMessageId r) = ⊤
IsInsertion (InsertUnparsedMessage r) = ⊤
IsInsertion (InsertSubscription r) = ⊤
IsInsertion _ = ⊥

-- what takes memory: insertions, and an update that gives a mailbox another owner or another name
abbrev pub TakesMemory : TableRows → RowChange → Type 0
TakesMemory t (UpdateMailbox r) = IsRename r t.heads.mailboxes
TakesMemory t change = IsInsertion change

-- the changes fit one after another, and make these tables
abbrev pub Runs : TableRows → List RowChange → TableRows → Type 0
Runs t [] after = t ≡ after
Runs t (change ∷ changes) after = Fits t change × Runs (applied t change) changes after

-- the changes fit one after another
abbrev pub CanRun : TableRows → List RowChange → Type 0
CanRun t changes = (after : TableRows) × Runs t changes after

-- the first of the changes were made, and none or some were not
abbrev pub RunsPart : TableRows → List RowChange → TableRows → Type 0
RunsPart t changes after = (made : List RowChange) × (left : List RowChange) × (changes ≡ made ++ left) × Runs t made after
