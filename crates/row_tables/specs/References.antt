-- What holds of the rows of all tables: their order, and that each row that a row refers to is there.
use Rattle.std.specs.Prelude.{◌≡◌, ℕ, ◌<◌, ◌&&◌, ◌==◌, nat_eq, List, [], map, Some, None, IsSome}
use Rattle.std.specs.List.{filter, find, AllByRecursion}
use Rattle.std.specs.Cmp.Lexicographic.{pointwise}
use Rattle.ordered_rows.specs.RowKey.{number_key}
use Rattle.ordered_rows.specs.Listed.{IsInOrder, row_at}
use Rattle.row_tables.specs.Keys.{owned_key, uid_key, uid_flag_key, user_key, mailbox_key, subscription_key, mailbox_message_key, deleted_message_key, flag_name_key, flag_key, part_key, field_key, message_key, body_part_key, part_number_key, field_name_key, header_field_key, address_key, address_field_key, date_field_key, message_id_key, unparsed_message_key}
use Rattle.row_tables.specs.Indexes.{has_flag_name, has_name, has_address}
use Rattle.row_tables.specs.TableRows.{TableRows}
use Rattle.row_tables.specs.declared.heads.Mailbox.{Mailbox}
use Rattle.row_tables.specs.declared.heads.Subscription.{Subscription}
use Rattle.row_tables.specs.declared.marks.MailboxMessage.{MailboxMessage}
use Rattle.row_tables.specs.declared.marks.DeletedMessage.{DeletedMessage}
use Rattle.row_tables.specs.declared.marks.FlagRow.{FlagRow}
use Rattle.row_tables.specs.declared.mails.PartNumber.{PartNumber}
use Rattle.row_tables.specs.declared.mails.HeaderField.{HeaderField}
use Rattle.row_tables.specs.declared.mails.UnparsedMessage.{UnparsedMessage}
use Rattle.row_tables.specs.declared.values.AddressField.{AddressField}
use Rattle.row_tables.specs.declared.values.DateField.{DateField}
use Rattle.row_tables.specs.declared.values.MessageId.{MessageId}

-- the rows of one mailbox, and the UIDs of its messages
abbrev pub uids_of : ℕ → List MailboxMessage → List ℕ
uids_of mailbox rows = map (λ r. r.uid) (filter (λ r. r.mailbox == mailbox) rows)

abbrev pub deleted_of : ℕ → List DeletedMessage → List DeletedMessage
deleted_of mailbox rows = filter (λ r. r.mailbox == mailbox) rows

abbrev pub flags_of : ℕ → List FlagRow → List FlagRow
flags_of mailbox rows = filter (λ r. r.mailbox == mailbox) rows

-- the flags of one message of a mailbox
abbrev pub flags_at : ℕ → ℕ → List FlagRow → List FlagRow
flags_at mailbox uid rows = filter (λ r. (r.uid == uid) && (r.mailbox == mailbox)) rows

-- the subscriptions of one user
abbrev pub subscriptions_of : ℕ → List Subscription → List Subscription
subscriptions_of owner rows = filter (λ r. r.owner == owner) rows

-- the rows of one message
abbrev pub parts_of : ℕ → List PartNumber → List PartNumber
parts_of message rows = filter (λ r. r.message == message) rows

abbrev pub fields_of : ℕ → List HeaderField → List HeaderField
fields_of message rows = filter (λ r. r.message == message) rows

abbrev pub addresses_of : ℕ → List AddressField → List AddressField
addresses_of message rows = filter (λ r. r.message == message) rows

abbrev pub dates_of : ℕ → List DateField → List DateField
dates_of message rows = filter (λ r. r.message == message) rows

abbrev pub ids_of : ℕ → List MessageId → List MessageId
ids_of message rows = filter (λ r. r.message == message) rows

-- the fields of one part
abbrev pub fields_at : ℕ → List ℕ → List HeaderField → List HeaderField
fields_at message path rows = filter (λ r. pointwise nat_eq r.path path) (fields_of message rows)

-- the items of one field
abbrev pub addresses_at : ℕ → List ℕ → ℕ → List AddressField → List AddressField
addresses_at message path place rows = filter (λ r. pointwise nat_eq r.path path && (r.place == place) && (r.message == message)) rows

abbrev pub ids_at : ℕ → List ℕ → ℕ → List MessageId → List MessageId
ids_at message path place rows = filter (λ r. pointwise nat_eq r.path path && (r.place == place) && (r.message == message)) rows

-- Each table's rows are in the order of their keys.
pub record AreOrdered (t : TableRows) : Type 0 where
  pub users : IsInOrder user_key t.heads.users
  pub mailboxes : IsInOrder mailbox_key t.heads.mailboxes
  pub subscriptions : IsInOrder subscription_key t.heads.subscriptions
  pub mailbox_messages : IsInOrder mailbox_message_key t.marks.mailbox_messages
  pub deleted_messages : IsInOrder deleted_message_key t.marks.deleted_messages
  pub flag_names : IsInOrder flag_name_key t.marks.flag_names
  pub flags : IsInOrder flag_key t.marks.flags
  pub messages : IsInOrder message_key t.mails.messages
  pub part_numbers : IsInOrder part_number_key t.mails.part_numbers
  pub header_fields : IsInOrder header_field_key t.mails.header_fields
  pub address_fields : IsInOrder address_field_key t.mails.address_fields
  pub date_fields : IsInOrder date_field_key t.mails.date_fields
  pub message_ids : IsInOrder message_id_key t.mails.message_ids
  pub unparsed_messages : IsInOrder unparsed_message_key t.mails.unparsed_messages
  pub bodyparts : IsInOrder body_part_key t.shared.bodyparts
  pub field_names : IsInOrder field_name_key t.shared.field_names
  pub addresses : IsInOrder address_key t.shared.addresses

-- the row is there
abbrev pub HasUser : TableRows → ℕ → Type 0
HasUser t id = IsSome (row_at user_key (number_key id) t.heads.users)

abbrev pub HasMailbox : TableRows → ℕ → Type 0
HasMailbox t id = IsSome (row_at mailbox_key (number_key id) t.heads.mailboxes)

abbrev pub HasSubscription : TableRows → ℕ → List ℕ → Type 0
HasSubscription t owner name = IsSome (row_at subscription_key (owned_key owner name) t.heads.subscriptions)

abbrev pub HasMailboxMessage : TableRows → ℕ → ℕ → Type 0
HasMailboxMessage t mailbox uid = IsSome (row_at mailbox_message_key (uid_key mailbox uid) t.marks.mailbox_messages)

abbrev pub HasFlagName : TableRows → ℕ → Type 0
HasFlagName t id = IsSome (row_at flag_name_key (number_key id) t.marks.flag_names)

abbrev pub HasFlag : TableRows → ℕ → ℕ → ℕ → Type 0
HasFlag t mailbox uid flag = IsSome (row_at flag_key (uid_flag_key mailbox uid flag) t.marks.flags)

abbrev pub HasMessage : TableRows → ℕ → Type 0
HasMessage t id = IsSome (row_at message_key (number_key id) t.mails.messages)

abbrev pub HasPart : TableRows → ℕ → List ℕ → Type 0
HasPart t message path = IsSome (row_at part_number_key (part_key message path) t.mails.part_numbers)

abbrev pub HasField : TableRows → ℕ → List ℕ → ℕ → Type 0
HasField t message path place = IsSome (row_at header_field_key (field_key message path place) t.mails.header_fields)

abbrev pub HasBody : TableRows → ℕ → Type 0
HasBody t id = IsSome (row_at body_part_key (number_key id) t.shared.bodyparts)

abbrev pub HasFieldName : TableRows → ℕ → Type 0
HasFieldName t id = IsSome (row_at field_name_key (number_key id) t.shared.field_names)

abbrev pub HasAddress : TableRows → ℕ → Type 0
HasAddress t id = IsSome (row_at address_key (number_key id) t.shared.addresses)

-- The rows that a row refers to are there. A flag is one of a message that its mailbox has. The part of a leaf, whose kind is 0 or
-- 1, has a body. The items of a field's value are of a field that is there; one of kind 0 or 1 has an address.
abbrev pub MailboxRefers : TableRows → Mailbox → Type 0
MailboxRefers t r = HasUser t r.owner

abbrev pub SubscriptionRefers : TableRows → Subscription → Type 0
SubscriptionRefers t r = HasUser t r.owner

abbrev pub MailboxMessageRefers : TableRows → MailboxMessage → Type 0
MailboxMessageRefers t r = HasMailbox t r.mailbox × HasMessage t r.message

abbrev pub DeletedRefers : TableRows → DeletedMessage → Type 0
DeletedRefers t r = HasMailbox t r.mailbox

abbrev pub FlagRefers : TableRows → FlagRow → Type 0
FlagRefers t r = HasMailbox t r.mailbox × HasMailboxMessage t r.mailbox r.uid × HasFlagName t r.flag

abbrev pub PartRefers : TableRows → PartNumber → Type 0
PartRefers t r = HasMessage t r.message × (r.kind < 2 → HasBody t r.body)

abbrev pub FieldRefers : TableRows → HeaderField → Type 0
FieldRefers t r = HasMessage t r.message × HasPart t r.message r.path × HasFieldName t r.name

abbrev pub AddressRefers : TableRows → AddressField → Type 0
AddressRefers t r = HasMessage t r.message × HasField t r.message r.path r.place × (r.kind < 2 → HasAddress t r.address)

abbrev pub DateRefers : TableRows → DateField → Type 0
DateRefers t r = HasMessage t r.message × HasField t r.message r.path r.place

abbrev pub IdRefers : TableRows → MessageId → Type 0
IdRefers t r = HasMessage t r.message × HasField t r.message r.path r.place

abbrev pub UnparsedRefers : TableRows → UnparsedMessage → Type 0
UnparsedRefers t r = HasMessage t r.message

-- All rows of `rows` refer to rows of t.
pub record ReferTo (t rows : TableRows) : Type 0 where
  pub mailboxes : AllByRecursion (MailboxRefers t) rows.heads.mailboxes
  pub subscriptions : AllByRecursion (SubscriptionRefers t) rows.heads.subscriptions
  pub mailbox_messages : AllByRecursion (MailboxMessageRefers t) rows.marks.mailbox_messages
  pub deleted_messages : AllByRecursion (DeletedRefers t) rows.marks.deleted_messages
  pub flags : AllByRecursion (FlagRefers t) rows.marks.flags
  pub part_numbers : AllByRecursion (PartRefers t) rows.mails.part_numbers
  pub header_fields : AllByRecursion (FieldRefers t) rows.mails.header_fields
  pub address_fields : AllByRecursion (AddressRefers t) rows.mails.address_fields
  pub date_fields : AllByRecursion (DateRefers t) rows.mails.date_fields
  pub message_ids : AllByRecursion (IdRefers t) rows.mails.message_ids
  pub unparsed_messages : AllByRecursion (UnparsedRefers t) rows.mails.unparsed_messages

-- No row refers to a row that isn't there.
abbrev pub AreClosed : TableRows → Type 0
AreClosed t = ReferTo t t

-- No row is of a message.
pub record IsUnknown (message : ℕ) (t : TableRows) : Type 0 where
  pub parts : parts_of message t.mails.part_numbers ≡ []
  pub fields : fields_of message t.mails.header_fields ≡ []
  pub addresses : addresses_of message t.mails.address_fields ≡ []
  pub dates : dates_of message t.mails.date_fields ≡ []
  pub ids : ids_of message t.mails.message_ids ≡ []
  pub unparsed : row_at unparsed_message_key (number_key message) t.mails.unparsed_messages ≡ None

-- No two flag names, no two field names and no two addresses are the same: each row is the one that its texts find.
pub record AreDistinct (t : TableRows) : Type 0 where
  pub flag_names : AllByRecursion (λ r. find (has_flag_name r.name) t.marks.flag_names ≡ Some r) t.marks.flag_names
  pub field_names : AllByRecursion (λ r. find (has_name r.name) t.shared.field_names ≡ Some r) t.shared.field_names
  pub addresses : AllByRecursion (λ r. find (has_address r.name r.local r.domain) t.shared.addresses ≡ Some r) t.shared.addresses
