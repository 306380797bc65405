-- The keys of the tables and of the indexes.
use Rattle.std.specs.Prelude.{ℕ, List, []}
use Rattle.ordered_rows.specs.RowKey.{RowKey, number_key}
use Rattle.row_tables.specs.declared.heads.User.{User}
use Rattle.row_tables.specs.declared.heads.Mailbox.{Mailbox}
use Rattle.row_tables.specs.declared.heads.Subscription.{Subscription}
use Rattle.row_tables.specs.declared.heads.Counters.{Counters}
use Rattle.row_tables.specs.declared.marks.MailboxMessage.{MailboxMessage}
use Rattle.row_tables.specs.declared.marks.DeletedMessage.{DeletedMessage}
use Rattle.row_tables.specs.declared.marks.FlagName.{FlagName}
use Rattle.row_tables.specs.declared.marks.FlagRow.{FlagRow}
use Rattle.row_tables.specs.declared.mails.MessageRow.{MessageRow}
use Rattle.row_tables.specs.declared.mails.PartNumber.{PartNumber}
use Rattle.row_tables.specs.declared.mails.HeaderField.{HeaderField}
use Rattle.row_tables.specs.declared.mails.UnparsedMessage.{UnparsedMessage}
use Rattle.row_tables.specs.declared.values.AddressField.{AddressField}
use Rattle.row_tables.specs.declared.values.DateField.{DateField}
use Rattle.row_tables.specs.declared.values.MessageId.{MessageId}
use Rattle.row_tables.specs.declared.contents.BodyPart.{BodyPart}
use Rattle.row_tables.specs.declared.contents.FieldName.{FieldName}
use Rattle.row_tables.specs.declared.contents.AddressRow.{AddressRow}
use Rattle.row_tables.specs.declared.indexes.ContentEntry.{ContentEntry}
use Rattle.row_tables.specs.declared.indexes.DigestEntry.{DigestEntry}

-- of what has a name: the owner and the name
abbrev pub owned_key : ℕ → List ℕ → RowKey
owned_key owner name = record { number = owner; text = name; second = []; third = []; place = 0; item = 0 }

-- above all keys of rows and entries with the name, and below those with greater names
abbrev pub after_key : ℕ → List ℕ → RowKey
after_key owner name = record { number = owner; text = name; second = []; third = []; place = 1; item = 0 }

-- of a message in a mailbox: the mailbox and the UID; of a flag of it: the flag besides
abbrev pub uid_key : ℕ → ℕ → RowKey
uid_key mailbox uid = record { number = mailbox; text = []; second = []; third = []; place = uid; item = 0 }

abbrev pub uid_flag_key : ℕ → ℕ → ℕ → RowKey
uid_flag_key mailbox uid flag = record { number = mailbox; text = []; second = []; third = []; place = uid; item = flag }

-- of a part: the message and the path; of a field: the place besides; of an item of its value: the item besides
abbrev pub part_key : ℕ → List ℕ → RowKey
part_key message path = record { number = message; text = path; second = []; third = []; place = 0; item = 0 }

abbrev pub field_key : ℕ → List ℕ → ℕ → RowKey
field_key message path place = record { number = message; text = path; second = []; third = []; place = place; item = 0 }

abbrev pub item_key : ℕ → List ℕ → ℕ → ℕ → RowKey
item_key message path place item = record { number = message; text = path; second = []; third = []; place = place; item = item }

-- of a content: up to three texts
abbrev pub texts_key : List ℕ → List ℕ → List ℕ → RowKey
texts_key text second third = record { number = 0; text = text; second = second; third = third; place = 0; item = 0 }

abbrev pub digest_key : List ℕ → ℕ → RowKey
digest_key digest id = record { number = 0; text = digest; second = []; third = []; place = 0; item = id }

abbrev pub user_key : User → RowKey
user_key r = number_key r.id

abbrev pub mailbox_key : Mailbox → RowKey
mailbox_key r = number_key r.id

abbrev pub subscription_key : Subscription → RowKey
subscription_key r = owned_key r.owner r.name

abbrev pub counters_key : Counters → RowKey
counters_key r = number_key 0

abbrev pub mailbox_message_key : MailboxMessage → RowKey
mailbox_message_key r = uid_key r.mailbox r.uid

abbrev pub deleted_message_key : DeletedMessage → RowKey
deleted_message_key r = uid_key r.mailbox r.uid

abbrev pub flag_name_key : FlagName → RowKey
flag_name_key r = number_key r.id

abbrev pub flag_key : FlagRow → RowKey
flag_key r = uid_flag_key r.mailbox r.uid r.flag

abbrev pub message_key : MessageRow → RowKey
message_key r = number_key r.id

abbrev pub body_part_key : BodyPart → RowKey
body_part_key r = number_key r.id

abbrev pub part_number_key : PartNumber → RowKey
part_number_key r = part_key r.message r.path

abbrev pub field_name_key : FieldName → RowKey
field_name_key r = number_key r.id

abbrev pub header_field_key : HeaderField → RowKey
header_field_key r = field_key r.message r.path r.place

abbrev pub address_key : AddressRow → RowKey
address_key r = number_key r.id

abbrev pub address_field_key : AddressField → RowKey
address_field_key r = item_key r.message r.path r.place r.item

abbrev pub date_field_key : DateField → RowKey
date_field_key r = field_key r.message r.path r.place

abbrev pub message_id_key : MessageId → RowKey
message_id_key r = item_key r.message r.path r.place r.item

abbrev pub unparsed_message_key : UnparsedMessage → RowKey
unparsed_message_key r = number_key r.message

abbrev pub content_entry_key : ContentEntry → RowKey
content_entry_key e = texts_key e.text e.second e.third

abbrev pub digest_entry_key : DigestEntry → RowKey
digest_entry_key e = digest_key e.digest e.id
