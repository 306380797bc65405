-- The listing of all tables: a line for each row.
use Rattle.std.specs.Prelude.{ℕ, List, [], ◌∷◌, ◌++◌, flat_map, codes}
use Rattle.row_tables.specs.TableRows.{TableRows}
use Rattle.row_tables.specs.declared.heads.User.{User}
use Rattle.row_tables.specs.declared.heads.Mailbox.{Mailbox}
use Rattle.row_tables.specs.declared.mails.MessageRow.{MessageRow}
use Rattle.row_tables.specs.declared.marks.MailboxMessage.{MailboxMessage}
use Rattle.row_tables.specs.declared.marks.DeletedMessage.{DeletedMessage}
use Rattle.row_tables.specs.declared.marks.FlagName.{FlagName}
use Rattle.row_tables.specs.declared.marks.FlagRow.{FlagRow}
use Rattle.row_tables.specs.declared.contents.BodyPart.{BodyPart}
use Rattle.row_tables.specs.declared.mails.PartNumber.{PartNumber}
use Rattle.row_tables.specs.declared.contents.FieldName.{FieldName}
use Rattle.row_tables.specs.declared.mails.HeaderField.{HeaderField}
use Rattle.row_tables.specs.declared.contents.AddressRow.{AddressRow}
use Rattle.row_tables.specs.declared.values.AddressField.{AddressField}
use Rattle.row_tables.specs.declared.values.DateField.{DateField}
use Rattle.row_tables.specs.declared.values.MessageId.{MessageId}
use Rattle.row_tables.specs.declared.mails.UnparsedMessage.{UnparsedMessage}
use Rattle.row_tables.specs.declared.heads.Subscription.{Subscription}
use Rattle.row_tables.specs.declared.heads.Counters.{Counters}
use Rattle.admin_texts.specs.Columns.{line}
use Rattle.admin_texts.specs.Columns.Column.{number, integer, text, digest}

abbrev pub user_line : User → List ℕ
user_line r = line (codes "users") (number r.id ∷ text r.name ∷ digest r.verifier ∷ [])

abbrev pub mailbox_line : Mailbox → List ℕ
mailbox_line r = line (codes "mailboxes") (number r.id ∷ number r.owner ∷ text r.name ∷ number r.uidnext ∷ number r.first_recent ∷ number r.highest ∷ [])

abbrev pub message_line : MessageRow → List ℕ
message_line r = line (codes "messages") (number r.id ∷ number r.size ∷ [])

abbrev pub mailbox_message_line : MailboxMessage → List ℕ
mailbox_message_line r = line (codes "mailbox_messages") (number r.mailbox ∷ number r.uid ∷ number r.message ∷ number r.modseq ∷ integer r.seconds ∷ integer r.zone ∷ [])

abbrev pub deleted_message_line : DeletedMessage → List ℕ
deleted_message_line r = line (codes "deleted_messages") (number r.mailbox ∷ number r.uid ∷ number r.modseq ∷ [])

abbrev pub flag_name_line : FlagName → List ℕ
flag_name_line r = line (codes "flag_names") (number r.id ∷ text r.name ∷ [])

abbrev pub flag_line : FlagRow → List ℕ
flag_line r = line (codes "flags") (number r.mailbox ∷ number r.uid ∷ number r.flag ∷ [])

abbrev pub body_part_line : BodyPart → List ℕ
body_part_line r = line (codes "bodyparts") (number r.id ∷ digest r.digest ∷ text r.content ∷ [])

abbrev pub part_number_line : PartNumber → List ℕ
part_number_line r = line (codes "part_numbers") (number r.message ∷ text r.path ∷ number r.kind ∷ number r.body ∷ [])

abbrev pub field_name_line : FieldName → List ℕ
field_name_line r = line (codes "field_names") (number r.id ∷ text r.name ∷ [])

abbrev pub header_field_line : HeaderField → List ℕ
header_field_line r = line (codes "header_fields") (number r.message ∷ text r.path ∷ number r.place ∷ number r.name ∷ number r.form ∷ text r.value ∷ [])

abbrev pub address_line : AddressRow → List ℕ
address_line r = line (codes "addresses") (number r.id ∷ text r.name ∷ text r.local ∷ text r.domain ∷ [])

abbrev pub address_field_line : AddressField → List ℕ
address_field_line r = line (codes "address_fields") (number r.message ∷ text r.path ∷ number r.place ∷ number r.item ∷ number r.kind ∷ number r.address ∷ [])

abbrev pub date_field_line : DateField → List ℕ
date_field_line r = line (codes "date_fields") (number r.message ∷ text r.path ∷ number r.place ∷ text r.value ∷ integer r.seconds ∷ integer r.day ∷ [])

abbrev pub message_id_line : MessageId → List ℕ
message_id_line r = line (codes "message_ids") (number r.message ∷ text r.path ∷ number r.place ∷ number r.item ∷ text r.value ∷ [])

abbrev pub unparsed_message_line : UnparsedMessage → List ℕ
unparsed_message_line r = line (codes "unparsed_messages") (number r.message ∷ number r.reason ∷ [])

abbrev pub subscription_line : Subscription → List ℕ
subscription_line r = line (codes "subscriptions") (number r.owner ∷ text r.name ∷ [])

abbrev pub counters_line : Counters → List ℕ
counters_line r = line (codes "counters") (number r.next ∷ [])

-- the lines of the tables in the order of their numbers
abbrev pub listing_of : TableRows → List ℕ
listing_of t =
    flat_map user_line t.heads.users
    ++ flat_map mailbox_line t.heads.mailboxes
    ++ flat_map message_line t.mails.messages
    ++ flat_map mailbox_message_line t.marks.mailbox_messages
    ++ flat_map deleted_message_line t.marks.deleted_messages
    ++ flat_map flag_name_line t.marks.flag_names
    ++ flat_map flag_line t.marks.flags
    ++ flat_map body_part_line t.shared.bodyparts
    ++ flat_map part_number_line t.mails.part_numbers
    ++ flat_map field_name_line t.shared.field_names
    ++ flat_map header_field_line t.mails.header_fields
    ++ flat_map address_line t.shared.addresses
    ++ flat_map address_field_line t.mails.address_fields
    ++ flat_map date_field_line t.mails.date_fields
    ++ flat_map message_id_line t.mails.message_ids
    ++ flat_map unparsed_message_line t.mails.unparsed_messages
    ++ flat_map subscription_line t.heads.subscriptions
    ++ counters_line t.heads.counters
