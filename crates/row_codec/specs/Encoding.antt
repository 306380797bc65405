-- The bytes of changes.
use Rattle.std.specs.Prelude.{ℕ, ℤ, List, ◌∷◌}
use Rattle.std.specs.Int.{w8, w16, w32, w64}
use Rattle.std.specs.List.{flat_map, AllByRecursion}
use Rattle.row_tables.specs.declared.heads.User.{User}
use Rattle.row_tables.specs.declared.heads.Mailbox.{Mailbox}
use Rattle.row_tables.specs.declared.mails.MessageRow.{MessageRow}
use Rattle.row_tables.specs.declared.marks.MailboxMessage.{MailboxMessage}
use Rattle.row_tables.specs.declared.marks.DeletedMessage.{DeletedMessage}
use Rattle.row_tables.specs.declared.marks.FlagName.{FlagName}
use Rattle.row_tables.specs.declared.marks.FlagRow.{FlagRow}
use Rattle.row_tables.specs.declared.contents.BodyPart.{BodyPart}
use Rattle.row_tables.specs.declared.mails.PartNumber.{PartNumber}
use Rattle.row_tables.specs.declared.contents.FieldName.{FieldName}
use Rattle.row_tables.specs.declared.mails.HeaderField.{HeaderField}
use Rattle.row_tables.specs.declared.contents.AddressRow.{AddressRow}
use Rattle.row_tables.specs.declared.values.AddressField.{AddressField}
use Rattle.row_tables.specs.declared.values.DateField.{DateField}
use Rattle.row_tables.specs.declared.values.MessageId.{MessageId}
use Rattle.row_tables.specs.declared.mails.UnparsedMessage.{UnparsedMessage}
use Rattle.row_tables.specs.declared.heads.Subscription.{Subscription}
use Rattle.row_tables.specs.declared.heads.Counters.{Counters}
use Rattle.row_tables.specs.declared.change.RowChange.{RowChange}
use Rattle.row_tables.specs.declared.change.RowChange.TheVariants.{InsertUser, UpdateUser, RemoveUser, InsertMailbox, UpdateMailbox, RemoveMailbox, InsertMessageRow, UpdateMessageRow, RemoveMessageRow, InsertMailboxMessage, UpdateMailboxMessage, RemoveMailboxMessage, InsertDeletedMessage, UpdateDeletedMessage, RemoveDeletedMessage, InsertFlagName, UpdateFlagName, RemoveFlagName, InsertFlagRow, UpdateFlagRow, RemoveFlagRow, InsertBodyPart, UpdateBodyPart, RemoveBodyPart, InsertPartNumber, UpdatePartNumber, RemovePartNumber, InsertFieldName, UpdateFieldName, RemoveFieldName, InsertHeaderField, UpdateHeaderField, RemoveHeaderField, InsertAddressRow, UpdateAddressRow, RemoveAddressRow, InsertAddressField, UpdateAddressField, RemoveAddressField, InsertDateField, UpdateDateField, RemoveDateField, InsertMessageId, UpdateMessageId, RemoveMessageId, InsertUnparsedMessage, UpdateUnparsedMessage, RemoveUnparsedMessage, InsertSubscription, UpdateSubscription, RemoveSubscription, InsertCounters, UpdateCounters, RemoveCounters, DropMailbox}
use Rattle.row_codec.specs.Columns.{Column, number, signed, nothing, text, digest, ◌&◌}

-- The columns of each table, in their order, and a row as what stands in them.

abbrev pub user_columns : Column (ℕ × (List ℕ × List ℕ))
user_columns = number w32 & text & digest

abbrev pub user_parts : User → ℕ × (List ℕ × List ℕ)
user_parts r = (r.id, (r.name, r.verifier))

abbrev pub mailbox_columns : Column (ℕ × (ℕ × (List ℕ × (ℕ × (ℕ × ℕ)))))
mailbox_columns = number w32 & number w32 & text & number w32 & number w32 & number w64

abbrev pub mailbox_parts : Mailbox → ℕ × (ℕ × (List ℕ × (ℕ × (ℕ × ℕ))))
mailbox_parts r = (r.id, (r.owner, (r.name, (r.uidnext, (r.first_recent, r.highest)))))

abbrev pub message_columns : Column (ℕ × ℕ)
message_columns = number w64 & number w64

abbrev pub message_parts : MessageRow → ℕ × ℕ
message_parts r = (r.id, r.size)

abbrev pub mailbox_message_columns : Column (ℕ × (ℕ × (ℕ × (ℕ × (ℤ × ℤ)))))
mailbox_message_columns = number w32 & number w32 & number w64 & number w64 & signed w64 & signed w16

abbrev pub mailbox_message_parts : MailboxMessage → ℕ × (ℕ × (ℕ × (ℕ × (ℤ × ℤ))))
mailbox_message_parts r = (r.mailbox, (r.uid, (r.message, (r.modseq, (r.seconds, r.zone)))))

abbrev pub deleted_message_columns : Column (ℕ × (ℕ × ℕ))
deleted_message_columns = number w32 & number w32 & number w64

abbrev pub deleted_message_parts : DeletedMessage → ℕ × (ℕ × ℕ)
deleted_message_parts r = (r.mailbox, (r.uid, r.modseq))

abbrev pub flag_name_columns : Column (ℕ × List ℕ)
flag_name_columns = number w64 & text

abbrev pub flag_name_parts : FlagName → ℕ × List ℕ
flag_name_parts r = (r.id, r.name)

abbrev pub flag_columns : Column (ℕ × (ℕ × ℕ))
flag_columns = number w32 & number w32 & number w64

abbrev pub flag_parts : FlagRow → ℕ × (ℕ × ℕ)
flag_parts r = (r.mailbox, (r.uid, r.flag))

abbrev pub body_part_columns : Column (ℕ × (List ℕ × List ℕ))
body_part_columns = number w64 & digest & text

abbrev pub body_part_parts : BodyPart → ℕ × (List ℕ × List ℕ)
body_part_parts r = (r.id, (r.digest, r.content))

abbrev pub part_number_columns : Column (ℕ × (List ℕ × (ℕ × ℕ)))
part_number_columns = number w64 & text & number w8 & number w64

abbrev pub part_number_parts : PartNumber → ℕ × (List ℕ × (ℕ × ℕ))
part_number_parts r = (r.message, (r.path, (r.kind, r.body)))

abbrev pub field_name_columns : Column (ℕ × List ℕ)
field_name_columns = number w64 & text

abbrev pub field_name_parts : FieldName → ℕ × List ℕ
field_name_parts r = (r.id, r.name)

abbrev pub header_field_columns : Column (ℕ × (List ℕ × (ℕ × (ℕ × (ℕ × List ℕ)))))
header_field_columns = number w64 & text & number w32 & number w64 & number w8 & text

abbrev pub header_field_parts : HeaderField → ℕ × (List ℕ × (ℕ × (ℕ × (ℕ × List ℕ))))
header_field_parts r = (r.message, (r.path, (r.place, (r.name, (r.form, r.value)))))

abbrev pub address_columns : Column (ℕ × (List ℕ × (List ℕ × List ℕ)))
address_columns = number w64 & text & text & text

abbrev pub address_parts : AddressRow → ℕ × (List ℕ × (List ℕ × List ℕ))
address_parts r = (r.id, (r.name, (r.local, r.domain)))

abbrev pub address_field_columns : Column (ℕ × (List ℕ × (ℕ × (ℕ × (ℕ × ℕ)))))
address_field_columns = number w64 & text & number w32 & number w32 & number w8 & number w64

abbrev pub address_field_parts : AddressField → ℕ × (List ℕ × (ℕ × (ℕ × (ℕ × ℕ))))
address_field_parts r = (r.message, (r.path, (r.place, (r.item, (r.kind, r.address)))))

abbrev pub date_field_columns : Column (ℕ × (List ℕ × (ℕ × (List ℕ × (ℤ × ℤ)))))
date_field_columns = number w64 & text & number w32 & text & signed w64 & signed w64

abbrev pub date_field_parts : DateField → ℕ × (List ℕ × (ℕ × (List ℕ × (ℤ × ℤ))))
date_field_parts r = (r.message, (r.path, (r.place, (r.value, (r.seconds, r.day)))))

abbrev pub message_id_columns : Column (ℕ × (List ℕ × (ℕ × (ℕ × List ℕ))))
message_id_columns = number w64 & text & number w32 & number w32 & text

abbrev pub message_id_parts : MessageId → ℕ × (List ℕ × (ℕ × (ℕ × List ℕ)))
message_id_parts r = (r.message, (r.path, (r.place, (r.item, r.value))))

abbrev pub unparsed_message_columns : Column (ℕ × ℕ)
unparsed_message_columns = number w64 & number w8

abbrev pub unparsed_message_parts : UnparsedMessage → ℕ × ℕ
unparsed_message_parts r = (r.message, r.reason)

abbrev pub subscription_columns : Column (ℕ × List ℕ)
subscription_columns = number w32 & text

abbrev pub subscription_parts : Subscription → ℕ × List ℕ
subscription_parts r = (r.owner, r.name)

abbrev pub counters_columns : Column (ℕ)
counters_columns = number w32

abbrev pub counters_parts : Counters → ℕ
counters_parts r = r.next

-- a change as it is written: its bytes, whether its texts are short enough for their lengths, and whether its numbers and
-- digests have the widths of their columns
pub record Written : Type 1 where
  pub bytes : List ℕ
  pub texts : Type 0
  pub widths : Type 0

-- the number of the table, that of the operation, and the columns
abbrev pub change : {A : Type 0} → ℕ → ℕ → Column A → A → Written
change table operation columns x = record { bytes = table ∷ operation ∷ columns.bytes x; texts = columns.HasTexts x; widths = columns.HasWidths x }

-- An insert has the operation 0, an update 1, a removal 2 and the drop of a mailbox 3. The first two have all columns, the others
-- those of the key.
abbrev pub written : RowChange → Written
written (InsertUser r) = change 1 0 user_columns (user_parts r)
written (UpdateUser r) = change 1 1 user_columns (user_parts r)
written (RemoveUser k) = change 1 2 (number w32) k
written (InsertMailbox r) = change 2 0 mailbox_columns (mailbox_parts r)
written (UpdateMailbox r) = change 2 1 mailbox_columns (mailbox_parts r)
written (RemoveMailbox k) = change 2 2 (number w32) k
written (InsertMessageRow r) = change 3 0 message_columns (message_parts r)
written (UpdateMessageRow r) = change 3 1 message_columns (message_parts r)
written (RemoveMessageRow k) = change 3 2 (number w64) k
written (InsertMailboxMessage r) = change 4 0 mailbox_message_columns (mailbox_message_parts r)
written (UpdateMailboxMessage r) = change 4 1 mailbox_message_columns (mailbox_message_parts r)
written (RemoveMailboxMessage k) = change 4 2 (number w32 & number w32) (k.0, k.1)
written (InsertDeletedMessage r) = change 5 0 deleted_message_columns (deleted_message_parts r)
written (UpdateDeletedMessage r) = change 5 1 deleted_message_columns (deleted_message_parts r)
written (RemoveDeletedMessage k) = change 5 2 (number w32 & number w32) (k.0, k.1)
written (InsertFlagName r) = change 6 0 flag_name_columns (flag_name_parts r)
written (UpdateFlagName r) = change 6 1 flag_name_columns (flag_name_parts r)
written (RemoveFlagName k) = change 6 2 (number w64) k
written (InsertFlagRow r) = change 7 0 flag_columns (flag_parts r)
written (UpdateFlagRow r) = change 7 1 flag_columns (flag_parts r)
written (RemoveFlagRow k) = change 7 2 (number w32 & number w32 & number w64) (k.0, (k.1, k.2))
written (InsertBodyPart r) = change 8 0 body_part_columns (body_part_parts r)
written (UpdateBodyPart r) = change 8 1 body_part_columns (body_part_parts r)
written (RemoveBodyPart k) = change 8 2 (number w64) k
written (InsertPartNumber r) = change 9 0 part_number_columns (part_number_parts r)
written (UpdatePartNumber r) = change 9 1 part_number_columns (part_number_parts r)
written (RemovePartNumber k) = change 9 2 (number w64 & text) (k.0, k.1)
written (InsertFieldName r) = change 10 0 field_name_columns (field_name_parts r)
written (UpdateFieldName r) = change 10 1 field_name_columns (field_name_parts r)
written (RemoveFieldName k) = change 10 2 (number w64) k
written (InsertHeaderField r) = change 11 0 header_field_columns (header_field_parts r)
written (UpdateHeaderField r) = change 11 1 header_field_columns (header_field_parts r)
written (RemoveHeaderField k) = change 11 2 (number w64 & text & number w32) (k.0, (k.1, k.2))
written (InsertAddressRow r) = change 12 0 address_columns (address_parts r)
written (UpdateAddressRow r) = change 12 1 address_columns (address_parts r)
written (RemoveAddressRow k) = change 12 2 (number w64) k
written (InsertAddressField r) = change 13 0 address_field_columns (address_field_parts r)
written (UpdateAddressField r) = change 13 1 address_field_columns (address_field_parts r)
written (RemoveAddressField k) = change 13 2 (number w64 & text & number w32 & number w32) (k.0, (k.1, (k.2, k.3)))
written (InsertDateField r) = change 14 0 date_field_columns (date_field_parts r)
written (UpdateDateField r) = change 14 1 date_field_columns (date_field_parts r)
written (RemoveDateField k) = change 14 2 (number w64 & text & number w32) (k.0, (k.1, k.2))
written (InsertMessageId r) = change 15 0 message_id_columns (message_id_parts r)
written (UpdateMessageId r) = change 15 1 message_id_columns (message_id_parts r)
written (RemoveMessageId k) = change 15 2 (number w64 & text & number w32 & number w32) (k.0, (k.1, (k.2, k.3)))
written (InsertUnparsedMessage r) = change 16 0 unparsed_message_columns (unparsed_message_parts r)
written (UpdateUnparsedMessage r) = change 16 1 unparsed_message_columns (unparsed_message_parts r)
written (RemoveUnparsedMessage k) = change 16 2 (number w64) k
written (InsertSubscription r) = change 17 0 subscription_columns (subscription_parts r)
written (UpdateSubscription r) = change 17 1 subscription_columns (subscription_parts r)
written (RemoveSubscription k) = change 17 2 (number w32 & text) (k.0, k.1)
written (InsertCounters r) = change 18 0 counters_columns (counters_parts r)
written (UpdateCounters r) = change 18 1 counters_columns (counters_parts r)
written (RemoveCounters k) = change 18 2 nothing k
written (DropMailbox mailbox) = change 2 3 (number w32) mailbox

abbrev pub encoding_of : RowChange → List ℕ
encoding_of change = (written change).bytes

-- the changes one after another
abbrev pub encoding : List RowChange → List ℕ
encoding changes = flat_map encoding_of changes

abbrev pub HasTexts : RowChange → Type 0
HasTexts change = (written change).texts

abbrev pub HasWidths : RowChange → Type 0
HasWidths change = (written change).widths

-- Each text is short enough for its length.
abbrev pub HaveTexts : List RowChange → Type 0
HaveTexts changes = AllByRecursion HasTexts changes

-- Each number and each digest has the width of its column, as every row in memory has them.
abbrev pub HaveWidths : List RowChange → Type 0
HaveWidths changes = AllByRecursion HasWidths changes
