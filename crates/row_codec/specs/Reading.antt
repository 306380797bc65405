-- Changes that are read. They serve the contracts of private functions alone.
use Rattle.std.specs.Prelude.{ℕ, ℤ, ⊤, ◌==◌, ◌&&◌, if◌then◌else◌, List, [], ◌∷◌, Option, None}
use Rattle.std.specs.Int.{w8, w16, w32, w64}
use Rattle.row_tables.specs.declared.change.RowChange.{RowChange}
use Rattle.row_tables.specs.declared.change.RowChange.TheVariants.{InsertUser, UpdateUser, RemoveUser, InsertMailbox, UpdateMailbox, RemoveMailbox, InsertMessageRow, UpdateMessageRow, RemoveMessageRow, InsertMailboxMessage, UpdateMailboxMessage, RemoveMailboxMessage, InsertDeletedMessage, UpdateDeletedMessage, RemoveDeletedMessage, InsertFlagName, UpdateFlagName, RemoveFlagName, InsertFlagRow, UpdateFlagRow, RemoveFlagRow, InsertBodyPart, UpdateBodyPart, RemoveBodyPart, InsertPartNumber, UpdatePartNumber, RemovePartNumber, InsertFieldName, UpdateFieldName, RemoveFieldName, InsertHeaderField, UpdateHeaderField, RemoveHeaderField, InsertAddressRow, UpdateAddressRow, RemoveAddressRow, InsertAddressField, UpdateAddressField, RemoveAddressField, InsertDateField, UpdateDateField, RemoveDateField, InsertMessageId, UpdateMessageId, RemoveMessageId, InsertUnparsedMessage, UpdateUnparsedMessage, RemoveUnparsedMessage, InsertSubscription, UpdateSubscription, RemoveSubscription, InsertCounters, UpdateCounters, RemoveCounters, DropMailbox}
use Rattle.row_tables.specs.declared.heads.User.{User}
use Rattle.row_tables.specs.declared.heads.Mailbox.{Mailbox}
use Rattle.row_tables.specs.declared.mails.MessageRow.{MessageRow}
use Rattle.row_tables.specs.declared.marks.MailboxMessage.{MailboxMessage}
use Rattle.row_tables.specs.declared.marks.DeletedMessage.{DeletedMessage}
use Rattle.row_tables.specs.declared.marks.FlagName.{FlagName}
use Rattle.row_tables.specs.declared.marks.FlagRow.{FlagRow}
use Rattle.row_tables.specs.declared.contents.BodyPart.{BodyPart}
use Rattle.row_tables.specs.declared.mails.PartNumber.{PartNumber}
use Rattle.row_tables.specs.declared.contents.FieldName.{FieldName}
use Rattle.row_tables.specs.declared.mails.HeaderField.{HeaderField}
use Rattle.row_tables.specs.declared.contents.AddressRow.{AddressRow}
use Rattle.row_tables.specs.declared.values.AddressField.{AddressField}
use Rattle.row_tables.specs.declared.values.DateField.{DateField}
use Rattle.row_tables.specs.declared.values.MessageId.{MessageId}
use Rattle.row_tables.specs.declared.mails.UnparsedMessage.{UnparsedMessage}
use Rattle.row_tables.specs.declared.heads.Subscription.{Subscription}
use Rattle.row_tables.specs.declared.heads.Counters.{Counters}
use Rattle.row_codec.specs.Codec.{Codec, mapped, number_read, number_codec, signed_codec, nothing_codec, text_codec, digest_codec, ◌then◌}

abbrev pub user_codec : Codec (ℕ × (List ℕ × List ℕ))
user_codec = number_codec w32 then text_codec then digest_codec

abbrev pub user_of : ℕ × (List ℕ × List ℕ) → User
user_of c = record { id = c.0; name = c.1.0; verifier = c.1.1 }

abbrev pub mailbox_codec : Codec (ℕ × (ℕ × (List ℕ × (ℕ × (ℕ × ℕ)))))
mailbox_codec = number_codec w32 then number_codec w32 then text_codec then number_codec w32 then number_codec w32 then number_codec w64

abbrev pub mailbox_of : ℕ × (ℕ × (List ℕ × (ℕ × (ℕ × ℕ)))) → Mailbox
mailbox_of c = record { id = c.0; owner = c.1.0; name = c.1.1.0; uidnext = c.1.1.1.0; first_recent = c.1.1.1.1.0; highest = c.1.1.1.1.1 }

abbrev pub message_codec : Codec (ℕ × ℕ)
message_codec = number_codec w64 then number_codec w64

abbrev pub message_of : ℕ × ℕ → MessageRow
message_of c = record { id = c.0; size = c.1 }

abbrev pub mailbox_message_codec : Codec (ℕ × (ℕ × (ℕ × (ℕ × (ℤ × ℤ)))))
mailbox_message_codec = number_codec w32 then number_codec w32 then number_codec w64 then number_codec w64 then signed_codec w64 then signed_codec w16

abbrev pub mailbox_message_of : ℕ × (ℕ × (ℕ × (ℕ × (ℤ × ℤ)))) → MailboxMessage
mailbox_message_of c = record { mailbox = c.0; uid = c.1.0; message = c.1.1.0; modseq = c.1.1.1.0; seconds = c.1.1.1.1.0; zone = c.1.1.1.1.1 }

abbrev pub deleted_message_codec : Codec (ℕ × (ℕ × ℕ))
deleted_message_codec = number_codec w32 then number_codec w32 then number_codec w64

abbrev pub deleted_message_of : ℕ × (ℕ × ℕ) → DeletedMessage
deleted_message_of c = record { mailbox = c.0; uid = c.1.0; modseq = c.1.1 }

abbrev pub flag_name_codec : Codec (ℕ × List ℕ)
flag_name_codec = number_codec w64 then text_codec

abbrev pub flag_name_of : ℕ × List ℕ → FlagName
flag_name_of c = record { id = c.0; name = c.1 }

abbrev pub flag_codec : Codec (ℕ × (ℕ × ℕ))
flag_codec = number_codec w32 then number_codec w32 then number_codec w64

abbrev pub flag_of : ℕ × (ℕ × ℕ) → FlagRow
flag_of c = record { mailbox = c.0; uid = c.1.0; flag = c.1.1 }

abbrev pub body_part_codec : Codec (ℕ × (List ℕ × List ℕ))
body_part_codec = number_codec w64 then digest_codec then text_codec

abbrev pub body_part_of : ℕ × (List ℕ × List ℕ) → BodyPart
body_part_of c = record { id = c.0; digest = c.1.0; content = c.1.1 }

abbrev pub part_number_codec : Codec (ℕ × (List ℕ × (ℕ × ℕ)))
part_number_codec = number_codec w64 then text_codec then number_codec w8 then number_codec w64

abbrev pub part_number_of : ℕ × (List ℕ × (ℕ × ℕ)) → PartNumber
part_number_of c = record { message = c.0; path = c.1.0; kind = c.1.1.0; body = c.1.1.1 }

abbrev pub field_name_codec : Codec (ℕ × List ℕ)
field_name_codec = number_codec w64 then text_codec

abbrev pub field_name_of : ℕ × List ℕ → FieldName
field_name_of c = record { id = c.0; name = c.1 }

abbrev pub header_field_codec : Codec (ℕ × (List ℕ × (ℕ × (ℕ × (ℕ × List ℕ)))))
header_field_codec = number_codec w64 then text_codec then number_codec w32 then number_codec w64 then number_codec w8 then text_codec

abbrev pub header_field_of : ℕ × (List ℕ × (ℕ × (ℕ × (ℕ × List ℕ)))) → HeaderField
header_field_of c = record { message = c.0; path = c.1.0; place = c.1.1.0; name = c.1.1.1.0; form = c.1.1.1.1.0; value = c.1.1.1.1.1 }

abbrev pub address_codec : Codec (ℕ × (List ℕ × (List ℕ × List ℕ)))
address_codec = number_codec w64 then text_codec then text_codec then text_codec

abbrev pub address_of : ℕ × (List ℕ × (List ℕ × List ℕ)) → AddressRow
address_of c = record { id = c.0; name = c.1.0; local = c.1.1.0; domain = c.1.1.1 }

abbrev pub address_field_codec : Codec (ℕ × (List ℕ × (ℕ × (ℕ × (ℕ × ℕ)))))
address_field_codec = number_codec w64 then text_codec then number_codec w32 then number_codec w32 then number_codec w8 then number_codec w64

abbrev pub address_field_of : ℕ × (List ℕ × (ℕ × (ℕ × (ℕ × ℕ)))) → AddressField
address_field_of c = record { message = c.0; path = c.1.0; place = c.1.1.0; item = c.1.1.1.0; kind = c.1.1.1.1.0; address = c.1.1.1.1.1 }

abbrev pub date_field_codec : Codec (ℕ × (List ℕ × (ℕ × (List ℕ × (ℤ × ℤ)))))
date_field_codec = number_codec w64 then text_codec then number_codec w32 then text_codec then signed_codec w64 then signed_codec w64

abbrev pub date_field_of : ℕ × (List ℕ × (ℕ × (List ℕ × (ℤ × ℤ)))) → DateField
date_field_of c = record { message = c.0; path = c.1.0; place = c.1.1.0; value = c.1.1.1.0; seconds = c.1.1.1.1.0; day = c.1.1.1.1.1 }

abbrev pub message_id_codec : Codec (ℕ × (List ℕ × (ℕ × (ℕ × List ℕ))))
message_id_codec = number_codec w64 then text_codec then number_codec w32 then number_codec w32 then text_codec

abbrev pub message_id_of : ℕ × (List ℕ × (ℕ × (ℕ × List ℕ))) → MessageId
message_id_of c = record { message = c.0; path = c.1.0; place = c.1.1.0; item = c.1.1.1.0; value = c.1.1.1.1 }

abbrev pub unparsed_message_codec : Codec (ℕ × ℕ)
unparsed_message_codec = number_codec w64 then number_codec w8

abbrev pub unparsed_message_of : ℕ × ℕ → UnparsedMessage
unparsed_message_of c = record { message = c.0; reason = c.1 }

abbrev pub subscription_codec : Codec (ℕ × List ℕ)
subscription_codec = number_codec w32 then text_codec

abbrev pub subscription_of : ℕ × List ℕ → Subscription
subscription_of c = record { owner = c.0; name = c.1 }

abbrev pub counters_codec : Codec (ℕ)
counters_codec = number_codec w32

abbrev pub counters_of : ℕ → Counters
counters_of c = record { next = c }

-- the codecs of keys, and the keys as they are
abbrev pub u32_key_codec : Codec (ℕ)
u32_key_codec = number_codec w32

abbrev pub u64_key_codec : Codec (ℕ)
u64_key_codec = number_codec w64

abbrev pub u32_u32_key_codec : Codec (ℕ × ℕ)
u32_u32_key_codec = number_codec w32 then number_codec w32

abbrev pub u32_u32_u64_key_codec : Codec (ℕ × (ℕ × ℕ))
u32_u32_u64_key_codec = number_codec w32 then number_codec w32 then number_codec w64

abbrev pub u32_u32_u64_key_of : ℕ × (ℕ × ℕ) → ℕ × ℕ × ℕ
u32_u32_u64_key_of c = (c.0, c.1.0, c.1.1)

abbrev pub u64_text_key_codec : Codec (ℕ × List ℕ)
u64_text_key_codec = number_codec w64 then text_codec

abbrev pub u64_text_u32_key_codec : Codec (ℕ × (List ℕ × ℕ))
u64_text_u32_key_codec = number_codec w64 then text_codec then number_codec w32

abbrev pub u64_text_u32_key_of : ℕ × (List ℕ × ℕ) → ℕ × List ℕ × ℕ
u64_text_u32_key_of c = (c.0, c.1.0, c.1.1)

abbrev pub u64_text_u32_u32_key_codec : Codec (ℕ × (List ℕ × (ℕ × ℕ)))
u64_text_u32_u32_key_codec = number_codec w64 then text_codec then number_codec w32 then number_codec w32

abbrev pub u64_text_u32_u32_key_of : ℕ × (List ℕ × (ℕ × ℕ)) → ℕ × List ℕ × ℕ × ℕ
u64_text_u32_u32_key_of c = (c.0, c.1.0, c.1.1.0, c.1.1.1)

abbrev pub u32_text_key_codec : Codec (ℕ × List ℕ)
u32_text_key_codec = number_codec w32 then text_codec

abbrev pub nothing_key_codec : Codec (⊤)
nothing_key_codec = nothing_codec

-- the insert at the front, behind the bytes of its table and its operation, and the rest
unfoldable pub read_insert : ℕ → List ℕ → Option (RowChange × List ℕ)
read_insert table bytes =
    if table == 1 then mapped (λ r. InsertUser r) (mapped user_of (user_codec.read bytes))
    else if table == 2 then mapped (λ r. InsertMailbox r) (mapped mailbox_of (mailbox_codec.read bytes))
    else if table == 3 then mapped (λ r. InsertMessageRow r) (mapped message_of (message_codec.read bytes))
    else if table == 4 then mapped (λ r. InsertMailboxMessage r) (mapped mailbox_message_of (mailbox_message_codec.read bytes))
    else if table == 5 then mapped (λ r. InsertDeletedMessage r) (mapped deleted_message_of (deleted_message_codec.read bytes))
    else if table == 6 then mapped (λ r. InsertFlagName r) (mapped flag_name_of (flag_name_codec.read bytes))
    else if table == 7 then mapped (λ r. InsertFlagRow r) (mapped flag_of (flag_codec.read bytes))
    else if table == 8 then mapped (λ r. InsertBodyPart r) (mapped body_part_of (body_part_codec.read bytes))
    else if table == 9 then mapped (λ r. InsertPartNumber r) (mapped part_number_of (part_number_codec.read bytes))
    else if table == 10 then mapped (λ r. InsertFieldName r) (mapped field_name_of (field_name_codec.read bytes))
    else if table == 11 then mapped (λ r. InsertHeaderField r) (mapped header_field_of (header_field_codec.read bytes))
    else if table == 12 then mapped (λ r. InsertAddressRow r) (mapped address_of (address_codec.read bytes))
    else if table == 13 then mapped (λ r. InsertAddressField r) (mapped address_field_of (address_field_codec.read bytes))
    else if table == 14 then mapped (λ r. InsertDateField r) (mapped date_field_of (date_field_codec.read bytes))
    else if table == 15 then mapped (λ r. InsertMessageId r) (mapped message_id_of (message_id_codec.read bytes))
    else if table == 16 then mapped (λ r. InsertUnparsedMessage r) (mapped unparsed_message_of (unparsed_message_codec.read bytes))
    else if table == 17 then mapped (λ r. InsertSubscription r) (mapped subscription_of (subscription_codec.read bytes))
    else if table == 18 then mapped (λ r. InsertCounters r) (mapped counters_of (counters_codec.read bytes))
    else None

-- the update at the front, behind the bytes of its table and its operation, and the rest
unfoldable pub read_update : ℕ → List ℕ → Option (RowChange × List ℕ)
read_update table bytes =
    if table == 1 then mapped (λ r. UpdateUser r) (mapped user_of (user_codec.read bytes))
    else if table == 2 then mapped (λ r. UpdateMailbox r) (mapped mailbox_of (mailbox_codec.read bytes))
    else if table == 3 then mapped (λ r. UpdateMessageRow r) (mapped message_of (message_codec.read bytes))
    else if table == 4 then mapped (λ r. UpdateMailboxMessage r) (mapped mailbox_message_of (mailbox_message_codec.read bytes))
    else if table == 5 then mapped (λ r. UpdateDeletedMessage r) (mapped deleted_message_of (deleted_message_codec.read bytes))
    else if table == 6 then mapped (λ r. UpdateFlagName r) (mapped flag_name_of (flag_name_codec.read bytes))
    else if table == 7 then mapped (λ r. UpdateFlagRow r) (mapped flag_of (flag_codec.read bytes))
    else if table == 8 then mapped (λ r. UpdateBodyPart r) (mapped body_part_of (body_part_codec.read bytes))
    else if table == 9 then mapped (λ r. UpdatePartNumber r) (mapped part_number_of (part_number_codec.read bytes))
    else if table == 10 then mapped (λ r. UpdateFieldName r) (mapped field_name_of (field_name_codec.read bytes))
    else if table == 11 then mapped (λ r. UpdateHeaderField r) (mapped header_field_of (header_field_codec.read bytes))
    else if table == 12 then mapped (λ r. UpdateAddressRow r) (mapped address_of (address_codec.read bytes))
    else if table == 13 then mapped (λ r. UpdateAddressField r) (mapped address_field_of (address_field_codec.read bytes))
    else if table == 14 then mapped (λ r. UpdateDateField r) (mapped date_field_of (date_field_codec.read bytes))
    else if table == 15 then mapped (λ r. UpdateMessageId r) (mapped message_id_of (message_id_codec.read bytes))
    else if table == 16 then mapped (λ r. UpdateUnparsedMessage r) (mapped unparsed_message_of (unparsed_message_codec.read bytes))
    else if table == 17 then mapped (λ r. UpdateSubscription r) (mapped subscription_of (subscription_codec.read bytes))
    else if table == 18 then mapped (λ r. UpdateCounters r) (mapped counters_of (counters_codec.read bytes))
    else None

-- the removal
unfoldable pub read_removal : ℕ → List ℕ → Option (RowChange × List ℕ)
read_removal table bytes =
    if table == 1 then mapped (λ k. RemoveUser k) (mapped (λ c. c) (u32_key_codec.read bytes))
    else if table == 2 then mapped (λ k. RemoveMailbox k) (mapped (λ c. c) (u32_key_codec.read bytes))
    else if table == 3 then mapped (λ k. RemoveMessageRow k) (mapped (λ c. c) (u64_key_codec.read bytes))
    else if table == 4 then mapped (λ k. RemoveMailboxMessage k) (mapped (λ c. c) (u32_u32_key_codec.read bytes))
    else if table == 5 then mapped (λ k. RemoveDeletedMessage k) (mapped (λ c. c) (u32_u32_key_codec.read bytes))
    else if table == 6 then mapped (λ k. RemoveFlagName k) (mapped (λ c. c) (u64_key_codec.read bytes))
    else if table == 7 then mapped (λ k. RemoveFlagRow k) (mapped u32_u32_u64_key_of (u32_u32_u64_key_codec.read bytes))
    else if table == 8 then mapped (λ k. RemoveBodyPart k) (mapped (λ c. c) (u64_key_codec.read bytes))
    else if table == 9 then mapped (λ k. RemovePartNumber k) (mapped (λ c. c) (u64_text_key_codec.read bytes))
    else if table == 10 then mapped (λ k. RemoveFieldName k) (mapped (λ c. c) (u64_key_codec.read bytes))
    else if table == 11 then mapped (λ k. RemoveHeaderField k) (mapped u64_text_u32_key_of (u64_text_u32_key_codec.read bytes))
    else if table == 12 then mapped (λ k. RemoveAddressRow k) (mapped (λ c. c) (u64_key_codec.read bytes))
    else if table == 13 then mapped (λ k. RemoveAddressField k) (mapped u64_text_u32_u32_key_of (u64_text_u32_u32_key_codec.read bytes))
    else if table == 14 then mapped (λ k. RemoveDateField k) (mapped u64_text_u32_key_of (u64_text_u32_key_codec.read bytes))
    else if table == 15 then mapped (λ k. RemoveMessageId k) (mapped u64_text_u32_u32_key_of (u64_text_u32_u32_key_codec.read bytes))
    else if table == 16 then mapped (λ k. RemoveUnparsedMessage k) (mapped (λ c. c) (u64_key_codec.read bytes))
    else if table == 17 then mapped (λ k. RemoveSubscription k) (mapped (λ c. c) (u32_text_key_codec.read bytes))
    else if table == 18 then mapped (λ k. RemoveCounters k) (mapped (λ c. c) (nothing_key_codec.read bytes))
    else None

-- the change at the front, and the rest
unfoldable pub read_change : List ℕ → Option (RowChange × List ℕ)
read_change [] = None
read_change (table ∷ []) = None
read_change (table ∷ operation ∷ rest) =
    if operation == 0 then read_insert table rest
    else if operation == 1 then read_update table rest
    else if operation == 2 then read_removal table rest
    else if (operation == 3) && (table == 2) then mapped (λ mailbox. DropMailbox mailbox) (number_read w32 rest)
    else None
