-- The rows of all tables.
use Rattle.std.specs.Prelude.{List, []}
use Rattle.row_tables.specs.declared.heads.User.{User}
use Rattle.row_tables.specs.declared.heads.Mailbox.{Mailbox}
use Rattle.row_tables.specs.declared.heads.Subscription.{Subscription}
use Rattle.row_tables.specs.declared.heads.Counters.{Counters}
use Rattle.row_tables.specs.declared.marks.MailboxMessage.{MailboxMessage}
use Rattle.row_tables.specs.declared.marks.DeletedMessage.{DeletedMessage}
use Rattle.row_tables.specs.declared.marks.FlagName.{FlagName}
use Rattle.row_tables.specs.declared.marks.FlagRow.{FlagRow}
use Rattle.row_tables.specs.declared.mails.MessageRow.{MessageRow}
use Rattle.row_tables.specs.declared.mails.PartNumber.{PartNumber}
use Rattle.row_tables.specs.declared.mails.HeaderField.{HeaderField}
use Rattle.row_tables.specs.declared.mails.UnparsedMessage.{UnparsedMessage}
use Rattle.row_tables.specs.declared.values.AddressField.{AddressField}
use Rattle.row_tables.specs.declared.values.DateField.{DateField}
use Rattle.row_tables.specs.declared.values.MessageId.{MessageId}
use Rattle.row_tables.specs.declared.contents.BodyPart.{BodyPart}
use Rattle.row_tables.specs.declared.contents.FieldName.{FieldName}
use Rattle.row_tables.specs.declared.contents.AddressRow.{AddressRow}

-- the rows of users, of their mailboxes and subscriptions, and the one row of counters
pub record HeadRows : Type 0 where
  pub users : List User
  pub mailboxes : List Mailbox
  pub subscriptions : List Subscription
  pub counters : Counters

-- the rows of the messages of mailboxes, of those that are gone, and of flags
pub record MarkRows : Type 0 where
  pub mailbox_messages : List MailboxMessage
  pub deleted_messages : List DeletedMessage
  pub flag_names : List FlagName
  pub flags : List FlagRow

-- the rows of messages
pub record MailRows : Type 0 where
  pub messages : List MessageRow
  pub part_numbers : List PartNumber
  pub header_fields : List HeaderField
  pub address_fields : List AddressField
  pub date_fields : List DateField
  pub message_ids : List MessageId
  pub unparsed_messages : List UnparsedMessage

-- the rows that messages share
pub record SharedRows : Type 0 where
  pub bodyparts : List BodyPart
  pub field_names : List FieldName
  pub addresses : List AddressRow

pub record TableRows : Type 0 where
  pub heads : HeadRows
  pub marks : MarkRows
  pub mails : MailRows
  pub shared : SharedRows

abbrev pub no_mails : MailRows
no_mails = record { messages = []; part_numbers = []; header_fields = []; address_fields = []; date_fields = []; message_ids = []; unparsed_messages = [] }

-- at first: no row but that of counters
abbrev pub no_rows : TableRows
no_rows = record {
  heads = record { users = []; mailboxes = []; subscriptions = []; counters = record { next = 1 } };
  marks = record { mailbox_messages = []; deleted_messages = []; flag_names = []; flags = [] };
  mails = no_mails;
  shared = record { bodyparts = []; field_names = []; addresses = [] };
}
