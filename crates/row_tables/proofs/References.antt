-- What rows refer to, after the tables have changed.
use Rattle.std.proofs.Common.{◌≡◌, Bool, true, false, List, Some, IsSome, refl, sym, subst}
use Rattle.std.specs.List.{AllByRecursion}
use Rattle.ordered_rows.specs.RowKey.{RowKey, same_key, number_key}
use Rattle.ordered_rows.specs.InsertLaws.{InsertLaws}
use Rattle.ordered_rows.specs.Listed.{IsInOrder, row_at, with_row, with_replaced, without}
use Rattle.row_tables.specs.Keys.{uid_key, part_key, field_key, user_key, mailbox_key, message_key, mailbox_message_key, deleted_message_key, flag_name_key, flag_key, body_part_key, part_number_key, field_name_key, header_field_key, address_key, address_field_key, date_field_key, message_id_key, unparsed_message_key, subscription_key}
use Rattle.row_tables.specs.TableRows.{TableRows}
use Rattle.row_tables.specs.References.{ReferTo, MailboxRefers, SubscriptionRefers, MailboxMessageRefers, DeletedRefers, FlagRefers, PartRefers, FieldRefers, AddressRefers, DateRefers, IdRefers, UnparsedRefers}
use Rattle.row_tables.specs.declared.heads.Mailbox.{Mailbox}
use Rattle.row_tables.specs.declared.heads.Subscription.{Subscription}
use Rattle.row_tables.specs.declared.marks.MailboxMessage.{MailboxMessage}
use Rattle.row_tables.specs.declared.marks.DeletedMessage.{DeletedMessage}
use Rattle.row_tables.specs.declared.marks.FlagRow.{FlagRow}
use Rattle.row_tables.specs.declared.mails.PartNumber.{PartNumber}
use Rattle.row_tables.specs.declared.mails.HeaderField.{HeaderField}
use Rattle.row_tables.specs.declared.mails.UnparsedMessage.{UnparsedMessage}
use Rattle.row_tables.specs.declared.values.AddressField.{AddressField}
use Rattle.row_tables.specs.declared.values.DateField.{DateField}
use Rattle.row_tables.specs.declared.values.MessageId.{MessageId}
use Rattle.row_tables.proofs.Lists.{all_map}

-- ---- the laws of the tables

pub record ReplaceLaws {X : Type 0} (key : X → RowKey) : Type 0 where
  pub same : (row : X) (rows : List X) → IsSome (row_at key (key row) rows) → row_at key (key row) (with_replaced key row rows) ≡ Some row
  pub other : (row : X) (k : RowKey) (rows : List X) → same_key (key row) k ≡ false → row_at key k (with_replaced key row rows) ≡ row_at key k rows
  pub order : (row : X) (rows : List X) → IsInOrder key rows → IsInOrder key (with_replaced key row rows)

pub record TheTables : Type 0 where
  pub keys : (a b : RowKey) → same_key a b ≡ true → a ≡ b
  pub users : InsertLaws user_key
  pub mailboxes : InsertLaws mailbox_key
  pub messages : InsertLaws message_key
  pub mailbox_messages : InsertLaws mailbox_message_key
  pub deleted_messages : InsertLaws deleted_message_key
  pub flag_names : InsertLaws flag_name_key
  pub flags : InsertLaws flag_key
  pub bodyparts : InsertLaws body_part_key
  pub part_numbers : InsertLaws part_number_key
  pub field_names : InsertLaws field_name_key
  pub header_fields : InsertLaws header_field_key
  pub addresses : InsertLaws address_key
  pub address_fields : InsertLaws address_field_key
  pub date_fields : InsertLaws date_field_key
  pub message_ids : InsertLaws message_id_key
  pub unparsed_messages : InsertLaws unparsed_message_key
  pub subscriptions : InsertLaws subscription_key
  pub replaced_mailboxes : ReplaceLaws mailbox_key
  pub replaced_messages : ReplaceLaws mailbox_message_key
  pub removed_mailboxes : (k other : RowKey) (rows : List Mailbox) → same_key k other ≡ false → row_at mailbox_key other (without mailbox_key k rows) ≡ row_at mailbox_key other rows
  pub removed_messages : (k other : RowKey) (rows : List MailboxMessage) → same_key k other ≡ false → row_at mailbox_message_key other (without mailbox_message_key k rows) ≡ row_at mailbox_message_key other rows

-- ---- rows that stay

-- each key that has a row has one still
abbrev pub More : {X : Type 0} → (X → RowKey) → List X → List X → Type 0
More key rows more = (k : RowKey) → IsSome (row_at key k rows) → IsSome (row_at key k more)

pub more_with : {X : Type 0} (key : X → RowKey) → ((a b : RowKey) → same_key a b ≡ true → a ≡ b) → InsertLaws key → (row : X) (rows : List X) → More key rows (with_row key row rows)
more_with {X} key keys laws row rows k h = by (same_key (key row) k) refl
  where
    by : (b : Bool) → same_key (key row) k ≡ b → IsSome (row_at key k (with_row key row rows))
    by true q = subst (λ l. IsSome (row_at key l (with_row key row rows))) (keys (key row) k q) (subst IsSome (sym (laws.same row rows)) refl)
    by false q = subst IsSome (sym (laws.other row k rows q)) h

pub more_replaced : {X : Type 0} (key : X → RowKey) → ((a b : RowKey) → same_key a b ≡ true → a ≡ b) → ReplaceLaws key → (row : X) (rows : List X) → More key rows (with_replaced key row rows)
more_replaced {X} key keys laws row rows k h = by (same_key (key row) k) refl
  where
    by : (b : Bool) → same_key (key row) k ≡ b → IsSome (row_at key k (with_replaced key row rows))
    by true q =
        let same = keys (key row) k q in
        subst (λ l. IsSome (row_at key l (with_replaced key row rows))) same (subst IsSome (sym (laws.same row rows (subst (λ l. IsSome (row_at key l rows)) (sym same) h))) refl)
    by false q = subst IsSome (sym (laws.other row k rows q)) h

-- in the tables that rows refer to, but those of mailboxes and of their messages
pub record Grows (t u : TableRows) : Type 0 where
  pub users : More user_key t.heads.users u.heads.users
  pub flag_names : More flag_name_key t.marks.flag_names u.marks.flag_names
  pub messages : More message_key t.mails.messages u.mails.messages
  pub parts : More part_number_key t.mails.part_numbers u.mails.part_numbers
  pub fields : More header_field_key t.mails.header_fields u.mails.header_fields
  pub bodies : More body_part_key t.shared.bodyparts u.shared.bodyparts
  pub names : More field_name_key t.shared.field_names u.shared.field_names
  pub addresses : More address_key t.shared.addresses u.shared.addresses

-- and in these
pub record Places (t u : TableRows) : Type 0 where
  pub mailboxes : More mailbox_key t.heads.mailboxes u.heads.mailboxes
  pub messages : More mailbox_message_key t.marks.mailbox_messages u.marks.mailbox_messages

module _ (t u : TableRows) (g : Grows t u) where
  pub mailbox_refers : (r : Mailbox) → MailboxRefers t r → MailboxRefers u r
  mailbox_refers r h = g.users (number_key r.owner) h

  pub subscription_refers : (r : Subscription) → SubscriptionRefers t r → SubscriptionRefers u r
  subscription_refers r h = g.users (number_key r.owner) h

  pub part_refers : (r : PartNumber) → PartRefers t r → PartRefers u r
  part_refers r h = (g.messages (number_key r.message) h.0, λ leaf. g.bodies (number_key r.body) (h.1 leaf))

  pub field_refers : (r : HeaderField) → FieldRefers t r → FieldRefers u r
  field_refers r h = (g.messages (number_key r.message) h.0, g.parts (part_key r.message r.path) h.1, g.names (number_key r.name) h.2)

  pub address_refers : (r : AddressField) → AddressRefers t r → AddressRefers u r
  address_refers r h = (g.messages (number_key r.message) h.0, g.fields (field_key r.message r.path r.place) h.1, λ named. g.addresses (number_key r.address) (h.2 named))

  pub date_refers : (r : DateField) → DateRefers t r → DateRefers u r
  date_refers r h = (g.messages (number_key r.message) h.0, g.fields (field_key r.message r.path r.place) h.1)

  pub id_refers : (r : MessageId) → IdRefers t r → IdRefers u r
  id_refers r h = (g.messages (number_key r.message) h.0, g.fields (field_key r.message r.path r.place) h.1)

  pub unparsed_refers : (r : UnparsedMessage) → UnparsedRefers t r → UnparsedRefers u r
  unparsed_refers r h = g.messages (number_key r.message) h

  -- with what is known of the messages of mailboxes
  pub refer_but_marks : (rows : TableRows) → ReferTo t rows → AllByRecursion (MailboxMessageRefers u) rows.marks.mailbox_messages → AllByRecursion (DeletedRefers u) rows.marks.deleted_messages → AllByRecursion (FlagRefers u) rows.marks.flags → ReferTo u rows
  refer_but_marks rows h messages deleted flags = record {
    mailboxes = all_map (MailboxRefers t) (MailboxRefers u) mailbox_refers rows.heads.mailboxes h.mailboxes;
    subscriptions = all_map (SubscriptionRefers t) (SubscriptionRefers u) subscription_refers rows.heads.subscriptions h.subscriptions;
    part_numbers = all_map (PartRefers t) (PartRefers u) part_refers rows.mails.part_numbers h.part_numbers;
    header_fields = all_map (FieldRefers t) (FieldRefers u) field_refers rows.mails.header_fields h.header_fields;
    address_fields = all_map (AddressRefers t) (AddressRefers u) address_refers rows.mails.address_fields h.address_fields;
    date_fields = all_map (DateRefers t) (DateRefers u) date_refers rows.mails.date_fields h.date_fields;
    message_ids = all_map (IdRefers t) (IdRefers u) id_refers rows.mails.message_ids h.message_ids;
    unparsed_messages = all_map (UnparsedRefers t) (UnparsedRefers u) unparsed_refers rows.mails.unparsed_messages h.unparsed_messages;
    mailbox_messages = messages;
    deleted_messages = deleted;
    flags = flags;
  }

  module _ (p : Places t u) where
    pub message_refers : (r : MailboxMessage) → MailboxMessageRefers t r → MailboxMessageRefers u r
    message_refers r h = (p.mailboxes (number_key r.mailbox) h.0, g.messages (number_key r.message) h.1)

    pub deleted_refers : (r : DeletedMessage) → DeletedRefers t r → DeletedRefers u r
    deleted_refers r h = p.mailboxes (number_key r.mailbox) h

    pub flag_refers : (r : FlagRow) → FlagRefers t r → FlagRefers u r
    flag_refers r h = (p.mailboxes (number_key r.mailbox) h.0, p.messages (uid_key r.mailbox r.uid) h.1, g.flag_names (number_key r.flag) h.2)

    pub still_refer : (rows : TableRows) → ReferTo t rows → ReferTo u rows
    still_refer rows h =
        refer_but_marks rows h (all_map (MailboxMessageRefers t) (MailboxMessageRefers u) message_refers rows.marks.mailbox_messages h.mailbox_messages) (all_map (DeletedRefers t) (DeletedRefers u) deleted_refers rows.marks.deleted_messages h.deleted_messages) (all_map (FlagRefers t) (FlagRefers u) flag_refers rows.marks.flags h.flags)
