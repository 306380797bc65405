-- The order and the references of the tables after a change.
use Rattle.std.proofs.Common.{◌≡◌, ℕ, Bool, true, false, not, ◌&&◌, ◌==◌, [], None, IsSome, refl, sym, ap, ◌∙◌, subst}
use mathlib.Core.Bool.{true≢false}
use borrow.Author.Tests.{eqb-true, eq-eqb}
use Rattle.std.specs.Cmp.{second_so}
use Rattle.std.specs.List.{AllByRecursion, filter}
use Rattle.std.proofs.lemmas.List.Kept.{IsStrictlySortedBy-filter}
use Rattle.ordered_rows.specs.RowKey.{number_key}
use Rattle.ordered_rows.specs.Listed.{row_cmp, has_key, has_number, row_at}
use Rattle.row_tables.specs.Keys.{uid_key, user_key, mailbox_key, message_key, mailbox_message_key, deleted_message_key, flag_name_key, flag_key, body_part_key, part_number_key, field_name_key, header_field_key, address_key, address_field_key, date_field_key, message_id_key, unparsed_message_key, subscription_key}
use Rattle.row_tables.specs.TableRows.{TableRows}
use Rattle.row_tables.specs.References.{AreOrdered, AreClosed, IsUnknown, HasMailbox, HasMailboxMessage, HasMessage, MailboxRefers, SubscriptionRefers, MailboxMessageRefers, DeletedRefers, FlagRefers, PartRefers, FieldRefers, AddressRefers, DateRefers, IdRefers, UnparsedRefers}
use Rattle.row_tables.specs.Fits.{Fits, applied}
use Rattle.row_tables.specs.declared.change.RowChange.{RowChange}
use Rattle.row_tables.specs.declared.change.RowChange.TheVariants.{InsertUser, InsertMailbox, InsertMessageRow, InsertMailboxMessage, InsertDeletedMessage, InsertFlagName, InsertFlagRow, InsertBodyPart, InsertPartNumber, InsertFieldName, InsertHeaderField, InsertAddressRow, InsertAddressField, InsertDateField, InsertMessageId, InsertUnparsedMessage, InsertSubscription, UpdateMailbox, UpdateMailboxMessage, UpdateCounters, RemoveMailboxMessage, RemoveFlagRow, RemoveSubscription, DropMailbox}
use Rattle.row_tables.proofs.Lists.{all_filter, all_with, all_replaced, all_left, all_failing, find_among, none_pass, none_found, not_there}
use Rattle.row_tables.proofs.References.{TheTables, Grows, Places, more_with, more_replaced, mailbox_refers, subscription_refers, message_refers, deleted_refers, flag_refers, part_refers, field_refers, address_refers, date_refers, id_refers, unparsed_refers, refer_but_marks, still_refer}

pub ordered_after : TheTables → (t : TableRows) (change : RowChange) → AreOrdered t → Fits t change → AreOrdered (applied t change)
ordered_after laws t (InsertUser r) o f = record { users = laws.users.order r t.heads.users o.users f.1; mailboxes = o.mailboxes; subscriptions = o.subscriptions; mailbox_messages = o.mailbox_messages; deleted_messages = o.deleted_messages; flag_names = o.flag_names; flags = o.flags; messages = o.messages; part_numbers = o.part_numbers; header_fields = o.header_fields; address_fields = o.address_fields; date_fields = o.date_fields; message_ids = o.message_ids; unparsed_messages = o.unparsed_messages; bodyparts = o.bodyparts; field_names = o.field_names; addresses = o.addresses }
ordered_after laws t (InsertMailbox r) o f = record { users = o.users; mailboxes = laws.mailboxes.order r t.heads.mailboxes o.mailboxes f.1; subscriptions = o.subscriptions; mailbox_messages = o.mailbox_messages; deleted_messages = o.deleted_messages; flag_names = o.flag_names; flags = o.flags; messages = o.messages; part_numbers = o.part_numbers; header_fields = o.header_fields; address_fields = o.address_fields; date_fields = o.date_fields; message_ids = o.message_ids; unparsed_messages = o.unparsed_messages; bodyparts = o.bodyparts; field_names = o.field_names; addresses = o.addresses }
ordered_after laws t (InsertMessageRow r) o f = record { users = o.users; mailboxes = o.mailboxes; subscriptions = o.subscriptions; mailbox_messages = o.mailbox_messages; deleted_messages = o.deleted_messages; flag_names = o.flag_names; flags = o.flags; messages = laws.messages.order r t.mails.messages o.messages f; part_numbers = o.part_numbers; header_fields = o.header_fields; address_fields = o.address_fields; date_fields = o.date_fields; message_ids = o.message_ids; unparsed_messages = o.unparsed_messages; bodyparts = o.bodyparts; field_names = o.field_names; addresses = o.addresses }
ordered_after laws t (InsertMailboxMessage r) o f = record { users = o.users; mailboxes = o.mailboxes; subscriptions = o.subscriptions; mailbox_messages = laws.mailbox_messages.order r t.marks.mailbox_messages o.mailbox_messages f.0; deleted_messages = o.deleted_messages; flag_names = o.flag_names; flags = o.flags; messages = o.messages; part_numbers = o.part_numbers; header_fields = o.header_fields; address_fields = o.address_fields; date_fields = o.date_fields; message_ids = o.message_ids; unparsed_messages = o.unparsed_messages; bodyparts = o.bodyparts; field_names = o.field_names; addresses = o.addresses }
ordered_after laws t (InsertDeletedMessage r) o f = record { users = o.users; mailboxes = o.mailboxes; subscriptions = o.subscriptions; mailbox_messages = o.mailbox_messages; deleted_messages = laws.deleted_messages.order r t.marks.deleted_messages o.deleted_messages f.0; flag_names = o.flag_names; flags = o.flags; messages = o.messages; part_numbers = o.part_numbers; header_fields = o.header_fields; address_fields = o.address_fields; date_fields = o.date_fields; message_ids = o.message_ids; unparsed_messages = o.unparsed_messages; bodyparts = o.bodyparts; field_names = o.field_names; addresses = o.addresses }
ordered_after laws t (InsertFlagName r) o f = record { users = o.users; mailboxes = o.mailboxes; subscriptions = o.subscriptions; mailbox_messages = o.mailbox_messages; deleted_messages = o.deleted_messages; flag_names = laws.flag_names.order r t.marks.flag_names o.flag_names f.1; flags = o.flags; messages = o.messages; part_numbers = o.part_numbers; header_fields = o.header_fields; address_fields = o.address_fields; date_fields = o.date_fields; message_ids = o.message_ids; unparsed_messages = o.unparsed_messages; bodyparts = o.bodyparts; field_names = o.field_names; addresses = o.addresses }
ordered_after laws t (InsertFlagRow r) o f = record { users = o.users; mailboxes = o.mailboxes; subscriptions = o.subscriptions; mailbox_messages = o.mailbox_messages; deleted_messages = o.deleted_messages; flag_names = o.flag_names; flags = laws.flags.order r t.marks.flags o.flags f.0; messages = o.messages; part_numbers = o.part_numbers; header_fields = o.header_fields; address_fields = o.address_fields; date_fields = o.date_fields; message_ids = o.message_ids; unparsed_messages = o.unparsed_messages; bodyparts = o.bodyparts; field_names = o.field_names; addresses = o.addresses }
ordered_after laws t (InsertBodyPart r) o f = record { users = o.users; mailboxes = o.mailboxes; subscriptions = o.subscriptions; mailbox_messages = o.mailbox_messages; deleted_messages = o.deleted_messages; flag_names = o.flag_names; flags = o.flags; messages = o.messages; part_numbers = o.part_numbers; header_fields = o.header_fields; address_fields = o.address_fields; date_fields = o.date_fields; message_ids = o.message_ids; unparsed_messages = o.unparsed_messages; bodyparts = laws.bodyparts.order r t.shared.bodyparts o.bodyparts f.1; field_names = o.field_names; addresses = o.addresses }
ordered_after laws t (InsertPartNumber r) o f = record { users = o.users; mailboxes = o.mailboxes; subscriptions = o.subscriptions; mailbox_messages = o.mailbox_messages; deleted_messages = o.deleted_messages; flag_names = o.flag_names; flags = o.flags; messages = o.messages; part_numbers = laws.part_numbers.order r t.mails.part_numbers o.part_numbers f.1; header_fields = o.header_fields; address_fields = o.address_fields; date_fields = o.date_fields; message_ids = o.message_ids; unparsed_messages = o.unparsed_messages; bodyparts = o.bodyparts; field_names = o.field_names; addresses = o.addresses }
ordered_after laws t (InsertFieldName r) o f = record { users = o.users; mailboxes = o.mailboxes; subscriptions = o.subscriptions; mailbox_messages = o.mailbox_messages; deleted_messages = o.deleted_messages; flag_names = o.flag_names; flags = o.flags; messages = o.messages; part_numbers = o.part_numbers; header_fields = o.header_fields; address_fields = o.address_fields; date_fields = o.date_fields; message_ids = o.message_ids; unparsed_messages = o.unparsed_messages; bodyparts = o.bodyparts; field_names = laws.field_names.order r t.shared.field_names o.field_names f.1; addresses = o.addresses }
ordered_after laws t (InsertHeaderField r) o f = record { users = o.users; mailboxes = o.mailboxes; subscriptions = o.subscriptions; mailbox_messages = o.mailbox_messages; deleted_messages = o.deleted_messages; flag_names = o.flag_names; flags = o.flags; messages = o.messages; part_numbers = o.part_numbers; header_fields = laws.header_fields.order r t.mails.header_fields o.header_fields f.2; address_fields = o.address_fields; date_fields = o.date_fields; message_ids = o.message_ids; unparsed_messages = o.unparsed_messages; bodyparts = o.bodyparts; field_names = o.field_names; addresses = o.addresses }
ordered_after laws t (InsertAddressRow r) o f = record { users = o.users; mailboxes = o.mailboxes; subscriptions = o.subscriptions; mailbox_messages = o.mailbox_messages; deleted_messages = o.deleted_messages; flag_names = o.flag_names; flags = o.flags; messages = o.messages; part_numbers = o.part_numbers; header_fields = o.header_fields; address_fields = o.address_fields; date_fields = o.date_fields; message_ids = o.message_ids; unparsed_messages = o.unparsed_messages; bodyparts = o.bodyparts; field_names = o.field_names; addresses = laws.addresses.order r t.shared.addresses o.addresses f.3 }
ordered_after laws t (InsertAddressField r) o f = record { users = o.users; mailboxes = o.mailboxes; subscriptions = o.subscriptions; mailbox_messages = o.mailbox_messages; deleted_messages = o.deleted_messages; flag_names = o.flag_names; flags = o.flags; messages = o.messages; part_numbers = o.part_numbers; header_fields = o.header_fields; address_fields = laws.address_fields.order r t.mails.address_fields o.address_fields f.1; date_fields = o.date_fields; message_ids = o.message_ids; unparsed_messages = o.unparsed_messages; bodyparts = o.bodyparts; field_names = o.field_names; addresses = o.addresses }
ordered_after laws t (InsertDateField r) o f = record { users = o.users; mailboxes = o.mailboxes; subscriptions = o.subscriptions; mailbox_messages = o.mailbox_messages; deleted_messages = o.deleted_messages; flag_names = o.flag_names; flags = o.flags; messages = o.messages; part_numbers = o.part_numbers; header_fields = o.header_fields; address_fields = o.address_fields; date_fields = laws.date_fields.order r t.mails.date_fields o.date_fields f.2; message_ids = o.message_ids; unparsed_messages = o.unparsed_messages; bodyparts = o.bodyparts; field_names = o.field_names; addresses = o.addresses }
ordered_after laws t (InsertMessageId r) o f = record { users = o.users; mailboxes = o.mailboxes; subscriptions = o.subscriptions; mailbox_messages = o.mailbox_messages; deleted_messages = o.deleted_messages; flag_names = o.flag_names; flags = o.flags; messages = o.messages; part_numbers = o.part_numbers; header_fields = o.header_fields; address_fields = o.address_fields; date_fields = o.date_fields; message_ids = laws.message_ids.order r t.mails.message_ids o.message_ids f.2; unparsed_messages = o.unparsed_messages; bodyparts = o.bodyparts; field_names = o.field_names; addresses = o.addresses }
ordered_after laws t (InsertUnparsedMessage r) o f = record { users = o.users; mailboxes = o.mailboxes; subscriptions = o.subscriptions; mailbox_messages = o.mailbox_messages; deleted_messages = o.deleted_messages; flag_names = o.flag_names; flags = o.flags; messages = o.messages; part_numbers = o.part_numbers; header_fields = o.header_fields; address_fields = o.address_fields; date_fields = o.date_fields; message_ids = o.message_ids; unparsed_messages = laws.unparsed_messages.order r t.mails.unparsed_messages o.unparsed_messages f.0; bodyparts = o.bodyparts; field_names = o.field_names; addresses = o.addresses }
ordered_after laws t (InsertSubscription r) o f = record { users = o.users; mailboxes = o.mailboxes; subscriptions = laws.subscriptions.order r t.heads.subscriptions o.subscriptions f.1; mailbox_messages = o.mailbox_messages; deleted_messages = o.deleted_messages; flag_names = o.flag_names; flags = o.flags; messages = o.messages; part_numbers = o.part_numbers; header_fields = o.header_fields; address_fields = o.address_fields; date_fields = o.date_fields; message_ids = o.message_ids; unparsed_messages = o.unparsed_messages; bodyparts = o.bodyparts; field_names = o.field_names; addresses = o.addresses }
ordered_after laws t (UpdateMailbox r) o f = record { users = o.users; mailboxes = laws.replaced_mailboxes.order r t.heads.mailboxes o.mailboxes; subscriptions = o.subscriptions; mailbox_messages = o.mailbox_messages; deleted_messages = o.deleted_messages; flag_names = o.flag_names; flags = o.flags; messages = o.messages; part_numbers = o.part_numbers; header_fields = o.header_fields; address_fields = o.address_fields; date_fields = o.date_fields; message_ids = o.message_ids; unparsed_messages = o.unparsed_messages; bodyparts = o.bodyparts; field_names = o.field_names; addresses = o.addresses }
ordered_after laws t (UpdateMailboxMessage r) o f = record { users = o.users; mailboxes = o.mailboxes; subscriptions = o.subscriptions; mailbox_messages = laws.replaced_messages.order r t.marks.mailbox_messages o.mailbox_messages; deleted_messages = o.deleted_messages; flag_names = o.flag_names; flags = o.flags; messages = o.messages; part_numbers = o.part_numbers; header_fields = o.header_fields; address_fields = o.address_fields; date_fields = o.date_fields; message_ids = o.message_ids; unparsed_messages = o.unparsed_messages; bodyparts = o.bodyparts; field_names = o.field_names; addresses = o.addresses }
ordered_after laws t (UpdateCounters r) o f = record { users = o.users; mailboxes = o.mailboxes; subscriptions = o.subscriptions; mailbox_messages = o.mailbox_messages; deleted_messages = o.deleted_messages; flag_names = o.flag_names; flags = o.flags; messages = o.messages; part_numbers = o.part_numbers; header_fields = o.header_fields; address_fields = o.address_fields; date_fields = o.date_fields; message_ids = o.message_ids; unparsed_messages = o.unparsed_messages; bodyparts = o.bodyparts; field_names = o.field_names; addresses = o.addresses }
ordered_after laws t (RemoveMailboxMessage k) o f = record { users = o.users; mailboxes = o.mailboxes; subscriptions = o.subscriptions; mailbox_messages = IsStrictlySortedBy-filter (row_cmp mailbox_message_key) _ t.marks.mailbox_messages o.mailbox_messages; deleted_messages = o.deleted_messages; flag_names = o.flag_names; flags = o.flags; messages = o.messages; part_numbers = o.part_numbers; header_fields = o.header_fields; address_fields = o.address_fields; date_fields = o.date_fields; message_ids = o.message_ids; unparsed_messages = o.unparsed_messages; bodyparts = o.bodyparts; field_names = o.field_names; addresses = o.addresses }
ordered_after laws t (RemoveFlagRow k) o f = record { users = o.users; mailboxes = o.mailboxes; subscriptions = o.subscriptions; mailbox_messages = o.mailbox_messages; deleted_messages = o.deleted_messages; flag_names = o.flag_names; flags = IsStrictlySortedBy-filter (row_cmp flag_key) _ t.marks.flags o.flags; messages = o.messages; part_numbers = o.part_numbers; header_fields = o.header_fields; address_fields = o.address_fields; date_fields = o.date_fields; message_ids = o.message_ids; unparsed_messages = o.unparsed_messages; bodyparts = o.bodyparts; field_names = o.field_names; addresses = o.addresses }
ordered_after laws t (RemoveSubscription k) o f = record { users = o.users; mailboxes = o.mailboxes; subscriptions = IsStrictlySortedBy-filter (row_cmp subscription_key) _ t.heads.subscriptions o.subscriptions; mailbox_messages = o.mailbox_messages; deleted_messages = o.deleted_messages; flag_names = o.flag_names; flags = o.flags; messages = o.messages; part_numbers = o.part_numbers; header_fields = o.header_fields; address_fields = o.address_fields; date_fields = o.date_fields; message_ids = o.message_ids; unparsed_messages = o.unparsed_messages; bodyparts = o.bodyparts; field_names = o.field_names; addresses = o.addresses }
ordered_after laws t (DropMailbox mailbox) o f = record { users = o.users; mailboxes = IsStrictlySortedBy-filter (row_cmp mailbox_key) _ t.heads.mailboxes o.mailboxes; subscriptions = o.subscriptions; mailbox_messages = IsStrictlySortedBy-filter (row_cmp mailbox_message_key) _ t.marks.mailbox_messages o.mailbox_messages; deleted_messages = IsStrictlySortedBy-filter (row_cmp deleted_message_key) _ t.marks.deleted_messages o.deleted_messages; flag_names = o.flag_names; flags = IsStrictlySortedBy-filter (row_cmp flag_key) _ t.marks.flags o.flags; messages = o.messages; part_numbers = o.part_numbers; header_fields = o.header_fields; address_fields = o.address_fields; date_fields = o.date_fields; message_ids = o.message_ids; unparsed_messages = o.unparsed_messages; bodyparts = o.bodyparts; field_names = o.field_names; addresses = o.addresses }
ordered_after laws t _ o f = absurd f

-- ---- a message or a mailbox that goes

other_eq : (a b : ℕ) → (a == b) ≡ false → (b == a) ≡ false
other_eq a b e = by (b == a) refl
  where
    by : (c : Bool) → (b == a) ≡ c → c ≡ false
    by true q = absurd (true≢false (sym (eq-eqb a b (sym (eqb-true b a q))) ∙ e))
    by false q = refl

other_pair : (a b x y : ℕ) → ((a == b) && (x == y)) ≡ false → ((b == a) && (y == x)) ≡ false
other_pair a b x y e = by (a == b) (x == y) refl refl e
  where
    by : (c d : Bool) → (a == b) ≡ c → (x == y) ≡ d → (c && d) ≡ false → ((b == a) && (y == x)) ≡ false
    by true true p q h = absurd (true≢false h)
    by true false p q h = and_false (b == a) (other_eq x y q)
      where
        and_false : (c : Bool) {d : Bool} → d ≡ false → (c && d) ≡ false
        and_false true h = h
        and_false false h = refl
    by false d p q h = ap (λ c. c && (y == x)) (other_eq a b p)

module _ (laws : TheTables) (t : TableRows) (c : AreClosed t) where
  module _ (mailbox uid : ℕ) (none : filter (λ r. (r.uid == uid) && (r.mailbox == mailbox)) t.marks.flags ≡ []) where
    abbrev without_message : TableRows
    without_message = applied t (RemoveMailboxMessage (mailbox, uid))

    flags_stay : AllByRecursion (FlagRefers without_message) t.marks.flags
    flags_stay = all_failing (FlagRefers t) (FlagRefers without_message) (λ r. (r.uid == uid) && (r.mailbox == mailbox))
        (λ r h e. (h.0, subst IsSome (sym (laws.removed_messages (uid_key mailbox uid) (uid_key r.mailbox r.uid) t.marks.mailbox_messages (other_pair r.uid uid r.mailbox mailbox e))) h.1, h.2)) t.marks.flags c.flags none

    pub message_gone : AreClosed without_message
    message_gone =
        let g : Grows t without_message = record { users = λ k h. h; flag_names = λ k h. h; messages = λ k h. h; parts = λ k h. h; fields = λ k h. h; bodies = λ k h. h; names = λ k h. h; addresses = λ k h. h } in
        let h = refer_but_marks t without_message g t c c.mailbox_messages c.deleted_messages flags_stay in
        record { mailboxes = h.mailboxes; subscriptions = h.subscriptions; mailbox_messages = all_filter (MailboxMessageRefers without_message) _ t.marks.mailbox_messages h.mailbox_messages; deleted_messages = h.deleted_messages; flags = h.flags; part_numbers = h.part_numbers; header_fields = h.header_fields; address_fields = h.address_fields; date_fields = h.date_fields; message_ids = h.message_ids; unparsed_messages = h.unparsed_messages }

  module _ (mailbox : ℕ) where
    abbrev dropped : TableRows
    dropped = applied t (DropMailbox mailbox)

    other_mailbox : (m : ℕ) → HasMailbox t m → (m == mailbox) ≡ false → HasMailbox dropped m
    other_mailbox m h e = subst IsSome (sym (laws.removed_mailboxes (number_key mailbox) (number_key m) t.heads.mailboxes (other_eq m mailbox e))) h

    other_message : (m uid : ℕ) → HasMailboxMessage t m uid → (m == mailbox) ≡ false → HasMailboxMessage dropped m uid
    other_message m uid h e =
        subst IsSome (sym (find_among (has_key mailbox_message_key (uid_key m uid)) (λ r. not (has_number mailbox_message_key mailbox r))
        (λ r q. ap not (subst (λ n. (n == mailbox) ≡ false) (sym (eqb-true r.mailbox m (second_so (r.uid == uid) (r.mailbox == m) q))) e)) t.marks.mailbox_messages)) h

    pub mailbox_gone : AreClosed dropped
    mailbox_gone = record {
      mailboxes = all_filter (MailboxRefers t) _ t.heads.mailboxes c.mailboxes;
      subscriptions = c.subscriptions;
      mailbox_messages = all_left (MailboxMessageRefers t) (MailboxMessageRefers dropped) (λ r. r.mailbox == mailbox) (λ r h e. (other_mailbox r.mailbox h.0 e, h.1)) t.marks.mailbox_messages c.mailbox_messages;
      deleted_messages = all_left (DeletedRefers t) (DeletedRefers dropped) (λ r. r.mailbox == mailbox) (λ r h e. other_mailbox r.mailbox h e) t.marks.deleted_messages c.deleted_messages;
      flags = all_left (FlagRefers t) (FlagRefers dropped) (λ r. r.mailbox == mailbox) (λ r h e. (other_mailbox r.mailbox h.0 e, other_message r.mailbox r.uid h.1 e, h.2)) t.marks.flags c.flags;
      part_numbers = c.part_numbers;
      header_fields = c.header_fields;
      address_fields = c.address_fields;
      date_fields = c.date_fields;
      message_ids = c.message_ids;
      unparsed_messages = c.unparsed_messages;
    }

-- ---- all changes

pub closed_after : TheTables → (t : TableRows) (change : RowChange) → AreClosed t → Fits t change → AreClosed (applied t change)
closed_after laws t (InsertUser r) c f =
    let u = applied t (InsertUser r) in
    let g : Grows t u = record { users = more_with user_key laws.keys laws.users r t.heads.users; flag_names = λ k h. h; messages = λ k h. h; parts = λ k h. h; fields = λ k h. h; bodies = λ k h. h; names = λ k h. h; addresses = λ k h. h } in
    let p : Places t u = record { mailboxes = λ k h. h; messages = λ k h. h } in
    let h = still_refer t u g p t c in
    record { mailboxes = h.mailboxes; subscriptions = h.subscriptions; mailbox_messages = h.mailbox_messages; deleted_messages = h.deleted_messages; flags = h.flags; part_numbers = h.part_numbers; header_fields = h.header_fields; address_fields = h.address_fields; date_fields = h.date_fields; message_ids = h.message_ids; unparsed_messages = h.unparsed_messages }
closed_after laws t (InsertMailbox r) c f =
    let u = applied t (InsertMailbox r) in
    let g : Grows t u = record { users = λ k h. h; flag_names = λ k h. h; messages = λ k h. h; parts = λ k h. h; fields = λ k h. h; bodies = λ k h. h; names = λ k h. h; addresses = λ k h. h } in
    let p : Places t u = record { mailboxes = more_with mailbox_key laws.keys laws.mailboxes r t.heads.mailboxes; messages = λ k h. h } in
    let h = still_refer t u g p t c in
    record { mailboxes = all_with mailbox_key (MailboxRefers u) r t.heads.mailboxes h.mailboxes (mailbox_refers t u g r f.2); subscriptions = h.subscriptions; mailbox_messages = h.mailbox_messages; deleted_messages = h.deleted_messages; flags = h.flags; part_numbers = h.part_numbers; header_fields = h.header_fields; address_fields = h.address_fields; date_fields = h.date_fields; message_ids = h.message_ids; unparsed_messages = h.unparsed_messages }
closed_after laws t (InsertMessageRow r) c f =
    let u = applied t (InsertMessageRow r) in
    let g : Grows t u = record { users = λ k h. h; flag_names = λ k h. h; messages = more_with message_key laws.keys laws.messages r t.mails.messages; parts = λ k h. h; fields = λ k h. h; bodies = λ k h. h; names = λ k h. h; addresses = λ k h. h } in
    let p : Places t u = record { mailboxes = λ k h. h; messages = λ k h. h } in
    let h = still_refer t u g p t c in
    record { mailboxes = h.mailboxes; subscriptions = h.subscriptions; mailbox_messages = h.mailbox_messages; deleted_messages = h.deleted_messages; flags = h.flags; part_numbers = h.part_numbers; header_fields = h.header_fields; address_fields = h.address_fields; date_fields = h.date_fields; message_ids = h.message_ids; unparsed_messages = h.unparsed_messages }
closed_after laws t (InsertMailboxMessage r) c f =
    let u = applied t (InsertMailboxMessage r) in
    let g : Grows t u = record { users = λ k h. h; flag_names = λ k h. h; messages = λ k h. h; parts = λ k h. h; fields = λ k h. h; bodies = λ k h. h; names = λ k h. h; addresses = λ k h. h } in
    let p : Places t u = record { mailboxes = λ k h. h; messages = more_with mailbox_message_key laws.keys laws.mailbox_messages r t.marks.mailbox_messages } in
    let h = still_refer t u g p t c in
    record { mailboxes = h.mailboxes; subscriptions = h.subscriptions; mailbox_messages = all_with mailbox_message_key (MailboxMessageRefers u) r t.marks.mailbox_messages h.mailbox_messages (message_refers t u g p r f.1); deleted_messages = h.deleted_messages; flags = h.flags; part_numbers = h.part_numbers; header_fields = h.header_fields; address_fields = h.address_fields; date_fields = h.date_fields; message_ids = h.message_ids; unparsed_messages = h.unparsed_messages }
closed_after laws t (InsertDeletedMessage r) c f =
    let u = applied t (InsertDeletedMessage r) in
    let g : Grows t u = record { users = λ k h. h; flag_names = λ k h. h; messages = λ k h. h; parts = λ k h. h; fields = λ k h. h; bodies = λ k h. h; names = λ k h. h; addresses = λ k h. h } in
    let p : Places t u = record { mailboxes = λ k h. h; messages = λ k h. h } in
    let h = still_refer t u g p t c in
    record { mailboxes = h.mailboxes; subscriptions = h.subscriptions; mailbox_messages = h.mailbox_messages; deleted_messages = all_with deleted_message_key (DeletedRefers u) r t.marks.deleted_messages h.deleted_messages (deleted_refers t u g p r f.1); flags = h.flags; part_numbers = h.part_numbers; header_fields = h.header_fields; address_fields = h.address_fields; date_fields = h.date_fields; message_ids = h.message_ids; unparsed_messages = h.unparsed_messages }
closed_after laws t (InsertFlagName r) c f =
    let u = applied t (InsertFlagName r) in
    let g : Grows t u = record { users = λ k h. h; flag_names = more_with flag_name_key laws.keys laws.flag_names r t.marks.flag_names; messages = λ k h. h; parts = λ k h. h; fields = λ k h. h; bodies = λ k h. h; names = λ k h. h; addresses = λ k h. h } in
    let p : Places t u = record { mailboxes = λ k h. h; messages = λ k h. h } in
    let h = still_refer t u g p t c in
    record { mailboxes = h.mailboxes; subscriptions = h.subscriptions; mailbox_messages = h.mailbox_messages; deleted_messages = h.deleted_messages; flags = h.flags; part_numbers = h.part_numbers; header_fields = h.header_fields; address_fields = h.address_fields; date_fields = h.date_fields; message_ids = h.message_ids; unparsed_messages = h.unparsed_messages }
closed_after laws t (InsertFlagRow r) c f =
    let u = applied t (InsertFlagRow r) in
    let g : Grows t u = record { users = λ k h. h; flag_names = λ k h. h; messages = λ k h. h; parts = λ k h. h; fields = λ k h. h; bodies = λ k h. h; names = λ k h. h; addresses = λ k h. h } in
    let p : Places t u = record { mailboxes = λ k h. h; messages = λ k h. h } in
    let h = still_refer t u g p t c in
    record { mailboxes = h.mailboxes; subscriptions = h.subscriptions; mailbox_messages = h.mailbox_messages; deleted_messages = h.deleted_messages; flags = all_with flag_key (FlagRefers u) r t.marks.flags h.flags (flag_refers t u g p r f.1); part_numbers = h.part_numbers; header_fields = h.header_fields; address_fields = h.address_fields; date_fields = h.date_fields; message_ids = h.message_ids; unparsed_messages = h.unparsed_messages }
closed_after laws t (InsertBodyPart r) c f =
    let u = applied t (InsertBodyPart r) in
    let g : Grows t u = record { users = λ k h. h; flag_names = λ k h. h; messages = λ k h. h; parts = λ k h. h; fields = λ k h. h; bodies = more_with body_part_key laws.keys laws.bodyparts r t.shared.bodyparts; names = λ k h. h; addresses = λ k h. h } in
    let p : Places t u = record { mailboxes = λ k h. h; messages = λ k h. h } in
    let h = still_refer t u g p t c in
    record { mailboxes = h.mailboxes; subscriptions = h.subscriptions; mailbox_messages = h.mailbox_messages; deleted_messages = h.deleted_messages; flags = h.flags; part_numbers = h.part_numbers; header_fields = h.header_fields; address_fields = h.address_fields; date_fields = h.date_fields; message_ids = h.message_ids; unparsed_messages = h.unparsed_messages }
closed_after laws t (InsertPartNumber r) c f =
    let u = applied t (InsertPartNumber r) in
    let g : Grows t u = record { users = λ k h. h; flag_names = λ k h. h; messages = λ k h. h; parts = more_with part_number_key laws.keys laws.part_numbers r t.mails.part_numbers; fields = λ k h. h; bodies = λ k h. h; names = λ k h. h; addresses = λ k h. h } in
    let p : Places t u = record { mailboxes = λ k h. h; messages = λ k h. h } in
    let h = still_refer t u g p t c in
    record { mailboxes = h.mailboxes; subscriptions = h.subscriptions; mailbox_messages = h.mailbox_messages; deleted_messages = h.deleted_messages; flags = h.flags; part_numbers = all_with part_number_key (PartRefers u) r t.mails.part_numbers h.part_numbers (part_refers t u g r f.2); header_fields = h.header_fields; address_fields = h.address_fields; date_fields = h.date_fields; message_ids = h.message_ids; unparsed_messages = h.unparsed_messages }
closed_after laws t (InsertFieldName r) c f =
    let u = applied t (InsertFieldName r) in
    let g : Grows t u = record { users = λ k h. h; flag_names = λ k h. h; messages = λ k h. h; parts = λ k h. h; fields = λ k h. h; bodies = λ k h. h; names = more_with field_name_key laws.keys laws.field_names r t.shared.field_names; addresses = λ k h. h } in
    let p : Places t u = record { mailboxes = λ k h. h; messages = λ k h. h } in
    let h = still_refer t u g p t c in
    record { mailboxes = h.mailboxes; subscriptions = h.subscriptions; mailbox_messages = h.mailbox_messages; deleted_messages = h.deleted_messages; flags = h.flags; part_numbers = h.part_numbers; header_fields = h.header_fields; address_fields = h.address_fields; date_fields = h.date_fields; message_ids = h.message_ids; unparsed_messages = h.unparsed_messages }
closed_after laws t (InsertHeaderField r) c f =
    let u = applied t (InsertHeaderField r) in
    let g : Grows t u = record { users = λ k h. h; flag_names = λ k h. h; messages = λ k h. h; parts = λ k h. h; fields = more_with header_field_key laws.keys laws.header_fields r t.mails.header_fields; bodies = λ k h. h; names = λ k h. h; addresses = λ k h. h } in
    let p : Places t u = record { mailboxes = λ k h. h; messages = λ k h. h } in
    let h = still_refer t u g p t c in
    record { mailboxes = h.mailboxes; subscriptions = h.subscriptions; mailbox_messages = h.mailbox_messages; deleted_messages = h.deleted_messages; flags = h.flags; part_numbers = h.part_numbers; header_fields = all_with header_field_key (FieldRefers u) r t.mails.header_fields h.header_fields (field_refers t u g r f.3); address_fields = h.address_fields; date_fields = h.date_fields; message_ids = h.message_ids; unparsed_messages = h.unparsed_messages }
closed_after laws t (InsertAddressRow r) c f =
    let u = applied t (InsertAddressRow r) in
    let g : Grows t u = record { users = λ k h. h; flag_names = λ k h. h; messages = λ k h. h; parts = λ k h. h; fields = λ k h. h; bodies = λ k h. h; names = λ k h. h; addresses = more_with address_key laws.keys laws.addresses r t.shared.addresses } in
    let p : Places t u = record { mailboxes = λ k h. h; messages = λ k h. h } in
    let h = still_refer t u g p t c in
    record { mailboxes = h.mailboxes; subscriptions = h.subscriptions; mailbox_messages = h.mailbox_messages; deleted_messages = h.deleted_messages; flags = h.flags; part_numbers = h.part_numbers; header_fields = h.header_fields; address_fields = h.address_fields; date_fields = h.date_fields; message_ids = h.message_ids; unparsed_messages = h.unparsed_messages }
closed_after laws t (InsertAddressField r) c f =
    let u = applied t (InsertAddressField r) in
    let g : Grows t u = record { users = λ k h. h; flag_names = λ k h. h; messages = λ k h. h; parts = λ k h. h; fields = λ k h. h; bodies = λ k h. h; names = λ k h. h; addresses = λ k h. h } in
    let p : Places t u = record { mailboxes = λ k h. h; messages = λ k h. h } in
    let h = still_refer t u g p t c in
    record { mailboxes = h.mailboxes; subscriptions = h.subscriptions; mailbox_messages = h.mailbox_messages; deleted_messages = h.deleted_messages; flags = h.flags; part_numbers = h.part_numbers; header_fields = h.header_fields; address_fields = all_with address_field_key (AddressRefers u) r t.mails.address_fields h.address_fields (address_refers t u g r f.2); date_fields = h.date_fields; message_ids = h.message_ids; unparsed_messages = h.unparsed_messages }
closed_after laws t (InsertDateField r) c f =
    let u = applied t (InsertDateField r) in
    let g : Grows t u = record { users = λ k h. h; flag_names = λ k h. h; messages = λ k h. h; parts = λ k h. h; fields = λ k h. h; bodies = λ k h. h; names = λ k h. h; addresses = λ k h. h } in
    let p : Places t u = record { mailboxes = λ k h. h; messages = λ k h. h } in
    let h = still_refer t u g p t c in
    record { mailboxes = h.mailboxes; subscriptions = h.subscriptions; mailbox_messages = h.mailbox_messages; deleted_messages = h.deleted_messages; flags = h.flags; part_numbers = h.part_numbers; header_fields = h.header_fields; address_fields = h.address_fields; date_fields = all_with date_field_key (DateRefers u) r t.mails.date_fields h.date_fields (date_refers t u g r f.3); message_ids = h.message_ids; unparsed_messages = h.unparsed_messages }
closed_after laws t (InsertMessageId r) c f =
    let u = applied t (InsertMessageId r) in
    let g : Grows t u = record { users = λ k h. h; flag_names = λ k h. h; messages = λ k h. h; parts = λ k h. h; fields = λ k h. h; bodies = λ k h. h; names = λ k h. h; addresses = λ k h. h } in
    let p : Places t u = record { mailboxes = λ k h. h; messages = λ k h. h } in
    let h = still_refer t u g p t c in
    record { mailboxes = h.mailboxes; subscriptions = h.subscriptions; mailbox_messages = h.mailbox_messages; deleted_messages = h.deleted_messages; flags = h.flags; part_numbers = h.part_numbers; header_fields = h.header_fields; address_fields = h.address_fields; date_fields = h.date_fields; message_ids = all_with message_id_key (IdRefers u) r t.mails.message_ids h.message_ids (id_refers t u g r f.3); unparsed_messages = h.unparsed_messages }
closed_after laws t (InsertUnparsedMessage r) c f =
    let u = applied t (InsertUnparsedMessage r) in
    let g : Grows t u = record { users = λ k h. h; flag_names = λ k h. h; messages = λ k h. h; parts = λ k h. h; fields = λ k h. h; bodies = λ k h. h; names = λ k h. h; addresses = λ k h. h } in
    let p : Places t u = record { mailboxes = λ k h. h; messages = λ k h. h } in
    let h = still_refer t u g p t c in
    record { mailboxes = h.mailboxes; subscriptions = h.subscriptions; mailbox_messages = h.mailbox_messages; deleted_messages = h.deleted_messages; flags = h.flags; part_numbers = h.part_numbers; header_fields = h.header_fields; address_fields = h.address_fields; date_fields = h.date_fields; message_ids = h.message_ids; unparsed_messages = all_with unparsed_message_key (UnparsedRefers u) r t.mails.unparsed_messages h.unparsed_messages (unparsed_refers t u g r f.1) }
closed_after laws t (InsertSubscription r) c f =
    let u = applied t (InsertSubscription r) in
    let g : Grows t u = record { users = λ k h. h; flag_names = λ k h. h; messages = λ k h. h; parts = λ k h. h; fields = λ k h. h; bodies = λ k h. h; names = λ k h. h; addresses = λ k h. h } in
    let p : Places t u = record { mailboxes = λ k h. h; messages = λ k h. h } in
    let h = still_refer t u g p t c in
    record { mailboxes = h.mailboxes; subscriptions = all_with subscription_key (SubscriptionRefers u) r t.heads.subscriptions h.subscriptions (subscription_refers t u g r f.2); mailbox_messages = h.mailbox_messages; deleted_messages = h.deleted_messages; flags = h.flags; part_numbers = h.part_numbers; header_fields = h.header_fields; address_fields = h.address_fields; date_fields = h.date_fields; message_ids = h.message_ids; unparsed_messages = h.unparsed_messages }
closed_after laws t (UpdateMailbox r) c f =
    let u = applied t (UpdateMailbox r) in
    let g : Grows t u = record { users = λ k h. h; flag_names = λ k h. h; messages = λ k h. h; parts = λ k h. h; fields = λ k h. h; bodies = λ k h. h; names = λ k h. h; addresses = λ k h. h } in
    let p : Places t u = record { mailboxes = more_replaced mailbox_key laws.keys laws.replaced_mailboxes r t.heads.mailboxes; messages = λ k h. h } in
    let h = still_refer t u g p t c in
    record { mailboxes = all_replaced mailbox_key (MailboxRefers u) r t.heads.mailboxes h.mailboxes (mailbox_refers t u g r f.2); subscriptions = h.subscriptions; mailbox_messages = h.mailbox_messages; deleted_messages = h.deleted_messages; flags = h.flags; part_numbers = h.part_numbers; header_fields = h.header_fields; address_fields = h.address_fields; date_fields = h.date_fields; message_ids = h.message_ids; unparsed_messages = h.unparsed_messages }
closed_after laws t (UpdateMailboxMessage r) c f =
    let u = applied t (UpdateMailboxMessage r) in
    let g : Grows t u = record { users = λ k h. h; flag_names = λ k h. h; messages = λ k h. h; parts = λ k h. h; fields = λ k h. h; bodies = λ k h. h; names = λ k h. h; addresses = λ k h. h } in
    let p : Places t u = record { mailboxes = λ k h. h; messages = more_replaced mailbox_message_key laws.keys laws.replaced_messages r t.marks.mailbox_messages } in
    let h = still_refer t u g p t c in
    record { mailboxes = h.mailboxes; subscriptions = h.subscriptions; mailbox_messages = all_replaced mailbox_message_key (MailboxMessageRefers u) r t.marks.mailbox_messages h.mailbox_messages (message_refers t u g p r f.1); deleted_messages = h.deleted_messages; flags = h.flags; part_numbers = h.part_numbers; header_fields = h.header_fields; address_fields = h.address_fields; date_fields = h.date_fields; message_ids = h.message_ids; unparsed_messages = h.unparsed_messages }
closed_after laws t (UpdateCounters r) c f = record { mailboxes = c.mailboxes; subscriptions = c.subscriptions; mailbox_messages = c.mailbox_messages; deleted_messages = c.deleted_messages; flags = c.flags; part_numbers = c.part_numbers; header_fields = c.header_fields; address_fields = c.address_fields; date_fields = c.date_fields; message_ids = c.message_ids; unparsed_messages = c.unparsed_messages }
closed_after laws t (RemoveMailboxMessage k) c f = message_gone laws t c k.0 k.1 f.1
closed_after laws t (RemoveFlagRow k) c f = record { mailboxes = c.mailboxes; subscriptions = c.subscriptions; mailbox_messages = c.mailbox_messages; deleted_messages = c.deleted_messages; flags = all_filter (FlagRefers t) _ t.marks.flags c.flags; part_numbers = c.part_numbers; header_fields = c.header_fields; address_fields = c.address_fields; date_fields = c.date_fields; message_ids = c.message_ids; unparsed_messages = c.unparsed_messages }
closed_after laws t (RemoveSubscription k) c f = record { mailboxes = c.mailboxes; subscriptions = all_filter (SubscriptionRefers t) _ t.heads.subscriptions c.subscriptions; mailbox_messages = c.mailbox_messages; deleted_messages = c.deleted_messages; flags = c.flags; part_numbers = c.part_numbers; header_fields = c.header_fields; address_fields = c.address_fields; date_fields = c.date_fields; message_ids = c.message_ids; unparsed_messages = c.unparsed_messages }
closed_after laws t (DropMailbox mailbox) c f = mailbox_gone laws t c mailbox
closed_after laws t _ c f = absurd f

-- ---- a message that isn't there

pub unknown : (t : TableRows) (message : ℕ) → AreClosed t → row_at message_key (number_key message) t.mails.messages ≡ None → IsUnknown message t
unknown t message c none = record {
  parts = none_pass (PartRefers t) (λ r. r.message == message) (λ r h e. other r.message h.0 e) t.mails.part_numbers c.part_numbers;
  fields = none_pass (FieldRefers t) (λ r. r.message == message) (λ r h e. other r.message h.0 e) t.mails.header_fields c.header_fields;
  addresses = none_pass (AddressRefers t) (λ r. r.message == message) (λ r h e. other r.message h.0 e) t.mails.address_fields c.address_fields;
  dates = none_pass (DateRefers t) (λ r. r.message == message) (λ r h e. other r.message h.0 e) t.mails.date_fields c.date_fields;
  ids = none_pass (IdRefers t) (λ r. r.message == message) (λ r h e. other r.message h.0 e) t.mails.message_ids c.message_ids;
  unparsed = none_found (UnparsedRefers t) (λ r. r.message == message) (λ r h e. other r.message h e) t.mails.unparsed_messages c.unparsed_messages;
}
  where
    other : (m : ℕ) → HasMessage t m → (m == message) ≡ true → ⊥
    other m h e = not_there _ h (subst (λ n. row_at message_key (number_key n) t.mails.messages ≡ None) (sym (eqb-true m message e)) none)
