-- What keys find of a world whose list of mailboxes has changed where nothing of messages has.
use Rattle.std.proofs.Common.{ℕ, ◌≡◌, ◌==◌, Bool, true, false, cond, List, [], ◌∷◌, ◌++◌, map, Option, Some, None, refl, sym, ap, subst, ◌∙◌}
use Rattle.std.specs.Option.{option_map, option_or, option_and_then}
use Rattle.std.proofs.lemmas.List.Folds.{find-append}
use Rattle.ordered_rows.specs.RowKey.{number_key}
use Rattle.ordered_rows.specs.Listed.{row_at, has_key}
use Rattle.row_tables.specs.Keys.{user_key, mailbox_key, uid_key, mailbox_message_key}
use Rattle.row_tables.specs.Names as names
use Rattle.row_tables.specs.declared.heads.User.{User}
use Rattle.row_tables.specs.declared.heads.Mailbox.{Mailbox as Head}
use Rattle.row_tables.specs.declared.marks.MailboxMessage.{MailboxMessage}
use Rattle.row_tables.specs.declared.marks.DeletedMessage.{DeletedMessage}
use Rattle.row_tables.specs.declared.marks.FlagName.{FlagName}
use Rattle.row_tables.specs.declared.marks.FlagRow.{FlagRow}
use Rattle.row_store.specs.Holding.{Stored}
use Rattle.mail_world.specs.Worlds.{Mailbox, user_at, mailbox_at, mailbox_named, has_id, is_named, entry_at, gone_at}
use Rattle.mail_stands.specs.Facts.{Tied, IsEntryRow, AreEntries, AreGone, entry_in, gone_in, gone_row, flags_of, has_flag_named}
use Rattle.mail_stands.specs.Flagging.{AreFlagged}
use Rattle.mail_stands.proofs.Lists.{find-map}

-- ---- rows of heads

pub user_row : (id : ℕ) (users : List User) → row_at user_key (number_key id) users ≡ user_at id users
user_row id users = refl

pub head_row : (id : ℕ) (ms : List Mailbox) → row_at mailbox_key (number_key id) (map (λ m. m.head) ms) ≡ option_map (λ m. m.head) (mailbox_at id ms)
head_row id ms = find-map (has_key mailbox_key (number_key id)) (has_id id) (λ m. m.head) (λ m. refl) ms

pub head_named : (owner : ℕ) (name : List ℕ) (ms : List Mailbox) → names.mailbox_named owner name (map (λ m. m.head) ms) ≡ option_map (λ m. m.head) (mailbox_named owner name ms)
head_named owner name ms = find-map (names.has_mailbox_name owner name) (is_named owner name) (λ m. m.head) (λ m. refl) ms

-- ---- frames

-- Each mailbox and UID find the same in both lists.
pub record FindsSame (ms ns : List Mailbox) : Type 0 where
  pub entries : (id uid : ℕ) → entry_in id uid ns ≡ entry_in id uid ms
  pub gone : (id uid : ℕ) → gone_in id uid ns ≡ gone_in id uid ms

pub entries_stay : (mails : Stored) (rows : List MailboxMessage) (ms ns : List Mailbox) → FindsSame ms ns → AreEntries mails rows ms → AreEntries mails rows ns
entries_stay mails rows ms ns same are id uid = subst (λ e. Tied (IsEntryRow mails) (row_at mailbox_message_key (uid_key id uid) rows) e) (sym (same.entries id uid)) (are id uid)

pub gone_stays : (rows : List DeletedMessage) (ms ns : List Mailbox) → FindsSame ms ns → AreGone rows ms → AreGone rows ns
gone_stays rows ms ns same are id uid = are id uid ∙ ap (option_map (gone_row id)) (sym (same.gone id uid))

pub flags_stay : (names : List FlagName) (rows : List FlagRow) (ms ns : List Mailbox) → FindsSame ms ns → AreFlagged names rows ms → AreFlagged names rows ns
flags_stay names rows ms ns same are id uid name = are id uid name ∙ ap (λ e. has_flag_named name (flags_of e)) (sym (same.entries id uid))

-- a mailbox more, in which a look-up finds nothing
with_new : {Z : Type 0} (f : Mailbox → Option Z) (id : ℕ) (ms : List Mailbox) (new : Mailbox) → f new ≡ None → option_and_then f (mailbox_at id (ms ++ new ∷ [])) ≡ option_and_then f (mailbox_at id ms)
with_new f id ms new none = ap (option_and_then f) (find-append (has_id id) ms (new ∷ [])) ∙ by (mailbox_at id ms) (has_id id new)
  where
    by : (o : Option Mailbox) (b : Bool) → option_and_then f (option_or o (cond b (Some new) None)) ≡ option_and_then f o
    by None true = none
    by None false = refl
    by (Some m) b = refl

abbrev pub bare : Head → Mailbox
bare head = record { head = head; entries = []; gone = [] }

pub new-same : (ms : List Mailbox) (head : Head) → FindsSame ms (ms ++ bare head ∷ [])
new-same ms head = record {
  entries = λ id uid. with_new (λ m. entry_at uid m.entries) id ms (bare head) refl;
  gone = λ id uid. with_new (λ m. gone_at uid m.gone) id ms (bare head) refl;
}

-- mailboxes whose heads change, but for their ids
with_mapped : {Z : Type 0} (f : Mailbox → Option Z) (g : Mailbox → Mailbox) → ((m : Mailbox) → (g m).head.id ≡ m.head.id) → ((m : Mailbox) → f (g m) ≡ f m) → (id : ℕ) (ms : List Mailbox)
    → option_and_then f (mailbox_at id (map g ms)) ≡ option_and_then f (mailbox_at id ms)
with_mapped f g ids same id ms = ap (option_and_then f) (find-map (has_id id) (has_id id) g (λ m. ap (λ n. n == id) (ids m)) ms) ∙ by (mailbox_at id ms)
  where
    by : (o : Option Mailbox) → option_and_then f (option_map g o) ≡ option_and_then f o
    by None = refl
    by (Some m) = same m

pub heads-same : (g : Mailbox → Mailbox) → ((m : Mailbox) → (g m).head.id ≡ m.head.id) → ((m : Mailbox) → (g m).entries ≡ m.entries) → ((m : Mailbox) → (g m).gone ≡ m.gone) → (ms : List Mailbox) → FindsSame ms (map g ms)
heads-same g ids entries gone ms = record {
  entries = λ id uid. with_mapped (λ m. entry_at uid m.entries) g ids (λ m. ap (entry_at uid) (entries m)) id ms;
  gone = λ id uid. with_mapped (λ m. gone_at uid m.gone) g ids (λ m. ap (gone_at uid) (gone m)) id ms;
}
