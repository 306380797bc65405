-- A mailbox that comes with messages, told by what keys find of it and of all others.
use Rattle.std.proofs.Common.{ℕ, ◌≡◌, ◌==◌, Bool, true, false, cond, List, [], ◌∷◌, ◌++◌, Option, Some, None, refl, sym, ap, subst, ◌∙◌}
use Rattle.std.specs.List.{AllByRecursion}
use Rattle.std.specs.Option.{option_map, option_or, option_and_then}
use Rattle.std.proofs.lemmas.Bool.{eqb-true, eq-eqb}
use Rattle.std.proofs.lemmas.List.{map-append}
use Rattle.std.proofs.lemmas.List.Folds.{find-append}
use Rattle.ordered_rows.specs.Listed.{row_at}
use Rattle.row_tables.specs.Keys.{uid_key, mailbox_message_key, deleted_message_key}
use Rattle.row_tables.specs.TableRows.{TableRows}
use Rattle.row_tables.specs.declared.contents.BodyPart.{BodyPart}
use Rattle.shredder.specs.Distinct.{AreDistinct}
use Rattle.mail_world.specs.Names.{is_mailbox_name}
use Rattle.mail_world.specs.Worlds.{World, Mailbox, mailbox_at, entry_at, gone_at, has_id}
use Rattle.mail_world.specs.Users.{next_id, with_mailbox}
use Rattle.mail_stands.specs.Facts.{Tied, IsEntryRow, entry_in, gone_in, gone_row, flags_of, has_flag_named, mails_in}
use Rattle.mail_stands.specs.Flagging.{is_flagged}
use Rattle.mail_stands.proofs.Showing.{Shows}

module _ (ms : List Mailbox) (new : Mailbox) (free : mailbox_at new.head.id ms ≡ None) where
  pub added_here : mailbox_at new.head.id (ms ++ new ∷ []) ≡ Some new
  added_here =
      find-append (has_id new.head.id) ms (new ∷ []) ∙ ap (λ o. option_or o (cond (new.head.id == new.head.id) (Some new) None)) free
      ∙ ap (λ b. cond b (Some new) None) (eq-eqb new.head.id new.head.id refl)

  or_none : {X : Type 0} (o : Option X) → option_or o None ≡ o
  or_none None = refl
  or_none (Some x) = refl

  pub added_elsewhere : (k : ℕ) → (new.head.id == k) ≡ false → mailbox_at k (ms ++ new ∷ []) ≡ mailbox_at k ms
  added_elsewhere k other =
      find-append (has_id k) ms (new ∷ []) ∙ ap (λ b. option_or (mailbox_at k ms) (cond b (Some new) None)) other ∙ or_none (mailbox_at k ms)

-- The tables with the mailbox: its head behind all others, at its id what it has, and all else as it was.
pub record Adds (content : BodyPart → List ℕ) (t after : TableRows) (m : Mailbox) : Type 0 where
  pub users : after.heads.users ≡ t.heads.users
  pub heads : after.heads.mailboxes ≡ t.heads.mailboxes ++ m.head ∷ []
  pub subscriptions : after.heads.subscriptions ≡ t.heads.subscriptions
  pub next : after.heads.counters.next ≡ next_id t.heads.counters.next
  pub mails : mails_in content after ≡ mails_in content t
  pub name : is_mailbox_name m.head.name ≡ true
  pub entries : (uid : ℕ) → Tied (IsEntryRow (mails_in content t)) (row_at mailbox_message_key (uid_key m.head.id uid) after.marks.mailbox_messages) (entry_at uid m.entries)
  pub other_entries : (k uid : ℕ) → (m.head.id == k) ≡ false → row_at mailbox_message_key (uid_key k uid) after.marks.mailbox_messages ≡ row_at mailbox_message_key (uid_key k uid) t.marks.mailbox_messages
  pub gone : (uid : ℕ) → row_at deleted_message_key (uid_key m.head.id uid) after.marks.deleted_messages ≡ option_map (gone_row m.head.id) (gone_at uid m.gone)
  pub other_gone : (k uid : ℕ) → (m.head.id == k) ≡ false → row_at deleted_message_key (uid_key k uid) after.marks.deleted_messages ≡ row_at deleted_message_key (uid_key k uid) t.marks.deleted_messages
  pub flags : (uid : ℕ) (name : List ℕ) → is_flagged m.head.id uid name after.marks.flag_names after.marks.flags ≡ has_flag_named name (flags_of (entry_at uid m.entries))
  pub other_flags : (k uid : ℕ) (name : List ℕ) → (m.head.id == k) ≡ false → is_flagged k uid name after.marks.flag_names after.marks.flags ≡ is_flagged k uid name t.marks.flag_names t.marks.flags

all_then : {X : Type 0} (P : X → Type 0) (rows : List X) (row : X) → AllByRecursion P rows → P row → AllByRecursion P (rows ++ row ∷ [])
all_then P [] row all p = (p, tt)
all_then P (r ∷ rows) row all p = (all.0, all_then P rows row all.1 p)

module _ (content : BodyPart → List ℕ) (t after : TableRows) (world : World) (m : Mailbox) (free : mailbox_at m.head.id world.mailboxes ≡ None) where
  abbrev added : List Mailbox
  added = world.mailboxes ++ m ∷ []

  here_or : (P : ℕ → Type 0) → P m.head.id → ((k : ℕ) → (m.head.id == k) ≡ false → P k) → (k : ℕ) → P k
  here_or P here other k = by (m.head.id == k) refl
    where
      by : (b : Bool) → (m.head.id == k) ≡ b → P k
      by true e = subst P (eqb-true m.head.id k e) here
      by false e = other k e

  pub added_shows : Adds content t after m → Shows content t world → Shows content after (with_mailbox m world)
  added_shows its s = record {
    users = its.users ∙ s.users;
    mailboxes = its.heads ∙ ap (λ hs. hs ++ m.head ∷ []) s.mailboxes ∙ sym (map-append (λ x. x.head) world.mailboxes (m ∷ []));
    names = subst (AllByRecursion (λ row. is_mailbox_name row.name ≡ true)) (sym its.heads) (all_then (λ row. is_mailbox_name row.name ≡ true) t.heads.mailboxes m.head s.names its.name);
    subscriptions = its.subscriptions ∙ s.subscriptions;
    next = its.next ∙ ap next_id s.next;
    entries = λ k uid. subst (λ mails. Tied (IsEntryRow mails) (row_at mailbox_message_key (uid_key k uid) after.marks.mailbox_messages) (entry_in k uid added)) (sym its.mails)
        (here_or (λ j. Tied (IsEntryRow (mails_in content t)) (row_at mailbox_message_key (uid_key j uid) after.marks.mailbox_messages) (entry_in j uid added))
        (subst (λ o. Tied (IsEntryRow (mails_in content t)) (row_at mailbox_message_key (uid_key m.head.id uid) after.marks.mailbox_messages) (option_and_then (λ x. entry_at uid x.entries) o)) (sym (added_here world.mailboxes m free)) (its.entries uid))
        (λ j other. subst (λ o. Tied (IsEntryRow (mails_in content t)) (row_at mailbox_message_key (uid_key j uid) after.marks.mailbox_messages) (option_and_then (λ x. entry_at uid x.entries) o)) (sym (added_elsewhere world.mailboxes m free j other))
        (subst (λ o. Tied (IsEntryRow (mails_in content t)) o (entry_in j uid world.mailboxes)) (sym (its.other_entries j uid other)) (s.entries j uid))) k);
    gone = λ k uid.
        here_or (λ j. row_at deleted_message_key (uid_key j uid) after.marks.deleted_messages ≡ option_map (gone_row j) (gone_in j uid added))
        (its.gone uid ∙ ap (λ o. option_map (gone_row m.head.id) (option_and_then (λ x. gone_at uid x.gone) o)) (sym (added_here world.mailboxes m free)))
        (λ j other. its.other_gone j uid other ∙ (s.gone j uid ∙ ap (λ o. option_map (gone_row j) (option_and_then (λ x. gone_at uid x.gone) o)) (sym (added_elsewhere world.mailboxes m free j other)))) k;
    flags = λ k uid name.
        here_or (λ j. is_flagged j uid name after.marks.flag_names after.marks.flags ≡ has_flag_named name (flags_of (entry_in j uid added)))
        (its.flags uid name ∙ ap (λ o. has_flag_named name (flags_of (option_and_then (λ x. entry_at uid x.entries) o))) (sym (added_here world.mailboxes m free)))
        (λ j other. its.other_flags j uid name other ∙ (s.flags j uid name ∙ ap (λ o. has_flag_named name (flags_of (option_and_then (λ x. entry_at uid x.entries) o))) (sym (added_elsewhere world.mailboxes m free j other)))) k;
    distinct = subst AreDistinct (sym its.mails) s.distinct;
  }
