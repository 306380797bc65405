-- One mailbox that changes, told by what keys find of it and of all others.
use Rattle.std.proofs.Common.{ℕ, ◌≡◌, ◌==◌, Bool, true, false, cond, List, map, Option, Some, None, refl, sym, ap, subst, ◌∙◌}
use Rattle.std.specs.Prelude.{if◌then◌else◌}
use Rattle.std.specs.List.{AllByRecursion}
use Rattle.std.specs.Option.{option_map, option_and_then}
use Rattle.std.proofs.lemmas.Bool.{true≢false, eqb-true, eq-eqb, cond_both}
use Rattle.std.proofs.lemmas.Option.{same_Some}
use Rattle.ordered_rows.specs.Listed.{row_at, with_replaced}
use Rattle.row_tables.specs.Keys.{uid_key, mailbox_key, mailbox_message_key, deleted_message_key}
use Rattle.row_tables.specs.TableRows.{TableRows}
use Rattle.row_tables.specs.declared.contents.BodyPart.{BodyPart}
use Rattle.shredder.specs.Distinct.{AreDistinct}
use Rattle.mail_world.specs.Names.{is_mailbox_name}
use Rattle.mail_world.specs.Worlds.{World, Mailbox, mailbox_at, entry_at, gone_at, has_id}
use Rattle.mail_world.specs.Arrivals.{with_changed}
use Rattle.mail_stands.specs.Facts.{Tied, IsEntryRow, entry_in, gone_in, gone_row, flags_of, has_flag_named, mails_in}
use Rattle.mail_stands.specs.Flagging.{is_flagged}
use Rattle.mail_stands.proofs.Lists.{all-weaker, all-replaced, find-map, number_is}
use Rattle.mail_stands.proofs.Heading.{replaced_heads}
use Rattle.mail_stands.proofs.Showing.{Shows}

-- what is found of a world in which the mailbox of an id changes
module _ (f : Mailbox → Mailbox) (ids : (m : Mailbox) → (f m).head.id ≡ m.head.id) (id : ℕ) (ms : List Mailbox) where
  abbrev step : Mailbox → Mailbox
  step x = if has_id id x then f x else x

  step_id : (x : Mailbox) → (step x).head.id ≡ x.head.id
  step_id x = cond_both (has_id id x) (f x) x (λ y. y.head.id ≡ x.head.id) (λ e. ids x) (λ e. refl)

  looked : (k : ℕ) → mailbox_at k (map step ms) ≡ option_map step (mailbox_at k ms)
  looked k = find-map (has_id k) (has_id k) step (λ x. ap (λ n. n == k) (step_id x)) ms

  pub changed_here : (m : Mailbox) → mailbox_at id ms ≡ Some m → mailbox_at id (map step ms) ≡ Some (f m)
  changed_here m at =
      looked id ∙ ap (option_map step) at
      ∙ ap (λ b. Some (cond b (f m) m)) (eq-eqb m.head.id id (number_is (λ x. x.head.id) id ms m at))

  pub changed_elsewhere : (k : ℕ) → (id == k) ≡ false → mailbox_at k (map step ms) ≡ mailbox_at k ms
  changed_elsewhere k other = looked k ∙ by (mailbox_at k ms) refl
    where
      its : (m : Mailbox) → mailbox_at k ms ≡ Some m → (b : Bool) → (m.head.id == id) ≡ b → cond b (f m) m ≡ m
      its m at false e = refl
      its m at true e = absurd (true≢false (sym (eq-eqb id k (sym (eqb-true m.head.id id e) ∙ number_is (λ x. x.head.id) k ms m at)) ∙ other))

      by : (o : Option Mailbox) → mailbox_at k ms ≡ o → option_map step o ≡ o
      by None e = refl
      by (Some m) e = ap Some (its m e (m.head.id == id) refl)

-- The tables after the change: the head in its place, at the id what the changed mailbox has, and all else as it was.
pub record Changes (content : BodyPart → List ℕ) (t after : TableRows) (id : ℕ) (m : Mailbox) : Type 0 where
  pub users : after.heads.users ≡ t.heads.users
  pub heads : after.heads.mailboxes ≡ with_replaced mailbox_key m.head t.heads.mailboxes
  pub subscriptions : after.heads.subscriptions ≡ t.heads.subscriptions
  pub next : after.heads.counters.next ≡ t.heads.counters.next
  pub mails : mails_in content after ≡ mails_in content t
  pub name : is_mailbox_name m.head.name ≡ true
  pub entries : (uid : ℕ) → Tied (IsEntryRow (mails_in content t)) (row_at mailbox_message_key (uid_key id uid) after.marks.mailbox_messages) (entry_at uid m.entries)
  pub other_entries : (k uid : ℕ) → (id == k) ≡ false → row_at mailbox_message_key (uid_key k uid) after.marks.mailbox_messages ≡ row_at mailbox_message_key (uid_key k uid) t.marks.mailbox_messages
  pub gone : (uid : ℕ) → row_at deleted_message_key (uid_key id uid) after.marks.deleted_messages ≡ option_map (gone_row id) (gone_at uid m.gone)
  pub other_gone : (k uid : ℕ) → (id == k) ≡ false → row_at deleted_message_key (uid_key k uid) after.marks.deleted_messages ≡ row_at deleted_message_key (uid_key k uid) t.marks.deleted_messages
  pub flags : (uid : ℕ) (name : List ℕ) → is_flagged id uid name after.marks.flag_names after.marks.flags ≡ has_flag_named name (flags_of (entry_at uid m.entries))
  pub other_flags : (k uid : ℕ) (name : List ℕ) → (id == k) ≡ false → is_flagged k uid name after.marks.flag_names after.marks.flags ≡ is_flagged k uid name t.marks.flag_names t.marks.flags

-- each mailbox is the one of its id
abbrev pub AreOne : World → Type 0
AreOne world = AllByRecursion (λ m. mailbox_at m.head.id world.mailboxes ≡ Some m) world.mailboxes

module _ (content : BodyPart → List ℕ) (t after : TableRows) (world : World) (id : ℕ) (m : Mailbox) (f : Mailbox → Mailbox) (ids : (x : Mailbox) → (f x).head.id ≡ x.head.id) (one : AreOne world) (at : mailbox_at id world.mailboxes ≡ Some m) where
  its_id : (f m).head.id ≡ id
  its_id = ids m ∙ number_is (λ x. x.head.id) id world.mailboxes m at

  abbrev changed : List Mailbox
  changed = map (step f ids id world.mailboxes) world.mailboxes

  here_or : (P : ℕ → Type 0) → P id → ((k : ℕ) → (id == k) ≡ false → P k) → (k : ℕ) → P k
  here_or P here other k = by (id == k) refl
    where
      by : (b : Bool) → (id == k) ≡ b → P k
      by true e = subst P (eqb-true id k e) here
      by false e = other k e

  pub changed_shows : Changes content t after id (f m) → Shows content t world → Shows content after (with_changed (has_id id) f world)
  changed_shows its s = record {
    users = its.users ∙ s.users;
    mailboxes = its.heads ∙ ap (with_replaced mailbox_key (f m).head) s.mailboxes
        ∙ replaced_heads (f m).head f world.mailboxes
        (all-weaker (λ x. mailbox_at x.head.id world.mailboxes ≡ Some x) (λ x. x.head.id ≡ (f m).head.id → (f x).head ≡ (f m).head)
        (λ x itself here. ap (λ y. (f y).head) (same_Some x m (sym itself ∙ (ap (λ k. mailbox_at k world.mailboxes) (here ∙ its_id) ∙ at)))) world.mailboxes one)
        ∙ ap (λ k. map (λ x. x.head) (map (λ x. if has_id k x then f x else x) world.mailboxes)) its_id;
    names = subst (AllByRecursion (λ row. is_mailbox_name row.name ≡ true)) (sym its.heads) (all-replaced mailbox_key (λ r. is_mailbox_name r.name ≡ true) (f m).head t.heads.mailboxes s.names its.name);
    subscriptions = its.subscriptions ∙ s.subscriptions;
    next = its.next ∙ s.next;
    entries = λ k uid. subst (λ mails. Tied (IsEntryRow mails) (row_at mailbox_message_key (uid_key k uid) after.marks.mailbox_messages) (entry_in k uid changed)) (sym its.mails)
        (here_or (λ j. Tied (IsEntryRow (mails_in content t)) (row_at mailbox_message_key (uid_key j uid) after.marks.mailbox_messages) (entry_in j uid changed))
        (subst (λ o. Tied (IsEntryRow (mails_in content t)) (row_at mailbox_message_key (uid_key id uid) after.marks.mailbox_messages) (option_and_then (λ x. entry_at uid x.entries) o)) (sym (changed_here f ids id world.mailboxes m at)) (its.entries uid))
        (λ j other. subst (λ o. Tied (IsEntryRow (mails_in content t)) (row_at mailbox_message_key (uid_key j uid) after.marks.mailbox_messages) (option_and_then (λ x. entry_at uid x.entries) o)) (sym (changed_elsewhere f ids id world.mailboxes j other))
        (subst (λ o. Tied (IsEntryRow (mails_in content t)) o (entry_in j uid world.mailboxes)) (sym (its.other_entries j uid other)) (s.entries j uid))) k);
    gone = λ k uid.
        here_or (λ j. row_at deleted_message_key (uid_key j uid) after.marks.deleted_messages ≡ option_map (gone_row j) (gone_in j uid changed))
        (its.gone uid ∙ ap (λ o. option_map (gone_row id) (option_and_then (λ x. gone_at uid x.gone) o)) (sym (changed_here f ids id world.mailboxes m at)))
        (λ j other. its.other_gone j uid other ∙ (s.gone j uid ∙ ap (λ o. option_map (gone_row j) (option_and_then (λ x. gone_at uid x.gone) o)) (sym (changed_elsewhere f ids id world.mailboxes j other)))) k;
    flags = λ k uid name.
        here_or (λ j. is_flagged j uid name after.marks.flag_names after.marks.flags ≡ has_flag_named name (flags_of (entry_in j uid changed)))
        (its.flags uid name ∙ ap (λ o. has_flag_named name (flags_of (option_and_then (λ x. entry_at uid x.entries) o))) (sym (changed_here f ids id world.mailboxes m at)))
        (λ j other. its.other_flags j uid name other ∙ (s.flags j uid name ∙ ap (λ o. has_flag_named name (flags_of (option_and_then (λ x. entry_at uid x.entries) o))) (sym (changed_elsewhere f ids id world.mailboxes j other)))) k;
    distinct = subst AreDistinct (sym its.mails) s.distinct;
  }
