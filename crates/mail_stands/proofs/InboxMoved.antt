-- Tables in which the messages of INBOX have moved stand for the world in which they have.
use Rattle.std.proofs.Common.{ℕ, ◌≡◌, ◌+◌, ◌<◌, ◌≤◌, ◌==◌, Bool, true, false, cond, not, List, [], ◌∷◌, map, length, Option, Some, None, refl, sym, ap, subst, ◌∙◌}
use Rattle.std.specs.Prelude.{◌&&◌, ◌||◌, nat_le, count_by, is_some}
use Rattle.std.specs.List.{AllByRecursion, find, list_any}
use Rattle.std.specs.Option.{option_map, option_or, option_and_then}
use Rattle.std.proofs.lemmas.Bool.{eqb-true, and_from, cond-true, not-false, or_parts}
use Rattle.std.proofs.lemmas.Option.{none-some, same_Some}
use Rattle.std.proofs.lemmas.List.{length-map}
use Rattle.std.proofs.lemmas.List.Folds.{find-append}
use Rattle.ordered_rows.specs.RowKey.{RowKey, number_key, same_key}
use Rattle.ordered_rows.specs.Listed.{row_at, has_key, with_replaced}
use Rattle.row_tables.specs.Keys.{uid_key, uid_flag_key, mailbox_key, mailbox_message_key, deleted_message_key, flag_key}
use Rattle.row_tables.specs.Indexes.{flag_name_id}
use Rattle.row_tables.specs.Names as names
use Rattle.row_tables.specs.References.{flags_of as flag_rows_of, uids_of}
use Rattle.row_tables.specs.TableRows.{TableRows}
use Rattle.row_tables.specs.declared.contents.BodyPart.{BodyPart}
use Rattle.row_tables.specs.declared.heads.Mailbox.{Mailbox as Head}
use Rattle.row_tables.specs.declared.marks.MailboxMessage.{MailboxMessage}
use Rattle.row_tables.specs.declared.marks.FlagRow.{FlagRow}
use Rattle.mail_world.specs.Names.{inbox, is_inbox, is_mailbox_name, mailbox_name}
use Rattle.mail_world.specs.Limits.{most_mailboxes, most_messages, last_modseq}
use Rattle.mail_world.specs.Changes.{Refusal, BadName, Absent, Exists, Full, Rename, first_refusal}
use Rattle.mail_world.specs.Worlds.{World, Mailbox, Entry, mailbox_at, mailbox_named, entry_at, gone_at, has_id, is_named, is_owned_by}
use Rattle.mail_world.specs.Arrivals.{numbered, with_changed}
use Rattle.mail_world.specs.Users.{next_id, with_mailbox}
use Rattle.mail_world.specs.Renaming.{inbox_renamed, keeps_its_messages, moved_inbox, rename_inbox_refused as world_refuses, rename_refused, renamed, with_inbox_moved}
use Rattle.mail_world.specs.Applying.{apply, refused}
use Rattle.mail_world.specs.Legal.{IsLegal}
use Rattle.mail_stands.specs.Facts.{Tied, IsEntryRow, flags_of, gone_row, has_flag_named, mails_in}
use Rattle.mail_stands.specs.Flagging.{is_flagged}
use Rattle.mail_stands.specs.Leading.{Leads}
use Rattle.mail_stands.specs.MovingInbox.{CanMove, gone_rows, keeps_messages, messages_of, moved_rows, rename_inbox_changes, rename_inbox_refused, taking_mailbox}
use Rattle.mail_stands.specs.Refusals.{mailboxes_of}
use Rattle.mail_stands.specs.Sameness.{InTurn}
use Rattle.mail_stands.specs.Stands.{AreWhole, Stands}
use Rattle.mail_stands.proofs.Adding.{Adds, added_elsewhere, added_here, added_shows}
use Rattle.mail_stands.proofs.Batches.{AreApart, at_with_rows, at_without_rows}
use Rattle.mail_stands.proofs.Changing.{AreOne, Changes, changed_shows}
use Rattle.mail_stands.proofs.Counting.{Places, row_of, uids_are, uids_ascend}
use Rattle.mail_stands.proofs.Deleting.{name_is_id}
use Rattle.mail_stands.proofs.Frames.{head_named, head_row}
use Rattle.mail_stands.proofs.Heading.{each_at, unmapped}
use Rattle.mail_stands.proofs.Lists.{all-append, all-filter, all-weaker, all_both, all_found, find_passes, none_there, number_is}
use Rattle.mail_stands.proofs.Making.{Numbers, StaysLegal, behind_heads, heads_below, mailbox_text, next_new}
use Rattle.mail_stands.proofs.MovedInbox.{SameUid, same_length, changed_before, flags_elsewhere, gone_elsewhere, gone_rows_told, holding, in_turn_weaker, left, left_entries, left_gone, left_heads, left_id, left_name, mapped_or, none_flagged, replaced_self, same_flagged, taken_is, uid_among, uids_elsewhere}
use Rattle.mail_stands.proofs.MovedRows.{moved_flagged, moved_tied, none_elsewhere, none_moved}
use Rattle.mail_stands.proofs.MovingFits.{none_of}
use Rattle.mail_stands.proofs.MovingRuns.{AtKeys, MoveLaws, apart_from, emptied_tables, entries_apart, entry_there, filled, flag_there, moved_tables, moving_runs, no_flags, no_messages, passing_is, same_mailbox, unflagged_at}
use Rattle.mail_stands.proofs.OneWorld.{pairs}
use Rattle.mail_stands.proofs.Refusing.{named_there, not_refused, owned_count}
use Rattle.mail_stands.proofs.Showing.{Shows, shown, standing}
use Rattle.mail_stands.proofs.Stored.{found_any, tied_some}

or_none : {X : Type 0} (o : Option X) → option_or o None ≡ o
or_none None = refl
or_none (Some x) = refl

none_either : {X : Type 0} (b : Bool) (o : Option X) → o ≡ None → cond b None o ≡ None
none_either true o e = refl
none_either false o e = e

gone_apart : (modseq : ℕ) (rows : List MailboxMessage) → AreApart mailbox_message_key rows → AreApart deleted_message_key (gone_rows modseq rows)
gone_apart modseq [] apart = tt
gone_apart modseq (r ∷ rows) apart = (each rows apart.0, gone_apart modseq rows apart.1)
  where
    each : (others : List MailboxMessage) → AllByRecursion (λ x. same_key (mailbox_message_key r) (mailbox_message_key x) ≡ false) others
        → AllByRecursion (λ x. same_key (uid_key r.mailbox r.uid) (deleted_message_key x) ≡ false) (gone_rows modseq others)
    each [] all = tt
    each (x ∷ others) all = (all.0, each others all.1)

-- The row of a message, its UID and its flags are those of the entry.
record IsTold (content : BodyPart → List ℕ) (t : TableRows) (r : MailboxMessage) (e : Entry) : Type 0 where
  uid : r.uid ≡ e.uid
  row : IsEntryRow (mails_in content t) r e
  flags : (name : List ℕ) → is_flagged r.mailbox r.uid name t.marks.flag_names t.marks.flags ≡ has_flag_named name e.message.flags

module _ (laws : MoveLaws) (at_keys : AtKeys) (numbers : Numbers) (content : BodyPart → List ℕ) (t : TableRows) (world : World) (owner : ℕ) (m : Mailbox)
    (whole : AreWhole t) (s : Stands content t world) (its : mailbox_named owner inbox world.mailboxes ≡ Some m) where
  abbrev id : ℕ
  id = m.head.id

  abbrev next : ℕ
  next = t.heads.counters.next

  abbrev rows : List MailboxMessage
  rows = messages_of id t.marks.mailbox_messages

  at : mailbox_at id world.mailboxes ≡ Some m
  at = all_found (λ x. mailbox_at x.head.id world.mailboxes ≡ Some x) (is_named owner inbox) world.mailboxes m (each_at world s.legal) its

  found : row_at mailbox_key (number_key id) t.heads.mailboxes ≡ Some m.head
  found = ap (row_at mailbox_key (number_key id)) s.mailboxes ∙ head_row id world.mailboxes ∙ ap (option_map (λ x. x.head)) at

  proper_inbox : is_mailbox_name m.head.name ≡ true
  proper_inbox = all_found (λ r. is_mailbox_name r.name ≡ true) (has_key mailbox_key (number_key id)) t.heads.mailboxes m.head s.names found

  -- ---- the rows of the messages, in turn

  abbrev Told : MailboxMessage → Entry → Type 0
  Told = IsTold content t

  each_told : (u : ℕ) → Tied Told (find (λ r. r.uid == u) rows) (entry_at u m.entries)
  each_told u =
      by (find (λ r. r.uid == u) rows) (entry_at u m.entries) refl refl
      (subst (λ o. Tied (IsEntryRow (mails_in content t)) o (entry_at u m.entries)) (sym (row_of id u t.marks.mailbox_messages))
      (subst (λ o. Tied (IsEntryRow (mails_in content t)) (row_at mailbox_message_key (uid_key id u) t.marks.mailbox_messages) (option_and_then (λ x. entry_at u x.entries) o)) at (s.entries id u)))
    where
      flags_told : (r : MailboxMessage) (e : Entry) → r.mailbox ≡ id → r.uid ≡ u → entry_at u m.entries ≡ Some e → (name : List ℕ)
          → is_flagged r.mailbox r.uid name t.marks.flag_names t.marks.flags ≡ has_flag_named name e.message.flags
      flags_told r e box same f name =
          ap (λ k. is_flagged k r.uid name t.marks.flag_names t.marks.flags) box ∙ ap (λ v. is_flagged id v name t.marks.flag_names t.marks.flags) same
          ∙ s.flags id u name ∙ ap (λ o. has_flag_named name (flags_of (option_and_then (λ x. entry_at u x.entries) o))) at ∙ ap (λ o. has_flag_named name (flags_of o)) f

      by : (o : Option MailboxMessage) (p : Option Entry) → find (λ r. r.uid == u) rows ≡ o → entry_at u m.entries ≡ p → Tied (IsEntryRow (mails_in content t)) o p → Tied Told o p
      by None None e f tied = record { tie = tt }
      by None (Some y) e f tied = absurd tied.tie
      by (Some x) None e f tied = absurd tied.tie
      by (Some x) (Some y) e f tied =
          let here = number_is (λ (r : MailboxMessage). r.uid) u rows x e in
          let box = all_found (λ (r : MailboxMessage). r.mailbox ≡ id) (λ r. r.uid == u) rows x (passing_is (λ (r : MailboxMessage). r.mailbox) id t.marks.mailbox_messages) e in
          record { tie = record { uid = here ∙ sym (number_is (λ (n : Entry). n.uid) u m.entries y f); row = tied.tie; flags = flags_told x y box here f } }

  told : InTurn Told rows m.entries
  told = pairs (λ r. r.uid) (λ e. e.uid) Told rows m.entries (uids_ascend id laws.places t.marks.mailbox_messages whole.ordered.mailbox_messages) (s.legal.mailboxes id m at).itself.uids each_told

  uids_told : InTurn SameUid rows m.entries
  uids_told = in_turn_weaker Told SameUid (λ r e its. its.uid) rows m.entries told

  -- ---- what the changes ask is so

  none_gone : (r : MailboxMessage) → row_at mailbox_message_key (mailbox_message_key r) t.marks.mailbox_messages ≡ Some r → r.mailbox ≡ id → row_at deleted_message_key (uid_key r.mailbox r.uid) t.marks.deleted_messages ≡ None
  none_gone r there box =
      ap (λ k. row_at deleted_message_key (uid_key k r.uid) t.marks.deleted_messages) box ∙ s.gone id r.uid
      ∙ ap (λ o. option_map (gone_row id) (option_and_then (λ x. gone_at r.uid x.gone) o)) at
      ∙ ap (option_map (gone_row id)) ((s.legal.mailboxes id m at).itself.apart r.uid there_too)
    where
      there_too : is_some (entry_at r.uid m.entries) ≡ true
      there_too =
          sym (ap (λ o. is_some (option_and_then (λ x. entry_at r.uid x.entries) o)) at) ∙ sym (tied_some (IsEntryRow (mails_in content t)) _ _ (s.entries id r.uid))
          ∙ ap (λ k. is_some (row_at mailbox_message_key (uid_key k r.uid) t.marks.mailbox_messages)) (sym box) ∙ ap is_some there

  module _ (room : (world.next == 0) ≡ false) (to : List ℕ) (proper : is_mailbox_name to ≡ true) where
    below : AllByRecursion (λ r. r.id < world.next) (map (λ x. x.head) world.mailboxes)
    below = heads_below world s.legal room

    pub can_move : CanMove t to m.head
    can_move = record {
      free = next_new content t world (shown content t world s) below;
      text = mailbox_text to proper;
      inbox_text = mailbox_text m.head.name proper_inbox;
      there = found;
      gone = all_both (λ r. row_at mailbox_message_key (mailbox_message_key r) t.marks.mailbox_messages ≡ Some r) (λ r. r.mailbox ≡ id) (λ r. row_at deleted_message_key (uid_key r.mailbox r.uid) t.marks.deleted_messages ≡ None) none_gone rows
          (all-filter (λ r. row_at mailbox_message_key (mailbox_message_key r) t.marks.mailbox_messages ≡ Some r) (λ r. r.mailbox == id) t.marks.mailbox_messages (at_keys.entries t.marks.mailbox_messages whole.ordered.mailbox_messages))
          (passing_is (λ (r : MailboxMessage). r.mailbox) id t.marks.mailbox_messages);
      few = subst (λ n. n ≤ most_messages) (sym (length-map m.entries (λ e. e.message)) ∙ same_length 0 [] m.head m.gone rows m.entries uids_told) (s.legal.mailboxes id m at).itself.few;
    }

    abbrev full : TableRows
    full = filled laws at_keys t to m.head whole can_move

    abbrev moved : TableRows
    moved = moved_tables laws at_keys t to m.head whole can_move

    abbrev end : TableRows
    end = emptied_tables moved m.head rows

    abbrev taken : Mailbox
    taken = holding (taking_mailbox next to m.head rows) (numbered 1 2 (map (λ e. e.message) m.entries)) []

    other_id : (next == id) ≡ false
    other_id = apart_from laws at_keys t to m.head whole can_move

    no_gone : (u : ℕ) → row_at deleted_message_key (uid_key next u) t.marks.deleted_messages ≡ None
    no_gone u = none_of deleted_message_key laws.same t next can_move.free t.marks.deleted_messages whole.closed.deleted_messages (uid_key next u) refl

    -- ---- the new mailbox

    adds : Adds content t full taken
    adds = record {
      users = refl;
      heads = behind_heads numbers laws.boxes (taking_mailbox next to m.head rows) t.heads.mailboxes
          (subst (AllByRecursion (λ r. r.id < next)) (sym s.mailboxes) (subst (λ n. AllByRecursion (λ r. r.id < n) (map (λ x. x.head) world.mailboxes)) (sym s.next) below));
      subscriptions = refl;
      next = refl;
      mails = refl;
      name = proper;
      entries = λ u. subst (λ o. Tied (IsEntryRow (mails_in content t)) o (entry_at u (numbered 1 2 (map (λ e. e.message) m.entries))))
          (sym (entry_there laws at_keys t to m.head whole can_move (uid_key next u) ∙ ap (option_or (row_at mailbox_message_key (uid_key next u) (moved_rows next 1 2 rows))) (no_messages laws at_keys t to m.head whole can_move u) ∙ or_none _))
          (moved_tied (mails_in content t) next 1 rows m.entries (in_turn_weaker Told (IsEntryRow (mails_in content t)) (λ r e its. its.row) rows m.entries told) u);
      other_entries = λ k u other. entry_there laws at_keys t to m.head whole can_move (uid_key k u) ∙ ap (λ o. option_or o (row_at mailbox_message_key (uid_key k u) t.marks.mailbox_messages)) (none_moved next 1 2 k u rows other);
      gone = no_gone;
      other_gone = λ k u other. refl;
      flags = λ u name.
          same_flagged next u full.marks.flags _ (λ f. ap is_some (flag_there laws at_keys t to m.head whole can_move (uid_flag_key next u f) ∙ ap (option_or _) (no_flags laws at_keys t to m.head whole can_move u f) ∙ or_none _)) (flag_name_id name t.marks.flag_names)
          ∙ moved_flagged next t.marks.flags t.marks.flag_names name 1 rows m.entries (in_turn_weaker Told (λ r e. is_flagged r.mailbox r.uid name t.marks.flag_names t.marks.flags ≡ has_flag_named name e.message.flags) (λ r e its. its.flags name) rows m.entries told) u;
      other_flags = λ k u name other.
          same_flagged k u full.marks.flags t.marks.flags
          (λ f. ap is_some (flag_there laws at_keys t to m.head whole can_move (uid_flag_key k u f) ∙ ap (λ o. option_or o (row_at flag_key (uid_flag_key k u f) t.marks.flags)) (none_there _ (none_elsewhere next t.marks.flags 1 k u f rows other)))) (flag_name_id name t.marks.flag_names);
    }

    abbrev grown : World
    grown = with_mailbox taken world

    free_id : mailbox_at next world.mailboxes ≡ None
    free_id = by (mailbox_at next world.mailboxes) (sym (head_row next world.mailboxes) ∙ sym (ap (row_at mailbox_key (number_key next)) s.mailboxes) ∙ can_move.free)
      where
        by : (o : Option Mailbox) → option_map (λ x. x.head) o ≡ None → o ≡ None
        by None e = refl
        by (Some x) e = absurd (none-some x.head (sym e))

    grown_shows : Shows content full grown
    grown_shows = added_shows content t full world taken free_id adds (shown content t world s)

    grown_at : mailbox_at id grown.mailboxes ≡ Some m
    grown_at = added_elsewhere world.mailboxes taken free_id id other_id ∙ at

    one : AreOne grown
    one = all-append (λ x. mailbox_at x.head.id grown.mailboxes ≡ Some x) world.mailboxes (taken ∷ [])
        (all-weaker (λ x. mailbox_at x.head.id world.mailboxes ≡ Some x) (λ x. mailbox_at x.head.id grown.mailboxes ≡ Some x)
        (λ x here. find-append (has_id x.head.id) world.mailboxes (taken ∷ []) ∙ ap (λ o. option_or o (find (has_id x.head.id) (taken ∷ []))) here) world.mailboxes (each_at world s.legal))
        (added_here world.mailboxes taken free_id, tt)

    self : with_replaced mailbox_key m.head full.heads.mailboxes ≡ full.heads.mailboxes
    self =
        ap (with_replaced mailbox_key m.head) grown_shows.mailboxes
        ∙ replaced_self m.head grown.mailboxes (all-weaker (λ x. mailbox_at x.head.id grown.mailboxes ≡ Some x) (λ x. x.head.id ≡ id → x.head ≡ m.head)
        (λ x itself here. ap (λ y. y.head) (same_Some x m (sym itself ∙ (ap (λ k. mailbox_at k grown.mailboxes) here ∙ grown_at)))) grown.mailboxes one)
        ∙ sym grown_shows.mailboxes

    -- ---- the mailbox that is left

    row_gone : (u : ℕ) → row_at mailbox_message_key (uid_key id u) end.marks.mailbox_messages ≡ None
    row_gone u =
        at_without_rows mailbox_message_key laws.same laws.no_entries (uid_key id u) (map (uid_key id) (uids_of id t.marks.mailbox_messages)) full.marks.mailbox_messages
        ∙ ap (cond (list_any (λ j. same_key j (uid_key id u)) (map (uid_key id) (uids_of id t.marks.mailbox_messages))) None)
        (entry_there laws at_keys t to m.head whole can_move (uid_key id u) ∙ ap (λ o. option_or o (row_at mailbox_message_key (uid_key id u) t.marks.mailbox_messages)) (none_moved next 1 2 id u rows other_id))
        ∙ by (row_at mailbox_message_key (uid_key id u) t.marks.mailbox_messages) refl
      where
        by : (o : Option MailboxMessage) → row_at mailbox_message_key (uid_key id u) t.marks.mailbox_messages ≡ o
            → cond (list_any (λ j. same_key j (uid_key id u)) (map (uid_key id) (uids_of id t.marks.mailbox_messages))) None o ≡ None
        by None e = none_either (list_any (λ j. same_key j (uid_key id u)) (map (uid_key id) (uids_of id t.marks.mailbox_messages))) None refl
        by (Some x) e = ap (λ b. cond b None (Some x)) (uid_among id u t.marks.mailbox_messages (ap is_some e))

    gone_there : (k : RowKey) → row_at deleted_message_key k end.marks.deleted_messages ≡ option_or (row_at deleted_message_key k (gone_rows (m.head.highest + 1) rows)) (row_at deleted_message_key k t.marks.deleted_messages)
    gone_there k = at_with_rows deleted_message_key laws.same laws.itself laws.gone k (gone_rows (m.head.highest + 1) rows) t.marks.deleted_messages (gone_apart (m.head.highest + 1) rows (entries_apart laws at_keys t to m.head whole can_move))

    changes : Changes content full end id (left m)
    changes = record {
      users = refl;
      heads = left_heads m.head m.gone rows m.entries full.heads.mailboxes uids_told self;
      subscriptions = refl;
      next = refl;
      mails = refl;
      name = ap is_mailbox_name (left_name m.head m.gone m.entries) ∙ proper_inbox;
      entries = λ u. subst (λ o. Tied (IsEntryRow (mails_in content t)) o (entry_at u (left m).entries)) (sym (row_gone u))
          (subst (λ es. Tied (IsEntryRow (mails_in content t)) None (entry_at u es)) (sym (left_entries m.head m.gone m.entries)) (record { tie = tt }));
      other_entries = λ k u other.
          at_without_rows mailbox_message_key laws.same laws.no_entries (uid_key k u) (map (uid_key id) (uids_of id t.marks.mailbox_messages)) full.marks.mailbox_messages
          ∙ ap (λ b. cond b None (row_at mailbox_message_key (uid_key k u) full.marks.mailbox_messages)) (uids_elsewhere id k u (uids_of id t.marks.mailbox_messages) other);
      gone = λ u.
          gone_there (uid_key id u)
          ∙ ap (λ o. option_or o (row_at deleted_message_key (uid_key id u) t.marks.deleted_messages)) (gone_rows_told id (m.head.highest + 1) u rows m.entries uids_told (same_mailbox laws at_keys t to m.head whole can_move))
          ∙ ap (option_or _) (s.gone id u ∙ ap (λ o. option_map (gone_row id) (option_and_then (λ x. gone_at u x.gone) o)) at)
          ∙ mapped_or (gone_row id) _ (gone_at u m.gone)
          ∙ ap (option_map (gone_row id)) (sym (left_gone m.head m.gone u m.entries));
      other_gone = λ k u other. gone_there (uid_key k u) ∙ ap (λ o. option_or o (row_at deleted_message_key (uid_key k u) t.marks.deleted_messages)) (gone_elsewhere id (m.head.highest + 1) k u rows (same_mailbox laws at_keys t to m.head whole can_move) other);
      flags = λ u name.
          none_flagged id u end.marks.flags (unflagged_at laws at_keys t to m.head whole can_move u) (flag_name_id name t.marks.flag_names)
          ∙ sym (ap (λ es. has_flag_named name (flags_of (entry_at u es))) (left_entries m.head m.gone m.entries));
      other_flags = λ k u name other.
          same_flagged k u end.marks.flags full.marks.flags
          (λ f. ap is_some (at_without_rows flag_key laws.same laws.no_flags (uid_flag_key k u f) (map flag_key (flag_rows_of id t.marks.flags)) full.marks.flags
          ∙ ap (λ b. cond b None (row_at flag_key (uid_flag_key k u f) full.marks.flags)) (flags_elsewhere id k u f (flag_rows_of id t.marks.flags) (passing_is (λ (r : FlagRow). r.mailbox) id t.marks.flags) other))) (flag_name_id name t.marks.flag_names);
    }

    moved_shows : Shows content end (with_mailbox (moved_inbox world.next to m) (with_changed (is_named owner inbox) left world))
    moved_shows = subst (λ x. Shows content end (with_mailbox x (with_changed (is_named owner inbox) left world))) (sym (taken_is next to m.head m.gone rows m.entries uids_told) ∙ ap (λ n. moved_inbox n to m) s.next)
        (subst (λ ms. Shows content end (record { users = world.users; mailboxes = ms; subscriptions = world.subscriptions; next = next_id world.next }))
        (changed_before (has_id id) (is_named owner inbox) left taken world (name_is_id world owner inbox m s.legal its) other_id)
        (changed_shows content full end grown id m left (λ x. left_id x.head x.gone x.entries) one grown_at changes grown_shows))

    pub inbox_moves : IsLegal (inbox_renamed world owner to) → Leads content t (rename_inbox_changes t to m.head) (inbox_renamed world owner to)
    inbox_moves legal = record {
      after = end;
      runs = moving_runs laws at_keys t to m.head whole can_move;
      stands = standing content end (inbox_renamed world owner to) legal (subst (λ o. Shows content end (with_inbox_moved o world owner to)) (sym its) moved_shows);
    }

-- ---- why it is not done

none_any : {X : Type 0} (p q : X → Bool) (xs : List X) → find p xs ≡ None → list_any (λ x. p x && q x) xs ≡ false
none_any p q [] none = refl
none_any p q (x ∷ xs) none = by (p x) none (none_any p q xs)
  where
    by : (b : Bool) → cond b (Some x) (find p xs) ≡ None → (find p xs ≡ None → list_any (λ y. p y && q y) xs ≡ false) → ((b && q x) || list_any (λ y. p y && q y) xs) ≡ false
    by true e rest = absurd (none-some x (sym e))
    by false e rest = rest e

-- where one alone passes a test
no_other : {X : Type 0} (p q : X → Bool) (m : X) → q m ≡ false → (xs : List X) → AllByRecursion (λ x. p x ≡ true → x ≡ m) xs → list_any (λ x. p x && q x) xs ≡ false
no_other p q m fails [] alls = refl
no_other p q m fails (y ∷ ys) alls = by (p y) refl (no_other p q m fails ys alls.1)
  where
    by : (b : Bool) → p y ≡ b → list_any (λ x. p x && q x) ys ≡ false → ((b && q y) || list_any (λ x. p x && q x) ys) ≡ false
    by true e rest = ap (λ b. b || list_any (λ x. p x && q x) ys) (ap q (alls.0 e) ∙ fails) ∙ rest
    by false e rest = rest

one_any : {X : Type 0} (p q : X → Bool) (m : X) (xs : List X) → find p xs ≡ Some m → AllByRecursion (λ x. p x ≡ true → x ≡ m) xs → list_any (λ x. p x && q x) xs ≡ q m
one_any {X} p q m xs is all = by (q m) refl
  where
    by : (b : Bool) → q m ≡ b → list_any (λ x. p x && q x) xs ≡ b
    by true e = found_any (λ x. p x && q x) p xs m is (and_from (p m) (q m) (find_passes p xs m is) e)
    by false e = no_other p q m e xs all

module _ (places : Places) (content : BodyPart → List ℕ) (t : TableRows) (world : World) (owner : ℕ) (whole : AreWhole t) (s : Stands content t world) where
  the_one : (m : Mailbox) → mailbox_named owner inbox world.mailboxes ≡ Some m → AllByRecursion (λ x. is_named owner inbox x ≡ true → x ≡ m) world.mailboxes
  the_one m its =
      all_both (λ x. mailbox_at x.head.id world.mailboxes ≡ Some x) (λ x. is_named owner inbox x ≡ has_id m.head.id x) (λ x. is_named owner inbox x ≡ true → x ≡ m)
      (λ x here same named. same_Some x m (sym here ∙ (ap (λ k. mailbox_at k world.mailboxes) (eqb-true x.head.id m.head.id (sym same ∙ named)) ∙ found_at m its))) world.mailboxes (each_at world s.legal) (name_is_id world owner inbox m s.legal its)
    where
      found_at : (m : Mailbox) → mailbox_named owner inbox world.mailboxes ≡ Some m → mailbox_at m.head.id world.mailboxes ≡ Some m
      found_at m its = all_found (λ x. mailbox_at x.head.id world.mailboxes ≡ Some x) (is_named owner inbox) world.mailboxes m (each_at world s.legal) its

  keeps_same : (o : Option Mailbox) → mailbox_named owner inbox world.mailboxes ≡ o → keeps_messages t (option_map (λ m. m.head) o) ≡ list_any (λ x. is_named owner inbox x && keeps_its_messages x) world.mailboxes
  keeps_same None e = sym (none_any (is_named owner inbox) keeps_its_messages world.mailboxes e)
  keeps_same (Some m) e =
      ap (λ n. nat_le 1 n && nat_le last_modseq m.head.highest) (ap length (uids_are places content t world m.head.id m whole.ordered s (all_found (λ x. mailbox_at x.head.id world.mailboxes ≡ Some x) (is_named owner inbox) world.mailboxes m (each_at world s.legal) e)) ∙ length-map m.entries (λ entry. entry.uid))
      ∙ sym (one_any (is_named owner inbox) keeps_its_messages m world.mailboxes e (the_one m e))

  abbrev refusal : List ℕ → Bool → Bool → ℕ → ℕ → Bool → Option Refusal
  refusal to there exists count next keeps =
      first_refusal ((not (is_mailbox_name to), BadName) ∷ (not there, Absent) ∷ (exists, Exists) ∷ (nat_le most_mailboxes count || next == 0, Full) ∷ (keeps, Full) ∷ [])

  told_refusal : (to : List ℕ) → rename_inbox_refused t owner to ≡ world_refuses world owner to
  told_refusal to =
      let there = is_some (mailbox_named owner inbox world.mailboxes) in
      let exists = is_some (mailbox_named owner to world.mailboxes) in
      let keeps = keeps_messages t (names.mailbox_named owner inbox t.heads.mailboxes) in
      let count = length (mailboxes_of owner t.heads.mailboxes) in
      ap (λ b. refusal to b (is_some (names.mailbox_named owner to t.heads.mailboxes)) count t.heads.counters.next keeps) (named_there owner inbox t.heads.mailboxes world.mailboxes s.mailboxes)
      ∙ ap (λ b. refusal to there b count t.heads.counters.next keeps) (named_there owner to t.heads.mailboxes world.mailboxes s.mailboxes)
      ∙ ap (λ n. refusal to there exists n t.heads.counters.next keeps) (owned_count owner t.heads.mailboxes world.mailboxes s.mailboxes)
      ∙ ap (λ n. refusal to there exists (count_by (is_owned_by owner) world.mailboxes) n keeps) s.next
      ∙ ap (refusal to there exists (count_by (is_owned_by owner) world.mailboxes) world.next)
      (ap (λ rs. keeps_messages t (names.mailbox_named owner inbox rs)) s.mailboxes ∙ ap (keeps_messages t) (head_named owner inbox world.mailboxes) ∙ keeps_same (mailbox_named owner inbox world.mailboxes) refl)

  pub inbox_same : (from to : List ℕ) → is_inbox from ≡ true → rename_inbox_refused t owner (mailbox_name to) ≡ refused world (Rename owner from to)
  unfolding refused
  inbox_same from to is = told_refusal (mailbox_name to) ∙ sym (cond-true (is_inbox from) (world_refuses world owner (mailbox_name to)) (rename_refused world owner from (mailbox_name to)) is)

-- what holds where there is no refusal
record IsFree (t : TableRows) (to : List ℕ) : Type 0 where
  proper : is_mailbox_name to ≡ true
  room : (t.heads.counters.next == 0) ≡ false

free_of : (t : TableRows) (owner : ℕ) (to : List ℕ) → rename_inbox_refused t owner to ≡ None → IsFree t to
free_of t owner to none =
    let last = (keeps_messages t (names.mailbox_named owner inbox t.heads.mailboxes), Full) ∷ [] in
    let full = nat_le most_mailboxes (length (mailboxes_of owner t.heads.mailboxes)) || t.heads.counters.next == 0 in
    let exists = is_some (names.mailbox_named owner to t.heads.mailboxes) in
    let there = is_some (names.mailbox_named owner inbox t.heads.mailboxes) in
    let first = not_refused (not (is_mailbox_name to)) BadName ((not there, Absent) ∷ (exists, Exists) ∷ (full, Full) ∷ last) none in
    let second = not_refused (not there) Absent ((exists, Exists) ∷ (full, Full) ∷ last) first.1 in
    let third = not_refused exists Exists ((full, Full) ∷ last) second.1 in
    let fourth = not_refused full Full last third.1 in
    record { proper = not-false (is_mailbox_name to) first.0; room = (or_parts (nat_le most_mailboxes (length (mailboxes_of owner t.heads.mailboxes))) (t.heads.counters.next == 0) fourth.0).1 }

module _ (laws : MoveLaws) (at_keys : AtKeys) (numbers : Numbers) (content : BodyPart → List ℕ) (t : TableRows) (world : World) (owner : ℕ) (row : Head) (whole : AreWhole t) (s : Stands content t world)
    (found : names.mailbox_named owner inbox t.heads.mailboxes ≡ Some row) where
  with_the_mailbox : {P : Type 0} → ((m : Mailbox) → mailbox_named owner inbox world.mailboxes ≡ Some m → m.head ≡ row → P) → P
  with_the_mailbox use_it = unmapped (mailbox_named owner inbox world.mailboxes) row (sym (head_named owner inbox world.mailboxes) ∙ (sym (ap (names.mailbox_named owner inbox) s.mailboxes) ∙ found)) use_it

  room_of : (to : List ℕ) → IsFree t to → (world.next == 0) ≡ false
  room_of to free = ap (λ n. n == 0) (sym s.next) ∙ free.room

  pub inbox_can : (to : List ℕ) → rename_inbox_refused t owner to ≡ None → CanMove t to row
  inbox_can to none =
      let free = free_of t owner to none in
      with_the_mailbox (λ m its head. subst (CanMove t to) head (can_move laws at_keys numbers content t world owner m whole s its (room_of to free) to free.proper))

  pub inbox_leads : StaysLegal → (from to : List ℕ) → is_inbox from ≡ true → rename_inbox_refused t owner (mailbox_name to) ≡ None → Leads content t (rename_inbox_changes t (mailbox_name to) row) (apply world (Rename owner from to))
  unfolding apply
  inbox_leads stays from to is none =
      let name = mailbox_name to in
      let free = free_of t owner name none in
      let same = cond-true (is_inbox from) (inbox_renamed world owner name) (renamed world owner from name) is in
      let legal = stays world (Rename owner from to) s.legal tt (sym (inbox_same laws.places content t world owner whole s from to is) ∙ none) in
      with_the_mailbox (λ m its head. subst (Leads content t (rename_inbox_changes t name row)) (sym same) (subst (λ h. Leads content t (rename_inbox_changes t name h) (inbox_renamed world owner name)) head
      (inbox_moves laws at_keys numbers content t world owner m whole s its (room_of name free) name free.proper (subst IsLegal same legal))))
