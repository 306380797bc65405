-- A message that comes into a mailbox, in the world and in the tables.
use Rattle.std.proofs.Common.{ℕ, ◌≡◌, ◌+◌, ◌==◌, ◌&&◌, ◌||◌, Bool, true, false, cond, List, [], ◌∷◌, map, Option, Some, None, refl, sym, ap, subst, ◌∙◌}
use Rattle.std.specs.Prelude.{is_some, if◌then◌else◌}
use Rattle.std.specs.Option.{option_map, option_or, option_and_then}
use Rattle.std.proofs.lemmas.Bool.{true≢false, eqb-true, eq-eqb, cond_both}
use Rattle.std.proofs.lemmas.Option.{same_Some}
use Rattle.std.proofs.lemmas.List.Folds.{find-append}
use Rattle.date_grammar.specs.declared.parts.Stamp.{Stamp}
use Rattle.imap_grammar.specs.declared.flags.Flag.{Flag}
use Rattle.mime_tree.specs.declared.reasons.Mail.{Mail}
use Rattle.ordered_rows.specs.RowKey.{RowKey, number_key, same_key}
use Rattle.ordered_rows.specs.Listed.{IsInOrder, row_at, with_row, with_replaced}
use Rattle.ordered_rows.specs.InsertLaws.{InsertLaws}
use Rattle.row_tables.specs.Keys.{uid_key, uid_flag_key, mailbox_key, mailbox_message_key, flag_key, flag_name_key}
use Rattle.row_tables.specs.Indexes.{flag_name_id}
use Rattle.row_tables.specs.TableRows.{TableRows}
use Rattle.row_tables.specs.declared.heads.Mailbox.{Mailbox as Head}
use Rattle.row_tables.specs.declared.marks.MailboxMessage.{MailboxMessage}
use Rattle.row_tables.specs.declared.marks.FlagName.{FlagName}
use Rattle.row_tables.specs.declared.marks.FlagRow.{FlagRow}
use Rattle.row_tables.specs.declared.contents.BodyPart.{BodyPart}
use Rattle.row_store.specs.Holding.{Stored}
use Rattle.shredder.specs.MessageRows.{HasRows}
use Rattle.mail_world.specs.Flags.{distinct}
use Rattle.mail_world.specs.Names.{is_mailbox_name}
use Rattle.mail_world.specs.Worlds.{World, Mailbox, Message, Entry, mailbox_at, entry_at, gone_at, has_id, is_among}
use Rattle.mail_world.specs.Arrivals.{with_messages, appended}
use Rattle.mail_world.specs.Legal.{IsLegal}
use Rattle.mail_stands.specs.Facts.{Tied, IsKept, IsEntryRow, AreEntries, AreGone, entry_in, gone_in, gone_row, flags_of, has_flag_named, mails_in}
use Rattle.mail_stands.specs.Flagging.{AreFlagged, AreIds, is_flagged, is_flagged_by}
use Rattle.mail_stands.specs.Arriving.{with_arrival, arrival_row}
use Rattle.mail_stands.proofs.Lists.{all-weaker, all-replaced, all_found, find-map, number_is}
use Rattle.mail_stands.proofs.Heading.{each_at, replaced_heads}
use Rattle.mail_stands.proofs.Owners.{SameKeys}
use Rattle.mail_stands.proofs.Showing.{Shows}
use Rattle.mail_stands.proofs.Flags.{with_flags, ids_told, unnamed_flags, others_flags, its_flags}

-- ---- in the world

abbrev message_of : List Flag → Stamp → Mail → Message
message_of flags date mail = record { flags = distinct flags; date = date; mail = mail }

abbrev entry_of : Head → Message → Entry
entry_of head message = record { uid = head.uidnext; modseq = head.highest + 1; message = message }

no_front : (b c : Bool) → c ≡ true → (b && c) ≡ false → b ≡ false
no_front false c e f = refl
no_front true true e f = f
no_front true false e f = absurd (true≢false (sym e))

or_none : {X : Type 0} (o : Option X) → option_or o None ≡ o
or_none None = refl
or_none (Some x) = refl

module _ (ms : List Mailbox) (m : Mailbox) (at : mailbox_at m.head.id ms ≡ Some m) (taken : Bool) (message : Message) where
  abbrev with_it : Mailbox → Mailbox
  with_it x = with_messages taken (message ∷ []) x

  abbrev step : Mailbox → Mailbox
  step x = if has_id m.head.id x then with_it x else x

  abbrev after : List Mailbox
  after = map step ms

  looked : {Z : Type 0} (g : Mailbox → Option Z) (k : ℕ) → option_and_then g (mailbox_at k after) ≡ option_and_then (λ x. g (step x)) (mailbox_at k ms)
  looked {Z} g k =
      ap (option_and_then g) (find-map (has_id k) (has_id k) step (λ x. ap (λ n. n == k) (cond_both (has_id m.head.id x) (with_it x) x (λ y. y.head.id ≡ x.head.id) (λ e. refl) (λ e. refl))) ms)
      ∙ by (mailbox_at k ms)
    where
      by : (o : Option Mailbox) → option_and_then g (option_map step o) ≡ option_and_then (λ x. g (step x)) o
      by None = refl
      by (Some x) = refl

  gone_same : (k uid : ℕ) → gone_in k uid after ≡ gone_in k uid ms
  gone_same k uid = looked (λ x. gone_at uid x.gone) k ∙ by (mailbox_at k ms)
    where
      by : (o : Option Mailbox) → option_and_then (λ x. gone_at uid (step x).gone) o ≡ option_and_then (λ x. gone_at uid x.gone) o
      by None = refl
      by (Some x) = ap (gone_at uid) (cond_both (has_id m.head.id x) (with_it x) x (λ y. y.gone ≡ x.gone) (λ e. refl) (λ e. refl))

  one_more : (x : Mailbox) (u : ℕ) → entry_at u (with_it x).entries ≡ option_or (entry_at u x.entries) (cond (x.head.uidnext == u) (Some (entry_of x.head message)) None)
  one_more x u = find-append (λ e. e.uid == u) x.entries (entry_of x.head message ∷ [])

  entry_here : entry_at m.head.uidnext m.entries ≡ None → entry_in m.head.id m.head.uidnext after ≡ Some (entry_of m.head message)
  entry_here free =
      looked (λ x. entry_at m.head.uidnext x.entries) m.head.id ∙ ap (option_and_then (λ x. entry_at m.head.uidnext (step x).entries)) at
      ∙ ap (λ b. entry_at m.head.uidnext (cond b (with_it m) m).entries) (eq-eqb m.head.id m.head.id refl) ∙ one_more m m.head.uidnext
      ∙ ap (λ o. option_or o (cond (m.head.uidnext == m.head.uidnext) (Some (entry_of m.head message)) None)) free
      ∙ ap (λ b. cond b (Some (entry_of m.head message)) None) (eq-eqb m.head.uidnext m.head.uidnext refl)

  entry_elsewhere : (k u : ℕ) → ((m.head.uidnext == u) && (m.head.id == k)) ≡ false → entry_in k u after ≡ entry_in k u ms
  entry_elsewhere k u differs = looked (λ x. entry_at u x.entries) k ∙ by (mailbox_at k ms) refl
    where
      its : (x : Mailbox) → mailbox_at k ms ≡ Some x → (b : Bool) → (x.head.id == m.head.id) ≡ b → entry_at u (cond b (with_it x) x).entries ≡ entry_at u x.entries
      its x e false q = refl
      its x e true q =
          let is = number_is (λ y. y.head.id) k ms x e in
          let own = eqb-true x.head.id m.head.id q in
          let same = same_Some x m (sym e ∙ (ap (λ j. mailbox_at j ms) (sym is ∙ own) ∙ at)) in
          one_more x u
          ∙ (ap (λ b. option_or (entry_at u x.entries) (cond b (Some (entry_of x.head message)) None))
          (ap (λ y. y.head.uidnext == u) same ∙ no_front (m.head.uidnext == u) (m.head.id == k) (eq-eqb m.head.id k (sym own ∙ is)) differs) ∙ or_none (entry_at u x.entries))

      by : (o : Option Mailbox) → mailbox_at k ms ≡ o → option_and_then (λ x. entry_at u (step x).entries) o ≡ option_and_then (λ x. entry_at u x.entries) o
      by None e = refl
      by (Some x) e = its x e (x.head.id == m.head.id) refl

  -- ---- in the tables

  -- where the message comes, or elsewhere
  abbrev Here : ℕ → ℕ → Bool
  Here k u = (m.head.uidnext == u) && (m.head.id == k)

  at_places : SameKeys → (P : ℕ → ℕ → Type 0) → P m.head.id m.head.uidnext → ((k u : ℕ) → Here k u ≡ false → P k u) → (k u : ℕ) → P k u
  at_places same P here elsewhere k u = by (Here k u) refl
    where
      by : (b : Bool) → Here k u ≡ b → P k u
      by true e = subst (λ (j : RowKey). P j.number j.place) (same (uid_key m.head.id m.head.uidnext) (uid_key k u) e) here
      by false e = elsewhere k u e

  pub entries_arrive : SameKeys → InsertLaws mailbox_message_key → (mails : Stored) (rows : List MailboxMessage) (new : MailboxMessage) → mailbox_message_key new ≡ uid_key m.head.id m.head.uidnext → entry_at m.head.uidnext m.entries ≡ None
      → AreEntries mails rows ms → IsEntryRow mails new (entry_of m.head message) → AreEntries mails (with_row mailbox_message_key new rows) after
  entries_arrive same laws mails rows new placed free are is =
      at_places same (λ k u. Tied (IsEntryRow mails) (row_at mailbox_message_key (uid_key k u) (with_row mailbox_message_key new rows)) (entry_in k u after))
      (subst (λ o. Tied (IsEntryRow mails) o (entry_in m.head.id m.head.uidnext after)) (sym (subst (λ j. row_at mailbox_message_key j (with_row mailbox_message_key new rows) ≡ Some new) placed (laws.same new rows)))
      (subst (λ p. Tied (IsEntryRow mails) (Some new) p) (sym (entry_here free)) (record { tie = is })))
      (λ k u e. subst (λ o. Tied (IsEntryRow mails) o (entry_in k u after)) (sym (laws.other new (uid_key k u) rows (ap (λ j. same_key j (uid_key k u)) placed ∙ e)))
      (subst (λ p. Tied (IsEntryRow mails) (row_at mailbox_message_key (uid_key k u) rows) p) (sym (entry_elsewhere k u e)) (are k u)))

  pub gone_arrive : (rows : _) → AreGone rows ms → AreGone rows after
  gone_arrive rows are k u = are k u ∙ ap (option_map (gone_row k)) (sym (gone_same k u))

  pub flags_arrive : SameKeys → InsertLaws flag_key → InsertLaws flag_name_key → (names : List FlagName) (rows : List FlagRow) (ids : List ℕ) → IsInOrder flag_name_key names → AreIds names message.flags ids
      → entry_at m.head.uidnext m.entries ≡ None → ((flag : ℕ) → row_at flag_key (uid_flag_key m.head.id m.head.uidnext flag) rows ≡ None) → AreFlagged names rows ms
      → AreFlagged names (with_flags m.head.id m.head.uidnext ids rows) after
  flags_arrive same laws name_laws names rows ids order are_ids free no_flags are k u name =
      at_places same (λ j v. is_flagged j v name names (with_flags m.head.id m.head.uidnext ids rows) ≡ has_flag_named name (flags_of (entry_in j v after)))
      (here (flag_name_id name names) refl ∙ ap (λ o. has_flag_named name (flags_of o)) (sym (entry_here free)))
      (λ j v e. elsewhere j v e (flag_name_id name names) ∙ (are j v name ∙ ap (λ o. has_flag_named name (flags_of o)) (sym (entry_elsewhere j v e)))) k u
    where
      or_false : (b : Bool) → (b || false) ≡ b
      or_false true = refl
      or_false false = refl

      here : (o : Option ℕ) → flag_name_id name names ≡ o → is_flagged_by m.head.id m.head.uidnext (with_flags m.head.id m.head.uidnext ids rows) o ≡ has_flag_named name message.flags
      here None e = sym (unnamed_flags names message.flags ids are_ids name e)
      here (Some i) e =
          its_flags laws m.head.id m.head.uidnext ids rows i ∙ ap (λ o. is_among i ids || is_some o) (no_flags i) ∙ or_false (is_among i ids) ∙ ids_told name_laws names order message.flags ids are_ids name i e

      elsewhere : (j v : ℕ) → Here j v ≡ false → (o : Option ℕ) → is_flagged_by j v (with_flags m.head.id m.head.uidnext ids rows) o ≡ is_flagged_by j v rows o
      elsewhere j v e None = refl
      elsewhere j v e (Some i) = ap is_some (others_flags laws m.head.id m.head.uidnext ids rows j v i e)

-- the tables with the message
abbrev pub arrived : TableRows → Head → ℕ → Stamp → List ℕ → Bool → TableRows
arrived t row message date ids taken = record t {
  heads = record t.heads { mailboxes = with_replaced mailbox_key (with_arrival taken row) t.heads.mailboxes };
  marks = record t.marks {
    mailbox_messages = with_row mailbox_message_key (arrival_row row message date) t.marks.mailbox_messages;
    flags = with_flags row.id row.uidnext ids t.marks.flags;
  };
}

pub arrived_shows : SameKeys → InsertLaws mailbox_message_key → InsertLaws flag_key → InsertLaws flag_name_key → (content : BodyPart → List ℕ) (t : TableRows) (world : World) (m : Mailbox) (flags : List Flag) (date : Stamp) (mail : Mail) (taken : Bool) (message : ℕ) (ids : List ℕ)
    → IsLegal world → Shows content t world → mailbox_at m.head.id world.mailboxes ≡ Some m → row_at mailbox_key (number_key m.head.id) t.heads.mailboxes ≡ Some m.head → IsInOrder flag_name_key t.marks.flag_names
    → entry_at m.head.uidnext m.entries ≡ None → ((flag : ℕ) → row_at flag_key (uid_flag_key m.head.id m.head.uidnext flag) t.marks.flags ≡ None)
    → HasRows (mails_in content t) message mail → IsKept mail → AreIds t.marks.flag_names (distinct flags) ids
    → Shows content (arrived t m.head message date ids taken) (appended world m.head.id flags date mail taken)
arrived_shows same entry_laws flag_laws name_laws content t world m flags date mail taken message ids legal s at found order free no_flags has kept are_ids =
    let its = message_of flags date mail in
    record {
      users = s.users;
      mailboxes = ap (with_replaced mailbox_key (with_arrival taken m.head)) s.mailboxes
          ∙ replaced_heads (with_arrival taken m.head) (with_messages taken (its ∷ [])) world.mailboxes
          (all-weaker (λ n. mailbox_at n.head.id world.mailboxes ≡ Some n) (λ n. n.head.id ≡ m.head.id → (with_messages taken (its ∷ []) n).head ≡ with_arrival taken m.head)
          (λ n itself here. ap (λ x. with_arrival taken x.head) (same_Some n m (sym itself ∙ (ap (λ k. mailbox_at k world.mailboxes) here ∙ at)))) world.mailboxes (each_at world legal));
      names = all-replaced mailbox_key (λ r. is_mailbox_name r.name ≡ true) (with_arrival taken m.head) t.heads.mailboxes s.names (all_found (λ r. is_mailbox_name r.name ≡ true) _ t.heads.mailboxes m.head s.names found);
      subscriptions = s.subscriptions;
      next = s.next;
      entries = entries_arrive world.mailboxes m at taken its same entry_laws (mails_in content t) t.marks.mailbox_messages (arrival_row m.head message date) refl free s.entries
          (record { modseq = refl; seconds = refl; zone = refl; rows = has; kept = kept });
      gone = gone_arrive world.mailboxes m at taken its t.marks.deleted_messages s.gone;
      flags = flags_arrive world.mailboxes m at taken its same flag_laws name_laws t.marks.flag_names t.marks.flags ids order are_ids free no_flags s.flags;
      distinct = s.distinct;
    }
