-- INBOX that hands its messages to a new mailbox, from what was planned.
use Rattle.std.proofs.Common.{◌≡◌, ℕ, ◌+◌, ◌<◌, ◌≤◌, ◌==◌, ◌&&◌, ◌||◌, Bool, true, false, not, nat_le, List, [], ◌∷◌, ◌++◌, length, Option, Some, None, Result, Ok, Err, inl, inr, is_some, refl, sym, ap, ◌∙◌, subst, arith}
use Rattle.std.specs.List.{AllByRecursion, list_any}
use Rattle.std.proofs.lemmas.List.{length-map}
use Rattle.std.proofs.lemmas.List.Sums.{length-filter}
use Rattle.ordered_rows.specs.Listed.{row_at}
use Rattle.row_tables.specs.Keys.{uid_key, deleted_message_key}
use Rattle.row_tables.specs.Names.{mailbox_named}
use Rattle.row_tables.specs.References.{flags_of, uids_of}
use Rattle.row_tables.specs.RowCounts.{entry_count}
use Rattle.row_tables.specs.InTurn.{entry_insertions, entry_removals, gone_insertions}
use Rattle.row_tables.specs.TableRows.{TableRows}
use Rattle.row_tables.specs.declared.contents.BodyPart.{BodyPart}
use Rattle.row_tables.specs.declared.heads.Mailbox.{Mailbox as Head}
use Rattle.row_tables.specs.declared.marks.MailboxMessage.{MailboxMessage}
use Rattle.row_tables.specs.declared.marks.DeletedMessage.{DeletedMessage}
use Rattle.row_tables.specs.declared.marks.FlagRow.{FlagRow}
use Rattle.row_tables.specs.declared.change.RowChange.{RowChange}
use Rattle.row_store.specs.Bodies.{ArePlaced}
use Rattle.row_store.specs.Holding.{in_row}
use Rattle.mail_world.specs.Names.{inbox, is_mailbox_name}
use Rattle.mail_world.specs.Worlds.{World}
use Rattle.mail_world.specs.Limits.{last_modseq, most_mailboxes}
use Rattle.mail_world.specs.Changes.{Refusal, BadName, Absent, Exists, Full, first_refusal}
use Rattle.mail_stands.specs.Leading.{Leads}
use Rattle.mail_stands.specs.MovingInbox.{CanMove, emptied, flag_row_insertions, flag_row_removals, gone_rows, keeps_messages, messages_of, moved_flags, moved_rows, rename_inbox_changes, rename_inbox_refused}
use Rattle.mail_stands.specs.Refusals.{mailboxes_of}
use Rattle.mailbox_core.specs.declared.faults.MailFault.{MailFault}
use Rattle.mailbox_core.specs.Faults.{RefusesFor}
use Rattle.mailbox_core.specs.MovingInbox.{MayMove}
use Rattle.mailbox_core.proofs.Counts.{entries_counted}

-- ---- messages that are counted

pub rows_counted : (t : TableRows) (id : ℕ) → entry_count id t.marks.mailbox_messages ≡ length (messages_of id t.marks.mailbox_messages)
rows_counted t id = sym (length-filter (λ (r : MailboxMessage). r.mailbox == id) t.marks.mailbox_messages)

pub messages_counted : (t : TableRows) (id : ℕ) → entry_count id t.marks.mailbox_messages ≡ length (uids_of id t.marks.mailbox_messages)
messages_counted t id = entries_counted t id

pub left_modseq : (t : TableRows) (row : Head) → keeps_messages t (Some row) ≡ false → 1 ≤ length (messages_of row.id t.marks.mailbox_messages) → row.highest < last_modseq
left_modseq t row keeps some =
    let n : length (uids_of row.id t.marks.mailbox_messages) ≡ length (messages_of row.id t.marks.mailbox_messages) = length-map (messages_of row.id t.marks.mailbox_messages) (λ (r : MailboxMessage). r.uid) in
    below (length (uids_of row.id t.marks.mailbox_messages)) row.highest keeps (subst (λ (k : ℕ). 1 ≤ k) (sym n) some)
  where
    below : (n h : ℕ) → (nat_le 1 n && nat_le last_modseq h) ≡ false → 1 ≤ n → h < last_modseq
    below n h e le = grind (arith, e, le)

-- ---- what is refused

abbrev pub tests : Bool → Bool → Bool → Bool → Bool → Option Refusal
tests proper there exists full keeps =
    first_refusal ((not proper, BadName) ∷ (not there, Absent) ∷ (exists, Exists) ∷ (full, Full) ∷ (keeps, Full) ∷ [])

module _ (t : TableRows) (owner : ℕ) (to : List ℕ) where
  abbrev pub full_of : Bool
  full_of = nat_le most_mailboxes (length (mailboxes_of owner t.heads.mailboxes)) || t.heads.counters.next == 0

  pub refused_as : (proper there exists full keeps : Bool) → is_mailbox_name to ≡ proper → is_some (mailbox_named owner inbox t.heads.mailboxes) ≡ there
      → is_some (mailbox_named owner to t.heads.mailboxes) ≡ exists → full_of ≡ full → keeps_messages t (mailbox_named owner inbox t.heads.mailboxes) ≡ keeps
      → rename_inbox_refused t owner to ≡ tests proper there exists full keeps
  refused_as proper there exists full keeps e1 e2 e3 e4 e5 =
      ap (λ (b : Bool). tests b (is_some (mailbox_named owner inbox t.heads.mailboxes)) (is_some (mailbox_named owner to t.heads.mailboxes)) full_of (keeps_messages t (mailbox_named owner inbox t.heads.mailboxes))) e1
      ∙ (ap (λ (b : Bool). tests proper b (is_some (mailbox_named owner to t.heads.mailboxes)) full_of (keeps_messages t (mailbox_named owner inbox t.heads.mailboxes))) e2
      ∙ (ap (λ (b : Bool). tests proper there b full_of (keeps_messages t (mailbox_named owner inbox t.heads.mailboxes))) e3
      ∙ (ap (λ (b : Bool). tests proper there exists b (keeps_messages t (mailbox_named owner inbox t.heads.mailboxes))) e4
      ∙ ap (λ (b : Bool). tests proper there exists full b) e5)))

-- nothing is refused only where the user has an INBOX
none_absent : (proper exists full keeps : Bool) → tests proper false exists full keeps ≡ None → ⊥
none_absent true exists full keeps e = cc
none_absent false exists full keeps e = cc

abbrev pub changes_of : TableRows → List ℕ → Option Head → List RowChange
changes_of t to None = []
changes_of t to (Some row) = rename_inbox_changes t to row

pub led : (t : TableRows) (owner : ℕ) (to : List ℕ) (next : World) → rename_inbox_refused t owner to ≡ None
    → ((row : Head) → mailbox_named owner inbox t.heads.mailboxes ≡ Some row → Leads in_row t (rename_inbox_changes t to row) next) → Leads in_row t (changes_of t to (mailbox_named owner inbox t.heads.mailboxes)) next
led t owner to next none leads = by (mailbox_named owner inbox t.heads.mailboxes) refl
  where
    by : (o : Option Head) → mailbox_named owner inbox t.heads.mailboxes ≡ o → Leads in_row t (changes_of t to o) next
    by None e = absurd (none_absent (is_mailbox_name to) (is_some (mailbox_named owner to t.heads.mailboxes)) (full_of t owner to) (keeps_messages t (mailbox_named owner inbox t.heads.mailboxes))
        (sym (refused_as t owner to (is_mailbox_name to) false (is_some (mailbox_named owner to t.heads.mailboxes)) (full_of t owner to) (keeps_messages t (mailbox_named owner inbox t.heads.mailboxes)) refl (ap (λ (o : Option Head). is_some o) e) refl refl refl) ∙ none))
    by (Some row) e = leads row e

-- who refuses for fewer reasons
pub refuses_more : {T : Type 0} (result : Result T MailFault) → RefusesFor (BadName ∷ Absent ∷ Exists ∷ []) result → RefusesFor (BadName ∷ Absent ∷ Exists ∷ Full ∷ []) result
refuses_more (Ok x) refuses = refuses
refuses_more (Err fault) (inl (inl e)) = inl (inl e)
refuses_more (Err fault) (inl (inr (inl e))) = inl (inr (inl e))
refuses_more (Err fault) (inl (inr (inr (inl e)))) = inl (inr (inr (inl e)))
refuses_more (Err fault) (inl (inr (inr (inr e)))) = absurd e
refuses_more (Err fault) (inr outage) = inr outage

-- ---- gone messages

abbrev pub any_gone_of : TableRows → List MailboxMessage → Bool
any_gone_of t rows = list_any (λ row. is_some (row_at deleted_message_key (uid_key row.mailbox row.uid) t.marks.deleted_messages)) rows

none_gone_in : (t : TableRows) (rows : List MailboxMessage) → list_any (λ row. is_some (row_at deleted_message_key (uid_key row.mailbox row.uid) t.marks.deleted_messages)) rows ≡ false
    → AllByRecursion (λ row. row_at deleted_message_key (uid_key row.mailbox row.uid) t.marks.deleted_messages ≡ None) rows
none_gone_in t [] none = tt
none_gone_in t (row ∷ rows) none = by (row_at deleted_message_key (uid_key row.mailbox row.uid) t.marks.deleted_messages) none (none_gone_in t rows)
  where
    by : (o : Option DeletedMessage) → (is_some o || list_any (λ r. is_some (row_at deleted_message_key (uid_key r.mailbox r.uid) t.marks.deleted_messages)) rows) ≡ false
        → (list_any (λ r. is_some (row_at deleted_message_key (uid_key r.mailbox r.uid) t.marks.deleted_messages)) rows ≡ false
        → AllByRecursion (λ r. row_at deleted_message_key (uid_key r.mailbox r.uid) t.marks.deleted_messages ≡ None) rows)
        → (o ≡ None) × AllByRecursion (λ r. row_at deleted_message_key (uid_key r.mailbox r.uid) t.marks.deleted_messages ≡ None) rows
    by None e rest = (refl, rest e)
    by (Some x) e rest = cc

gone_is_found : (t : TableRows) (rows : List MailboxMessage) → AllByRecursion (λ row. row_at deleted_message_key (uid_key row.mailbox row.uid) t.marks.deleted_messages ≡ None) rows
    → list_any (λ row. is_some (row_at deleted_message_key (uid_key row.mailbox row.uid) t.marks.deleted_messages)) rows ≡ false
gone_is_found t [] all = refl
gone_is_found t (row ∷ rows) all =
    ap (λ (o : Option DeletedMessage). is_some o || list_any (λ r. is_some (row_at deleted_message_key (uid_key r.mailbox r.uid) t.marks.deleted_messages)) rows) all.0 ∙ gone_is_found t rows all.1

pub can_move : (t : TableRows) (owner : ℕ) (to : List ℕ) (row : Head) (rows : List MailboxMessage) → MayMove t owner to row → rows ≡ messages_of row.id t.marks.mailbox_messages
    → list_any (λ r. is_some (row_at deleted_message_key (uid_key r.mailbox r.uid) t.marks.deleted_messages)) rows ≡ false → CanMove t to row
can_move t owner to row rows may are none = record {
  free = may.free;
  text = may.text;
  inbox_text = may.inbox_text;
  there = may.there;
  gone = none_gone_in t (messages_of row.id t.marks.mailbox_messages) (subst (λ (l : List MailboxMessage). list_any (λ r. is_some (row_at deleted_message_key (uid_key r.mailbox r.uid) t.marks.deleted_messages)) l ≡ false) are none);
  few = may.few;
}

pub cannot_move : (t : TableRows) (to : List ℕ) (row : Head) (rows : List MailboxMessage) → rows ≡ messages_of row.id t.marks.mailbox_messages
    → list_any (λ r. is_some (row_at deleted_message_key (uid_key r.mailbox r.uid) t.marks.deleted_messages)) rows ≡ true → CanMove t to row → ⊥
cannot_move t to row rows are some can =
    let none : list_any (λ r. is_some (row_at deleted_message_key (uid_key r.mailbox r.uid) t.marks.deleted_messages)) rows ≡ false =
    subst (λ (l : List MailboxMessage). list_any (λ r. is_some (row_at deleted_message_key (uid_key r.mailbox r.uid) t.marks.deleted_messages)) l ≡ false) (sym are) (gone_is_found t (messages_of row.id t.marks.mailbox_messages) can.gone) in
    let both : true ≡ false = sym some ∙ none in cc

-- ---- the changes place no body

placed_both : (placed : List BodyPart) (a b : List RowChange) → ArePlaced placed a → ArePlaced placed b → ArePlaced placed (a ++ b)
placed_both placed [] b p q = q
placed_both placed (x ∷ a) b p q = (p.0, placed_both placed a b p.1 q)

entries_placed : (placed : List BodyPart) (rows : List MailboxMessage) → ArePlaced placed (entry_insertions rows)
entries_placed placed [] = tt
entries_placed placed (r ∷ rows) = (tt, entries_placed placed rows)

flags_placed : (placed : List BodyPart) (rows : List FlagRow) → ArePlaced placed (flag_row_insertions rows)
flags_placed placed [] = tt
flags_placed placed (r ∷ rows) = (tt, flags_placed placed rows)

no_flags_placed : (placed : List BodyPart) (rows : List FlagRow) → ArePlaced placed (flag_row_removals rows)
no_flags_placed placed [] = tt
no_flags_placed placed (r ∷ rows) = (tt, no_flags_placed placed rows)

no_entries_placed : (placed : List BodyPart) (mailbox : ℕ) (uids : List ℕ) → ArePlaced placed (entry_removals mailbox uids)
no_entries_placed placed mailbox [] = tt
no_entries_placed placed mailbox (u ∷ uids) = (tt, no_entries_placed placed mailbox uids)

gone_placed : (placed : List BodyPart) (rows : List DeletedMessage) → ArePlaced placed (gone_insertions rows)
gone_placed placed [] = tt
gone_placed placed (r ∷ rows) = (tt, gone_placed placed rows)

emptied_placed : (placed : List BodyPart) (row : Head) (rows : List MailboxMessage) → ArePlaced placed (emptied row rows)
emptied_placed placed row [] = tt
emptied_placed placed row (r ∷ rows) = (tt, tt)

pub moving_placed : (placed : List BodyPart) (t : TableRows) (to : List ℕ) (row : Head) → ArePlaced placed (rename_inbox_changes t to row)
moving_placed placed t to row =
    let rows = messages_of row.id t.marks.mailbox_messages in
    let next = t.heads.counters.next in (
      tt,
      (
        tt,
        placed_both placed (entry_insertions (moved_rows next 1 2 rows)) _ (entries_placed placed (moved_rows next 1 2 rows))
            (placed_both placed (flag_row_insertions (moved_flags next 1 t.marks.flags rows)) _ (flags_placed placed (moved_flags next 1 t.marks.flags rows))
            (placed_both placed (flag_row_removals (flags_of row.id t.marks.flags)) _ (no_flags_placed placed (flags_of row.id t.marks.flags))
            (placed_both placed (entry_removals row.id (uids_of row.id t.marks.mailbox_messages)) _ (no_entries_placed placed row.id (uids_of row.id t.marks.mailbox_messages))
            (placed_both placed (gone_insertions (gone_rows (row.highest + 1) rows)) (emptied row rows) (gone_placed placed (gone_rows (row.highest + 1) rows)) (emptied_placed placed row rows))))),
      ),
    )
