-- The changes by which the messages of INBOX go to a new mailbox, over any tables.
use Rattle.std.proofs.Common.{ℕ, ◌≡◌, ◌+◌, ◌==◌, Bool, true, false, cond, List, [], ◌∷◌, map, Option, Some, None, refl, sym, ap, subst, ◌∙◌}
use Rattle.std.specs.Prelude.{◌&&◌, IsSomeAnd, is_some}
use Rattle.std.specs.List.{AllByRecursion, filter, list_any}
use Rattle.std.specs.Option.{option_or}
use Rattle.std.proofs.lemmas.Bool.{true≢false, false≢true, eqb-true, eq-eqb, ne_eqb, or_left, or_right}
use Rattle.std.proofs.lemmas.Option.{none-some}
use Rattle.ordered_rows.specs.RowKey.{RowKey, number_key, same_key}
use Rattle.ordered_rows.specs.Listed.{IsInOrder, row_at, has_key, with_replaced}
use Rattle.ordered_rows.specs.InsertLaws.{InsertLaws}
use Rattle.row_tables.specs.Keys.{uid_key, uid_flag_key, mailbox_key, mailbox_message_key, deleted_message_key, flag_key}
use Rattle.row_tables.specs.TableRows.{TableRows}
use Rattle.row_tables.specs.References.{FlagRefers, HasMailbox, HasFlagName, HasMessage, HasUser, MailboxMessageRefers, MailboxRefers, flags_of, uids_of}
use Rattle.row_tables.specs.InTurn.{AreNewEntries, ArePlainEntries, AreNewGone}
use Rattle.row_tables.specs.Fits.{Runs}
use Rattle.row_tables.specs.declared.heads.Mailbox.{Mailbox as Head}
use Rattle.row_tables.specs.declared.marks.MailboxMessage.{MailboxMessage}
use Rattle.row_tables.specs.declared.marks.FlagRow.{FlagRow}
use Rattle.mail_stands.specs.MovingInbox.{CanMove, emptied, gone_rows, messages_of, moved_flags, moved_rows, rename_inbox_changes, taking_mailbox}
use Rattle.mail_stands.specs.Leading.{KeepsOwners}
use Rattle.mail_stands.specs.Stands.{AreWhole}
use Rattle.mail_stands.proofs.Apart.{apart_filter, moved_apart, moved_flags_apart, ordered_apart}
use Rattle.mail_stands.proofs.Batches.{AreApart, Itself, Removes, at_with_rows, at_without_rows, with_rows}
use Rattle.mail_stands.proofs.Counting.{Places}
use Rattle.mail_stands.proofs.InTurns.{AreFlagRows, AreNewFlagRows, entries_run, entry_removals_run, flag_removals_run, flag_rows_run, gone_run, with_entries, with_flag_rows, with_gone_rows, without_entries, without_flag_rows}
use Rattle.mail_stands.proofs.Lists.{all-weaker, all_both, all-filter, all-map, all_found, none_there}
use Rattle.mail_stands.proofs.MovedRows.{none_elsewhere}
use Rattle.mail_stands.proofs.MovingFits.{new_entries, new_flag_rows, no_flags_at, none_of, with_taking}
use Rattle.mail_stands.proofs.Owners.{SameKeys, Replaces, has_owner as has_owner_of, insert_keeps, replaced_owner}

-- the laws that are used
pub record MoveLaws : Type 0 where
  pub same : SameKeys
  pub itself : Itself
  pub places : Places
  pub boxes : InsertLaws mailbox_key
  pub entries : InsertLaws mailbox_message_key
  pub flags : InsertLaws flag_key
  pub gone : InsertLaws deleted_message_key
  pub no_entries : Removes mailbox_message_key
  pub no_flags : Removes flag_key

-- in order, each row is the one at its key
pub record AtKeys : Type 0 where
  pub entries : (rows : List MailboxMessage) → IsInOrder mailbox_message_key rows → AllByRecursion (λ r. row_at mailbox_message_key (mailbox_message_key r) rows ≡ Some r) rows
  pub flags : (rows : List FlagRow) → IsInOrder flag_key rows → AllByRecursion (λ r. row_at flag_key (flag_key r) rows ≡ Some r) rows

abbrev pub emptied_heads : Head → List MailboxMessage → List Head → List Head
emptied_heads inbox [] heads = heads
emptied_heads inbox (row ∷ rows) heads = with_replaced mailbox_key (record inbox { highest = inbox.highest + 1 }) heads

abbrev pub emptied_tables : TableRows → Head → List MailboxMessage → TableRows
emptied_tables t inbox rows = record t { heads = record t.heads { mailboxes = emptied_heads inbox rows t.heads.mailboxes } }

-- what passes the test of a number has it
pub passing_is : {X : Type 0} (f : X → ℕ) (id : ℕ) (xs : List X) → AllByRecursion (λ x. f x ≡ id) (filter (λ x. f x == id) xs)
passing_is f id [] = tt
passing_is f id (x ∷ xs) = by (f x == id) refl (passing_is f id xs)
  where
    by : (b : Bool) → (f x == id) ≡ b → AllByRecursion (λ y. f y ≡ id) (filter (λ y. f y == id) xs) → AllByRecursion (λ y. f y ≡ id) (cond b (x ∷ filter (λ y. f y == id) xs) (filter (λ y. f y == id) xs))
    by true e rest = (eqb-true (f x) id e, rest)
    by false e rest = rest

module _ (laws : MoveLaws) (at_keys : AtKeys) (t : TableRows) (to : List ℕ) (inbox : Head) (whole : AreWhole t) (can : CanMove t to inbox) where
  abbrev next : ℕ
  next = t.heads.counters.next

  abbrev rows : List MailboxMessage
  rows = messages_of inbox.id t.marks.mailbox_messages

  abbrev moved : List MailboxMessage
  moved = moved_rows next 1 2 rows

  abbrev their_flags : List FlagRow
  their_flags = moved_flags next 1 t.marks.flags rows

  abbrev own_flags : List FlagRow
  own_flags = flags_of inbox.id t.marks.flags

  abbrev uids : List ℕ
  uids = uids_of inbox.id t.marks.mailbox_messages

  abbrev made : TableRows
  made = with_taking t (taking_mailbox next to inbox rows)

  abbrev pub filled : TableRows
  filled = with_flag_rows (with_entries made moved) their_flags

  abbrev unflagged : TableRows
  unflagged = without_flag_rows filled own_flags

  abbrev pub moved_tables : TableRows
  moved_tables = with_gone_rows (without_entries unflagged inbox.id uids) (gone_rows (inbox.highest + 1) rows)

  -- INBOX is another mailbox than the new one
  pub apart_from : (next == inbox.id) ≡ false
  apart_from = ne_eqb next inbox.id (λ same. none-some inbox (sym (subst (λ k. row_at mailbox_key (number_key k) t.heads.mailboxes ≡ None) same can.free) ∙ can.there))

  pub no_messages : (u : ℕ) → row_at mailbox_message_key (uid_key next u) t.marks.mailbox_messages ≡ None
  no_messages u =
      none_of mailbox_message_key laws.same t next can.free t.marks.mailbox_messages (all-weaker (MailboxMessageRefers t) (λ r. HasMailbox t r.mailbox) (λ r refers. refers.0) t.marks.mailbox_messages whole.closed.mailbox_messages) (uid_key next u) refl

  pub no_flags : (u f : ℕ) → row_at flag_key (uid_flag_key next u f) t.marks.flags ≡ None
  no_flags u f = none_of flag_key laws.same t next can.free t.marks.flags (all-weaker (FlagRefers t) (λ r. HasMailbox t r.mailbox) (λ r refers. refers.0) t.marks.flags whole.closed.flags) (uid_flag_key next u f) refl

  new_there : HasMailbox made next
  new_there = ap is_some (laws.boxes.same (taking_mailbox next to inbox rows) t.heads.mailboxes)

  inbox_there : HasMailbox made inbox.id
  inbox_there = ap is_some (insert_keeps laws.same mailbox_key laws.boxes (taking_mailbox next to inbox rows) inbox (number_key inbox.id) t.heads.mailboxes can.free can.there)

  -- the rows of INBOX's messages
  pub same_mailbox : AllByRecursion (λ r. r.mailbox ≡ inbox.id) rows
  same_mailbox = passing_is (λ r. r.mailbox) inbox.id t.marks.mailbox_messages

  pub entries_apart : AreApart mailbox_message_key rows
  entries_apart = apart_filter mailbox_message_key (λ r. r.mailbox == inbox.id) t.marks.mailbox_messages (ordered_apart mailbox_message_key laws.same laws.places t.marks.mailbox_messages whole.ordered.mailbox_messages)

  flags_apart : AreApart flag_key t.marks.flags
  flags_apart = ordered_apart flag_key laws.same laws.places t.marks.flags whole.ordered.flags

  -- ---- the new messages

  pub entry_there : (k : RowKey) → row_at mailbox_message_key k (with_rows mailbox_message_key moved t.marks.mailbox_messages) ≡ option_or (row_at mailbox_message_key k moved) (row_at mailbox_message_key k t.marks.mailbox_messages)
  entry_there k = at_with_rows mailbox_message_key laws.same laws.itself laws.entries k moved t.marks.mailbox_messages (moved_apart next 1 2 rows)

  pub flag_there : (k : RowKey) → row_at flag_key k filled.marks.flags ≡ option_or (row_at flag_key k their_flags) (row_at flag_key k t.marks.flags)
  flag_there k = at_with_rows flag_key laws.same laws.itself laws.flags k their_flags t.marks.flags (moved_flags_apart next 1 t.marks.flags rows flags_apart)

  some_or : {X : Type 0} (a b : Option X) → is_some a ≡ true → is_some (option_or a b) ≡ true
  some_or None b e = absurd (false≢true e)
  some_or (Some x) b e = refl

  or_some : {X : Type 0} (a b : Option X) → is_some b ≡ true → is_some (option_or a b) ≡ true
  or_some None b e = e
  or_some (Some x) b e = refl

  entries_new : AreNewEntries made moved
  entries_new = new_entries made next new_there no_messages 1 2 rows
      (all-filter (λ r. HasMessage t r.message) (λ r. r.mailbox == inbox.id) t.marks.mailbox_messages
      (all-weaker (MailboxMessageRefers t) (λ r. HasMessage t r.message) (λ r refers. refers.1) t.marks.mailbox_messages whole.closed.mailbox_messages))

  flags_new : AreNewFlagRows (with_entries made moved) their_flags
  flags_new = new_flag_rows (with_entries made moved) next new_there no_flags t.marks.flags
      (all-weaker (FlagRefers t) (λ r. HasFlagName t r.flag) (λ r refers. refers.2) t.marks.flags whole.closed.flags) flags_apart 1 2 rows
      (λ u at. ap is_some (entry_there (uid_key next u)) ∙ some_or (row_at mailbox_message_key (uid_key next u) moved) (row_at mailbox_message_key (uid_key next u) t.marks.mailbox_messages) at)

  -- ---- the flags that go

  are_rows : (own : List FlagRow) → AllByRecursion (λ r. row_at flag_key (flag_key r) t.marks.flags ≡ Some r) own → AreApart flag_key own → AreFlagRows filled own
  are_rows [] there apart = tt
  are_rows (r ∷ own) there apart =
      (ap is_some (flag_there (flag_key r)) ∙ or_some (row_at flag_key (flag_key r) their_flags) (row_at flag_key (flag_key r) t.marks.flags) (ap is_some there.0), apart.0, are_rows own there.1 apart.1)

  flags_are : AreFlagRows filled own_flags
  flags_are = are_rows own_flags
      (all-filter (λ r. row_at flag_key (flag_key r) t.marks.flags ≡ Some r) (λ r. r.mailbox == inbox.id) t.marks.flags (at_keys.flags t.marks.flags whole.ordered.flags))
      (apart_filter flag_key (λ r. r.mailbox == inbox.id) t.marks.flags flags_apart)

  -- a row of the mailbox is among those that are taken
  among_own : (u f : ℕ) (all : List FlagRow) → is_some (row_at flag_key (uid_flag_key inbox.id u f) all) ≡ true → list_any (λ j. same_key j (uid_flag_key inbox.id u f)) (map flag_key (flags_of inbox.id all)) ≡ true
  among_own u f [] e = absurd (false≢true e)
  among_own u f (x ∷ all) e = by (x.mailbox == inbox.id) (has_key flag_key (uid_flag_key inbox.id u f) x) refl refl e (among_own u f all)
    where
      by : (b c : Bool) → (x.mailbox == inbox.id) ≡ b → has_key flag_key (uid_flag_key inbox.id u f) x ≡ c → is_some (cond c (Some x) (row_at flag_key (uid_flag_key inbox.id u f) all)) ≡ true
          → (is_some (row_at flag_key (uid_flag_key inbox.id u f) all) ≡ true → list_any (λ j. same_key j (uid_flag_key inbox.id u f)) (map flag_key (flags_of inbox.id all)) ≡ true)
          → list_any (λ j. same_key j (uid_flag_key inbox.id u f)) (map flag_key (cond b (x ∷ flags_of inbox.id all) (flags_of inbox.id all))) ≡ true
      by true true at here some rest = or_left (has_key flag_key (uid_flag_key inbox.id u f) x) (list_any (λ j. same_key j (uid_flag_key inbox.id u f)) (map flag_key (flags_of inbox.id all))) here
      by true false at here some rest = or_right (has_key flag_key (uid_flag_key inbox.id u f) x) (list_any (λ j. same_key j (uid_flag_key inbox.id u f)) (map flag_key (flags_of inbox.id all))) (rest some)
      by false true at here some rest = absurd (true≢false (sym (eq-eqb x.mailbox inbox.id (ap (λ (j : RowKey). j.number) (laws.same (flag_key x) (uid_flag_key inbox.id u f) here))) ∙ at))
      by false false at here some rest = rest some

  pub unflagged_at : (u f : ℕ) → row_at flag_key (uid_flag_key inbox.id u f) unflagged.marks.flags ≡ None
  unflagged_at u f =
      at_without_rows flag_key laws.same laws.no_flags (uid_flag_key inbox.id u f) (map flag_key own_flags) filled.marks.flags
      ∙ ap (cond (list_any (λ j. same_key j (uid_flag_key inbox.id u f)) (map flag_key own_flags)) None) (flag_there (uid_flag_key inbox.id u f) ∙ ap (λ o. option_or o (row_at flag_key (uid_flag_key inbox.id u f) t.marks.flags)) (none_there (row_at flag_key (uid_flag_key inbox.id u f) their_flags) (none_elsewhere next t.marks.flags 1 inbox.id u f rows apart_from)))
      ∙ by (row_at flag_key (uid_flag_key inbox.id u f) t.marks.flags) refl
    where
      none_either : (b : Bool) (o : Option FlagRow) → o ≡ None → cond b None o ≡ None
      none_either true o e = refl
      none_either false o e = e

      by : (o : Option FlagRow) → row_at flag_key (uid_flag_key inbox.id u f) t.marks.flags ≡ o → cond (list_any (λ j. same_key j (uid_flag_key inbox.id u f)) (map flag_key own_flags)) None o ≡ None
      by None e = none_either (list_any (λ j. same_key j (uid_flag_key inbox.id u f)) (map flag_key own_flags)) None refl
      by (Some x) e = ap (λ b. cond b None (Some x)) (among_own u f t.marks.flags (ap is_some e))

  -- ---- the messages that go

  plain_rows : (own : List MailboxMessage) → AllByRecursion (λ r. row_at mailbox_message_key (mailbox_message_key r) t.marks.mailbox_messages ≡ Some r) own → AllByRecursion (λ r. r.mailbox ≡ inbox.id) own → AreApart mailbox_message_key own
      → ArePlainEntries unflagged inbox.id (map (λ r. r.uid) own)
  plain_rows [] there its apart = tt
  plain_rows (r ∷ own) there its apart = (
    ap is_some (entry_there (uid_key inbox.id r.uid))
        ∙ or_some (row_at mailbox_message_key (uid_key inbox.id r.uid) moved) (row_at mailbox_message_key (uid_key inbox.id r.uid) t.marks.mailbox_messages)
        (subst (λ m. is_some (row_at mailbox_message_key (uid_key m r.uid) t.marks.mailbox_messages) ≡ true) its.0 (ap is_some there.0)),
    no_flags_at laws.same laws.itself inbox.id r.uid unflagged.marks.flags (λ f. unflagged_at r.uid f),
    all-map (λ other. (r.uid == other) ≡ false) (λ x. x.uid) own (all_both (λ x. same_key (mailbox_message_key r) (mailbox_message_key x) ≡ false) (λ x. x.mailbox ≡ inbox.id) (λ x. (r.uid == x.uid) ≡ false) (uid_differs r its.0) own apart.0 its.1),
    plain_rows own there.1 its.1 apart.1,
  )
    where
      uid_differs : (r : MailboxMessage) → r.mailbox ≡ inbox.id → (x : MailboxMessage) → same_key (mailbox_message_key r) (mailbox_message_key x) ≡ false → x.mailbox ≡ inbox.id → (r.uid == x.uid) ≡ false
      uid_differs r at x differs its = by (r.uid == x.uid) refl
        where
          by : (b : Bool) → (r.uid == x.uid) ≡ b → b ≡ false
          by false e = refl
          by true e = absurd (true≢false (sym (ap (λ c. c && (r.mailbox == x.mailbox)) e ∙ eq-eqb r.mailbox x.mailbox (at ∙ sym its)) ∙ differs))

  rows_at_keys : AllByRecursion (λ r. row_at mailbox_message_key (mailbox_message_key r) t.marks.mailbox_messages ≡ Some r) rows
  rows_at_keys = all-filter (λ r. row_at mailbox_message_key (mailbox_message_key r) t.marks.mailbox_messages ≡ Some r) (λ r. r.mailbox == inbox.id) t.marks.mailbox_messages (at_keys.entries t.marks.mailbox_messages whole.ordered.mailbox_messages)

  entries_plain : ArePlainEntries unflagged inbox.id uids
  entries_plain = plain_rows rows rows_at_keys same_mailbox entries_apart

  -- ---- the gone ones that come

  new_gone : (own : List MailboxMessage) → AllByRecursion (λ r. row_at deleted_message_key (uid_key r.mailbox r.uid) t.marks.deleted_messages ≡ None) own → AllByRecursion (λ r. r.mailbox ≡ inbox.id) own → AreApart mailbox_message_key own
      → AreNewGone (without_entries unflagged inbox.id uids) (gone_rows (inbox.highest + 1) own)
  new_gone [] none its apart = tt
  new_gone (r ∷ own) none its apart =
      (none.0, subst (HasMailbox made) (sym its.0) inbox_there, all-map (λ x. same_key (uid_key r.mailbox r.uid) (deleted_message_key x) ≡ false) (λ x. record { mailbox = x.mailbox; uid = x.uid; modseq = inbox.highest + 1 }) own apart.0, new_gone own none.1 its.1 apart.1)

  -- ---- all of them

  has_owner : HasUser t inbox.owner
  has_owner = all_found (MailboxRefers t) (has_key mailbox_key (number_key inbox.id)) t.heads.mailboxes inbox whole.closed.mailboxes can.there

  emptied_run : (own : List MailboxMessage) → Runs moved_tables (emptied inbox own) (emptied_tables moved_tables inbox own)
  emptied_run [] = refl
  emptied_run (row ∷ own) = ((can.inbox_text, inbox_there, has_owner), refl)

  pub moving_runs : Runs t (rename_inbox_changes t to inbox) (emptied_tables moved_tables inbox rows)
  moving_runs = (
    (can.text, can.free, has_owner),
    (
      tt,
      entries_run laws.entries made moved _ _ entries_new
          (flag_rows_run laws.flags (with_entries made moved) their_flags _ _ flags_new
          (flag_removals_run laws.no_flags filled own_flags _ _ flags_are
          (entry_removals_run laws.no_entries inbox.id unflagged uids _ _ entries_plain
          (gone_run laws.gone (without_entries unflagged inbox.id uids) (gone_rows (inbox.highest + 1) rows) _ _ (new_gone rows can.gone same_mailbox entries_apart) (emptied_run rows))))),
    ),
  )

  -- ---- owners

  heads_keep : Replaces → (own : List MailboxMessage) (id : ℕ) (row : Head) → row_at mailbox_key (number_key id) t.heads.mailboxes ≡ Some row
      → IsSomeAnd (row_at mailbox_key (number_key id) (emptied_heads inbox own made.heads.mailboxes)) (λ now. now.owner ≡ row.owner)
  heads_keep replaces own id row found = by own
    where
      still : (k : ℕ) (r : Head) → row_at mailbox_key (number_key k) t.heads.mailboxes ≡ Some r → row_at mailbox_key (number_key k) made.heads.mailboxes ≡ Some r
      still k r at = insert_keeps laws.same mailbox_key laws.boxes (taking_mailbox next to inbox rows) r (number_key k) t.heads.mailboxes can.free at

      by : (own : List MailboxMessage) → IsSomeAnd (row_at mailbox_key (number_key id) (emptied_heads inbox own made.heads.mailboxes)) (λ now. now.owner ≡ row.owner)
      by [] = has_owner_of (row_at mailbox_key (number_key id) made.heads.mailboxes) row (still id row found)
      by (x ∷ own) = replaced_owner laws.same replaces made.heads.mailboxes inbox.id inbox (record inbox { highest = inbox.highest + 1 }) refl refl (still inbox.id inbox can.there) id row (still id row found)

  pub moving_keeps : Replaces → KeepsOwners t (emptied_tables moved_tables inbox rows)
  moving_keeps replaces = record { users = λ id there. there; mailboxes = heads_keep replaces rows }
