-- The changes by which the messages of INBOX go to a new mailbox fit one after another.
use Rattle.std.proofs.Common.{ℕ, ◌≡◌, ◌+◌, ◌==◌, Bool, true, false, cond, List, [], ◌∷◌, ◌++◌, Option, Some, None, refl, sym, ap, subst, ◌∙◌}
use Rattle.std.specs.Prelude.{◌&&◌, is_some}
use Rattle.std.specs.List.{AllByRecursion}
use Rattle.std.proofs.lemmas.Bool.{false≢true, and_from, and_parts, eqb-true, eq-eqb}
use Rattle.std.proofs.lemmas.Option.{none-some}
use Rattle.ordered_rows.specs.RowKey.{RowKey, number_key, same_key}
use Rattle.ordered_rows.specs.Listed.{row_at, has_key, with_row}
use Rattle.row_tables.specs.Keys.{uid_key, uid_flag_key, mailbox_key, mailbox_message_key, flag_key}
use Rattle.row_tables.specs.TableRows.{TableRows}
use Rattle.row_tables.specs.References.{HasFlagName, HasMailbox, HasMailboxMessage, HasMessage, flags_at}
use Rattle.row_tables.specs.InTurn.{AreNewEntries}
use Rattle.row_tables.specs.declared.heads.Mailbox.{Mailbox as Head}
use Rattle.row_tables.specs.declared.marks.MailboxMessage.{MailboxMessage}
use Rattle.row_tables.specs.declared.marks.FlagRow.{FlagRow}
use Rattle.mail_world.specs.Users.{next_id}
use Rattle.mail_stands.specs.MovingInbox.{flag_ids_of, moved_flags, moved_rows}
use Rattle.mail_stands.proofs.Apart.{flags_for, moved_apart, moved_flags_apart}
use Rattle.mail_stands.proofs.Batches.{AreApart}
use Rattle.mail_stands.proofs.InTurns.{AreNewFlagRows}
use Rattle.mail_stands.proofs.Lists.{all-filter, all-map, all_found, find_passes}
use Rattle.mail_stands.proofs.Owners.{SameKeys}

-- ---- a mailbox that isn't there has no rows

module _ {X : Type 0} (key : X → RowKey) (same : SameKeys) (t : TableRows) (id : ℕ) (free : row_at mailbox_key (number_key id) t.heads.mailboxes ≡ None) where
  pub none_of : (rows : List X) → AllByRecursion (λ row. HasMailbox t (key row).number) rows → (k : RowKey) → k.number ≡ id → row_at key k rows ≡ None
  none_of rows refer k is = by (row_at key k rows) refl
    where
      by : (o : Option X) → row_at key k rows ≡ o → o ≡ None
      by None e = refl
      by (Some row) e =
          let its = ap (λ (j : RowKey). j.number) (same (key row) k (find_passes (has_key key k) rows row e)) ∙ is in
          let there = subst (HasMailbox t) its (all_found (λ r. HasMailbox t (key r).number) (has_key key k) rows row refer e) in
          absurd (false≢true (sym (ap is_some free) ∙ there))

-- ---- new messages

abbrev pub with_taking : TableRows → Head → TableRows
with_taking t new = record t { heads = record t.heads { mailboxes = with_row mailbox_key new t.heads.mailboxes; counters = record { next = next_id t.heads.counters.next } } }

module _ (t : TableRows) (id : ℕ) (box : HasMailbox t id) where
  pub new_entries : ((u : ℕ) → row_at mailbox_message_key (uid_key id u) t.marks.mailbox_messages ≡ None) → (uid modseq : ℕ) (rows : List MailboxMessage) → AllByRecursion (λ row. HasMessage t row.message) rows
      → AreNewEntries t (moved_rows id uid modseq rows)
  new_entries none uid modseq [] has = tt
  new_entries none uid modseq (row ∷ rows) has = (none uid, (box, has.0), (moved_apart id uid modseq (row ∷ rows)).0, new_entries none (uid + 1) modseq rows has.1)

-- a message that was moved is found
there_first : (id uid modseq : ℕ) (row : MailboxMessage) (rows : List MailboxMessage) → is_some (row_at mailbox_message_key (uid_key id uid) (moved_rows id uid modseq (row ∷ rows))) ≡ true
there_first id uid modseq row rows =
    ap (λ b. is_some (cond b (Some (record row { mailbox = id; uid = uid; modseq = modseq })) (row_at mailbox_message_key (uid_key id uid) (moved_rows id (uid + 1) modseq rows)))) (and_from (uid == uid) (id == id) (eq-eqb uid uid refl) (eq-eqb id id refl))

there_later : (id uid modseq u : ℕ) (row : MailboxMessage) (rows : List MailboxMessage) → is_some (row_at mailbox_message_key (uid_key id u) (moved_rows id (uid + 1) modseq rows)) ≡ true
    → is_some (row_at mailbox_message_key (uid_key id u) (moved_rows id uid modseq (row ∷ rows))) ≡ true
there_later id uid modseq u row rows there = by ((uid == u) && (id == id))
  where
    by : (b : Bool) → is_some (cond b (Some (record row { mailbox = id; uid = uid; modseq = modseq })) (row_at mailbox_message_key (uid_key id u) (moved_rows id (uid + 1) modseq rows))) ≡ true
    by true = refl
    by false = there

-- ---- their flags

module _ (t : TableRows) (id : ℕ) (box : HasMailbox t id) (none : (u f : ℕ) → row_at flag_key (uid_flag_key id u f) t.marks.flags ≡ None) (flags : List FlagRow) (named : AllByRecursion (λ r. HasFlagName t r.flag) flags) (apart : AreApart flag_key flags) where
  own_named : (row : MailboxMessage) → AllByRecursion (λ i. HasFlagName t i) (flag_ids_of row flags)
  own_named row = all-map (λ i. HasFlagName t i) (λ r. r.flag) (flags_at row.mailbox row.uid flags) (all-filter (λ r. HasFlagName t r.flag) (λ r. (r.uid == row.uid) && (r.mailbox == row.mailbox)) flags named)

  apart_parts : (xs ys : List FlagRow) (x : FlagRow) → AreApart flag_key ((x ∷ xs) ++ ys) → AllByRecursion (λ y. same_key (flag_key x) (flag_key y) ≡ false) (xs ++ ys)
  apart_parts xs ys x apart = apart.0

  first_flags : (uid : ℕ) (ids : List ℕ) (rest : List FlagRow) → HasMailboxMessage t id uid → AllByRecursion (λ i. HasFlagName t i) ids → AreApart flag_key (flags_for id uid ids ++ rest) → AreNewFlagRows t rest → AreNewFlagRows t (flags_for id uid ids ++ rest)
  first_flags uid [] rest there has apart_all new = new
  first_flags uid (i ∷ ids) rest there has apart_all new = (none uid i, (box, there, has.0), apart_all.0, first_flags uid ids rest there has.1 apart_all.1 new)

  pub new_flag_rows : (uid modseq : ℕ) (rows : List MailboxMessage) → ((u : ℕ) → is_some (row_at mailbox_message_key (uid_key id u) (moved_rows id uid modseq rows)) ≡ true → HasMailboxMessage t id u) → AreNewFlagRows t (moved_flags id uid flags rows)
  new_flag_rows uid modseq [] there = tt
  new_flag_rows uid modseq (row ∷ rows) there =
      first_flags uid (flag_ids_of row flags) (moved_flags id (uid + 1) flags rows) (there uid (there_first id uid modseq row rows)) (own_named row) (moved_flags_apart id uid flags (row ∷ rows) apart)
      (new_flag_rows (uid + 1) modseq rows (λ u at. there u (there_later id uid modseq u row rows at)))

-- ---- rows that aren't found are none

module _ (same : SameKeys) (itself : (a : RowKey) → same_key a a ≡ true) (mailbox uid : ℕ) where
  pub no_flags_at : (rows : List FlagRow) → ((f : ℕ) → row_at flag_key (uid_flag_key mailbox uid f) rows ≡ None) → flags_at mailbox uid rows ≡ []
  no_flags_at [] none = refl
  no_flags_at (x ∷ rows) none = by ((x.uid == uid) && (x.mailbox == mailbox)) refl (no_flags_at rows (λ f. rest (has_key flag_key (uid_flag_key mailbox uid f) x) f (none f)))
    where
      rest : (b : Bool) (f : ℕ) → cond b (Some x) (row_at flag_key (uid_flag_key mailbox uid f) rows) ≡ None → row_at flag_key (uid_flag_key mailbox uid f) rows ≡ None
      rest true f e = absurd (none-some x (sym e))
      rest false f e = e

      by : (b : Bool) → ((x.uid == uid) && (x.mailbox == mailbox)) ≡ b → flags_at mailbox uid rows ≡ [] → cond b (x ∷ flags_at mailbox uid rows) (flags_at mailbox uid rows) ≡ []
      by false e later = later
      by true e later =
          let both = and_parts (x.uid == uid) (x.mailbox == mailbox) e in
          let key : flag_key x ≡ uid_flag_key mailbox uid x.flag = ap (λ u. uid_flag_key x.mailbox u x.flag) (eqb-true x.uid uid both.0) ∙ ap (λ m. uid_flag_key m uid x.flag) (eqb-true x.mailbox mailbox both.1) in
          absurd (none-some x (sym (none x.flag) ∙ ap (λ b. cond b (Some x) (row_at flag_key (uid_flag_key mailbox uid x.flag) rows)) (subst (λ k. same_key (flag_key x) k ≡ true) key (itself (flag_key x)))))
