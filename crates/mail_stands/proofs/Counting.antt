-- The UIDs of a mailbox's rows are those of its messages.
use Rattle.std.proofs.Common.{ℕ, ◌≡◌, ◌+◌, ◌<◌, ◌==◌, ◌&&◌, ◌||◌, Bool, true, false, cond, List, [], ◌∷◌, map, length, Option, Some, None, refl, sym, ap, subst, ◌∙◌}
use Rattle.std.specs.Prelude.{nat_lt, nat_le}
use Rattle.std.specs.Ordering.{is_lt}
use Rattle.std.specs.declared.cmp.Ordering.TheVariants.{Less}
use Rattle.std.specs.List.{AllByRecursion, find, filter}
use Rattle.std.specs.List.Sorted.{IsStrictlySortedBy}
use Rattle.std.specs.Option.{option_map, option_and_then}
use Rattle.std.proofs.lemmas.Bool.{eqb-true, ltb-true}
use Rattle.std.proofs.lemmas.List.{length-map}
use Rattle.std.proofs.Math.Bool.{or_assoc}
use Rattle.date_grammar.specs.declared.parts.Stamp.{Stamp}
use Rattle.imap_grammar.specs.declared.flags.Flag.{Flag}
use Rattle.mime_tree.specs.declared.reasons.Mail.{Mail}
use Rattle.ordered_rows.specs.RowKey.{RowKey, key_cmp, number_key}
use Rattle.ordered_rows.specs.Listed.{IsInOrder, row_at, row_cmp}
use Rattle.row_tables.specs.Keys.{uid_key, mailbox_key, mailbox_message_key}
use Rattle.row_tables.specs.TableRows.{TableRows}
use Rattle.row_tables.specs.References.{AreOrdered, uids_of}
use Rattle.row_tables.specs.declared.heads.Mailbox.{Mailbox as Head}
use Rattle.row_tables.specs.declared.marks.MailboxMessage.{MailboxMessage}
use Rattle.row_tables.specs.declared.contents.BodyPart.{BodyPart}
use Rattle.mail_world.specs.Flags.{distinct}
use Rattle.mail_world.specs.Worlds.{World, Mailbox, Entry, mailbox_at, entry_at}
use Rattle.mail_world.specs.Limits.{most_messages, most_flags, last_modseq}
use Rattle.mail_world.specs.Changes.{Refusal, Append, Full, NoUid, first_refusal}
use Rattle.mail_world.specs.Arrivals.{has_no_room, has_no_uids, unless_absent}
use Rattle.mail_world.specs.Applying.{refused}
use Rattle.mail_world.specs.Legal.{Ascend}
use Rattle.mail_stands.specs.Facts.{Tied, IsEntryRow, mails_in}
use Rattle.mail_stands.specs.Sameness.{InTurn}
use Rattle.mail_stands.specs.Stands.{Stands}
use Rattle.mail_stands.specs.Refusals as refusals
use Rattle.mail_stands.specs.Arriving.{append_refused, is_full, has_no_uid}
use Rattle.mail_stands.proofs.Lists.{number_is}
use Rattle.mail_stands.proofs.Frames.{head_row}
use Rattle.mail_stands.proofs.OneWorld.{pairs}

-- ---- the UIDs of rows

abbrev pub Places : Type 0
Places = (k : RowKey) (a b : ℕ) → is_lt (key_cmp (record k { place = a }) (record k { place = b })) ≡ nat_lt a b

uid_less : Places → (m u v : ℕ) → key_cmp (uid_key m u) (uid_key m v) ≡ Less → u < v
uid_less places m u v e = ltb-true u v (sym (places (uid_key m u) u v) ∙ ap is_lt e)

module _ (m : ℕ) where
  abbrev here : MailboxMessage → Bool
  here = λ r. r.mailbox == m

  each_above : Places → (x : MailboxMessage) → x.mailbox ≡ m → (ys : List MailboxMessage) → AllByRecursion (λ y. row_cmp mailbox_message_key x y ≡ Less) ys → AllByRecursion (λ u. x.uid < u) (map (λ r. r.uid) (filter here ys))
  each_above places x at [] all = tt
  each_above places x at (y ∷ ys) all = by (here y) refl (each_above places x at ys all.1)
    where
      by : (b : Bool) → here y ≡ b → AllByRecursion (λ u. x.uid < u) (map (λ r. r.uid) (filter here ys)) → AllByRecursion (λ u. x.uid < u) (map (λ r. r.uid) (cond b (y ∷ filter here ys) (filter here ys)))
      by true q rest =
          let first = subst (λ n. key_cmp (uid_key n x.uid) (uid_key y.mailbox y.uid) ≡ Less) at all.0 in
          (uid_less places m x.uid y.uid (subst (λ n. key_cmp (uid_key m x.uid) (uid_key n y.uid) ≡ Less) (eqb-true y.mailbox m q) first), rest)
      by false q rest = rest

  pub uids_ascend : Places → (rows : List MailboxMessage) → IsInOrder mailbox_message_key rows → Ascend (uids_of m rows)
  unfolding IsStrictlySortedBy
  uids_ascend places [] order = tt
  uids_ascend places (x ∷ rows) order = by (here x) refl (uids_ascend places rows order.1)
    where
      by : (b : Bool) → here x ≡ b → Ascend (uids_of m rows) → Ascend (map (λ r. r.uid) (cond b (x ∷ filter here rows) (filter here rows)))
      by true q rest = (each_above places x (eqb-true x.mailbox m q) rows order.0, rest)
      by false q rest = rest

  -- the row of a UID
  pub row_of : (uid : ℕ) (rows : List MailboxMessage) → find (λ r. r.uid == uid) (filter here rows) ≡ row_at mailbox_message_key (uid_key m uid) rows
  row_of uid [] = refl
  row_of uid (r ∷ rows) = by (here r) (r.uid == uid) refl (row_of uid rows)
    where
      by : (b c : Bool) → (r.uid == uid) ≡ c → find (λ x. x.uid == uid) (filter here rows) ≡ row_at mailbox_message_key (uid_key m uid) rows
          → find (λ x. x.uid == uid) (cond b (r ∷ filter here rows) (filter here rows)) ≡ cond (c && b) (Some r) (row_at mailbox_message_key (uid_key m uid) rows)
      by true true e rest = ap (λ d. cond d (Some r) (find (λ x. x.uid == uid) (filter here rows))) e
      by true false e rest = ap (λ d. cond d (Some r) (find (λ x. x.uid == uid) (filter here rows))) e ∙ rest
      by false true e rest = rest
      by false false e rest = rest

module _ (content : BodyPart → List ℕ) (t : TableRows) (world : World) (id : ℕ) (m : Mailbox) (s : Stands content t world) (at : mailbox_at id world.mailboxes ≡ Some m) where
  abbrev rows : List MailboxMessage
  rows = filter (λ r. r.mailbox == id) t.marks.mailbox_messages

  each_uid : (uid : ℕ) → Tied (λ (r : MailboxMessage) (e : Entry). r.uid ≡ e.uid) (find (λ r. r.uid == uid) rows) (entry_at uid m.entries)
  each_uid uid =
      by (find (λ r. r.uid == uid) rows) (entry_at uid m.entries) refl refl
      (subst (λ o. Tied (IsEntryRow (mails_in content t)) o (entry_at uid m.entries)) (sym (row_of id uid t.marks.mailbox_messages))
      (subst (λ o. Tied (IsEntryRow (mails_in content t)) (row_at mailbox_message_key (uid_key id uid) t.marks.mailbox_messages) (option_and_then (λ x. entry_at uid x.entries) o)) at (s.entries id uid)))
    where
      by : (o : Option MailboxMessage) (p : Option Entry) → find (λ r. r.uid == uid) rows ≡ o → entry_at uid m.entries ≡ p → Tied (IsEntryRow (mails_in content t)) o p → Tied (λ (r : MailboxMessage) (e : Entry). r.uid ≡ e.uid) o p
      by None None e f tied = record { tie = tt }
      by None (Some y) e f tied = absurd tied.tie
      by (Some x) None e f tied = absurd tied.tie
      by (Some x) (Some y) e f tied = record { tie = number_is (λ (r : MailboxMessage). r.uid) uid rows x e ∙ sym (number_is (λ (n : Entry). n.uid) uid m.entries y f) }

  uids_in_turn : Places → AreOrdered t → InTurn (λ (r : MailboxMessage) (e : Entry). r.uid ≡ e.uid) rows m.entries
  uids_in_turn places ordered =
      pairs (λ r. r.uid) (λ e. e.uid) (λ (r : MailboxMessage) (e : Entry). r.uid ≡ e.uid) rows m.entries (uids_ascend id places t.marks.mailbox_messages ordered.mailbox_messages) (s.legal.mailboxes id m at).itself.uids each_uid

same_uids : (rs : List MailboxMessage) (entries : List Entry) → InTurn (λ (r : MailboxMessage) (e : Entry). r.uid ≡ e.uid) rs entries → map (λ r. r.uid) rs ≡ map (λ e. e.uid) entries
same_uids [] [] are = refl
same_uids [] (e ∷ entries) are = absurd are
same_uids (r ∷ rs) [] are = absurd are
same_uids (r ∷ rs) (e ∷ entries) are = ap (λ n. n ∷ map (λ x. x.uid) rs) are.0 ∙ ap (λ rest. e.uid ∷ rest) (same_uids rs entries are.1)

-- the UIDs of a mailbox are those of its messages
pub uids_are : Places → (content : BodyPart → List ℕ) (t : TableRows) (world : World) (id : ℕ) (m : Mailbox) → AreOrdered t → Stands content t world → mailbox_at id world.mailboxes ≡ Some m
    → uids_of id t.marks.mailbox_messages ≡ map (λ entry. entry.uid) m.entries
uids_are places content t world id m ordered s at = same_uids (filter (λ r. r.mailbox == id) t.marks.mailbox_messages) m.entries (uids_in_turn content t world id m s at places ordered)

-- ---- what an append refuses

abbrev reason : TableRows → ℕ → Head → Option Refusal
reason t count row = first_refusal ((is_full t count row, Full) ∷ (has_no_uid row, NoUid) ∷ [])

pub append_same : Places → (content : BodyPart → List ℕ) (t : TableRows) (world : World) (id : ℕ) (flags : List Flag) (date : Stamp) (mail : Mail) (taken : Bool) → AreOrdered t → Stands content t world
    → append_refused t id flags ≡ refused world (Append id flags date mail taken)
unfolding refused
append_same places content t world id flags date mail taken ordered s =
    ap (λ rows. refusals.unless_absent (row_at mailbox_key (number_key id) rows) (reason t (length (distinct flags)))) s.mailboxes
    ∙ ap (λ o. refusals.unless_absent o (reason t (length (distinct flags)))) (head_row id world.mailboxes)
    ∙ by (mailbox_at id world.mailboxes) refl
  where
    counted : (m : Mailbox) → mailbox_at id world.mailboxes ≡ Some m → length (uids_of m.head.id t.marks.mailbox_messages) ≡ length m.entries
    counted m at =
        ap (λ k. length (uids_of k t.marks.mailbox_messages)) (number_is (λ x. x.head.id) id world.mailboxes m at)
        ∙ ap length (uids_are places content t world id m ordered s at) ∙ length-map m.entries (λ entry. entry.uid)

    by : (o : Option Mailbox) → mailbox_at id world.mailboxes ≡ o
        → refusals.unless_absent (option_map (λ m. m.head) o) (reason t (length (distinct flags))) ≡ unless_absent o (λ m. first_refusal ((nat_lt most_flags (length (distinct flags)) || has_no_room 1 m, Full) ∷ (has_no_uids 1 m, NoUid) ∷ []))
    by None e = refl
    by (Some m) e =
        ap (λ n. first_refusal ((nat_lt most_flags (length (distinct flags)) || nat_lt most_messages (n + 1) || nat_le last_modseq m.head.highest, Full) ∷ (has_no_uid m.head, NoUid) ∷ [])) (counted m e)
        ∙ ap (λ b. first_refusal ((b, Full) ∷ (has_no_uid m.head, NoUid) ∷ [])) (or_assoc (nat_lt most_flags (length (distinct flags))) (nat_lt most_messages (length m.entries + 1)) (nat_le last_modseq m.head.highest))
