-- A mailbox stays legal as messages come into it, and as its recents are taken.
use Rattle.std.proofs.Common.{ℕ, ◌≡◌, ◌+◌, ◌<◌, ◌≤◌, ◌==◌, Bool, false, List, [], ◌∷◌, ◌++◌, map, length, Option, Some, None, refl, sym, ap, subst, ◌∙◌, ⊎_elim, arith, length-append}
use Rattle.std.specs.Prelude.{nat_lt, nat_le, IsSome}
use Rattle.std.specs.List.{AllByRecursion}
use Rattle.std.specs.Option.{is_some}
use Rattle.std.proofs.lemmas.Bool.{true≢false, cond_both, ltb-false, leb-false}
use Rattle.std.proofs.lemmas.List.{map-append}
use Rattle.date_grammar.specs.Stamps.{HasPrint}
use Rattle.mail_world.specs.Worlds.{Mailbox, Entry, Gone, Message, entry_at, gone_at}
use Rattle.mail_world.specs.Limits.{most_messages, last_uid, last_modseq}
use Rattle.mail_world.specs.Arrivals.{numbered, with_messages}
use Rattle.mail_world.specs.Storing.{without_recents}
use Rattle.mail_world.specs.Legal.{IsLegalMailbox, IsLegalEntry, IsGiven, AreFlags, Ascend}
use Rattle.mail_world.proofs.Finding.{find-append_cases}
use Rattle.mail_world.proofs.Arriving.{numbered-at}
use Rattle.mail_world.proofs.Ascending.{all-weaker, all-map, all_found, ascend-append, listed, number_is}

-- a message that may come into a mailbox
pub record IsProperMessage (message : Message) : Type 0 where
  pub flags : AreFlags message.flags
  pub date : HasPrint message.date

pub given_more : (m n : Mailbox) (uid modseq : ℕ) → m.head.uidnext ≤ n.head.uidnext → m.head.highest ≤ n.head.highest → IsGiven m uid modseq → IsGiven n uid modseq
given_more m n uid modseq uids modseqs given = record { from_one = given.from_one; below_next = omega (arith, given.below_next, uids); reached = omega (arith, given.reached, modseqs) }

pub legal_more : (m n : Mailbox) (entry : Entry) → m.head.uidnext ≤ n.head.uidnext → m.head.highest ≤ n.head.highest → IsLegalEntry m entry → IsLegalEntry n entry
legal_more m n entry uids modseqs legal = record { given = given_more m n entry.uid entry.modseq uids modseqs legal.given; flags = legal.flags; date = legal.date }

numbered_from : (uid modseq : ℕ) (messages : List Message) → AllByRecursion (λ entry. uid ≤ entry.uid) (numbered uid modseq messages)
numbered_from uid modseq [] = tt
numbered_from uid modseq (message ∷ messages) =
    (omega arith, all-weaker (λ entry. uid + 1 ≤ entry.uid) (λ entry. uid ≤ entry.uid) (λ entry h. omega (arith, h)) (numbered (uid + 1) modseq messages) (numbered_from (uid + 1) modseq messages))

numbered_ascend : (uid modseq : ℕ) (messages : List Message) → Ascend (map (λ entry. entry.uid) (numbered uid modseq messages))
numbered_ascend uid modseq [] = tt
numbered_ascend uid modseq (message ∷ messages) = (
  all-map (λ n. uid < n) (λ entry. entry.uid) (numbered (uid + 1) modseq messages)
      (all-weaker (λ entry. uid + 1 ≤ entry.uid) (λ entry. uid < entry.uid) (λ entry h. omega (arith, h)) (numbered (uid + 1) modseq messages) (numbered_from (uid + 1) modseq messages)),
  numbered_ascend (uid + 1) modseq messages,
)

numbered_messages : (P : Message → Type 0) (uid modseq : ℕ) (messages : List Message) → AllByRecursion P messages → AllByRecursion (λ entry. P entry.message) (numbered uid modseq messages)
numbered_messages P uid modseq [] all = tt
numbered_messages P uid modseq (message ∷ messages) all = (all.0, numbered_messages P (uid + 1) modseq messages all.1)

numbered_length : (uid modseq : ℕ) (messages : List Message) → length (numbered uid modseq messages) ≡ length messages
numbered_length uid modseq [] = refl
numbered_length uid modseq (message ∷ messages) = omega (arith, numbered_length (uid + 1) modseq messages)

-- all entries of a mailbox are below its next UID
below_next : (m : Mailbox) → IsLegalMailbox m → AllByRecursion (λ entry. entry.uid < m.head.uidnext) m.entries
below_next m legal = listed (λ entry. entry.uid) (λ entry. entry.uid < m.head.uidnext) m.entries legal.uids (λ uid entry found. (legal.entries uid entry found).given.below_next)

grown : (m n : Mailbox) (more : List Entry) → IsLegalMailbox m → n.entries ≡ m.entries ++ more → n.gone ≡ m.gone
    → m.head.uidnext ≤ n.head.uidnext → n.head.uidnext ≤ last_uid + 1 → m.head.highest ≤ n.head.highest → n.head.highest ≤ last_modseq
    → (m.head.first_recent ≤ n.head.first_recent) × (n.head.first_recent ≤ n.head.uidnext)
    → Ascend (map (λ entry. entry.uid) more) → AllByRecursion (λ entry. m.head.uidnext ≤ entry.uid) more
    → ((uid : ℕ) (entry : Entry) → entry_at uid more ≡ Some entry → IsLegalEntry n entry) → length m.entries + length more ≤ most_messages → IsLegalMailbox n
grown m n more legal entries gone next last_next highest last_highest recent ascend from added few = record {
  uids = rw entries (subst Ascend (sym (map-append (λ entry. entry.uid) m.entries more))
      (ascend-append m.head.uidnext (map (λ entry. entry.uid) m.entries) (map (λ entry. entry.uid) more) legal.uids ascend
      (all-map (λ k. k < m.head.uidnext) (λ entry. entry.uid) m.entries (below_next m legal)) (all-map (λ k. m.head.uidnext ≤ k) (λ entry. entry.uid) more from)));
  gone_uids = rw gone legal.gone_uids;
  apart = λ uid there. rw gone (still_apart uid (entry_at uid n.entries) refl there);
  entries = λ uid entry found.
      ⊎_elim (λ old. legal_more m n entry next highest (legal.entries uid entry old)) (λ new. added uid entry new.1)
      (find-append_cases (λ e. e.uid == uid) m.entries more entry (ap (λ es. entry_at uid es) (sym entries) ∙ found));
  gone = λ uid pair found. given_more m n pair.uid pair.modseq next highest (legal.gone uid pair (ap (gone_at uid) (sym gone) ∙ found));
  recent = (omega (arith, legal.recent.0, recent.0), recent.1);
  uidnext = last_next;
  highest = last_highest;
  few = rw entries (omega (arith, length-append m.entries more, few));
}
  where
    below : (uid : ℕ) → m.head.uidnext ≤ uid → (o : Option Gone) → gone_at uid m.gone ≡ o → o ≡ None
    below uid high None e = refl
    below uid high (Some pair) e = absurd (too_high (legal.gone uid pair e).below_next (number_is (λ g. g.uid) uid m.gone pair e))
      where
        too_high : pair.uid < m.head.uidnext → pair.uid ≡ uid → ⊥
        too_high less same = omega (arith, less, same, high)

    still_apart : (uid : ℕ) (o : Option Entry) → entry_at uid n.entries ≡ o → IsSome o → gone_at uid m.gone ≡ None
    still_apart uid None e there = absurd (true≢false (sym there))
    still_apart uid (Some entry) e there =
        ⊎_elim (λ old. legal.apart uid (ap is_some old))
        (λ new. below uid (subst (λ k. m.head.uidnext ≤ k) (number_is (λ x. x.uid) uid more entry new.1) (all_found (λ x. m.head.uidnext ≤ x.uid) (λ x. x.uid == uid) more entry from new.1)) (gone_at uid m.gone) refl)
        (find-append_cases (λ x. x.uid == uid) m.entries more entry (ap (λ es. entry_at uid es) (sym entries) ∙ e))

pub more-legal : (taken : Bool) (messages : List Message) (m : Mailbox) → IsLegalMailbox m → AllByRecursion IsProperMessage messages
    → nat_lt most_messages (length m.entries + length messages) ≡ false → nat_le last_modseq m.head.highest ≡ false → nat_lt (last_uid + 1) (m.head.uidnext + length messages) ≡ false
    → IsLegalMailbox (with_messages taken messages m)
more-legal taken [] m legal proper room modseq uids = legal
more-legal taken (message ∷ messages) m legal proper room modseq uids =
    let n = with_messages taken (message ∷ messages) m in
    let count = length (message ∷ messages) in
    grown m n (numbered m.head.uidnext (m.head.highest + 1) (message ∷ messages)) legal refl refl
    (omega arith) (ltb-false (last_uid + 1) (m.head.uidnext + count) uids) (omega arith) (omega (arith, leb-false last_modseq m.head.highest modseq))
    (cond_both taken (m.head.uidnext + count) m.head.first_recent (λ first. (m.head.first_recent ≤ first) × (first ≤ m.head.uidnext + count))
    (λ e. (omega (arith, legal.recent.1), omega arith)) (λ e. (omega arith, omega (arith, legal.recent.1))))
    (numbered_ascend m.head.uidnext (m.head.highest + 1) (message ∷ messages)) (numbered_from m.head.uidnext (m.head.highest + 1) (message ∷ messages))
    (λ uid entry found. new_entry n (omega arith) refl uid entry found)
    (omega (arith, numbered_length m.head.uidnext (m.head.highest + 1) (message ∷ messages), ltb-false most_messages (length m.entries + count) room))
  where
    new_entry : (n : Mailbox) → m.head.uidnext + length (message ∷ messages) ≤ n.head.uidnext → n.head.highest ≡ m.head.highest + 1
        → (uid : ℕ) (entry : Entry) → entry_at uid (numbered m.head.uidnext (m.head.highest + 1) (message ∷ messages)) ≡ Some entry → IsLegalEntry n entry
    new_entry n next highest uid entry found =
        let at = numbered-at m.head.uidnext (m.head.highest + 1) uid (message ∷ messages) entry found in
        let here = number_is (λ e. e.uid) uid (numbered m.head.uidnext (m.head.highest + 1) (message ∷ messages)) entry found in
        let fine = all_found (λ e. IsProperMessage e.message) (λ e. e.uid == uid) (numbered m.head.uidnext (m.head.highest + 1) (message ∷ messages)) entry
        (numbered_messages IsProperMessage m.head.uidnext (m.head.highest + 1) (message ∷ messages) proper) found in
        record {
          given = record { from_one = omega (arith, at.from, here, legal.recent.0, legal.recent.1); below_next = omega (arith, at.below, here, next); reached = omega (arith, at.modseq_is, highest) };
          flags = fine.flags;
          date = fine.date;
        }

-- with another first recent UID
pub first-legal : (first : ℕ) (m : Mailbox) → IsLegalMailbox m → 1 ≤ first → first ≤ m.head.uidnext → IsLegalMailbox (record m { head = record m.head { first_recent = first } })
first-legal first m legal low high = record {
  uids = legal.uids;
  gone_uids = legal.gone_uids;
  apart = legal.apart;
  entries = λ uid entry found. legal_more m (record m { head = record m.head { first_recent = first } }) entry (omega arith) (omega arith) (legal.entries uid entry found);
  gone = λ uid pair found. given_more m (record m { head = record m.head { first_recent = first } }) pair.uid pair.modseq (omega arith) (omega arith) (legal.gone uid pair found);
  recent = (low, high);
  uidnext = legal.uidnext;
  highest = legal.highest;
  few = legal.few;
}

pub no_recents-legal : (m : Mailbox) → IsLegalMailbox m → IsLegalMailbox (without_recents m)
no_recents-legal m legal = first-legal m.head.uidnext m legal (omega (arith, legal.recent.0, legal.recent.1)) (omega arith)
