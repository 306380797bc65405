-- A mailbox into which messages came follows from what it was.
use Rattle.std.proofs.Common.{ℕ, suc, ◌≡◌, ◌+◌, ◌<◌, ◌≤◌, ◌==◌, Bool, true, false, cond, List, [], ◌∷◌, length, Option, Some, refl, sym, ap, subst, ◌∙◌, inl, inr, ⊎_elim, arith}
use Rattle.std.proofs.lemmas.Bool.{true≢false, false≢true, eqb-true}
use Rattle.std.proofs.lemmas.Option.{none-some, same_Some}
use Rattle.mail_world.specs.Worlds.{Mailbox, Entry, Message, entry_at}
use Rattle.mail_world.specs.Arrivals.{numbered, with_messages}
use Rattle.mail_world.specs.Legal.{IsLegalMailbox}
use Rattle.mail_world.specs.Laws.{KeepsUids, RaisesModseqs, TellsOnce}
use Rattle.mail_world.proofs.Finding.{find_passes, find-append_cases, find-append_first}

-- where an entry with numbers is found
pub record IsNumbered (uid modseq count : ℕ) (place : ℕ) (entry : Entry) : Type 0 where
  pub from : uid ≤ place
  pub below : place < uid + count
  pub modseq_is : entry.modseq ≡ modseq

abbrev has_uid : ℕ → Entry → Bool
has_uid uid entry = entry.uid == uid

number_here : (uid modseq place count : ℕ) (message : Message) (b : Bool) (r : Option Entry) (entry : Entry) → (uid == place) ≡ b
    → (r ≡ Some entry → IsNumbered (uid + 1) modseq count place entry)
    → cond b (Some (record { uid = uid; modseq = modseq; message = message })) r ≡ Some entry → IsNumbered uid modseq (suc count) place entry
number_here uid modseq place count message true r entry e rest found =
    let same = same_Some _ entry found in
    record { from = omega (arith, eqb-true uid place e); below = omega (arith, eqb-true uid place e); modseq_is = ap (λ x. x.modseq) (sym same) }
number_here uid modseq place count message false r entry e rest found =
    let it = rest found in
    record { from = omega (arith, it.from); below = omega (arith, it.below); modseq_is = it.modseq_is }

pub numbered-at : (uid modseq place : ℕ) (messages : List Message) (entry : Entry) → entry_at place (numbered uid modseq messages) ≡ Some entry
    → IsNumbered uid modseq (length messages) place entry
numbered-at uid modseq place [] entry found = absurd (none-some entry found)
numbered-at uid modseq place (message ∷ messages) entry found =
    number_here uid modseq place (length messages) message (uid == place) _ entry refl (numbered-at (uid + 1) modseq place messages entry) found

-- an entry that is found has been given its UID
pub entry_given : (m : Mailbox) (legal : IsLegalMailbox m) (uid : ℕ) (entry : Entry) → entry_at uid m.entries ≡ Some entry → uid < m.head.uidnext
entry_given m legal uid entry found =
    subst (λ n. n < m.head.uidnext) (eqb-true entry.uid uid (find_passes (has_uid uid) m.entries entry found)) (legal.entries uid entry found).given.below_next

pub uids_same : (m : Mailbox) → KeepsUids m m
uids_same m = record {
  rises = omega arith;
  same = λ uid entry found below. rw found (record { mail = refl; date = refl });
  gone = λ uid pair found. found;
  kept = λ uid entry found lost. absurd (none-some entry (sym lost ∙ found));
}

pub modseqs_same : (m : Mailbox) → RaisesModseqs m m
modseqs_same m = record {
  rises = omega arith;
  entries = λ uid entry found. inl found;
  gone = λ uid pair found. inl found;
}

-- where no message came
pub tells_none : (told : Bool) (m n : Mailbox) → IsLegalMailbox m → m.head.first_recent ≤ n.head.first_recent
    → ((uid : ℕ) (entry : Entry) → entry_at uid n.entries ≡ Some entry → uid < m.head.uidnext) → TellsOnce told m n
tells_none told m n legal rises given = record {
  rises = rises;
  to_this = λ e uid entry found new. absurd (later uid (given uid entry found) new);
  to_next = λ e uid entry found new. absurd (later uid (given uid entry found) new);
}
  where
    later : (uid : ℕ) → uid < m.head.uidnext → m.head.uidnext ≤ uid → ⊥
    later uid below above = omega (arith, below, above)

pub tells_same : (told : Bool) (m : Mailbox) → IsLegalMailbox m → TellsOnce told m m
tells_same told m legal = tells_none told m m legal (omega arith) (entry_given m legal)

pub uids_more : (taken : Bool) (messages : List Message) (m : Mailbox) → KeepsUids m (with_messages taken messages m)
uids_more taken [] m = uids_same m
uids_more taken (message ∷ messages) m = record {
  rises = omega arith;
  same = λ uid entry found below.
      ⊎_elim (λ old. rw old (record { mail = refl; date = refl }))
      (λ new. absurd (too_low uid below (numbered-at m.head.uidnext (m.head.highest + 1) uid (message ∷ messages) entry new.1).from))
      (find-append_cases (has_uid uid) m.entries (numbered m.head.uidnext (m.head.highest + 1) (message ∷ messages)) entry found);
  gone = λ uid pair found. found;
  kept = λ uid entry found lost. absurd (none-some entry (sym lost ∙ find-append_first (has_uid uid) m.entries (numbered m.head.uidnext (m.head.highest + 1) (message ∷ messages)) entry found));
}
  where
    too_low : (uid : ℕ) → uid < m.head.uidnext → m.head.uidnext ≤ uid → ⊥
    too_low uid below above = omega (arith, below, above)

pub modseqs_more : (taken : Bool) (messages : List Message) (m : Mailbox) → RaisesModseqs m (with_messages taken messages m)
modseqs_more taken [] m = modseqs_same m
modseqs_more taken (message ∷ messages) m = record {
  rises = omega arith;
  entries = λ uid entry found.
      ⊎_elim (λ old. inl old)
      (λ new. let e = (numbered-at m.head.uidnext (m.head.highest + 1) uid (message ∷ messages) entry new.1).modseq_is in inr (omega (arith, e), omega (arith, e)))
      (find-append_cases (has_uid uid) m.entries (numbered m.head.uidnext (m.head.highest + 1) (message ∷ messages)) entry found);
  gone = λ uid pair found. inl found;
}

pub tells_more : (taken : Bool) (messages : List Message) (m : Mailbox) → IsLegalMailbox m → TellsOnce taken m (with_messages taken messages m)
tells_more taken [] m legal = tells_same taken m legal
tells_more true (message ∷ messages) m legal = record {
  rises = omega (arith, legal.recent.1);
  to_this = λ e uid entry found new.
      ⊎_elim (λ old. omega (arith, entry_given m legal uid entry old))
      (λ more. (numbered-at m.head.uidnext (m.head.highest + 1) uid (message ∷ messages) entry more.1).below)
      (find-append_cases (has_uid uid) m.entries (numbered m.head.uidnext (m.head.highest + 1) (message ∷ messages)) entry found);
  to_next = λ e. absurd (true≢false e);
}
tells_more false (message ∷ messages) m legal = record {
  rises = omega arith;
  to_this = λ e. absurd (false≢true e);
  to_next = λ e uid entry found new. omega (arith, legal.recent.1, new);
}
