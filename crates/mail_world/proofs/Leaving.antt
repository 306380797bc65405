-- A mailbox whose flags were stored, whose messages were expunged, whose recents were taken or whose name changed follows from what
-- it was.
use Rattle.std.proofs.Common.{ℕ, ◌≡◌, ◌+◌, ◌<◌, ◌≤◌, ◌==◌, Bool, true, false, cond, not, List, [], ◌∷◌, map, Option, Some, None, refl, sym, ap, ◌∙◌, ◌⊎◌, inl, inr, ⊎_elim, arith}
use Rattle.std.specs.Prelude.{nat_lt}
use Rattle.std.specs.List.{filter, list_any}
use Rattle.std.specs.Option.{option_map, option_or}
use Rattle.std.proofs.lemmas.Bool.{eqb-true, lt-ltb, le-ltb, eq-eqb, ne_eqb, cond_both, cases_order, cases_Bool}
use Rattle.std.proofs.lemmas.List.Folds.{find-append}
use Rattle.std.proofs.lemmas.Option.{none-some, same_Some}
use Rattle.imap_grammar.specs.declared.flags.Flag.{Flag}
use Rattle.imap_grammar.specs.declared.flags.FlagChange.{FlagChange}
use Rattle.mail_world.specs.Worlds.{Mailbox, Entry, Gone, entry_at, gone_at}
use Rattle.mail_world.specs.Storing.{with_flags, is_changed, with_stored, with_gone, with_all_gone, without_messages, without_recents}
use Rattle.mail_world.specs.Legal.{IsLegalMailbox}
use Rattle.mail_world.specs.Laws.{IsSameMail, KeepsUids, RaisesModseqs, TellsOnce}
use Rattle.mail_world.proofs.Finding.{find-map, find-filter_same, find-filter_none}
use Rattle.mail_world.proofs.Arriving.{entry_given, uids_same, modseqs_same, tells_none, tells_same}

abbrev has_uid : ℕ → Entry → Bool
has_uid uid entry = entry.uid == uid

abbrev is_gone : ℕ → Gone → Bool
is_gone uid pair = pair.uid == uid

-- Flags.

abbrev pub restored : List ℕ → FlagChange → List Flag → ℕ → Entry → Entry
restored uids how named modseq entry = cond (is_changed uids how named entry) (with_flags how named modseq entry) entry

restored_uid : (uids : List ℕ) (how : FlagChange) (named : List Flag) (modseq uid : ℕ) (entry : Entry) → has_uid uid (restored uids how named modseq entry) ≡ has_uid uid entry
restored_uid uids how named modseq uid entry =
    cond_both (is_changed uids how named entry) (with_flags how named modseq entry) entry (λ e. has_uid uid e ≡ has_uid uid entry) (λ e. refl) (λ e. refl)

pub restored-at : (uids : List ℕ) (how : FlagChange) (named : List Flag) (modseq uid : ℕ) (entries : List Entry)
    → entry_at uid (map (restored uids how named modseq) entries) ≡ option_map (restored uids how named modseq) (entry_at uid entries)
restored-at uids how named modseq uid entries = find-map (has_uid uid) (restored uids how named modseq) (restored_uid uids how named modseq uid) entries

-- what comes of an entry that is found, by the one that it was
pub mapped : {P : Type 0} (f : Entry → Entry) (o : Option Entry) (entry : Entry) → option_map f o ≡ Some entry → ((old : Entry) → o ≡ Some old → entry ≡ f old → P) → P
mapped f None entry found use_it = absurd (none-some entry found)
mapped f (Some old) entry found use_it = use_it old refl (sym (same_Some (f old) entry found))

mapped_none : (f : Entry → Entry) (o : Option Entry) (entry : Entry) → o ≡ Some entry → option_map f o ≡ None → ⊥
mapped_none f None entry found lost = none-some entry found
mapped_none f (Some old) entry found lost = none-some (f old) (sym lost)

uids_restored : (uids : List ℕ) (how : FlagChange) (named : List Flag) (m n : Mailbox) → n.head.uidnext ≡ m.head.uidnext → n.gone ≡ m.gone
    → n.entries ≡ map (restored uids how named (m.head.highest + 1)) m.entries → KeepsUids m n
uids_restored uids how named m n next gone entries = record {
  rises = omega (arith, next);
  same = λ uid entry found below.
      mapped (restored uids how named (m.head.highest + 1)) (entry_at uid m.entries) entry (sym (at uid) ∙ found)
      (λ old was is. rw was (rw is (same_mail old)));
  gone = λ uid pair found. rw gone found;
  kept = λ uid entry found lost. absurd (mapped_none (restored uids how named (m.head.highest + 1)) (entry_at uid m.entries) entry found (sym (at uid) ∙ lost));
}
  where
    at : (uid : ℕ) → entry_at uid n.entries ≡ option_map (restored uids how named (m.head.highest + 1)) (entry_at uid m.entries)
    at uid = rw entries (restored-at uids how named (m.head.highest + 1) uid m.entries)

    same_mail : (old : Entry) → IsSameMail old (restored uids how named (m.head.highest + 1) old)
    same_mail old =
        cond_both (is_changed uids how named old) (with_flags how named (m.head.highest + 1) old) old (IsSameMail old) (λ e. record { mail = refl; date = refl }) (λ e. record { mail = refl; date = refl })

pub uids_stored : (uids : List ℕ) (how : FlagChange) (named : List Flag) (m : Mailbox) → KeepsUids m (with_stored uids how named m)
uids_stored uids how named m =
    cond_both (list_any (is_changed uids how named) m.entries) _ m (KeepsUids m) (λ e. uids_restored uids how named m _ refl refl refl) (λ e. uids_same m)

modseqs_restored : (uids : List ℕ) (how : FlagChange) (named : List Flag) (m n : Mailbox) → n.head.highest ≡ m.head.highest + 1 → n.gone ≡ m.gone
    → n.entries ≡ map (restored uids how named (m.head.highest + 1)) m.entries → RaisesModseqs m n
modseqs_restored uids how named m n highest gone entries = record {
  rises = omega (arith, highest);
  entries = λ uid entry found.
      mapped (restored uids how named (m.head.highest + 1)) (entry_at uid m.entries) entry (sym (at uid) ∙ found)
      (λ old was is. rw was (rw is (renewed old)));
  gone = λ uid pair found. inl (rw (sym gone) found);
}
  where
    at : (uid : ℕ) → entry_at uid n.entries ≡ option_map (restored uids how named (m.head.highest + 1)) (entry_at uid m.entries)
    at uid = rw entries (restored-at uids how named (m.head.highest + 1) uid m.entries)

    renewed : (old : Entry) → (Some old ≡ Some (restored uids how named (m.head.highest + 1) old))
        ⊎ ((m.head.highest < (restored uids how named (m.head.highest + 1) old).modseq) × ((restored uids how named (m.head.highest + 1) old).modseq ≤ n.head.highest))
    renewed old =
        cond_both (is_changed uids how named old) (with_flags how named (m.head.highest + 1) old) old
        (λ e. (Some old ≡ Some e) ⊎ ((m.head.highest < e.modseq) × (e.modseq ≤ n.head.highest)))
        (λ e. inr (omega arith, omega (arith, highest))) (λ e. inl refl)

pub modseqs_stored : (uids : List ℕ) (how : FlagChange) (named : List Flag) (m : Mailbox) → RaisesModseqs m (with_stored uids how named m)
modseqs_stored uids how named m =
    cond_both (list_any (is_changed uids how named) m.entries) _ m (RaisesModseqs m) (λ e. modseqs_restored uids how named m _ refl refl refl) (λ e. modseqs_same m)

tells_restored : (uids : List ℕ) (how : FlagChange) (named : List Flag) (m n : Mailbox) → IsLegalMailbox m → n.head.first_recent ≡ m.head.first_recent
    → n.entries ≡ map (restored uids how named (m.head.highest + 1)) m.entries → TellsOnce false m n
tells_restored uids how named m n legal first entries = tells_none false m n legal (omega (arith, first)) (λ uid entry found.
    mapped (restored uids how named (m.head.highest + 1)) (entry_at uid m.entries) entry (sym (restored-at uids how named (m.head.highest + 1) uid m.entries) ∙ (rw (sym entries) found))
    (λ old was is. entry_given m legal uid old was))

pub tells_stored : (uids : List ℕ) (how : FlagChange) (named : List Flag) (m : Mailbox) → IsLegalMailbox m → TellsOnce false m (with_stored uids how named m)
tells_stored uids how named m legal =
    cond_both (list_any (is_changed uids how named) m.entries) _ m (TellsOnce false m) (λ e. tells_restored uids how named m _ legal refl refl) (λ e. tells_same false m legal)

-- Gone messages.

cut_at : (pair : Gone) (uid : ℕ) (gone : List Gone) → (pair.uid ≡ uid) ⊎ ((pair.uid < uid) ⊎ (uid < pair.uid))
    → gone_at uid (with_gone pair gone) ≡ cond (pair.uid == uid) (Some pair) (gone_at uid gone)
cut_at pair uid gone (inl same) =
    find-append (is_gone uid) (filter (λ other. nat_lt other.uid pair.uid) gone) (pair ∷ filter (λ other. not (nat_lt other.uid pair.uid)) gone)
    ∙ rw (find-filter_none (is_gone uid) (λ other. nat_lt other.uid pair.uid) (λ other e. le-ltb other.uid pair.uid (omega (arith, same, eqb-true other.uid uid e))) gone)
    (rw (eq-eqb pair.uid uid same) refl)
cut_at pair uid gone (inr (inl below)) =
    find-append (is_gone uid) (filter (λ other. nat_lt other.uid pair.uid) gone) (pair ∷ filter (λ other. not (nat_lt other.uid pair.uid)) gone)
    ∙ rw (find-filter_none (is_gone uid) (λ other. nat_lt other.uid pair.uid) (λ other e. le-ltb other.uid pair.uid (omega (arith, below, eqb-true other.uid uid e))) gone)
    (rw (ne_eqb pair.uid uid (λ same. omega (arith, below, same)))
    (find-filter_same (is_gone uid) (λ other. not (nat_lt other.uid pair.uid)) (λ other e. ap not (le-ltb other.uid pair.uid (omega (arith, below, eqb-true other.uid uid e)))) gone))
cut_at pair uid gone (inr (inr above)) =
    find-append (is_gone uid) (filter (λ other. nat_lt other.uid pair.uid) gone) (pair ∷ filter (λ other. not (nat_lt other.uid pair.uid)) gone)
    ∙ rw (find-filter_same (is_gone uid) (λ other. nat_lt other.uid pair.uid) (λ other e. lt-ltb other.uid pair.uid (omega (arith, above, eqb-true other.uid uid e))) gone)
    (rw (ne_eqb pair.uid uid (λ same. omega (arith, above, same)))
    (rw (find-filter_none (is_gone uid) (λ other. not (nat_lt other.uid pair.uid)) (λ other e. ap not (lt-ltb other.uid pair.uid (omega (arith, above, eqb-true other.uid uid e)))) gone)
    (or_none (gone_at uid gone))))
  where
    or_none : (o : Option Gone) → option_or o None ≡ o
    or_none None = refl
    or_none (Some pair) = refl

pub with_gone-at : (pair : Gone) (uid : ℕ) (gone : List Gone) → gone_at uid (with_gone pair gone) ≡ cond (pair.uid == uid) (Some pair) (gone_at uid gone)
with_gone-at pair uid gone = cut_at pair uid gone (cases_order pair.uid uid)

-- what is found of messages that are gone with a mod-sequence
abbrev pub gone_with : ℕ → ℕ → Option Entry → Option Gone → Option Gone
gone_with uid modseq None other = other
gone_with uid modseq (Some entry) other = Some (record { uid = uid; modseq = modseq })

taken_first : (uid modseq : ℕ) (entry : Entry) (b : Bool) (taken : Option Entry) (found other : Option Gone) → (entry.uid == uid) ≡ b → found ≡ gone_with uid modseq taken other
    → cond b (Some (record { uid = entry.uid; modseq = modseq })) found ≡ gone_with uid modseq (cond b (Some entry) taken) other
taken_first uid modseq entry true taken found other e h = ap (λ n. Some (record { uid = n; modseq = modseq })) (eqb-true entry.uid uid e)
taken_first uid modseq entry false taken found other e h = h

pub all_gone-at : (uid modseq : ℕ) (taken : List Entry) (gone : List Gone) → gone_at uid (with_all_gone modseq taken gone) ≡ gone_with uid modseq (entry_at uid taken) (gone_at uid gone)
all_gone-at uid modseq [] gone = refl
all_gone-at uid modseq (entry ∷ taken) gone =
    with_gone-at (record { uid = entry.uid; modseq = modseq }) uid (with_all_gone modseq taken gone)
    ∙ taken_first uid modseq entry (entry.uid == uid) (entry_at uid taken) (gone_at uid (with_all_gone modseq taken gone)) (gone_at uid gone) refl (all_gone-at uid modseq taken gone)

-- what is left of the messages at a UID, and what went
left-at : (which : ℕ → Bool) (uid : ℕ) (entries : List Entry) → which uid ≡ false → entry_at uid (filter (λ entry. not (which entry.uid)) entries) ≡ entry_at uid entries
left-at which uid entries e =
    find-filter_same (has_uid uid) (λ entry. not (which entry.uid)) (λ entry here. ap not (ap which (eqb-true entry.uid uid here) ∙ e)) entries

left-none : (which : ℕ → Bool) (uid : ℕ) (entries : List Entry) → which uid ≡ true → entry_at uid (filter (λ entry. not (which entry.uid)) entries) ≡ None
left-none which uid entries e =
    find-filter_none (has_uid uid) (λ entry. not (which entry.uid)) (λ entry here. ap not (ap which (eqb-true entry.uid uid here) ∙ e)) entries

went-at : (which : ℕ → Bool) (uid : ℕ) (entries : List Entry) → which uid ≡ true → entry_at uid (filter (λ entry. which entry.uid) entries) ≡ entry_at uid entries
went-at which uid entries e = find-filter_same (has_uid uid) (λ entry. which entry.uid) (λ entry here. ap which (eqb-true entry.uid uid here) ∙ e) entries

went-none : (which : ℕ → Bool) (uid : ℕ) (entries : List Entry) → which uid ≡ false → entry_at uid (filter (λ entry. which entry.uid) entries) ≡ None
went-none which uid entries e = find-filter_none (has_uid uid) (λ entry. which entry.uid) (λ entry here. ap which (eqb-true entry.uid uid here) ∙ e) entries

-- what holds of a mailbox from which some messages went
pub record HasLost (which : ℕ → Bool) (m n : Mailbox) : Type 0 where
  pub uidnext : n.head.uidnext ≡ m.head.uidnext
  pub first : n.head.first_recent ≡ m.head.first_recent
  pub highest : n.head.highest ≡ m.head.highest + 1
  pub left : (uid : ℕ) → which uid ≡ false → (entry_at uid n.entries ≡ entry_at uid m.entries) × (gone_at uid n.gone ≡ gone_at uid m.gone)
  pub went : (uid : ℕ) → which uid ≡ true → (entry_at uid n.entries ≡ None) × (gone_at uid n.gone ≡ gone_with uid (m.head.highest + 1) (entry_at uid m.entries) (gone_at uid m.gone))

pub has_lost : (which : ℕ → Bool) (m n : Mailbox) → n.head.uidnext ≡ m.head.uidnext → n.head.first_recent ≡ m.head.first_recent → n.head.highest ≡ m.head.highest + 1
    → n.entries ≡ filter (λ entry. not (which entry.uid)) m.entries → n.gone ≡ with_all_gone (m.head.highest + 1) (filter (λ entry. which entry.uid) m.entries) m.gone → HasLost which m n
has_lost which m n uidnext first highest entries gone = record {
  uidnext = uidnext;
  first = first;
  highest = highest;
  left = λ uid e. (
    rw entries (left-at which uid m.entries e),
    rw gone (all_gone-at uid (m.head.highest + 1) (filter (λ entry. which entry.uid) m.entries) m.gone ∙ rw (went-none which uid m.entries e) refl),
  );
  went = λ uid e. (
    rw entries (left-none which uid m.entries e),
    rw gone (all_gone-at uid (m.head.highest + 1) (filter (λ entry. which entry.uid) m.entries) m.gone ∙ rw (went-at which uid m.entries e) refl),
  );
}

uids_lost : (which : ℕ → Bool) (m n : Mailbox) → IsLegalMailbox m → HasLost which m n → KeepsUids m n
uids_lost which m n legal lost = record {
  rises = omega (arith, lost.uidnext);
  same = λ uid entry found below.
      ⊎_elim (λ e. absurd (none-some entry (sym (lost.went uid e).0 ∙ found)))
      (λ e. rw (sym (lost.left uid e).0 ∙ found) (record { mail = refl; date = refl }))
      (cases_Bool (which uid));
  gone = λ uid pair found.
      ⊎_elim (λ e. (lost.went uid e).1 ∙ ap (λ o. gone_with uid (m.head.highest + 1) o (gone_at uid m.gone)) (not_there uid pair found (entry_at uid m.entries) refl) ∙ found)
      (λ e. (lost.left uid e).1 ∙ found)
      (cases_Bool (which uid));
  kept = λ uid entry found gone.
      ⊎_elim (λ e. rw ((lost.went uid e).1 ∙ ap (λ o. gone_with uid (m.head.highest + 1) o (gone_at uid m.gone)) found) (omega arith))
      (λ e. absurd (none-some entry (sym gone ∙ (lost.left uid e).0 ∙ found)))
      (cases_Bool (which uid));
}
  where
    not_there : (uid : ℕ) (pair : Gone) → gone_at uid m.gone ≡ Some pair → (o : Option Entry) → entry_at uid m.entries ≡ o → o ≡ None
    not_there uid pair found None e = refl
    not_there uid pair found (Some entry) e = absurd (none-some pair (sym (legal.apart uid (rw e refl)) ∙ found))

went_with : (uid modseq : ℕ) (o : Option Entry) (other : Option Gone) (pair : Gone) → gone_with uid modseq o other ≡ Some pair → (other ≡ Some pair) ⊎ (pair.modseq ≡ modseq)
went_with uid modseq None other pair found = inl found
went_with uid modseq (Some entry) other pair found = inr (ap (λ g. g.modseq) (sym (same_Some _ pair found)))

modseqs_lost : (which : ℕ → Bool) (m n : Mailbox) → HasLost which m n → RaisesModseqs m n
modseqs_lost which m n lost = record {
  rises = omega (arith, lost.highest);
  entries = λ uid entry found.
      ⊎_elim (λ e. absurd (none-some entry (sym (lost.went uid e).0 ∙ found)))
      (λ e. inl (sym (lost.left uid e).0 ∙ found))
      (cases_Bool (which uid));
  gone = λ uid pair found.
      ⊎_elim
      (λ e. ⊎_elim (λ old. inl old) (λ new. inr (omega (arith, new), omega (arith, new, lost.highest)))
      (went_with uid (m.head.highest + 1) (entry_at uid m.entries) (gone_at uid m.gone) pair (sym (lost.went uid e).1 ∙ found)))
      (λ e. inl (sym (lost.left uid e).1 ∙ found))
      (cases_Bool (which uid));
}

tells_lost : (which : ℕ → Bool) (m n : Mailbox) → IsLegalMailbox m → HasLost which m n → TellsOnce false m n
tells_lost which m n legal lost = tells_none false m n legal (omega (arith, lost.first)) (λ uid entry found.
    ⊎_elim (λ e. absurd (none-some entry (sym (lost.went uid e).0 ∙ found)))
    (λ e. entry_given m legal uid entry (sym (lost.left uid e).0 ∙ found))
    (cases_Bool (which uid)))

pub uids_left : (which : ℕ → Bool) (m : Mailbox) → IsLegalMailbox m → KeepsUids m (without_messages which m)
uids_left which m legal =
    cond_both (list_any (λ entry. which entry.uid) m.entries) _ m (KeepsUids m) (λ e. uids_lost which m _ legal (has_lost which m _ refl refl refl refl refl)) (λ e. uids_same m)

pub modseqs_left : (which : ℕ → Bool) (m : Mailbox) → RaisesModseqs m (without_messages which m)
modseqs_left which m =
    cond_both (list_any (λ entry. which entry.uid) m.entries) _ m (RaisesModseqs m) (λ e. modseqs_lost which m _ (has_lost which m _ refl refl refl refl refl)) (λ e. modseqs_same m)

pub tells_left : (which : ℕ → Bool) (m : Mailbox) → IsLegalMailbox m → TellsOnce false m (without_messages which m)
tells_left which m legal =
    cond_both (list_any (λ entry. which entry.uid) m.entries) _ m (TellsOnce false m) (λ e. tells_lost which m _ legal (has_lost which m _ refl refl refl refl refl)) (λ e. tells_same false m legal)

-- Recents.

pub tells_no_recents : (m : Mailbox) → IsLegalMailbox m → TellsOnce false m (without_recents m)
tells_no_recents m legal = tells_none false m (without_recents m) legal legal.recent.1 (entry_given m legal)
