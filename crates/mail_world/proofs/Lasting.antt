-- A mailbox stays legal as flags are stored and messages expunged.
use Rattle.std.proofs.Common.{ℕ, ◌≡◌, ◌+◌, ◌<◌, ◌≤◌, ◌==◌, Bool, true, false, not, List, [], ◌∷◌, map, length, Option, Some, None, refl, sym, ap, subst, ◌∙◌, ⊎_elim, arith}
use Rattle.std.specs.Prelude.{◌&&◌, nat_le, IsSome}
use Rattle.std.specs.List.{filter, list_any, list_all, AllByRecursion}
use Rattle.std.specs.Option.{is_some, option_map}
use Rattle.std.proofs.lemmas.Bool.{true≢false, cond_both, cases_Bool, ltb-false, leb-false, and_parts, or_parts}
use Rattle.std.proofs.lemmas.List.{length-map}
use Rattle.std.proofs.lemmas.List.Sums.{length-filter, count_by-le-length}
use Rattle.std.proofs.lemmas.Option.{none-some, same_Some}
use Rattle.imap_grammar.specs.declared.flags.Flag.{Flag}
use Rattle.imap_grammar.specs.declared.flags.FlagChange.{FlagChange}
use Rattle.mail_world.specs.Flags.{is_flag}
use Rattle.mail_world.specs.Worlds.{Mailbox, Entry, Gone, entry_at, gone_at, is_among}
use Rattle.mail_world.specs.Limits.{most_flags, last_modseq}
use Rattle.mail_world.specs.Storing.{is_changed, with_flags, with_stored, has_too_many, with_all_gone, without_messages}
use Rattle.mail_world.specs.Legal.{IsLegalMailbox, IsLegalEntry, IsGiven, Ascend}
use Rattle.mail_world.proofs.Keeping.{map_same}
use Rattle.mail_world.proofs.Leaving.{restored, restored-at, mapped, HasLost, has_lost, gone_with, all_gone-at}
use Rattle.mail_world.proofs.Ascending.{all-filter, all_found, listed, number_is, none_below, ascend-filter, ascend-placed, all-unmap}
use Rattle.mail_world.proofs.Growing.{given_more, legal_more}
use Rattle.mail_world.proofs.FlagSets.{stored-distinct, stored-all}

-- Flags.

pub all_fail : {X : Type 0} (p : X → Bool) (xs : List X) → list_any p xs ≡ false → AllByRecursion (λ x. p x ≡ false) xs
all_fail p [] none = tt
all_fail p (x ∷ xs) none = let parts = or_parts (p x) (list_any p xs) none in (parts.0, all_fail p xs parts.1)

few_flags : (a b : Bool) → a ≡ true → (a && b) ≡ false → b ≡ false
few_flags true b e none = none
few_flags false b e none = absurd (true≢false (sym e))

some_before : (f : Entry → Entry) (o : Option Entry) → IsSome (option_map f o) → IsSome o
some_before f None there = there
some_before f (Some entry) there = refl

restored_uid : (uids : List ℕ) (how : FlagChange) (named : List Flag) (modseq : ℕ) (entry : Entry) → (restored uids how named modseq entry).uid ≡ entry.uid
restored_uid uids how named modseq entry = cond_both (is_changed uids how named entry) (with_flags how named modseq entry) entry (λ e. e.uid ≡ entry.uid) (λ e. refl) (λ e. refl)

restored-legal : (uids : List ℕ) (how : FlagChange) (named : List Flag) (m n : Mailbox) → IsLegalMailbox m → list_all is_flag named ≡ true → list_any (has_too_many uids how named) m.entries ≡ false
    → n.head.uidnext ≡ m.head.uidnext → n.head.first_recent ≡ m.head.first_recent → n.head.highest ≡ m.head.highest + 1 → n.head.highest ≤ last_modseq → n.gone ≡ m.gone
    → n.entries ≡ map (restored uids how named (m.head.highest + 1)) m.entries → IsLegalMailbox n
restored-legal uids how named m n legal flags few next first highest last gone entries = record {
  uids = rw entries (subst Ascend (sym (map_same (λ entry. entry.uid) (restored uids how named (m.head.highest + 1)) (restored_uid uids how named (m.head.highest + 1)) m.entries)) legal.uids);
  gone_uids = rw gone legal.gone_uids;
  apart = λ uid there. rw gone (legal.apart uid (some_before (restored uids how named (m.head.highest + 1)) (entry_at uid m.entries) (ap is_some (sym (at uid)) ∙ there)));
  entries = λ uid entry found.
      mapped (restored uids how named (m.head.highest + 1)) (entry_at uid m.entries) entry (sym (at uid) ∙ found)
      (λ old was is. subst (IsLegalEntry n) (sym is) (one old uid was));
  gone = λ uid pair found. given_more m n pair.uid pair.modseq (omega (arith, next)) (omega (arith, highest)) (legal.gone uid pair (ap (gone_at uid) (sym gone) ∙ found));
  recent = (omega (arith, first, legal.recent.0), omega (arith, first, next, legal.recent.1));
  uidnext = omega (arith, next, legal.uidnext);
  highest = last;
  few = omega (arith, ap length entries, length-map m.entries (restored uids how named (m.head.highest + 1)), legal.few);
}
  where
    at : (uid : ℕ) → entry_at uid n.entries ≡ option_map (restored uids how named (m.head.highest + 1)) (entry_at uid m.entries)
    at uid = rw entries (restored-at uids how named (m.head.highest + 1) uid m.entries)

    one : (old : Entry) (uid : ℕ) → entry_at uid m.entries ≡ Some old → IsLegalEntry n (restored uids how named (m.head.highest + 1) old)
    one old uid was =
        let was_legal = legal.entries uid old was in
        cond_both (is_changed uids how named old) (with_flags how named (m.head.highest + 1) old) old (IsLegalEntry n)
        (λ e. record {
          given = record { from_one = was_legal.given.from_one; below_next = omega (arith, was_legal.given.below_next, next); reached = omega (arith, highest) };
          flags = record {
            once = stored-distinct how named old.message.flags was_legal.flags.once;
            few = ltb-false most_flags _ (few_flags (is_among old.uid uids) _ (and_parts (is_among old.uid uids) _ e).0 (all_found (λ x. has_too_many uids how named x ≡ false) (λ x. x.uid == uid) m.entries old (all_fail (has_too_many uids how named) m.entries few) was));
            proper = stored-all how named old.message.flags flags was_legal.flags.proper;
          };
          date = was_legal.date;
        })
        (λ e. legal_more m n old (omega (arith, next)) (omega (arith, highest)) was_legal)

pub stored-legal : (uids : List ℕ) (how : FlagChange) (named : List Flag) (m : Mailbox) → IsLegalMailbox m → list_all is_flag named ≡ true → list_any (has_too_many uids how named) m.entries ≡ false
    → (list_any (is_changed uids how named) m.entries && nat_le last_modseq m.head.highest) ≡ false → IsLegalMailbox (with_stored uids how named m)
stored-legal uids how named m legal flags few modseq =
    cond_both (list_any (is_changed uids how named) m.entries) _ m IsLegalMailbox
    (λ e. restored-legal uids how named m _ legal flags few refl refl refl (omega (arith, leb-false last_modseq m.head.highest (few_flags _ _ e modseq))) refl refl) (λ e. legal)

-- Gone messages.

all_gone-ascend : (modseq : ℕ) (entries : List Entry) (gone : List Gone) → Ascend (map (λ entry. entry.uid) entries) → Ascend (map (λ pair. pair.uid) gone)
    → AllByRecursion (λ entry. gone_at entry.uid gone ≡ None) entries → Ascend (map (λ pair. pair.uid) (with_all_gone modseq entries gone))
all_gone-ascend modseq [] gone ascend old apart = old
all_gone-ascend modseq (entry ∷ entries) gone ascend old apart =
    ascend-placed (λ pair. pair.uid) (record { uid = entry.uid; modseq = modseq }) (with_all_gone modseq entries gone)
    (all_gone-ascend modseq entries gone ascend.1 old apart.1)
    (all_gone-at entry.uid modseq entries gone
    ∙ ap (λ o. gone_with entry.uid modseq o (gone_at entry.uid gone)) (none_below (λ e. e.uid) entry.uid entries (all-unmap (λ k. entry.uid < k) (λ e. e.uid) entries ascend.0))
    ∙ apart.0)

lost-legal : (which : ℕ → Bool) (m n : Mailbox) → IsLegalMailbox m → HasLost which m n → n.head.highest ≤ last_modseq
    → n.entries ≡ filter (λ entry. not (which entry.uid)) m.entries → n.gone ≡ with_all_gone (m.head.highest + 1) (filter (λ entry. which entry.uid) m.entries) m.gone → IsLegalMailbox n
lost-legal which m n legal lost last entries gone = record {
  uids = rw entries (ascend-filter (λ entry. entry.uid) (λ entry. not (which entry.uid)) m.entries legal.uids);
  gone_uids = rw gone (all_gone-ascend (m.head.highest + 1) (filter (λ entry. which entry.uid) m.entries) m.gone (ascend-filter (λ entry. entry.uid) (λ entry. which entry.uid) m.entries legal.uids) legal.gone_uids
      (all-filter (λ entry. gone_at entry.uid m.gone ≡ None) (λ entry. which entry.uid) m.entries
      (listed (λ entry. entry.uid) (λ entry. gone_at entry.uid m.gone ≡ None) m.entries legal.uids
      (λ uid entry found. ap (λ k. gone_at k m.gone) (number_is (λ e. e.uid) uid m.entries entry found) ∙ legal.apart uid (ap is_some found)))));
  apart = λ uid there.
      ⊎_elim (λ e. absurd (true≢false (sym there ∙ ap is_some (lost.went uid e).0)))
      (λ e. (lost.left uid e).1 ∙ legal.apart uid (ap is_some (sym (lost.left uid e).0) ∙ there)) (cases_Bool (which uid));
  entries = λ uid entry found.
      ⊎_elim (λ e. absurd (none-some entry (sym (lost.went uid e).0 ∙ found)))
      (λ e. legal_more m n entry (omega (arith, lost.uidnext)) (omega (arith, lost.highest)) (legal.entries uid entry (sym (lost.left uid e).0 ∙ found))) (cases_Bool (which uid));
  gone = λ uid pair found.
      ⊎_elim (λ e. new_gone uid pair (entry_at uid m.entries) refl (sym (lost.went uid e).1 ∙ found))
      (λ e. old_gone uid pair (sym (lost.left uid e).1 ∙ found)) (cases_Bool (which uid));
  recent = (omega (arith, lost.first, legal.recent.0), omega (arith, lost.first, lost.uidnext, legal.recent.1));
  uidnext = omega (arith, lost.uidnext, legal.uidnext);
  highest = last;
  few = omega (arith, ap length entries, length-filter (λ entry. not (which entry.uid)) m.entries, count_by-le-length (λ entry. not (which entry.uid)) m.entries, legal.few);
}
  where
    old_gone : (uid : ℕ) (pair : Gone) → gone_at uid m.gone ≡ Some pair → IsGiven n pair.uid pair.modseq
    old_gone uid pair found = given_more m n pair.uid pair.modseq (omega (arith, lost.uidnext)) (omega (arith, lost.highest)) (legal.gone uid pair found)

    now_gone : (uid : ℕ) (entry : Entry) → entry_at uid m.entries ≡ Some entry → IsGiven n uid (m.head.highest + 1)
    now_gone uid entry found =
        let given = (legal.entries uid entry found).given in
        let same = number_is (λ e. e.uid) uid m.entries entry found in
        record { from_one = omega (arith, same, given.from_one); below_next = omega (arith, same, given.below_next, lost.uidnext); reached = omega (arith, lost.highest) }

    new_gone : (uid : ℕ) (pair : Gone) (o : Option Entry) → entry_at uid m.entries ≡ o → gone_with uid (m.head.highest + 1) o (gone_at uid m.gone) ≡ Some pair → IsGiven n pair.uid pair.modseq
    new_gone uid pair None was found = old_gone uid pair found
    new_gone uid pair (Some entry) was found = subst (λ g. IsGiven n g.uid g.modseq) (same_Some _ pair found) (now_gone uid entry was)

pub left-legal : (which : ℕ → Bool) (m : Mailbox) → IsLegalMailbox m → (list_any (λ entry. which entry.uid) m.entries && nat_le last_modseq m.head.highest) ≡ false → IsLegalMailbox (without_messages which m)
left-legal which m legal modseq =
    cond_both (list_any (λ entry. which entry.uid) m.entries) _ m IsLegalMailbox
    (λ e. lost-legal which m _ legal (has_lost which m _ refl refl refl refl refl) (omega (arith, leb-false last_modseq m.head.highest (few_flags _ _ e modseq))) refl refl) (λ e. legal)
