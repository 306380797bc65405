-- A store stays legal as messages come into its mailboxes, as their flags are stored, as they are expunged, and as recents are taken.
use Rattle.std.proofs.Common.{ℕ, ◌≡◌, ◌+◌, ◌==◌, Bool, true, false, not, List, [], ◌∷◌, length, Option, Some, None, refl, sym, ap, subst, ◌∙◌, arith}
use Rattle.std.specs.Prelude.{◌&&◌, ◌||◌, nat_lt, nat_le}
use Rattle.std.specs.List.{filter, list_any, list_all, AllByRecursion}
use Rattle.std.proofs.lemmas.Bool.{true≢false, cond_both, and_parts, or_parts, not-true, ltb-false, ne_eqb}
use Rattle.std.proofs.lemmas.Option.{none-some}
use Rattle.date_grammar.specs.declared.parts.Stamp.{Stamp}
use Rattle.date_grammar.specs.Stamps.{HasPrint}
use Rattle.imap_grammar.specs.declared.flags.Flag.{Flag}
use Rattle.imap_grammar.specs.declared.flags.FlagChange.{FlagChange}
use Rattle.mime_tree.specs.declared.reasons.Mail.{Mail}
use Rattle.mail_world.specs.Names.{inbox, same_name}
use Rattle.mail_world.specs.Flags.{distinct, is_flag}
use Rattle.mail_world.specs.Worlds.{World, Mailbox, Message, mailbox_at, has_id, is_among}
use Rattle.mail_world.specs.Limits.{most_flags, most_messages, last_modseq}
use Rattle.mail_world.specs.Changes.{Refusal, Absent, Full, NoUid, first_refusal}
use Rattle.mail_world.specs.Arrivals.{with_messages, has_no_room, has_no_uids, append_refused, appended, takes_mail, delivered, messages_in, copied, copy_refused, with_copies, refused_by, unless_absent}
use Rattle.mail_world.specs.Storing.{store_refused, stored, with_stored, has_too_many, is_changed, expunge_refused, expunged, without_messages, recents_taken, without_recents}
use Rattle.mail_world.specs.Legal.{IsLegal, IsLegalMailbox}
use Rattle.mail_world.proofs.Following.{left_owner, stored_owner, left_keeps, stored_keeps, more_keeps}
use Rattle.mail_world.proofs.Apart.{more_owner}
use Rattle.mail_world.proofs.Keeping.{KeepsTitle, changed-legal}
use Rattle.mail_world.proofs.Growing.{IsProperMessage, more-legal, no_recents-legal}
use Rattle.mail_world.proofs.Lasting.{stored-legal, left-legal}
use Rattle.mail_world.proofs.FlagSets.{distinct-distinct, all-distinct}
use Rattle.mail_world.proofs.Accepting.{not_refused, accepts, located}
use Rattle.mail_world.proofs.Ascending.{all-map, all-filter, listed}

pub more_title : (taken : Mailbox → Bool) (messages : List Message) → KeepsTitle (λ m. with_messages (taken m) messages m)
more_title taken messages = record {
  id = λ m. more_keeps (taken m) messages m;
  owner = λ m. more_owner (taken m) messages m;
  name = λ m. name (taken m) messages m;
}
  where
    name : (taken : Bool) (messages : List Message) (m : Mailbox) → (with_messages taken messages m).head.name ≡ m.head.name
    name taken [] m = refl
    name taken (message ∷ messages) m = refl

stored_title : (uids : List ℕ) (how : FlagChange) (named : List Flag) → KeepsTitle (with_stored uids how named)
stored_title uids how named = record {
  id = stored_keeps uids how named;
  owner = stored_owner uids how named;
  name = λ m. cond_both _ _ m (λ n. n.head.name ≡ m.head.name) (λ e. refl) (λ e. refl);
}

pub left_title : (which : ℕ → Bool) → KeepsTitle (without_messages which)
left_title which = record {
  id = left_keeps which;
  owner = left_owner which;
  name = λ m. cond_both _ _ m (λ n. n.head.name ≡ m.head.name) (λ e. refl) (λ e. refl);
}

-- A message that is appended or delivered.

abbrev one_message : List Flag → Stamp → Mail → List Message
one_message flags date mail = record { flags = flags; date = date; mail = mail } ∷ []

room_for : (taken : Bool) (messages : List Message) (m : Mailbox) → IsLegalMailbox m → AllByRecursion IsProperMessage messages → has_no_room (length messages) m ≡ false → has_no_uids (length messages) m ≡ false
    → IsLegalMailbox (with_messages taken messages m)
room_for taken messages m legal proper room uids =
    let parts = or_parts (nat_lt most_messages (length m.entries + length messages)) (nat_le last_modseq m.head.highest) room in
    more-legal taken messages m legal proper parts.0 parts.1 uids

pub append-stays : (world : World) (id : ℕ) (flags : List Flag) (date : Stamp) (mail : Mail) (taken : Bool) → IsLegal world → list_all is_flag flags ≡ true → HasPrint date
    → append_refused world id flags ≡ None → IsLegal (appended world id flags date mail taken)
append-stays world id flags date mail taken legal proper print accepted =
    changed-legal world (has_id id) (with_messages taken (one_message (distinct flags) date mail)) legal (more_title (λ m. taken) (one_message (distinct flags) date mail))
    (λ other m found here. one m (legal.mailboxes other m found).itself (accepts world id _ m accepted (located world id other m found here)))
  where
    one : (m : Mailbox) → IsLegalMailbox m
        → first_refusal ((nat_lt most_flags (length (distinct flags)) || has_no_room 1 m, Full) ∷ (has_no_uids 1 m, NoUid) ∷ []) ≡ None
        → IsLegalMailbox (with_messages taken (one_message (distinct flags) date mail) m)
    one m ok none =
        let first = not_refused (nat_lt most_flags (length (distinct flags)) || has_no_room 1 m) Full ((has_no_uids 1 m, NoUid) ∷ []) none in
        let second = not_refused (has_no_uids 1 m) NoUid [] first.1 in
        let parts = or_parts (nat_lt most_flags (length (distinct flags))) (has_no_room 1 m) first.0 in
        room_for taken (one_message (distinct flags) date mail) m ok
        (record { flags = record { once = distinct-distinct flags; few = ltb-false most_flags (length (distinct flags)) parts.0; proper = all-distinct is_flag flags proper }; date = print }, tt) parts.1 second.0

-- of four tests, the last two
last_two : (a b c d : Bool) → (a && b && c && d) ≡ true → (c ≡ true) × (d ≡ true)
last_two true true c d e = and_parts c d e
last_two true false c d e = absurd (true≢false (sym e))
last_two false b c d e = absurd (true≢false (sym e))

pub deliver-stays : (world : World) (users : List ℕ) (mail : Mail) (date : Stamp) (taken : List ℕ) → IsLegal world → HasPrint date → IsLegal (delivered world users mail date taken)
deliver-stays world users mail date taken legal print =
    changed-legal world (takes_mail users) (λ m. with_messages (is_among m.head.id taken) (one_message [] date mail) m) legal (more_title (λ m. is_among m.head.id taken) (one_message [] date mail))
    (λ id m found here.
    let two = last_two (same_name m.head.name inbox) (is_among m.head.owner users) (not (has_no_room 1 m)) (not (has_no_uids 1 m)) here in
    room_for (is_among m.head.id taken) (one_message [] date mail) m (legal.mailboxes id m found).itself
    (record { flags = record { once = refl; few = omega arith; proper = refl }; date = print }, tt) (not-true (has_no_room 1 m) two.0) (not-true (has_no_uids 1 m) two.1))

-- Copies.

proper_messages : (world : World) → IsLegal world → (id : ℕ) (uids : List ℕ) (o : Option Mailbox) → mailbox_at id world.mailboxes ≡ o → AllByRecursion IsProperMessage (messages_in uids o)
proper_messages world legal id uids None found = tt
proper_messages world legal id uids (Some m) found =
    let ok = (legal.mailboxes id m found).itself in
    all-map IsProperMessage (λ entry. entry.message) (filter (λ entry. is_among entry.uid uids) m.entries)
    (all-filter (λ entry. IsProperMessage entry.message) (λ entry. is_among entry.uid uids) m.entries
    (listed (λ entry. entry.uid) (λ entry. IsProperMessage entry.message) m.entries ok.uids
    (λ uid entry at. record { flags = (ok.entries uid entry at).flags; date = (ok.entries uid entry at).date })))

-- what both mailboxes of a copy are, where it isn't refused
both_there : {P : Type 0} (world : World) (id : ℕ) (reason : Mailbox → Option Refusal) (o : Option Mailbox) → mailbox_at id world.mailboxes ≡ o → refused_by world id reason ≡ None → ((m : Mailbox) → o ≡ Some m → reason m ≡ None → P) → P
both_there world id reason None found none use_it = absurd (none-some Absent (sym (sym (ap (λ o. unless_absent o reason) found) ∙ none)))
both_there world id reason (Some m) found none use_it = use_it m refl (accepts world id reason m none found)

copies : (taken : Bool) (messages : List Message) (m : Mailbox) → IsLegalMailbox m → AllByRecursion IsProperMessage messages
    → first_refusal ((not (length messages == 0) && has_no_room (length messages) m, Full) ∷ (not (length messages == 0) && has_no_uids (length messages) m, NoUid) ∷ []) ≡ None
    → IsLegalMailbox (with_messages taken messages m)
copies taken [] m legal proper none = legal
copies taken (message ∷ messages) m legal proper none =
    let first = not_refused (not (length (message ∷ messages) == 0) && has_no_room (length (message ∷ messages)) m) Full ((not (length (message ∷ messages) == 0) && has_no_uids (length (message ∷ messages)) m, NoUid) ∷ []) none in
    let second = not_refused (not (length (message ∷ messages) == 0) && has_no_uids (length (message ∷ messages)) m) NoUid [] first.1 in
    room_for taken (message ∷ messages) m legal proper (counted _ first.0) (counted _ second.0)
  where
    counted : (b : Bool) → (not (length (message ∷ messages) == 0) && b) ≡ false → b ≡ false
    counted b e = sym (rw (ne_eqb (length (message ∷ messages)) 0 (λ zero. omega (arith, zero))) refl) ∙ e

pub copy-stays : (world : World) (id : ℕ) (uids : List ℕ) (target : ℕ) (taken : Bool) → IsLegal world → copy_refused world id uids target ≡ None → IsLegal (with_copies world id uids target taken)
copy-stays world id uids target taken legal accepted =
    changed-legal world (has_id target) (with_messages taken (copied world id uids)) legal (more_title (λ m. taken) (copied world id uids))
    (λ other m found here.
    both_there world id _ (mailbox_at id world.mailboxes) refl accepted (λ source at rest.
    copies taken (copied world id uids) m (legal.mailboxes other m found).itself (proper_messages world legal id uids (mailbox_at id world.mailboxes) refl)
    (subst (λ ms. first_refusal ((not (length ms == 0) && has_no_room (length ms) m, Full) ∷ (not (length ms == 0) && has_no_uids (length ms) m, NoUid) ∷ []) ≡ None)
    (ap (messages_in uids) (sym at)) (accepts world target _ m rest (located world target other m found here)))))

-- Flags, gone messages and recents.

pub store-stays : (world : World) (id : ℕ) (uids : List ℕ) (how : FlagChange) (named : List Flag) → IsLegal world → list_all is_flag named ≡ true → store_refused world id uids how named ≡ None
    → IsLegal (stored world id uids how named)
store-stays world id uids how named legal proper accepted =
    changed-legal world (has_id id) (with_stored uids how named) legal (stored_title uids how named)
    (λ other m found here.
    let only = not_refused _ Full [] (accepts world id _ m accepted (located world id other m found here)) in
    let parts = or_parts (list_any (has_too_many uids how named) m.entries) (list_any (is_changed uids how named) m.entries && nat_le last_modseq m.head.highest) only.0 in
    stored-legal uids how named m (legal.mailboxes other m found).itself proper parts.0 parts.1)

pub expunge-stays : (world : World) (id : ℕ) (uids : List ℕ) → IsLegal world → expunge_refused world id uids ≡ None → IsLegal (expunged world id uids)
expunge-stays world id uids legal accepted =
    changed-legal world (has_id id) (without_messages (λ uid. is_among uid uids)) legal (left_title (λ uid. is_among uid uids))
    (λ other m found here.
    left-legal (λ uid. is_among uid uids) m (legal.mailboxes other m found).itself (not_refused _ Full [] (accepts world id _ m accepted (located world id other m found here))).0)

pub recents-stay : (world : World) (id : ℕ) → IsLegal world → IsLegal (recents_taken world id)
recents-stay world id legal =
    changed-legal world (has_id id) without_recents legal (record { id = λ m. refl; owner = λ m. refl; name = λ m. refl })
    (λ other m found here. no_recents-legal m (legal.mailboxes other m found).itself)
