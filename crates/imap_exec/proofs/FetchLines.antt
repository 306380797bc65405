-- What is told of a message by FETCH.
use Rattle.std.proofs.Common.{◌≡◌, ℕ, ◌+◌, ◌<◌, ◌≤◌, codes, get_or, take, inl, inr, Bool, true, false, cond, List, [], ◌∷◌, ◌++◌, length, Option, Some, None, Result, Ok, Err, OnOk, refl, sym, ap, subst, ◌∙◌, arith, ℤ}
use Rattle.std.specs.Prelude.{◌==◌, ◌≤ℤ◌, int_le}
use Rattle.std.proofs.Math.Dec.{T}
use Rattle.std.specs.Option.{option_and_then, option_map, unwrap_or}
use Rattle.std.specs.List.{flat_map}
use Rattle.std.proofs.lemmas.Bool.{eqb-true, and_from, cases_lt, eq-eqb, ne_eqb}
use Rattle.std.proofs.lemmas.Grind.{flat_map-append}
use Rattle.std.proofs.lemmas.List.Folds.{list_any_at, list_any_none}
use Rattle.std.proofs.lemmas.List.{append-nil, take_more, get_or_default}
use Rattle.std.proofs.lemmas.Option.{none-some, same_Some}
use Rattle.canon_writer.specs.Printing.{print}
use Rattle.mime_tree.specs.Sizes.{levels}
use Rattle.mime_tree.specs.declared.reasons.Mail.{Mail}
use Rattle.mime_reader.specs.Wrapping.{mail}
use Rattle.row_tables.specs.declared.marks.MailboxMessage.{MailboxMessage}
use Rattle.row_store.specs.Holding.{Stored}
use Rattle.shredder.specs.MessageRows.{HasRows}
use Rattle.rebuilder.specs.Rebuilding.{HasMail, most_levels}
use Rattle.date_grammar.specs.Stamps.{HasPrint}
use Rattle.imap_grammar.specs.declared.flags.Flag.{Flag}
use Rattle.imap_grammar.specs.declared.items.FetchItem.{FetchItem}
use Rattle.fetch_writer.specs.declared.facts.MessageFacts.{MessageFacts}
use Rattle.fetch_writer.specs.Asked.{told_items}
use Rattle.fetch_writer.specs.Items.{items_line}
use Rattle.session_view.specs.declared.sessions.Selection.{Selection}
use Rattle.session_view.specs.declared.view.View.{View}
use Rattle.session_view.specs.Numbers.{number_of}
use Rattle.mail_world.specs.Legal.{IsLegal}
use Rattle.mail_world.specs.Worlds.{World, Entry, Mailbox, entry_at, mailbox_at, is_among}
use Rattle.mail_stands.specs.Facts.{IsEntryRow, Tied}
use Rattle.date_grammar.specs.declared.parts.Stamp.{Stamp}
use Rattle.imap_steps.specs.Appending.{is_between, has_print}
use Rattle.imap_steps.specs.Storing.{entry_of, flags_told}
use Rattle.imap_writer.specs.Tagged.{ok_line}
use Rattle.imap_steps.specs.Fetching.{facts_of, fetch_line, fetched, fetched_if}
use Rattle.imap_exec.specs.Fetching.{line_with}

-- ---- the message of a UID

found_uid : (uid : ℕ) (entries : List Entry) (entry : Entry) → entry_at uid entries ≡ Some entry → entry.uid ≡ uid
found_uid uid [] entry found = absurd (none-some entry found)
found_uid uid (e ∷ entries) entry found = by (e.uid == uid) refl found (found_uid uid entries entry)
  where
    by : (b : Bool) → (e.uid == uid) ≡ b → cond b (Some e) (entry_at uid entries) ≡ Some entry → (entry_at uid entries ≡ Some entry → entry.uid ≡ uid) → entry.uid ≡ uid
    by true is first rest = ap (λ (x : Entry). x.uid) (sym (same_Some e entry first)) ∙ eqb-true e.uid uid is
    by false is first rest = rest first

uid_in : (uid : ℕ) (o : Option Mailbox) (entry : Entry) → option_and_then (λ m. entry_at uid m.entries) o ≡ Some entry → entry.uid ≡ uid
uid_in uid None entry found = absurd (none-some entry found)
uid_in uid (Some m) entry found = found_uid uid m.entries entry found

pub entry_uid : (world : World) (mailbox uid : ℕ) (entry : Entry) → entry_of world mailbox uid ≡ Some entry → entry.uid ≡ uid
entry_uid world mailbox uid entry found = uid_in uid (mailbox_at mailbox world.mailboxes) entry found

print_in : (world : World) → IsLegal world → (mailbox uid : ℕ) (o : Option Mailbox) → mailbox_at mailbox world.mailboxes ≡ o → (entry : Entry)
    → option_and_then (λ m. entry_at uid m.entries) o ≡ Some entry → HasPrint entry.message.date
print_in world legal mailbox uid None is entry found = absurd (none-some entry found)
print_in world legal mailbox uid (Some m) is entry found = ((legal.mailboxes mailbox m is).itself.entries uid entry found).date

-- the internal date of a message has a print
pub entry_print : (world : World) → IsLegal world → (mailbox uid : ℕ) (entry : Entry) → entry_of world mailbox uid ≡ Some entry → HasPrint entry.message.date
entry_print world legal mailbox uid entry found = print_in world legal mailbox uid (mailbox_at mailbox world.mailboxes) refl entry found

-- ---- what is told of it

abbrev facts_by : View → ℕ → ℕ → List Flag → ℕ → Stamp → MessageFacts
facts_by view uid modseq flags size date =
    record { uid = uid; modseq = modseq; flags = flags; recent = is_among uid view.recent; size = size; date = date }

facts_same : (view : View) (u v m n : ℕ) (f g : List Flag) (s t : ℕ) (x y : Stamp) → u ≡ v → m ≡ n → f ≡ g → s ≡ t → x ≡ y → facts_by view u m f s x ≡ facts_by view v n g t y
facts_same view u v m n f g s t x y e1 e2 e3 e4 e5 =
    ap (λ (k : ℕ). facts_by view k m f s x) e1 ∙ ap (λ (k : ℕ). facts_by view v k f s x) e2 ∙ ap (λ (k : List Flag). facts_by view v n k s x) e3
    ∙ ap (λ (k : ℕ). facts_by view v n g k x) e4 ∙ ap (λ (k : Stamp). facts_by view v n g t k) e5

date_same : (a b : Stamp) → a.seconds ≡ b.seconds → a.zone ≡ b.zone → a ≡ b
date_same a b e f = ap (λ (s : ℤ). record { seconds = s; zone = a.zone }) e ∙ ap (λ (z : ℤ). record { seconds = b.seconds; zone = z }) f

pub facts_found : (mails : Stored) (view : View) (uid : ℕ) (row : MailboxMessage) (size : ℕ) (flags : List Flag) (date : Stamp) (o : Option Entry)
    → date.seconds ≡ row.seconds → date.zone ≡ row.zone
    → ((entry : Entry) → o ≡ Some entry → entry.uid ≡ uid) → Tied (IsEntryRow mails) (Some row) o
    → Some size ≡ option_map (λ entry. length (print entry.message.mail.message)) o → Some flags ≡ option_map (λ entry. flags_told entry.message.flags) o
    → Some (facts_by view uid row.modseq flags size date) ≡ option_map (facts_of view) o
facts_found mails view uid row size flags date None d z its tied s f = absurd tied.tie
facts_found mails view uid row size flags date (Some entry) d z its tied s f =
    ap Some (facts_same view uid entry.uid row.modseq entry.modseq flags (flags_told entry.message.flags) size (length (print entry.message.mail.message)) date entry.message.date
    (sym (its entry refl)) tied.tie.modseq (same_Some _ _ f) (same_Some _ _ s) (date_same date entry.message.date (d ∙ tied.tie.seconds) (z ∙ tied.tie.zone)))

-- ---- its line

on_ok : {E : Type 0} (r : Result (Unit {0}) E) (P Q : Type 0) → (P → Q) → OnOk r P → OnOk r Q
on_ok (Ok u) P Q f p = f p
on_ok (Err e) P Q f p = tt

pub line_none : (by_uid : Bool) (view : View) (asked : List FetchItem) (changed : Bool) (o : Option Entry) (answer : List ℕ)
    → None ≡ option_map (facts_of view) o → answer ≡ answer ++ line_with by_uid view asked changed o
line_none by_uid view asked changed None answer e = sym (append-nil answer)
line_none by_uid view asked changed (Some entry) answer e = absurd (none-some (facts_of view entry) e)

mail_of : (mails : Stored) (id : ℕ) (row : MailboxMessage) (entry : Entry) → ((bytes : List ℕ) (now : ℕ) → levels (mail bytes now).message ≤ most_levels)
    → id ≡ row.message → IsEntryRow mails row entry → HasMail mails id entry.message.mail
mail_of mails id row entry kept is tied = record {
  rows = subst (λ (n : ℕ). HasRows mails n entry.message.mail) (sym is) tied.rows;
  few_levels = subst (λ (m : Mail). levels m.message ≤ most_levels) (sym tied.kept.is) (kept tied.kept.bytes tied.kept.now);
}

pub line_some : {E : Type 0} (r : Result (Unit {0}) E) (mails : Stored) (by_uid : Bool) (view : View) (asked : List FetchItem) (changed : Bool) (items : List FetchItem)
    (facts : MessageFacts) (id : ℕ) (rows : Option MailboxMessage) (o : Option Entry) (before after : List ℕ)
    → ((bytes : List ℕ) (now : ℕ) → levels (mail bytes now).message ≤ most_levels)
    → Tied (IsEntryRow mails) rows o → Some id ≡ option_map (λ row. row.message) rows → Some facts ≡ option_map (facts_of view) o → items ≡ told_items by_uid asked changed
    → ((its : Mail) → HasMail mails id its → OnOk r (after ≡ before ++ items_line (unwrap_or (number_of facts.uid view.uids) 0) facts its.message items))
    → OnOk r (after ≡ before ++ line_with by_uid view asked changed o)
line_some r mails by_uid view asked changed items facts id None o before after kept tied i f e told = absurd (none-some id (sym i))
line_some r mails by_uid view asked changed items facts id (Some row) None before after kept tied i f e told = absurd (none-some facts (sym f))
line_some r mails by_uid view asked changed items facts id (Some row) (Some entry) before after kept tied i f e told =
    let tree = entry.message.mail.message in
    on_ok r (after ≡ before ++ items_line (unwrap_or (number_of facts.uid view.uids) 0) facts tree items) (after ≡ before ++ line_with by_uid view asked changed (Some entry))
    (λ is. is ∙ ap (λ (x : MessageFacts). before ++ items_line (unwrap_or (number_of x.uid view.uids) 0) x tree items) (same_Some facts (facts_of view entry) f)
    ∙ ap (λ (l : List FetchItem). before ++ items_line (unwrap_or (number_of entry.uid view.uids) 0) (facts_of view entry) tree l) e)
    (told entry.message.mail (mail_of mails id row entry kept (same_Some id row.message i) tied.tie))

-- ---- the date has a print

so : (b : Bool) → T b → b ≡ true
so true h = refl
so false h = absurd h

between : (low high z : ℤ) → low ≤ℤ z → z ≤ℤ high → is_between low high z ≡ true
between low high z h k = and_from _ _ (so (int_le low z) h.le) (so (int_le z high) k.le)

has_one : (date : Stamp) → HasPrint date → has_print date ≡ true
has_one date h = and_from _ _ (between _ _ _ h.year.0 h.year.1) (between _ _ _ h.zone.0 h.zone.1)

pub date_printed : (view : View) (facts : MessageFacts) (o : Option Entry) → Some facts ≡ option_map (facts_of view) o
    → ((entry : Entry) → o ≡ Some entry → HasPrint entry.message.date) → has_print facts.date ≡ true
date_printed view facts None f h = absurd (none-some facts (sym f))
date_printed view facts (Some entry) f h = ap (λ (x : MessageFacts). has_print x.date) (same_Some facts (facts_of view entry) f) ∙ has_one entry.message.date (h entry refl)

-- ---- the last line

pub line_by_uid : (tag : List ℕ) (gone : Bool) → fetch_line tag true gone ≡ ok_line tag [] (codes "UID FETCH")
line_by_uid tag true = refl
line_by_uid tag false = refl

-- ---- one of ascending numbers

pub one_found : (uid place : ℕ) (uids : List ℕ) → place < length uids → get_or uids place 0 ≡ uid → true ≡ is_among uid uids
one_found uid place uids lt is = sym (list_any_at (λ other. other == uid) uids place 0 lt (eq-eqb (get_or uids place 0) uid is))

pub none_found : (uid place : ℕ) (uids : List ℕ) → ((k : ℕ) → k < place → get_or uids k 0 < uid) → ((k : ℕ) → place ≤ k → k < length uids → uid < get_or uids k 0) → false ≡ is_among uid uids
none_found uid place uids below above =
    sym (list_any_none (λ other. other == uid) uids (λ k e lt. ne_eqb (get_or uids k e) uid (λ same. elim (cases_lt k place) [
      | inl a ↦ omega (arith, below k a, get_or_default uids k e 0 lt, same)
      | inr a ↦ omega (arith, above k a lt, get_or_default uids k e 0 lt, same)
    ])))

-- ---- the lines of messages

pub fetched_none : (world : World) (selection : Selection) (by_uid : Bool) (items : List FetchItem) (seen : List ℕ) → fetched world selection by_uid items seen [] ≡ []
unfolding fetched
fetched_none world selection by_uid items seen = refl

line_same : (by_uid : Bool) (view : View) (items : List FetchItem) (seen : List ℕ) (uid : ℕ) (o : Option Entry) → ((entry : Entry) → o ≡ Some entry → entry.uid ≡ uid)
    → fetched_if by_uid view items seen o ≡ line_with by_uid view items (is_among uid seen) o
line_same by_uid view items seen uid None its = refl
line_same by_uid view items seen uid (Some entry) its = ap (λ (n : ℕ). line_with by_uid view items (is_among n seen) (Some entry)) (its entry refl)

pub fetched_more : (world : World) (selection : Selection) (by_uid : Bool) (items : List FetchItem) (seen uids : List ℕ) (k : ℕ) → k < length uids
    → fetched world selection by_uid items seen (take (k + 1) uids)
    ≡ fetched world selection by_uid items seen (take k uids)
    ++ line_with by_uid selection.view items (is_among (get_or uids k 0) seen) (entry_of world selection.mailbox (get_or uids k 0))
unfolding fetched
fetched_more world selection by_uid items seen uids k lt =
    let line : ℕ → List ℕ = λ uid. fetched_if by_uid selection.view items seen (entry_of world selection.mailbox uid) in
    let uid = get_or uids k 0 in
    ap (λ (l : List ℕ). flat_map line l) (take_more uids k 0 lt)
    ∙ (flat_map-append line (take k uids) (uid ∷ [])
    ∙ ap (λ (l : List ℕ). flat_map line (take k uids) ++ l) (append-nil (line uid)
    ∙ line_same by_uid selection.view items seen uid (entry_of world selection.mailbox uid) (λ entry found. entry_uid world selection.mailbox uid entry found)))
