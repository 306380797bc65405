-- Flags of messages that are stored, in the world and in the tables.
use Rattle.std.proofs.Common.{ℕ, ◌≡◌, ◌+◌, ◌==◌, ◌&&◌, ◌||◌, Bool, true, false, cond, not, List, [], ◌∷◌, ◌++◌, map, length, Option, Some, None, refl, sym, ap, subst, ◌∙◌, arith}
use Rattle.std.specs.Prelude.{IsSome, is_some, nat_le, nat_lt, if◌then◌else◌}
use Rattle.std.specs.Ordering.{nat_cmp, is_lt}
use Rattle.std.specs.declared.cmp.Ordering.TheVariants.{Less, Equal, Greater}
use Rattle.std.specs.List.{AllByRecursion, filter, find, flat_map, list_all, list_any}
use Rattle.std.specs.List.Sorted.{IsStrictlySortedBy}
use Rattle.std.specs.Option.{option_map, option_or, option_and_then}
use Rattle.std.proofs.lemmas.Bool.{true≢false, false≢true, eqb-true, eq-eqb, le-ltb, and_parts, and_from, or_left, or_right, cond_both, not-true}
use Rattle.std.proofs.lemmas.Option.{none-some, same_Some}
use Rattle.imap_grammar.specs.declared.flags.Flag.{Flag}
use Rattle.imap_grammar.specs.declared.flags.FlagChange.{FlagChange}
use Rattle.imap_grammar.specs.declared.flags.FlagChange.TheVariants.{Set, Add, Remove}
use Rattle.ordered_rows.specs.RowKey.{number_key}
use Rattle.ordered_rows.specs.Listed.{IsInOrder, row_at, has_key, with_replaced}
use Rattle.ordered_rows.specs.InsertLaws.{InsertLaws}
use Rattle.row_tables.specs.Keys.{uid_key, uid_flag_key, mailbox_key, mailbox_message_key, flag_key, flag_name_key}
use Rattle.row_tables.specs.Indexes.{flag_name_id}
use Rattle.row_tables.specs.TableRows.{TableRows}
use Rattle.row_tables.specs.References.{HasFlag, MailboxRefers, MailboxMessageRefers, FlagRefers}
use Rattle.row_tables.specs.InTurn.{AreFlags, AreNewFlags}
use Rattle.row_tables.specs.Fits.{IsText, Runs}
use Rattle.row_tables.specs.declared.heads.Mailbox.{Mailbox as Head}
use Rattle.row_tables.specs.declared.marks.FlagName.{FlagName}
use Rattle.row_tables.specs.declared.marks.FlagRow.{FlagRow}
use Rattle.row_tables.specs.declared.marks.MailboxMessage.{MailboxMessage}
use Rattle.row_tables.specs.declared.contents.BodyPart.{BodyPart}
use Rattle.row_tables.specs.declared.change.RowChange.{RowChange}
use Rattle.row_tables.specs.declared.change.RowChange.TheVariants.{UpdateMailbox}
use Rattle.mail_world.specs.Flags.{is_flag, are_distinct, same_flags, stored_flags}
use Rattle.mail_world.specs.Names.{is_mailbox_name}
use Rattle.mail_world.specs.Limits.{most_flags, last_modseq}
use Rattle.mail_world.specs.Worlds.{World, Mailbox, Entry, mailbox_at, entry_at, gone_at, has_id, is_among}
use Rattle.mail_world.specs.Arrivals.{with_changed, unless_absent}
use Rattle.mail_world.specs.Storing as storing
use Rattle.mail_world.specs.Changes.{Refusal, Full, StoreFlags, first_refusal}
use Rattle.mail_world.specs.Applying.{apply, refused}
use Rattle.mail_world.specs.Legal.{Ascend}
use Rattle.mail_stands.specs.Facts.{Tied, IsEntryRow, AreEntries, entry_in, gone_in, gone_row, flags_of, has_flag_named, mails_in}
use Rattle.mail_stands.specs.Flagging.{NamesFlags, is_flagged, is_flagged_by}
use Rattle.mail_stands.specs.Naming.{Differ}
use Rattle.mail_stands.specs.Refusals as refusals
use Rattle.mail_stands.specs.Stands.{Stands, AreWhole}
use Rattle.mail_stands.specs.Leading.{KeepsOwners, Leads}
use Rattle.mail_stands.specs.Storing.{is_there, ids_at, given, differs, passes_limit, is_changed, has_too_many, store_refused, dropped, added, with_modseq, changed_row, message_changes, with_next_modseq, store_changes}
use Rattle.mail_stands.proofs.Lists.{all-weaker, all-filter, all-replaced, all_found, find-map, find_passes, listed, none_there, number_is}
use Rattle.mail_stands.proofs.Frames.{head_row}
use Rattle.mail_stands.proofs.Heading.{each_at, mailbox_of, replaced_heads}
use Rattle.mail_stands.proofs.Making.{StaysLegal, mailbox_text}
use Rattle.mail_stands.proofs.Owners.{SameKeys, Replaces, replaced_owner, there_as}
use Rattle.mail_stands.proofs.Showing.{Shows, standing}
use Rattle.mail_stands.proofs.Counting.{Places}
use Rattle.mail_stands.proofs.Written.{distinct_differ}
use Rattle.mail_stands.proofs.Flags.{have_names, grown_flags, same_bool}
use Rattle.mail_stands.proofs.Appending.{KeepsOrder, OneEnd, ordered_along, runs_then}
use Rattle.mail_stands.proofs.Among.{Apart, among_any, any_among, apart_filter}
use Rattle.mail_stands.proofs.StoredFlags.{distinct_itself}
use Rattle.mail_stands.proofs.StoredIds.{among_ids, changes_told, flags_apart, ids_apart, limit_told, rows_told}
use Rattle.mail_stands.proofs.Moving.{IsRowOf, Moves, Present, RemoveLaws, ReplaceLaws, all_flags_elsewhere, all_flags_here, all_run, flags_after, messages_after, messages_elsewhere, messages_here, moved, told}

pub record StoreLaws : Type 0 where
  pub same : SameKeys
  pub places : Places
  pub names : InsertLaws flag_name_key
  pub flags : InsertLaws flag_key
  pub removes : RemoveLaws flag_key
  pub replaces : ReplaceLaws mailbox_message_key
  pub heads : Replaces
  pub order : KeepsOrder
  pub one_end : OneEnd
  pub stays : StaysLegal

-- ---- UIDs that ascend

not_equal : (a b : ℕ) → nat_cmp a b ≡ Less → (a == b) ≡ false
not_equal a b e = by (a == b) refl
  where
    itself : nat_cmp b b ≡ Equal
    itself = ap (λ s. cond s Less (cond (b == b) Equal Greater)) (le-ltb b b (omega arith)) ∙ ap (λ s. cond s Equal Greater) (eq-eqb b b refl)

    by : (c : Bool) → (a == b) ≡ c → c ≡ false
    by false s = refl
    by true s = absurd (true≢false (sym (ap is_lt (subst (λ n. nat_cmp n b ≡ Less) (eqb-true a b s) e)) ∙ ap is_lt itself))

pub sorted_apart : (uids : List ℕ) → IsStrictlySortedBy nat_cmp uids → Apart uids
unfolding IsStrictlySortedBy
sorted_apart [] order = tt
sorted_apart (uid ∷ uids) order = (all-weaker (λ n. nat_cmp uid n ≡ Less) (λ n. (uid == n) ≡ false) (not_equal uid) uids order.0, sorted_apart uids order.1)

-- ---- the messages that are named, in the rows and in the world

pub found_any : {X : Type 0} (r p : X → Bool) (xs : List X) (y : X) → find p xs ≡ Some y → r y ≡ true → list_any r xs ≡ true
found_any r p [] y found e = absurd (none-some y found)
found_any r p (x ∷ xs) y found e = by (p x) found (λ q. found_any r p xs y q e)
  where
    by : (b : Bool) → cond b (Some x) (find p xs) ≡ Some y → (find p xs ≡ Some y → list_any r xs ≡ true) → (r x || list_any r xs) ≡ true
    by true q rest = or_left (r x) (list_any r xs) (subst (λ z. r z ≡ true) (sym (same_Some x y q)) e)
    by false q rest = or_right (r x) (list_any r xs) (rest q)

any_with : {X P : Type 0} (p : X → Bool) (Q : X → Type 0) (xs : List X) → AllByRecursion Q xs → list_any p xs ≡ true → ((x : X) → Q x → p x ≡ true → P) → P
any_with p Q [] all e use_it = absurd (false≢true e)
any_with {X} {P} p Q (x ∷ xs) all e use_it = by (p x) refl e (λ h. any_with p Q xs all.1 h use_it)
  where
    by : (b : Bool) → p x ≡ b → (b || list_any p xs) ≡ true → (list_any p xs ≡ true → P) → P
    by true s h rest = use_it x all.0 s
    by false s h rest = rest h

pub any_named : (entries : List Entry) → Ascend (map (λ e. e.uid) entries) → (there : ℕ → Bool) → ((uid : ℕ) → there uid ≡ is_some (entry_at uid entries)) → (p : ℕ → Bool) (q : Entry → Bool)
    → ((uid : ℕ) (e : Entry) → entry_at uid entries ≡ Some e → p uid ≡ q e) → (uids : List ℕ) → list_any (λ uid. there uid && p uid) uids ≡ list_any (λ e. is_among e.uid uids && q e) entries
any_named entries ascend there are p q same uids =
    same_bool (list_any (λ uid. there uid && p uid) uids) (list_any (λ e. is_among e.uid uids && q e) entries)
    (λ h. any_among (λ uid. there uid && p uid) uids h (λ uid among passes.
    let parts = and_parts (there uid) (p uid) passes in
    there_as (entry_at uid entries) (sym (are uid) ∙ parts.0) (λ e found.
    found_any (λ x. is_among x.uid uids && q x) (λ x. x.uid == uid) entries e found
    (and_from (is_among e.uid uids) (q e) (ap (λ n. is_among n uids) (number_is (λ x. x.uid) uid entries e found) ∙ among) (sym (same uid e found) ∙ parts.1)))))
    (λ h. any_with (λ e. is_among e.uid uids && q e) (λ e. entry_at e.uid entries ≡ Some e) entries
    (listed (λ e. e.uid) (λ e. entry_at e.uid entries ≡ Some e) entries ascend (λ n e found. subst (λ k. entry_at k entries ≡ Some e) (sym (number_is (λ x. x.uid) n entries e found)) found)) h (λ e found passes.
    let parts = and_parts (is_among e.uid uids) (q e) passes in
    among_any (λ uid. there uid && p uid) uids e.uid parts.0 (and_from (there e.uid) (p e.uid) (are e.uid ∙ ap is_some found) (same e.uid e found ∙ parts.1))))

pub tied_some : {X Y : Type 0} (R : X → Y → Type 0) (a : Option X) (b : Option Y) → Tied R a b → is_some a ≡ is_some b
tied_some R None None tied = refl
tied_some R None (Some y) tied = absurd tied.tie
tied_some R (Some x) None tied = absurd tied.tie
tied_some R (Some x) (Some y) tied = refl

-- ---- what is refused

module _ (laws : StoreLaws) (content : BodyPart → List ℕ) (t : TableRows) (world : World) (whole : AreWhole t) (s : Stands content t world) (m : Mailbox) (at : mailbox_at m.head.id world.mailboxes ≡ Some m)
    (how : FlagChange) (named : List Flag) (proper : list_all is_flag named ≡ true) (once : are_distinct named ≡ true) where
  entry_is : (u : ℕ) → entry_in m.head.id u world.mailboxes ≡ entry_at u m.entries
  entry_is u = ap (option_and_then (λ x. entry_at u x.entries)) at

  told_flags : (u : ℕ) (e : Entry) → entry_at u m.entries ≡ Some e → (name : List ℕ) → is_flagged m.head.id u name t.marks.flag_names t.marks.flags ≡ has_flag_named name e.message.flags
  told_flags u e found name = s.flags m.head.id u name ∙ ap (λ o. has_flag_named name (flags_of o)) (entry_is u ∙ found)

  there_told : (u : ℕ) → is_there t m.head.id u ≡ is_some (entry_at u m.entries)
  there_told u = tied_some (IsEntryRow (mails_in content t)) _ _ (s.entries m.head.id u) ∙ ap is_some (entry_is u)

  differs_told : (u : ℕ) (e : Entry) → entry_at u m.entries ≡ Some e → differs t m.head.id how named u ≡ not (same_flags e.message.flags (stored_flags how named e.message.flags))
  differs_told u e found =
      let its = ((s.legal.mailboxes m.head.id m at).itself.entries u e found).flags in
      changes_told laws.same laws.names laws.places t whole m.head.id u e.message.flags (told_flags u e found) its.proper its.once how named proper once

  limit_passed : (u : ℕ) (e : Entry) → entry_at u m.entries ≡ Some e → passes_limit t m.head.id how named u ≡ nat_lt most_flags (length (stored_flags how named e.message.flags))
  limit_passed u e found =
      let its = ((s.legal.mailboxes m.head.id m at).itself.entries u e found).flags in
      limit_told laws.same laws.names laws.places t whole m.head.id u e.message.flags (told_flags u e found) its.proper its.once how named proper once its.few

  any_changed : (uids : List ℕ) → list_any (is_changed t m.head.id how named) uids ≡ list_any (storing.is_changed uids how named) m.entries
  any_changed uids =
      any_named m.entries (s.legal.mailboxes m.head.id m at).itself.uids (is_there t m.head.id) there_told (differs t m.head.id how named)
      (λ e. not (same_flags e.message.flags (stored_flags how named e.message.flags))) differs_told uids

  any_too_many : (uids : List ℕ) → list_any (has_too_many t m.head.id how named) uids ≡ list_any (storing.has_too_many uids how named) m.entries
  any_too_many uids =
      any_named m.entries (s.legal.mailboxes m.head.id m at).itself.uids (is_there t m.head.id) there_told (passes_limit t m.head.id how named)
      (λ e. nat_lt most_flags (length (stored_flags how named e.message.flags))) limit_passed uids

pub store_same : StoreLaws → (content : BodyPart → List ℕ) (t : TableRows) (world : World) (id : ℕ) (uids : List ℕ) (how : FlagChange) (named : List Flag) → AreWhole t → Stands content t world → list_all is_flag named ≡ true
    → are_distinct named ≡ true → store_refused t id uids how named ≡ refused world (StoreFlags id uids how named)
unfolding refused
store_same laws content t world id uids how named whole s proper once =
    ap (λ rows. refusals.unless_absent (row_at mailbox_key (number_key id) rows) (reason id)) s.mailboxes
    ∙ ap (λ o. refusals.unless_absent o (reason id)) (head_row id world.mailboxes)
    ∙ by (mailbox_at id world.mailboxes) refl
  where
    answer : Bool → Bool → ℕ → Option Refusal
    answer many changed highest = first_refusal ((many || (changed && nat_le last_modseq highest), Full) ∷ [])

    reason : ℕ → Head → Option Refusal
    reason k row = answer (list_any (has_too_many t k how named) uids) (list_any (is_changed t k how named) uids) row.highest

    of_world : Mailbox → Option Refusal
    of_world m = answer (list_any (storing.has_too_many uids how named) m.entries) (list_any (storing.is_changed uids how named) m.entries) m.head.highest

    by : (o : Option Mailbox) → mailbox_at id world.mailboxes ≡ o → refusals.unless_absent (option_map (λ m. m.head) o) (reason id) ≡ unless_absent o of_world
    by None e = refl
    by (Some m) e =
        let own = number_is (λ (x : Mailbox). x.head.id) id world.mailboxes m e in
        let itself = subst (λ k. mailbox_at k world.mailboxes ≡ Some m) (sym own) e in
        subst (λ k. reason k m.head ≡ of_world m) own
        (ap (λ b. answer b (list_any (is_changed t m.head.id how named) uids) m.head.highest) (any_too_many laws content t world whole s m itself how named proper once uids)
        ∙ ap (λ b. answer (list_any (storing.has_too_many uids how named) m.entries) b m.head.highest) (any_changed laws content t world whole s m itself how named proper once uids))

-- ---- the changes, over any tables

are_flags : (t : TableRows) (id u : ℕ) (xs : List ℕ) → Apart xs → AllByRecursion (λ i. HasFlag t id u i) xs → AreFlags t id u xs
are_flags t id u [] apart all = tt
are_flags t id u (x ∷ xs) apart all = (all.0, apart.0, are_flags t id u xs apart.1 all.1)

are_new : (t : TableRows) (id u : ℕ) (xs : List ℕ) → Apart xs → AllByRecursion (λ i. row_at flag_key (uid_flag_key id u i) t.marks.flags ≡ None) xs → AreNewFlags t id u xs
are_new t id u [] apart all = tt
are_new t id u (x ∷ xs) apart all = (all.0, apart.0, are_new t id u xs apart.1 all.1)

each_among : (P : ℕ → Type 0) (xs : List ℕ) → ((i : ℕ) → is_among i xs ≡ true → P i) → AllByRecursion P xs
each_among P [] holds = tt
each_among P (x ∷ xs) holds = (holds x (or_left (x == x) (is_among x xs) (eq-eqb x x refl)), each_among P xs (λ i there. holds i (or_right (x == i) (is_among i xs) there)))

passing : (p : ℕ → Bool) (xs : List ℕ) → AllByRecursion (λ x. p x ≡ true) (filter p xs)
passing p [] = tt
passing p (x ∷ xs) = by (p x) refl (passing p xs)
  where
    by : (b : Bool) → p x ≡ b → AllByRecursion (λ y. p y ≡ true) (filter p xs) → AllByRecursion (λ y. p y ≡ true) (cond b (x ∷ filter p xs) (filter p xs))
    by true e rest = (e, rest)
    by false e rest = rest

given_differ : (how : FlagChange) (named : List Flag) → list_all is_flag named ≡ true → are_distinct named ≡ true → Differ (given how named)
given_differ Set named proper once = subst Differ (distinct_itself named once) (distinct_differ named proper)
given_differ Add named proper once = subst Differ (distinct_itself named once) (distinct_differ named proper)
given_differ Remove named proper once = tt

module _ (laws : StoreLaws) (t : TableRows) (whole : AreWhole t) (row : Head) (found : row_at mailbox_key (number_key row.id) t.heads.mailboxes ≡ Some row) (how : FlagChange) (named : List Flag) (proper : list_all is_flag named ≡ true) (once : are_distinct named ≡ true)
    (ids : List ℕ) (names : List RowChange) (naming : NamesFlags t.marks (given how named) ids names) (uids : List ℕ) (apart : Apart uids) where
  abbrev lost : ℕ → List ℕ
  lost u = dropped t row.id how named u

  abbrev got : ℕ → List ℕ
  got u = added t row.id ids u

  abbrev new : ℕ → Option MailboxMessage
  new u = changed_row t row.id how named (row.highest + 1) u

  abbrev with_names : TableRows
  with_names = record t { marks = record t.marks { flag_names = naming.names } }

  names_run : Runs t names with_names
  names_run = naming.runs t refl

  names_order : IsInOrder flag_name_key naming.names
  names_order = (ordered_along laws.order t names with_names whole.ordered names_run).flag_names

  new_by : (u : ℕ) (b : Bool) (o : Option MailboxMessage) → row_at mailbox_message_key (uid_key row.id u) t.marks.mailbox_messages ≡ o → IsRowOf row.id u (cond b (option_map (with_modseq (row.highest + 1)) o) None)
  new_by u true None e = tt
  new_by u true (Some r) e = laws.same (mailbox_message_key r) (uid_key row.id u) (find_passes (has_key mailbox_message_key (uid_key row.id u)) t.marks.mailbox_messages r e)
  new_by u false o e = tt

  new_rows : (u : ℕ) → IsRowOf row.id u (new u)
  new_rows u = new_by u (differs t row.id how named u) (row_at mailbox_message_key (uid_key row.id u) t.marks.mailbox_messages) refl

  ids_differ : Apart ids
  ids_differ = flags_apart laws.names naming.names names_order (given how named) ids naming.ids_are (given_differ how named proper once)

  lost_there : (u : ℕ) → AreFlags with_names row.id u (lost u)
  lost_there u =
      are_flags with_names row.id u (lost u) (apart_filter _ (ids_at t row.id u) (ids_apart laws.places row.id u t.marks.flags whole.ordered.flags))
      (all-filter (λ i. HasFlag with_names row.id u i) _ (ids_at t row.id u) (each_among (λ i. HasFlag with_names row.id u i) (ids_at t row.id u) (λ i there. sym (among_ids row.id u i t.marks.flags) ∙ there)))

  got_lacked : (u : ℕ) → AreNewFlags with_names row.id u (got u)
  got_lacked u =
      let lacks = λ (i : ℕ). not (is_some (row_at flag_key (uid_flag_key row.id u i) t.marks.flags)) in
      are_new with_names row.id u (got u) (apart_filter lacks ids ids_differ)
      (all-weaker (λ i. lacks i ≡ true) (λ i. row_at flag_key (uid_flag_key row.id u i) t.marks.flags ≡ None) (λ i e. none_there (row_at flag_key (uid_flag_key row.id u i) t.marks.flags) (not-true _ e)) (got u) (passing lacks ids))

  moves_by : (u : ℕ) (b : Bool) (o : Option MailboxMessage) → row_at mailbox_message_key (uid_key row.id u) t.marks.mailbox_messages ≡ o
      → Moves with_names row.id u (lost u) (got u) (cond b (option_map (with_modseq (row.highest + 1)) o) None)
  moves_by u true None e = tt
  moves_by u true (Some r) e = record {
    at = new_by u true (Some r) e;
    box = ap is_some found;
    there = ap is_some e;
    mail = (all_found (MailboxMessageRefers t) _ t.marks.mailbox_messages r whole.closed.mailbox_messages e).1;
    has = lost_there u;
    lacks = got_lacked u;
    named = all-filter (λ i. IsSome (row_at flag_name_key (number_key i) naming.names)) _ ids (have_names laws.names naming.names names_order (given how named) ids naming.ids_are);
  }
  moves_by u false o e = tt

  all_move : (some : List ℕ) → AllByRecursion (λ u. Moves with_names row.id u (lost u) (got u) (new u)) some
  all_move [] = tt
  all_move (u ∷ some) = (moves_by u (differs t row.id how named u) (row_at mailbox_message_key (uid_key row.id u) t.marks.mailbox_messages) refl, all_move some)

  abbrev with_moves : TableRows
  with_moves = moved row.id lost got new with_names uids

  abbrev pub stored_tables : TableRows
  stored_tables = record with_moves { heads = record t.heads { mailboxes = with_replaced mailbox_key (with_next_modseq row) t.heads.mailboxes } }

  pub store_runs : IsText row.name → Runs t (store_changes t row uids how named ids names) stored_tables
  store_runs text =
      let moves = flat_map (message_changes t row.id how named ids (row.highest + 1)) uids in
      runs_then t names (moves ++ UpdateMailbox (with_next_modseq row) ∷ []) with_names stored_tables names_run
      (runs_then with_names moves (UpdateMailbox (with_next_modseq row) ∷ []) with_moves stored_tables
      (all_run laws.flags laws.removes laws.replaces row.id lost got new new_rows uids apart with_names (all_move uids))
      ((text, ap is_some found, all_found (MailboxRefers t) _ t.heads.mailboxes row whole.closed.mailboxes found), refl))

  pub store_keeps : IsText row.name → (after : TableRows) → Runs t (store_changes t row uids how named ids names) after → KeepsOwners t after
  store_keeps text after runs =
      subst (KeepsOwners t) (laws.one_end t (store_changes t row uids how named ids names) stored_tables after (store_runs text) runs)
      (record { users = λ id there. there; mailboxes = replaced_owner laws.same laws.heads t.heads.mailboxes row.id row (with_next_modseq row) refl refl found })

-- ---- in the world

looked : {Z : Type 0} (ms : List Mailbox) (id : ℕ) (f : Mailbox → Mailbox) → ((x : Mailbox) → (f x).head.id ≡ x.head.id) → (g : Mailbox → Option Z) (k : ℕ)
    → option_and_then g (mailbox_at k (map (λ x. if has_id id x then f x else x) ms)) ≡ option_and_then (λ x. g (if has_id id x then f x else x)) (mailbox_at k ms)
looked {Z} ms id f same g k =
    ap (option_and_then g) (find-map (has_id k) (has_id k) (λ x. if has_id id x then f x else x) (λ x. ap (λ n. n == k) (cond_both (has_id id x) (f x) x (λ y. y.head.id ≡ x.head.id) (λ e. same x) (λ e. refl))) ms)
    ∙ by (mailbox_at k ms)
  where
    by : (o : Option Mailbox) → option_and_then g (option_map (λ x. if has_id id x then f x else x) o) ≡ option_and_then (λ x. g (if has_id id x then f x else x)) o
    by None = refl
    by (Some x) = refl

pub map_same : {X : Type 0} (f : X → X) (xs : List X) → AllByRecursion (λ x. f x ≡ x) xs → map f xs ≡ xs
map_same f [] all = refl
map_same f (x ∷ xs) all = ap (λ y. y ∷ map f xs) all.0 ∙ ap (λ l. x ∷ l) (map_same f xs all.1)

-- what look-ups tell is what the rows tell
same_rows : (k u : ℕ) (names : List FlagName) (a b : List FlagRow) → ((i : ℕ) → is_some (row_at flag_key (uid_flag_key k u i) a) ≡ is_some (row_at flag_key (uid_flag_key k u i) b)) → (name : List ℕ) → is_flagged k u name names a ≡ is_flagged k u name names b
same_rows k u names a b same name = by (flag_name_id name names)
  where
    by : (o : Option ℕ) → is_flagged_by k u a o ≡ is_flagged_by k u b o
    by None = refl
    by (Some i) = same i

module _ (laws : StoreLaws) (content : BodyPart → List ℕ) (t : TableRows) (world : World) (whole : AreWhole t) (s : Stands content t world) (m : Mailbox) (at : mailbox_at m.head.id world.mailboxes ≡ Some m)
    (found : row_at mailbox_key (number_key m.head.id) t.heads.mailboxes ≡ Some m.head) (how : FlagChange) (named : List Flag) (proper : list_all is_flag named ≡ true) (once : are_distinct named ≡ true)
    (ids : List ℕ) (names : List RowChange) (naming : NamesFlags t.marks (given how named) ids names) (uids : List ℕ) (apart : Apart uids) where
  abbrev id : ℕ
  id = m.head.id

  abbrev modseq : ℕ
  modseq = m.head.highest + 1

  abbrev change : Mailbox → Mailbox
  change = storing.with_stored uids how named

  abbrev after : World
  after = with_changed (has_id id) change world

  abbrev lost_of : ℕ → List ℕ
  lost_of u = dropped t id how named u

  abbrev got_of : ℕ → List ℕ
  got_of u = added t id ids u

  abbrev new_of : ℕ → Option MailboxMessage
  new_of u = changed_row t id how named modseq u

  abbrev row_of : ℕ → Option MailboxMessage
  row_of u = row_at mailbox_message_key (uid_key id u) t.marks.mailbox_messages

  -- a message with its new flags, where it is named and they change
  abbrev step : Entry → Entry
  step e = if storing.is_changed uids how named e then storing.with_flags how named modseq e else e

  change_id : (x : Mailbox) → (change x).head.id ≡ x.head.id
  change_id x = cond_both (list_any (storing.is_changed uids how named) x.entries) _ x (λ y. y.head.id ≡ x.head.id) (λ e. refl) (λ e. refl)

  change_gone : (x : Mailbox) → (change x).gone ≡ x.gone
  change_gone x = cond_both (list_any (storing.is_changed uids how named) x.entries) _ x (λ y. y.gone ≡ x.gone) (λ e. refl) (λ e. refl)

  gone_same : (k u : ℕ) → gone_in k u after.mailboxes ≡ gone_in k u world.mailboxes
  gone_same k u = looked world.mailboxes id change change_id (λ x. gone_at u x.gone) k ∙ by (mailbox_at k world.mailboxes)
    where
      by : (o : Option Mailbox) → option_and_then (λ x. gone_at u (if has_id id x then change x else x).gone) o ≡ option_and_then (λ x. gone_at u x.gone) o
      by None = refl
      by (Some x) = ap (gone_at u) (cond_both (has_id id x) (change x) x (λ y. y.gone ≡ x.gone) (λ e. change_gone x) (λ e. refl))

  -- another mailbox has what it had
  other_mailbox : (k u : ℕ) → (id == k) ≡ false → entry_in k u after.mailboxes ≡ entry_in k u world.mailboxes
  other_mailbox k u differs = looked world.mailboxes id change change_id (λ x. entry_at u x.entries) k ∙ by (mailbox_at k world.mailboxes) refl
    where
      its : (x : Mailbox) → x.head.id ≡ k → (b : Bool) → (x.head.id == id) ≡ b → entry_at u (cond b (change x) x).entries ≡ entry_at u x.entries
      its x is false e = refl
      its x is true e = absurd (true≢false (sym (eq-eqb id k (sym (eqb-true x.head.id id e) ∙ is)) ∙ differs))

      by : (o : Option Mailbox) → mailbox_at k world.mailboxes ≡ o → option_and_then (λ x. entry_at u (if has_id id x then change x else x).entries) o ≡ option_and_then (λ x. entry_at u x.entries) o
      by None e = refl
      by (Some x) e = its x (number_is (λ y. y.head.id) k world.mailboxes x e) (x.head.id == id) refl

  module _ (changed : list_any (storing.is_changed uids how named) m.entries ≡ true) where
    entries_are : (change m).entries ≡ map step m.entries
    entries_are = ap (λ b. (cond b (record (storing.with_next_modseq m) { entries = map step m.entries }) m).entries) changed

    head_is : (change m).head ≡ with_next_modseq m.head
    head_is = ap (λ b. (cond b (record (storing.with_next_modseq m) { entries = map step m.entries }) m).head) changed

    entry_here : (u : ℕ) → entry_in id u after.mailboxes ≡ option_map step (entry_at u m.entries)
    entry_here u =
        looked world.mailboxes id change change_id (λ x. entry_at u x.entries) id
        ∙ (ap (option_and_then (λ x. entry_at u (if has_id id x then change x else x).entries)) at
        ∙ (ap (λ b. entry_at u (cond b (change m) m).entries) (eq-eqb id id refl)
        ∙ (ap (entry_at u) entries_are
        ∙ find-map (λ e. e.uid == u) (λ e. e.uid == u) step (λ e. ap (λ n. n == u) (cond_both (storing.is_changed uids how named e) (storing.with_flags how named modseq e) e (λ x. x.uid ≡ e.uid) (λ q. refl) (λ q. refl))) m.entries)))

    -- so has a message that isn't named
    not_named : (u : ℕ) → is_among u uids ≡ false → (o : Option Entry) → entry_at u m.entries ≡ o → option_map step o ≡ o
    not_named u other None e = refl
    not_named u other (Some e) there =
        ap (λ b. Some (cond (b && not (same_flags e.message.flags (stored_flags how named e.message.flags))) (storing.with_flags how named modseq e) e))
        (ap (λ n. is_among n uids) (number_is (λ (x : Entry). x.uid) u m.entries e there) ∙ other)

    entry_elsewhere : (k u : ℕ) → (is_among u uids && (id == k)) ≡ false → entry_in k u after.mailboxes ≡ entry_in k u world.mailboxes
    entry_elsewhere k u other = by (id == k) refl other
      where
        by : (b : Bool) → (id == k) ≡ b → (is_among u uids && b) ≡ false → entry_in k u after.mailboxes ≡ entry_in k u world.mailboxes
        by false e q = other_mailbox k u e
        by true e q =
            subst (λ j. entry_in j u after.mailboxes ≡ entry_in j u world.mailboxes) (eqb-true id k e)
            (entry_here u ∙ (not_named u (no_second (is_among u uids) q) (entry_at u m.entries) refl ∙ sym (entry_is laws content t world whole s m at how named proper once u)))
          where
            no_second : (b : Bool) → (b && true) ≡ false → b ≡ false
            no_second true q = q
            no_second false q = refl

    -- where a message is named, or elsewhere
    at_places : (P : ℕ → ℕ → Type 0) → ((u : ℕ) → is_among u uids ≡ true → P id u) → ((k u : ℕ) → (is_among u uids && (id == k)) ≡ false → P k u) → (k u : ℕ) → P k u
    at_places P here elsewhere k u = by (is_among u uids && (id == k)) refl
      where
        by : (b : Bool) → (is_among u uids && (id == k)) ≡ b → P k u
        by true e = let parts = and_parts (is_among u uids) (id == k) e in subst (λ j. P j u) (eqb-true id k parts.1) (here u parts.0)
        by false e = elsewhere k u e

    -- whether the step changes a message of a UID that is named
    steps_told : (u : ℕ) (e : Entry) → is_among u uids ≡ true → entry_at u m.entries ≡ Some e → storing.is_changed uids how named e ≡ differs t id how named u
    steps_told u e among there =
        ap (λ b. b && not (same_flags e.message.flags (stored_flags how named e.message.flags))) (ap (λ n. is_among n uids) (number_is (λ (x : Entry). x.uid) u m.entries e there) ∙ among)
        ∙ sym (differs_told laws content t world whole s m at how named proper once u e there)

    tied_at : (u : ℕ) → Tied (IsEntryRow (mails_in content t)) (row_of u) (entry_at u m.entries)
    tied_at u = subst (λ o. Tied (IsEntryRow (mails_in content t)) (row_of u) o) (entry_is laws content t world whole s m at how named proper once u) (s.entries id u)

    present : (u : ℕ) → Present id u t.marks.mailbox_messages (new_of u)
    present u = by (differs t id how named u) (row_of u) refl
      where
        by : (b : Bool) (o : Option MailboxMessage) → row_of u ≡ o → Present id u t.marks.mailbox_messages (cond b (option_map (with_modseq modseq) o) None)
        by true None e = tt
        by true (Some r) e = ap is_some e
        by false o e = tt

    -- ---- the rows of messages

    tied_here : (u : ℕ) → is_among u uids ≡ true → Tied (IsEntryRow (mails_in content t)) (option_or (new_of u) (row_of u)) (option_map step (entry_at u m.entries))
    tied_here u among = by (row_of u) (entry_at u m.entries) refl (tied_at u)
      where
        moved_on : (r : MailboxMessage) (e : Entry) → IsEntryRow (mails_in content t) r e → (b c : Bool) → c ≡ b
            → Tied (IsEntryRow (mails_in content t)) (option_or (cond b (Some (with_modseq modseq r)) None) (Some r)) (Some (cond c (storing.with_flags how named modseq e) e))
        moved_on r e is true true q = record { tie = record { modseq = refl; seconds = is.seconds; zone = is.zone; rows = is.rows; kept = is.kept } }
        moved_on r e is false false q = record { tie = is }
        moved_on r e is true false q = absurd (false≢true q)
        moved_on r e is false true q = absurd (true≢false q)

        none : (b : Bool) → Tied (IsEntryRow (mails_in content t)) (option_or (cond b (option_map (with_modseq modseq) None) None) None) None
        none true = record { tie = tt }
        none false = record { tie = tt }

        by : (o : Option MailboxMessage) (p : Option Entry) → entry_at u m.entries ≡ p → Tied (IsEntryRow (mails_in content t)) o p
            → Tied (IsEntryRow (mails_in content t)) (option_or (cond (differs t id how named u) (option_map (with_modseq modseq) o) None) o) (option_map step p)
        by None None e tied = none (differs t id how named u)
        by None (Some x) e tied = absurd tied.tie
        by (Some r) None e tied = absurd tied.tie
        by (Some r) (Some x) e tied = moved_on r x tied.tie (differs t id how named u) (storing.is_changed uids how named x) (steps_told u x among e)

    entries_stored : AreEntries (mails_in content t) (messages_after new_of uids t.marks.mailbox_messages) after.mailboxes
    entries_stored =
        at_places (λ k u. Tied (IsEntryRow (mails_in content t)) (row_at mailbox_message_key (uid_key k u) (messages_after new_of uids t.marks.mailbox_messages)) (entry_in k u after.mailboxes))
        (λ u among.
        subst (λ o. Tied (IsEntryRow (mails_in content t)) o (entry_in id u after.mailboxes))
        (sym (messages_here laws.flags laws.removes laws.replaces id lost_of got_of new_of (new_rows laws t whole m.head found how named proper once ids names naming uids apart) uids apart u among t.marks.mailbox_messages (present u)))
        (subst (λ p. Tied (IsEntryRow (mails_in content t)) (option_or (new_of u) (row_of u)) p) (sym (entry_here u)) (tied_here u among)))
        (λ k u other.
        subst (λ o. Tied (IsEntryRow (mails_in content t)) o (entry_in k u after.mailboxes))
        (sym (messages_elsewhere laws.flags laws.removes laws.replaces id lost_of got_of new_of (new_rows laws t whole m.head found how named proper once ids names naming uids apart) uids t.marks.mailbox_messages k u other))
        (subst (λ p. Tied (IsEntryRow (mails_in content t)) (row_at mailbox_message_key (uid_key k u) t.marks.mailbox_messages) p) (sym (entry_elsewhere k u other)) (s.entries k u)))

    -- ---- the rows of flags

    abbrev flag_rows : List FlagRow
    flag_rows = flags_after id lost_of got_of new_of uids t.marks.flags

    -- the rows before, by the names after
    named_before : (k u : ℕ) (name : List ℕ) → is_flagged k u name naming.names t.marks.flags ≡ has_flag_named name (flags_of (entry_in k u world.mailboxes))
    named_before k u name =
        grown_flags laws.same t.marks.flag_names naming.names t.marks.flags
        (all-weaker (FlagRefers t) (λ r. IsSome (row_at flag_name_key (number_key r.flag) t.marks.flag_names)) (λ r refers. refers.2) t.marks.flags whole.closed.flags) naming.grows k u name
        ∙ s.flags k u name

    named_at : (u : ℕ) (name : List ℕ) → is_flagged id u name naming.names t.marks.flags ≡ has_flag_named name (flags_of (entry_at u m.entries))
    named_at u name = named_before id u name ∙ ap (λ o. has_flag_named name (flags_of o)) (entry_is laws content t world whole s m at how named proper once u)

    flag_told : (u : ℕ) → is_among u uids ≡ true → (i : ℕ) → is_some (row_at flag_key (uid_flag_key id u i) flag_rows) ≡ told (lost_of u) (got_of u) (new_of u) i (is_some (row_at flag_key (uid_flag_key id u i) t.marks.flags))
    flag_told u among i = all_flags_here laws.flags laws.removes laws.replaces id lost_of got_of new_of (new_rows laws t whole m.head found how named proper once ids names naming uids apart) uids apart u among t.marks.flags i

    flags_here : (u : ℕ) → is_among u uids ≡ true → (name : List ℕ) → is_flagged id u name naming.names flag_rows ≡ has_flag_named name (flags_of (option_map step (entry_at u m.entries)))
    flags_here u among name = by (row_of u) (entry_at u m.entries) refl refl (tied_at u)
      where
        -- nothing is moved
        stays : (b : Bool) (o : Option MailboxMessage) → differs t id how named u ≡ b → row_of u ≡ o → cond b (option_map (with_modseq modseq) o) None ≡ None → is_flagged id u name naming.names flag_rows ≡ is_flagged id u name naming.names t.marks.flags
        stays b o d e none =
            same_rows id u naming.names flag_rows t.marks.flags
            (λ i. flag_told u among i ∙ ap (λ n. told (lost_of u) (got_of u) n i (is_some (row_at flag_key (uid_flag_key id u i) t.marks.flags)))
            (ap (λ c. cond c (option_map (with_modseq modseq) (row_of u)) None) d ∙ (ap (λ p. cond b (option_map (with_modseq modseq) p) None) e ∙ none))) name

        no_row : (b : Bool) → cond b (option_map (with_modseq modseq) None) None ≡ None
        no_row true = refl
        no_row false = refl

        stepped_to : (e : Entry) (b : Bool) → storing.is_changed uids how named e ≡ b → flags_of (option_map step (Some e)) ≡ cond b (stored_flags how named e.message.flags) e.message.flags
        stepped_to e true q = ap (λ c. (cond c (storing.with_flags how named modseq e) e).message.flags) q
        stepped_to e false q = ap (λ c. (cond c (storing.with_flags how named modseq e) e).message.flags) q

        entry : (r : MailboxMessage) (e : Entry) → row_of u ≡ Some r → entry_at u m.entries ≡ Some e → (b : Bool) → differs t id how named u ≡ b → is_flagged id u name naming.names flag_rows ≡ has_flag_named name (flags_of (option_map step (Some e)))
        entry r e at_row there false d =
            stays false (Some r) d at_row refl ∙ (named_at u name ∙ (ap (λ o. has_flag_named name (flags_of o)) there ∙ sym (ap (has_flag_named name) (stepped_to e false (steps_told u e among there ∙ d)))))
        entry r e at_row there true d =
            let its = ((s.legal.mailboxes id m at).itself.entries u e there).flags in
            rows_told laws.same laws.names laws.places t whole id u e.message.flags (told_flags laws content t world whole s m at how named proper once u e there) its.proper its.once how named proper once
            naming.names naming.grows (names_order laws t whole m.head found how named proper once ids names naming uids apart) ids naming.ids_are
            (λ n. named_at u n ∙ ap (λ o. has_flag_named n (flags_of o)) there) flag_rows
            (λ i. flag_told u among i ∙ ap (λ n. told (lost_of u) (got_of u) n i (is_some (row_at flag_key (uid_flag_key id u i) t.marks.flags)))
            (ap (λ c. cond c (option_map (with_modseq modseq) (row_of u)) None) d ∙ ap (option_map (with_modseq modseq)) at_row)) name
            ∙ sym (ap (has_flag_named name) (stepped_to e true (steps_told u e among there ∙ d)))

        by : (o : Option MailboxMessage) (p : Option Entry) → row_of u ≡ o → entry_at u m.entries ≡ p → Tied (IsEntryRow (mails_in content t)) o p → is_flagged id u name naming.names flag_rows ≡ has_flag_named name (flags_of (option_map step p))
        by None None e q tied = stays (differs t id how named u) None refl e (no_row (differs t id how named u)) ∙ (named_at u name ∙ ap (λ o. has_flag_named name (flags_of o)) q)
        by None (Some x) e q tied = absurd tied.tie
        by (Some r) None e q tied = absurd tied.tie
        by (Some r) (Some x) e q tied = entry r x e q (differs t id how named u) refl

    flags_stored : (k u : ℕ) (name : List ℕ) → is_flagged k u name naming.names flag_rows ≡ has_flag_named name (flags_of (entry_in k u after.mailboxes))
    flags_stored k u name =
        at_places (λ j v. is_flagged j v name naming.names flag_rows ≡ has_flag_named name (flags_of (entry_in j v after.mailboxes)))
        (λ v among. flags_here v among name ∙ sym (ap (λ o. has_flag_named name (flags_of o)) (entry_here v)))
        (λ j v other.
        same_rows j v naming.names flag_rows t.marks.flags
        (λ i. ap is_some (all_flags_elsewhere laws.flags laws.removes laws.replaces id lost_of got_of new_of (new_rows laws t whole m.head found how named proper once ids names naming uids apart) uids t.marks.flags j v i other)) name
        ∙ (named_before j v name ∙ sym (ap (λ o. has_flag_named name (flags_of o)) (entry_elsewhere j v other)))) k u

    -- ---- all of it

    stored_shows : Shows content (stored_tables laws t whole m.head found how named proper once ids names naming uids apart) after
    stored_shows = record {
      users = s.users;
      mailboxes = ap (with_replaced mailbox_key (with_next_modseq m.head)) s.mailboxes
          ∙ replaced_heads (with_next_modseq m.head) change world.mailboxes
          (all-weaker (λ n. mailbox_at n.head.id world.mailboxes ≡ Some n) (λ n. n.head.id ≡ id → (change n).head ≡ with_next_modseq m.head)
          (λ n itself here. ap (λ x. (change x).head) (same_Some n m (sym itself ∙ (ap (λ k. mailbox_at k world.mailboxes) here ∙ at))) ∙ head_is) world.mailboxes (each_at world s.legal));
      names = all-replaced mailbox_key (λ r. is_mailbox_name r.name ≡ true) (with_next_modseq m.head) t.heads.mailboxes s.names (all_found (λ r. is_mailbox_name r.name ≡ true) _ t.heads.mailboxes m.head s.names found);
      subscriptions = s.subscriptions;
      next = s.next;
      entries = entries_stored;
      gone = λ k u. s.gone k u ∙ ap (option_map (gone_row k)) (sym (gone_same k u));
      flags = flags_stored;
      distinct = s.distinct;
    }

  leads_own : list_any (is_changed t id how named) uids ≡ true → store_refused t id uids how named ≡ None → Leads content t (store_changes t m.head uids how named ids names) after
  unfolding apply
  leads_own some none = record {
    after = stored_tables laws t whole m.head found how named proper once ids names naming uids apart;
    runs = store_runs laws t whole m.head found how named proper once ids names naming uids apart (mailbox_text m.head.name (all_found (λ r. is_mailbox_name r.name ≡ true) _ t.heads.mailboxes m.head s.names found));
    stands = standing content (stored_tables laws t whole m.head found how named proper once ids names naming uids apart) after
        (laws.stays world (StoreFlags id uids how named) s.legal proper (sym (store_same laws content t world id uids how named whole s proper once) ∙ none))
        (stored_shows (sym (any_changed laws content t world whole s m at how named proper once uids) ∙ some));
  }

pub store_leads : StoreLaws → (content : BodyPart → List ℕ) (t : TableRows) (world : World) (id : ℕ) (row : Head) (uids : List ℕ) (how : FlagChange) (named : List Flag) (ids : List ℕ) (names : List RowChange) → AreWhole t → Stands content t world
    → row_at mailbox_key (number_key id) t.heads.mailboxes ≡ Some row → list_all is_flag named ≡ true → are_distinct named ≡ true → Apart uids → NamesFlags t.marks (given how named) ids names → list_any (is_changed t id how named) uids ≡ true
    → store_refused t id uids how named ≡ None → Leads content t (store_changes t row uids how named ids names) (apply world (StoreFlags id uids how named))
unfolding apply
store_leads laws content t world id row uids how named ids names whole s found proper once apart naming some none =
    mailbox_of t.heads.mailboxes world.mailboxes id row s.mailboxes found (λ m at is.
    let own = number_is (λ (x : Mailbox). x.head.id) id world.mailboxes m at in
    subst (λ k. list_any (is_changed t k how named) uids ≡ true → store_refused t k uids how named ≡ None → Leads content t (store_changes t row uids how named ids names) (apply world (StoreFlags k uids how named))) own
    (λ changed unrefused. subst (λ (r : Head). Leads content t (store_changes t r uids how named ids names) (apply world (StoreFlags m.head.id uids how named))) is
    (leads_own laws content t world whole s m (subst (λ k. mailbox_at k world.mailboxes ≡ Some m) (sym own) at)
    (subst (λ k. row_at mailbox_key (number_key k) t.heads.mailboxes ≡ Some m.head) (sym own) (subst (λ (r : Head). row_at mailbox_key (number_key id) t.heads.mailboxes ≡ Some r) (sym is) found)) how named proper once ids names naming uids apart changed unrefused)) some none)

-- ---- where nothing changes

pub store_stays : StoreLaws → (content : BodyPart → List ℕ) (t : TableRows) (world : World) (id : ℕ) (uids : List ℕ) (how : FlagChange) (named : List Flag) → AreWhole t → Stands content t world → list_all is_flag named ≡ true
    → are_distinct named ≡ true → list_any (is_changed t id how named) uids ≡ false → apply world (StoreFlags id uids how named) ≡ world
unfolding apply
store_stays laws content t world id uids how named whole s proper once none =
    ap (λ ms. record world { mailboxes = ms }) (map_same (λ x. if has_id id x then storing.with_stored uids how named x else x) world.mailboxes
    (all-weaker (λ n. mailbox_at n.head.id world.mailboxes ≡ Some n) (λ n. (if has_id id n then storing.with_stored uids how named n else n) ≡ n)
    (λ n at. by n at (n.head.id == id) refl) world.mailboxes (each_at world s.legal)))
  where
    by : (n : Mailbox) → mailbox_at n.head.id world.mailboxes ≡ Some n → (b : Bool) → (n.head.id == id) ≡ b → cond b (storing.with_stored uids how named n) n ≡ n
    by n at false e = refl
    by n at true e =
        ap (λ b. cond b (record (storing.with_next_modseq n) { entries = map (λ entry. if storing.is_changed uids how named entry then storing.with_flags how named (n.head.highest + 1) entry else entry) n.entries }) n)
        (sym (any_changed laws content t world whole s n at how named proper once uids) ∙ subst (λ k. list_any (is_changed t k how named) uids ≡ false) (sym (eqb-true n.head.id id e)) none)
