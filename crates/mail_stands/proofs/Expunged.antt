-- Messages that are expunged, in the world and in the tables.
use Rattle.std.proofs.Common.{ℕ, ◌≡◌, ◌+◌, ◌==◌, Bool, true, false, cond, not, List, [], ◌∷◌, map, Option, Some, None, refl, sym, ap, subst, ◌∙◌}
use Rattle.std.specs.Prelude.{◌&&◌, ◌||◌, nat_le, is_some, if◌then◌else◌}
use Rattle.std.specs.List.{AllByRecursion, filter, list_any}
use Rattle.std.specs.Option.{option_map, option_or, option_and_then}
use Rattle.std.proofs.lemmas.Bool.{true≢false, and_parts, and_right, eqb-true, eq-eqb, cond_both}
use Rattle.ordered_rows.specs.RowKey.{number_key}
use Rattle.ordered_rows.specs.Listed.{row_at}
use Rattle.row_tables.specs.Keys.{uid_key, mailbox_key, mailbox_message_key, deleted_message_key}
use Rattle.row_tables.specs.Indexes.{flag_name_id}
use Rattle.row_tables.specs.TableRows.{TableRows}
use Rattle.row_tables.specs.declared.heads.Mailbox.{Mailbox as Head}
use Rattle.row_tables.specs.declared.contents.BodyPart.{BodyPart}
use Rattle.mail_world.specs.Names.{is_mailbox_name}
use Rattle.mail_world.specs.Limits.{last_modseq}
use Rattle.mail_world.specs.Worlds.{World, Mailbox, Entry, Gone, mailbox_at, entry_at, gone_at, has_id, is_among}
use Rattle.mail_world.specs.Changes.{Refusal, Expunge, Full, first_refusal}
use Rattle.mail_world.specs.Arrivals.{unless_absent}
use Rattle.mail_world.specs.Storing as storing
use Rattle.mail_world.specs.Applying.{apply, refused}
use Rattle.mail_stands.specs.Facts.{Tied, IsEntryRow, gone_row, flags_of, has_flag_named, mails_in}
use Rattle.mail_stands.specs.Flagging.{is_flagged}
use Rattle.mail_stands.specs.Refusals as refusals
use Rattle.mail_stands.specs.Stands.{Stands, AreWhole}
use Rattle.mail_stands.specs.Leading.{Leads}
use Rattle.mail_stands.specs.Storing.{is_there}
use Rattle.mail_stands.specs.Expunging.{AreNotGone, expunge_changes, expunge_refused, gone_of, there_of}
use Rattle.mail_stands.proofs.Among.{Apart, among_filter, apart_filter}
use Rattle.mail_stands.proofs.Batches.{at_with_rows, at_without_rows}
use Rattle.mail_stands.proofs.Changing.{Changes, changed_shows}
use Rattle.mail_stands.proofs.Deleting.{find-kept, find-lost}
use Rattle.mail_stands.proofs.Removing.{ExpungeLaws, all_pass, expunge_runs, expunged_tables, flagged_elsewhere, flagged_still, gone_once, uid_here, unflagged_here}
use Rattle.mail_stands.proofs.Frames.{head_row}
use Rattle.mail_stands.proofs.Heading.{each_at, mailbox_of}
use Rattle.mail_stands.proofs.Lists.{all-weaker, all_found, number_is}
use Rattle.mail_stands.proofs.Making.{mailbox_text}
use Rattle.mail_stands.proofs.GoneOnes.{all_gone_at, none_flagged, pairs_of, same_flagged, uids_elsewhere}
use Rattle.mail_stands.proofs.Showing.{Shows, shown, standing}
use Rattle.mail_stands.proofs.Stored.{any_named, map_same, tied_some}

-- ---- tests

and_yes : (b : Bool) → (b && true) ≡ b
and_yes true = refl
and_yes false = refl

any_yes : {X : Type 0} (p : X → Bool) (xs : List X) → list_any (λ x. p x && true) xs ≡ list_any p xs
any_yes p [] = refl
any_yes p (x ∷ xs) = ap (λ b. b || list_any (λ y. p y && true) xs) (and_yes (p x)) ∙ ap (λ b. p x || b) (any_yes p xs)

-- what is taken from both is tied still
tied_less : {X Y : Type 0} (R : X → Y → Type 0) (w : Bool) (a : Option X) (b : Option Y) → Tied R a b → Tied R (cond (is_some a && w) None a) (cond w None b)
tied_less R true None None tied = tied
tied_less R true None (Some y) tied = absurd tied.tie
tied_less R true (Some x) b tied = record { tie = tt }
tied_less R false None b tied = tied
tied_less R false (Some x) b tied = tied

-- ---- the lists of a mailbox

entry_left : (asked : List ℕ) (u : ℕ) (entries : List Entry) → entry_at u (filter (λ e. not (is_among e.uid asked)) entries) ≡ cond (is_among u asked) None (entry_at u entries)
entry_left asked u entries = by (is_among u asked) refl
  where
    its : (e : Entry) → (e.uid == u) ≡ true → not (is_among e.uid asked) ≡ not (is_among u asked)
    its e here = ap (λ n. not (is_among n asked)) (eqb-true e.uid u here)

    by : (b : Bool) → is_among u asked ≡ b → entry_at u (filter (λ e. not (is_among e.uid asked)) entries) ≡ cond b None (entry_at u entries)
    by true q = find-lost (λ e. e.uid == u) (λ e. not (is_among e.uid asked)) (λ e here. its e here ∙ ap not q) entries
    by false q = find-kept (λ e. e.uid == u) (λ e. not (is_among e.uid asked)) (λ e here. its e here ∙ ap not q) entries

pair_at : (modseq u : ℕ) (entries : List Entry) → gone_at u (pairs_of modseq entries) ≡ cond (is_some (entry_at u entries)) (Some (record { uid = u; modseq = modseq })) None
pair_at modseq u [] = refl
pair_at modseq u (e ∷ entries) = by (e.uid == u) refl (pair_at modseq u entries)
  where
    by : (b : Bool) → (e.uid == u) ≡ b → gone_at u (pairs_of modseq entries) ≡ cond (is_some (entry_at u entries)) (Some (record { uid = u; modseq = modseq })) None
        → cond b (Some (record { uid = e.uid; modseq = modseq })) (gone_at u (pairs_of modseq entries)) ≡ cond (is_some (cond b (Some e) (entry_at u entries))) (Some (record { uid = u; modseq = modseq })) None
    by true q rest = ap (λ n. Some (record { uid = n; modseq = modseq })) (eqb-true e.uid u q)
    by false q rest = rest

some_taken : (asked : List ℕ) (u : ℕ) (entries : List Entry) → is_some (entry_at u (filter (λ e. is_among e.uid asked) entries)) ≡ (is_some (entry_at u entries) && is_among u asked)
some_taken asked u entries = by (is_among u asked) refl
  where
    its : (e : Entry) → (e.uid == u) ≡ true → is_among e.uid asked ≡ is_among u asked
    its e here = ap (λ n. is_among n asked) (eqb-true e.uid u here)

    none : (b : Bool) → false ≡ (b && false)
    none true = refl
    none false = refl

    by : (b : Bool) → is_among u asked ≡ b → is_some (entry_at u (filter (λ e. is_among e.uid asked) entries)) ≡ (is_some (entry_at u entries) && b)
    by true q = ap is_some (find-kept (λ e. e.uid == u) (λ e. is_among e.uid asked) (λ e here. its e here ∙ q) entries) ∙ sym (and_yes (is_some (entry_at u entries)))
    by false q = ap is_some (find-lost (λ e. e.uid == u) (λ e. is_among e.uid asked) (λ e here. its e here ∙ q) entries) ∙ none (is_some (entry_at u entries))

gone_row_at : (id modseq u : ℕ) (us : List ℕ) → row_at deleted_message_key (uid_key id u) (gone_of id modseq us) ≡ cond (is_among u us) (Some (record { mailbox = id; uid = u; modseq = modseq })) None
gone_row_at id modseq u [] = refl
gone_row_at id modseq u (v ∷ us) =
    ap (λ b. cond ((v == u) && b) (Some (record { mailbox = id; uid = v; modseq = modseq })) (row_at deleted_message_key (uid_key id u) (gone_of id modseq us))) (eq-eqb id id refl) ∙ by (v == u) refl (gone_row_at id modseq u us)
  where
    by : (b : Bool) → (v == u) ≡ b → row_at deleted_message_key (uid_key id u) (gone_of id modseq us) ≡ cond (is_among u us) (Some (record { mailbox = id; uid = u; modseq = modseq })) None
        → cond (b && true) (Some (record { mailbox = id; uid = v; modseq = modseq })) (row_at deleted_message_key (uid_key id u) (gone_of id modseq us)) ≡ cond (b || is_among u us) (Some (record { mailbox = id; uid = u; modseq = modseq })) None
    by true q rest = ap (λ n. Some (record { mailbox = id; uid = n; modseq = modseq })) (eqb-true v u q)
    by false q rest = rest

gone_row_elsewhere : (id modseq k u : ℕ) (us : List ℕ) → (id == k) ≡ false → row_at deleted_message_key (uid_key k u) (gone_of id modseq us) ≡ None
gone_row_elsewhere id modseq k u [] other = refl
gone_row_elsewhere id modseq k u (v ∷ us) other =
    ap (λ b. cond b (Some (record { mailbox = id; uid = v; modseq = modseq })) (row_at deleted_message_key (uid_key k u) (gone_of id modseq us))) (and_right (v == u) (id == k) other) ∙ gone_row_elsewhere id modseq k u us other

-- a row before others, and the pair before others
gone_told : (id : ℕ) (b : Bool) (pair : Gone) (gone : Option Gone) → option_or (cond b (Some (gone_row id pair)) None) (option_map (gone_row id) gone) ≡ option_map (gone_row id) (option_or (cond b (Some pair) None) gone)
gone_told id true pair gone = refl
gone_told id false pair gone = refl

-- ---- a mailbox

module _ (laws : ExpungeLaws) (content : BodyPart → List ℕ) (t : TableRows) (world : World) (s : Stands content t world) (m : Mailbox) (at : mailbox_at m.head.id world.mailboxes ≡ Some m) where
  there_told : (u : ℕ) → is_there t m.head.id u ≡ is_some (entry_at u m.entries)
  there_told u = tied_some (IsEntryRow (mails_in content t)) _ _ (s.entries m.head.id u) ∙ ap (λ o. is_some (option_and_then (λ x. entry_at u x.entries) o)) at

  any_there : (asked : List ℕ) → list_any (is_there t m.head.id) asked ≡ list_any (λ e. is_among e.uid asked) m.entries
  any_there asked =
      sym (any_yes (is_there t m.head.id) asked)
      ∙ (any_named m.entries (s.legal.mailboxes m.head.id m at).itself.uids (is_there t m.head.id) there_told (λ u. true) (λ e. true) (λ u e found. refl) asked ∙ any_yes (λ e. is_among e.uid asked) m.entries)

  -- a message that is there isn't a gone one
  not_gone : (asked : List ℕ) → AreNotGone t m.head.id (there_of t m.head.id asked)
  not_gone asked =
      all-weaker (λ u. is_there t m.head.id u ≡ true) (λ u. row_at deleted_message_key (uid_key m.head.id u) t.marks.deleted_messages ≡ None)
      (λ u there. s.gone m.head.id u ∙ (ap (λ o. option_map (gone_row m.head.id) (option_and_then (λ x. gone_at u x.gone) o)) at
      ∙ ap (option_map (gone_row m.head.id)) ((s.legal.mailboxes m.head.id m at).itself.apart u (sym (there_told u) ∙ there)))) (there_of t m.head.id asked) (all_pass (is_there t m.head.id) asked)

  module _ (whole : AreWhole t) (found : row_at mailbox_key (number_key m.head.id) t.heads.mailboxes ≡ Some m.head) (asked : List ℕ) (once : Apart asked) (some : list_any (λ e. is_among e.uid asked) m.entries ≡ true) where
    abbrev id : ℕ
    id = m.head.id

    abbrev taken : List ℕ
    taken = there_of t id asked

    abbrev taken_once : Apart taken
    taken_once = apart_filter (is_there t id) asked once

    abbrev all_there : AllByRecursion (λ u. is_there t id u ≡ true) taken
    all_there = all_pass (is_there t id) asked

    abbrev after : TableRows
    after = expunged_tables laws t m.head whole found taken all_there taken_once (not_gone asked)

    abbrev change : Mailbox → Mailbox
    change = storing.without_messages (λ u. is_among u asked)

    abbrev less : Mailbox
    less = record (storing.with_next_modseq m) {
      entries = filter (λ e. not (is_among e.uid asked)) m.entries;
      gone = storing.with_all_gone (m.head.highest + 1) (filter (λ e. is_among e.uid asked) m.entries) m.gone;
    }

    change_is : change m ≡ less
    change_is = ap (λ b. cond b less m) some

    change_id : (x : Mailbox) → (change x).head.id ≡ x.head.id
    change_id x = cond_both (list_any (λ e. is_among e.uid asked) x.entries) _ x (λ y. y.head.id ≡ x.head.id) (λ e. refl) (λ e. refl)

    -- who is taken was there, and was asked for
    taken_told : (u : ℕ) → is_among u taken ≡ (is_some (entry_at u m.entries) && is_among u asked)
    taken_told u = among_filter (is_there t id) asked u ∙ ap (λ b. b && is_among u asked) (there_told u)

    entries_after : (u : ℕ) → Tied (IsEntryRow (mails_in content t)) (row_at mailbox_message_key (uid_key id u) after.marks.mailbox_messages) (entry_at u less.entries)
    entries_after u =
        subst (λ o. Tied (IsEntryRow (mails_in content t)) o (entry_at u less.entries))
        (sym (at_without_rows mailbox_message_key laws.same laws.no_entries (uid_key id u) (map (uid_key id) taken) t.marks.mailbox_messages
        ∙ ap (λ b. cond b None (row_at mailbox_message_key (uid_key id u) t.marks.mailbox_messages)) (uid_here id u taken ∙ among_filter (is_there t id) asked u)))
        (subst (λ o. Tied (IsEntryRow (mails_in content t)) (cond (is_there t id u && is_among u asked) None (row_at mailbox_message_key (uid_key id u) t.marks.mailbox_messages)) o) (sym (entry_left asked u m.entries))
        (tied_less (IsEntryRow (mails_in content t)) (is_among u asked) (row_at mailbox_message_key (uid_key id u) t.marks.mailbox_messages) (entry_at u m.entries)
        (subst (λ o. Tied (IsEntryRow (mails_in content t)) (row_at mailbox_message_key (uid_key id u) t.marks.mailbox_messages) (option_and_then (λ x. entry_at u x.entries) o)) at (s.entries id u))))

    abbrev pair : ℕ → Gone
    pair u = record { uid = u; modseq = m.head.highest + 1 }

    gone_after : (u : ℕ) → row_at deleted_message_key (uid_key id u) after.marks.deleted_messages ≡ option_map (gone_row id) (gone_at u less.gone)
    gone_after u =
        at_with_rows deleted_message_key laws.same laws.itself laws.gone (uid_key id u) (gone_of id (m.head.highest + 1) taken) t.marks.deleted_messages (gone_once laws t m.head whole found taken all_there taken_once (not_gone asked) taken taken_once)
        ∙ (ap (λ o. option_or o (row_at deleted_message_key (uid_key id u) t.marks.deleted_messages)) (gone_row_at id (m.head.highest + 1) u taken)
        ∙ (ap (option_or (cond (is_among u taken) (Some (gone_row id (pair u))) None)) (s.gone id u ∙ ap (λ o. option_map (gone_row id) (option_and_then (λ x. gone_at u x.gone) o)) at)
        ∙ (gone_told id (is_among u taken) (pair u) (gone_at u m.gone)
        ∙ ap (option_map (gone_row id)) (sym (all_gone_at u (m.head.highest + 1) (filter (λ e. is_among e.uid asked) m.entries) m.gone
        ∙ ap (λ o. option_or o (gone_at u m.gone)) (pair_at (m.head.highest + 1) u (filter (λ e. is_among e.uid asked) m.entries) ∙ ap (λ b. cond b (Some (pair u)) None) (some_taken asked u m.entries ∙ sym (taken_told u))))))))

    flags_after : (u : ℕ) (name : List ℕ) → is_flagged id u name after.marks.flag_names after.marks.flags ≡ has_flag_named name (flags_of (entry_at u less.entries))
    flags_after u name = by (is_among u taken) refl
      where
        before : is_flagged id u name t.marks.flag_names t.marks.flags ≡ has_flag_named name (flags_of (entry_at u m.entries))
        before = s.flags id u name ∙ ap (λ o. has_flag_named name (flags_of (option_and_then (λ x. entry_at u x.entries) o))) at

        left : (w : Bool) (o : Option Entry) → (is_some o && w) ≡ false → cond w None o ≡ o
        left true None e = refl
        left true (Some x) e = absurd (true≢false e)
        left false o e = refl

        by : (b : Bool) → is_among u taken ≡ b → is_flagged id u name t.marks.flag_names after.marks.flags ≡ has_flag_named name (flags_of (entry_at u less.entries))
        by true q =
            none_flagged id u after.marks.flags (λ f. unflagged_here laws t m.head whole found taken all_there taken_once (not_gone asked) u f q) (flag_name_id name t.marks.flag_names)
            ∙ ap (λ o. has_flag_named name (flags_of o)) (sym (entry_left asked u m.entries ∙ ap (λ b. cond b None (entry_at u m.entries)) (and_parts (is_some (entry_at u m.entries)) (is_among u asked) (sym (taken_told u) ∙ q)).1))
        by false q =
            same_flagged id u after.marks.flags t.marks.flags (λ f. ap is_some (flagged_still laws t m.head whole found taken all_there taken_once (not_gone asked) u f q)) (flag_name_id name t.marks.flag_names)
            ∙ (before ∙ ap (λ o. has_flag_named name (flags_of o)) (sym (entry_left asked u m.entries ∙ left (is_among u asked) (entry_at u m.entries) (sym (taken_told u) ∙ q))))

    changes : Changes content t after id less
    changes = record {
      users = refl;
      heads = refl;
      subscriptions = refl;
      next = refl;
      mails = refl;
      name = all_found (λ r. is_mailbox_name r.name ≡ true) _ t.heads.mailboxes m.head s.names found;
      entries = entries_after;
      other_entries = λ k u other.
          at_without_rows mailbox_message_key laws.same laws.no_entries (uid_key k u) (map (uid_key id) taken) t.marks.mailbox_messages
          ∙ ap (λ b. cond b None (row_at mailbox_message_key (uid_key k u) t.marks.mailbox_messages)) (uids_elsewhere id k u taken other);
      gone = gone_after;
      other_gone = λ k u other.
          at_with_rows deleted_message_key laws.same laws.itself laws.gone (uid_key k u) (gone_of id (m.head.highest + 1) taken) t.marks.deleted_messages (gone_once laws t m.head whole found taken all_there taken_once (not_gone asked) taken taken_once)
          ∙ ap (λ o. option_or o (row_at deleted_message_key (uid_key k u) t.marks.deleted_messages)) (gone_row_elsewhere id (m.head.highest + 1) k u taken other);
      flags = flags_after;
      other_flags = λ k u name other. same_flagged k u after.marks.flags t.marks.flags (λ f. ap is_some (flagged_elsewhere laws t m.head whole found taken all_there taken_once (not_gone asked) k u f other)) (flag_name_id name t.marks.flag_names);
    }

    expunged_shows : Shows content after (storing.expunged world id asked)
    expunged_shows =
        changed_shows content t after world id m change change_id (each_at world s.legal) at (subst (Changes content t after id) (sym change_is) changes) (shown content t world s)

-- ---- what is refused

pub expunge_same : ExpungeLaws → (content : BodyPart → List ℕ) (t : TableRows) (world : World) (id : ℕ) (asked : List ℕ) → Stands content t world → expunge_refused t id asked ≡ refused world (Expunge id asked)
unfolding refused
expunge_same laws content t world id asked s =
    ap (λ rows. refusals.unless_absent (row_at mailbox_key (number_key id) rows) (reason id)) s.mailboxes
    ∙ ap (λ o. refusals.unless_absent o (reason id)) (head_row id world.mailboxes)
    ∙ by (mailbox_at id world.mailboxes) refl
  where
    answer : Bool → ℕ → Option Refusal
    answer any highest = first_refusal ((any && nat_le last_modseq highest, Full) ∷ [])

    reason : ℕ → Head → Option Refusal
    reason k row = answer (list_any (is_there t k) asked) row.highest

    of_world : Mailbox → Option Refusal
    of_world m = answer (list_any (λ e. is_among e.uid asked) m.entries) m.head.highest

    by : (o : Option Mailbox) → mailbox_at id world.mailboxes ≡ o → refusals.unless_absent (option_map (λ m. m.head) o) (reason id) ≡ unless_absent o of_world
    by None e = refl
    by (Some m) e =
        let own = number_is (λ (x : Mailbox). x.head.id) id world.mailboxes m e in
        let itself = subst (λ k. mailbox_at k world.mailboxes ≡ Some m) (sym own) e in
        subst (λ k. reason k m.head ≡ of_world m) own (ap (λ b. answer b m.head.highest) (any_there laws content t world s m itself asked))

-- ---- of the mailbox of an id

module _ (laws : ExpungeLaws) (content : BodyPart → List ℕ) (t : TableRows) (world : World) (id : ℕ) (row : Head) (asked : List ℕ) (s : Stands content t world) (found : row_at mailbox_key (number_key id) t.heads.mailboxes ≡ Some row) where
  pub none_gone : AreNotGone t id (there_of t id asked)
  none_gone =
      mailbox_of t.heads.mailboxes world.mailboxes id row s.mailboxes found (λ m at is.
      let own = number_is (λ (x : Mailbox). x.head.id) id world.mailboxes m at in
      subst (λ k. AreNotGone t k (there_of t k asked)) own (not_gone laws content t world s m (subst (λ k. mailbox_at k world.mailboxes ≡ Some m) (sym own) at) asked))

  pub expunge_leads : AreWhole t → Apart asked → list_any (is_there t id) asked ≡ true → expunge_refused t id asked ≡ None → Leads content t (expunge_changes t row (there_of t id asked)) (apply world (Expunge id asked))
  unfolding apply
  expunge_leads whole once some none =
      mailbox_of t.heads.mailboxes world.mailboxes id row s.mailboxes found (λ m at is.
      let own = number_is (λ (x : Mailbox). x.head.id) id world.mailboxes m at in
      let itself = subst (λ k. mailbox_at k world.mailboxes ≡ Some m) (sym own) at in
      let its = subst (λ k. row_at mailbox_key (number_key k) t.heads.mailboxes ≡ Some m.head) (sym own) (subst (λ (r : Head). row_at mailbox_key (number_key id) t.heads.mailboxes ≡ Some r) (sym is) found) in
      subst (λ k. list_any (is_there t k) asked ≡ true → Leads content t (expunge_changes t row (there_of t k asked)) (apply world (Expunge k asked))) own
      (λ any. subst (λ (r : Head). Leads content t (expunge_changes t r (there_of t m.head.id asked)) (apply world (Expunge m.head.id asked))) is
      (record {
        after = expunged_tables laws t m.head whole its (there_of t m.head.id asked) (all_pass (is_there t m.head.id) asked) (apart_filter (is_there t m.head.id) asked once) (not_gone laws content t world s m itself asked);
        runs = expunge_runs laws t m.head whole its (there_of t m.head.id asked) (all_pass (is_there t m.head.id) asked) (apart_filter (is_there t m.head.id) asked once) (not_gone laws content t world s m itself asked)
            (mailbox_text m.head.name (all_found (λ r. is_mailbox_name r.name ≡ true) _ t.heads.mailboxes m.head s.names its));
        stands = standing content (expunged_tables laws t m.head whole its (there_of t m.head.id asked) (all_pass (is_there t m.head.id) asked) (apart_filter (is_there t m.head.id) asked once) (not_gone laws content t world s m itself asked))
            (apply world (Expunge m.head.id asked))
            (laws.stays world (Expunge m.head.id asked) s.legal tt (subst (λ k. refused world (Expunge k asked) ≡ None) (sym own) (sym (expunge_same laws content t world id asked s) ∙ none)))
            (expunged_shows laws content t world s m itself whole its asked once (sym (any_there laws content t world s m itself asked) ∙ any));
      })) some)

-- ---- where no message is there

pub expunge_stays : ExpungeLaws → (content : BodyPart → List ℕ) (t : TableRows) (world : World) (id : ℕ) (asked : List ℕ) → Stands content t world → list_any (is_there t id) asked ≡ false → apply world (Expunge id asked) ≡ world
unfolding apply
expunge_stays laws content t world id asked s none =
    ap (λ ms. record world { mailboxes = ms }) (map_same (λ x. if has_id id x then storing.without_messages (λ u. is_among u asked) x else x) world.mailboxes
    (all-weaker (λ n. mailbox_at n.head.id world.mailboxes ≡ Some n) (λ n. (if has_id id n then storing.without_messages (λ u. is_among u asked) n else n) ≡ n)
    (λ n at. by n at (n.head.id == id) refl) world.mailboxes (each_at world s.legal)))
  where
    by : (n : Mailbox) → mailbox_at n.head.id world.mailboxes ≡ Some n → (b : Bool) → (n.head.id == id) ≡ b → cond b (storing.without_messages (λ u. is_among u asked) n) n ≡ n
    by n at false e = refl
    by n at true e =
        ap (λ b. cond b (record (storing.with_next_modseq n) {
          entries = filter (λ x. not (is_among x.uid asked)) n.entries;
          gone = storing.with_all_gone (n.head.highest + 1) (filter (λ x. is_among x.uid asked) n.entries) n.gone;
        }) n) (sym (any_there laws content t world s n at asked) ∙ subst (λ k. list_any (is_there t k) asked ≡ false) (sym (eqb-true n.head.id id e)) none)
