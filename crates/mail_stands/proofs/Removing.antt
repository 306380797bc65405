-- Messages that are expunged, over any tables.
use Rattle.std.proofs.Common.{ℕ, ◌≡◌, ◌+◌, ◌==◌, Bool, true, false, cond, List, [], ◌∷◌, ◌++◌, map, Option, Some, None, refl, sym, ap, subst, ◌∙◌}
use Rattle.std.specs.Prelude.{◌&&◌, ◌||◌, is_some}
use Rattle.std.specs.List.{AllByRecursion, filter, flat_map, list_any}
use Rattle.std.proofs.lemmas.Bool.{true≢false, false≢true, and_from, and_left, and_parts, and_right, eqb-true, eq-eqb, or_left, or_right}
use Rattle.ordered_rows.specs.RowKey.{RowKey, number_key, same_key}
use Rattle.ordered_rows.specs.Listed.{IsInOrder, row_at, has_key, with_replaced}
use Rattle.ordered_rows.specs.InsertLaws.{InsertLaws}
use Rattle.row_tables.specs.Keys.{uid_key, uid_flag_key, mailbox_key, mailbox_message_key, deleted_message_key, flag_key}
use Rattle.row_tables.specs.TableRows.{TableRows}
use Rattle.row_tables.specs.References.{MailboxRefers, flags_at}
use Rattle.row_tables.specs.InTurn.{AreNewGone, ArePlainEntries}
use Rattle.row_tables.specs.Fits.{IsText, Runs}
use Rattle.row_tables.specs.declared.heads.Mailbox.{Mailbox as Head}
use Rattle.row_tables.specs.declared.marks.FlagRow.{FlagRow}
use Rattle.mail_world.specs.Worlds.{is_among}
use Rattle.mail_stands.specs.Leading.{KeepsOwners}
use Rattle.mail_stands.specs.Stands.{AreWhole}
use Rattle.mail_stands.specs.Storing.{is_there, with_next_modseq}
use Rattle.mail_stands.specs.Expunging.{AreNotGone, expunge_changes, flags_among, gone_of}
use Rattle.mail_stands.proofs.Among.{Apart, not_behind}
use Rattle.mail_stands.proofs.Apart.{apart_append, apart_filter, ordered_apart}
use Rattle.mail_stands.proofs.Appending.{OneEnd}
use Rattle.mail_stands.proofs.Batches.{AreApart, Itself, Removes, at_without_rows}
use Rattle.mail_stands.proofs.Counting.{Places}
use Rattle.mail_stands.proofs.InTurns.{AreFlagRows, entry_removals_run, flag_removals_run, gone_run, with_gone_rows, without_entries, without_flag_rows}
use Rattle.mail_stands.proofs.Lists.{all-append, all-filter, all-weaker, all_found}
use Rattle.mail_stands.proofs.Making.{StaysLegal}
use Rattle.mail_stands.proofs.GoneOnes.{flags_elsewhere}
use Rattle.mail_stands.proofs.MovingFits.{no_flags_at}
use Rattle.mail_stands.proofs.Owners.{SameKeys, Replaces, replaced_owner}
use Rattle.mail_stands.proofs.Renamed.{none_any}

pub record ExpungeLaws : Type 0 where
  pub same : SameKeys
  pub itself : Itself
  pub places : Places
  pub gone : InsertLaws deleted_message_key
  pub no_entries : Removes mailbox_message_key
  pub no_flags : Removes flag_key
  pub heads : Replaces
  pub at_keys : (rows : List FlagRow) → IsInOrder flag_key rows → AllByRecursion (λ r. row_at flag_key (flag_key r) rows ≡ Some r) rows
  pub one_end : OneEnd
  pub stays : StaysLegal

-- ---- lists

pub all_pass : {X : Type 0} (p : X → Bool) (xs : List X) → AllByRecursion (λ x. p x ≡ true) (filter p xs)
all_pass p [] = tt
all_pass {X} p (x ∷ xs) = by (p x) refl (all_pass p xs)
  where
    by : (b : Bool) → p x ≡ b → AllByRecursion (λ y. p y ≡ true) (filter p xs) → AllByRecursion (λ y. p y ≡ true) (cond b (x ∷ filter p xs) (filter p xs))
    by true e rest = (e, rest)
    by false e rest = rest

any_append : {X : Type 0} (p : X → Bool) (xs ys : List X) → list_any p xs ≡ true → list_any p (xs ++ ys) ≡ true
any_append p [] ys any = absurd (false≢true any)
any_append {X} p (x ∷ xs) ys any = by (p x) refl any (any_append p xs ys)
  where
    by : (b : Bool) → p x ≡ b → (b || list_any p xs) ≡ true → (list_any p xs ≡ true → list_any p (xs ++ ys) ≡ true) → (p x || list_any p (xs ++ ys)) ≡ true
    by true e any rest = or_left (p x) (list_any p (xs ++ ys)) e
    by false e any rest = or_right (p x) (list_any p (xs ++ ys)) (rest any)

append_any : {X : Type 0} (p : X → Bool) (xs ys : List X) → list_any p ys ≡ true → list_any p (xs ++ ys) ≡ true
append_any p [] ys any = any
append_any p (x ∷ xs) ys any = or_right (p x) (list_any p (xs ++ ys)) (append_any p xs ys any)

any_keys : (k : RowKey) (rows : List FlagRow) → list_any (λ j. same_key j k) (map flag_key rows) ≡ list_any (has_key flag_key k) rows
any_keys k [] = refl
any_keys k (r ∷ rows) = ap (λ b. has_key flag_key k r || b) (any_keys k rows)

apart_from : (u v : ℕ) (us : List ℕ) → AllByRecursion (λ other. (u == other) ≡ false) us → is_among v us ≡ true → (u == v) ≡ false
apart_from u v us all among = by (u == v) refl
  where
    by : (b : Bool) → (u == v) ≡ b → b ≡ false
    by false e = refl
    by true e = absurd (true≢false (sym (subst (λ n. is_among n us ≡ true) (sym (eqb-true u v e)) among) ∙ not_behind u us all))

-- ---- the flags of the messages

module _ (id : ℕ) (flags : List FlagRow) where
  at_uid : (u : ℕ) → AllByRecursion (λ r. (r.uid ≡ u) × (r.mailbox ≡ id)) (flags_at id u flags)
  at_uid u =
      all-weaker (λ r. ((r.uid == u) && (r.mailbox == id)) ≡ true) (λ r. (r.uid ≡ u) × (r.mailbox ≡ id))
      (λ r here. let both = and_parts (r.uid == u) (r.mailbox == id) here in (eqb-true r.uid u both.0, eqb-true r.mailbox id both.1)) (flags_at id u flags)
      (all_pass (λ r. (r.uid == u) && (r.mailbox == id)) flags)

  abbrev among : List ℕ → List FlagRow
  among us = flat_map (λ u. flags_at id u flags) us

  all_among : (us : List ℕ) → AllByRecursion (λ r. (is_among r.uid us ≡ true) × (r.mailbox ≡ id)) (among us)
  all_among [] = tt
  all_among (u ∷ us) =
      all-append (λ r. (is_among r.uid (u ∷ us) ≡ true) × (r.mailbox ≡ id)) (flags_at id u flags) (among us)
      (all-weaker (λ r. (r.uid ≡ u) × (r.mailbox ≡ id)) (λ r. (is_among r.uid (u ∷ us) ≡ true) × (r.mailbox ≡ id)) (λ r at. (or_left (u == r.uid) (is_among r.uid us) (eq-eqb u r.uid (sym at.0)), at.1)) (flags_at id u flags) (at_uid u))
      (all-weaker (λ r. (is_among r.uid us ≡ true) × (r.mailbox ≡ id)) (λ r. (is_among r.uid (u ∷ us) ≡ true) × (r.mailbox ≡ id)) (λ r its. (or_right (u == r.uid) (is_among r.uid us) its.0, its.1)) (among us) (all_among us))

  pub among_apart : AreApart flag_key flags → (us : List ℕ) → Apart us → AreApart flag_key (among us)
  among_apart apart [] once = tt
  among_apart apart (u ∷ us) once =
      apart_append flag_key (flags_at id u flags) (among us) (apart_filter flag_key (λ r. (r.uid == u) && (r.mailbox == id)) flags apart) (among_apart apart us once.1)
      (all-weaker (λ r. (r.uid ≡ u) × (r.mailbox ≡ id)) (λ x. AllByRecursion (λ y. same_key (flag_key x) (flag_key y) ≡ false) (among us)) cross (flags_at id u flags) (at_uid u))
    where
      cross : (x : FlagRow) → (x.uid ≡ u) × (x.mailbox ≡ id) → AllByRecursion (λ y. same_key (flag_key x) (flag_key y) ≡ false) (among us)
      cross x at =
          all-weaker (λ r. (is_among r.uid us ≡ true) × (r.mailbox ≡ id)) (λ y. same_key (flag_key x) (flag_key y) ≡ false)
          (λ y its. and_left ((x.flag == y.flag) && (x.uid == y.uid)) (x.mailbox == y.mailbox)
          (and_right (x.flag == y.flag) (x.uid == y.uid) (ap (λ n. n == y.uid) at.0 ∙ apart_from u y.uid us once.0 its.0))) (among us) (all_among us)

  pub among_all : (P : FlagRow → Type 0) → AllByRecursion P flags → (us : List ℕ) → AllByRecursion P (among us)
  among_all P all [] = tt
  among_all P all (u ∷ us) = all-append P (flags_at id u flags) (among us) (all-filter P (λ r. (r.uid == u) && (r.mailbox == id)) flags all) (among_all P all us)

  -- a row of one of the messages is among them
  one_in : (u f : ℕ) (rows : List FlagRow) → is_some (row_at flag_key (uid_flag_key id u f) rows) ≡ true → list_any (has_key flag_key (uid_flag_key id u f)) (flags_at id u rows) ≡ true
  one_in u f [] some = absurd (false≢true some)
  one_in u f (x ∷ rows) some = by ((x.uid == u) && (x.mailbox == id)) (has_key flag_key (uid_flag_key id u f) x) refl refl some (one_in u f rows)
    where
      by : (b c : Bool) → ((x.uid == u) && (x.mailbox == id)) ≡ b → has_key flag_key (uid_flag_key id u f) x ≡ c → is_some (cond c (Some x) (row_at flag_key (uid_flag_key id u f) rows)) ≡ true
          → (is_some (row_at flag_key (uid_flag_key id u f) rows) ≡ true → list_any (has_key flag_key (uid_flag_key id u f)) (flags_at id u rows) ≡ true)
          → list_any (has_key flag_key (uid_flag_key id u f)) (cond b (x ∷ flags_at id u rows) (flags_at id u rows)) ≡ true
      by true true at here some rest = or_left (has_key flag_key (uid_flag_key id u f) x) (list_any (has_key flag_key (uid_flag_key id u f)) (flags_at id u rows)) here
      by true false at here some rest = or_right (has_key flag_key (uid_flag_key id u f) x) (list_any (has_key flag_key (uid_flag_key id u f)) (flags_at id u rows)) (rest some)
      by false true at here some rest =
          let parts = and_parts ((x.flag == f) && (x.uid == u)) (x.mailbox == id) here in
          absurd (true≢false (sym (and_from (x.uid == u) (x.mailbox == id) (and_parts (x.flag == f) (x.uid == u) parts.0).1 parts.1) ∙ at))
      by false false at here some rest = rest some

  any_in : (u f : ℕ) (us : List ℕ) → is_among u us ≡ true → is_some (row_at flag_key (uid_flag_key id u f) flags) ≡ true → list_any (has_key flag_key (uid_flag_key id u f)) (among us) ≡ true
  any_in u f [] here some = absurd (false≢true here)
  any_in u f (v ∷ us) here some = by (v == u) refl here (λ later. any_in u f us later some)
    where
      by : (b : Bool) → (v == u) ≡ b → (b || is_among u us) ≡ true → (is_among u us ≡ true → list_any (has_key flag_key (uid_flag_key id u f)) (among us) ≡ true) → list_any (has_key flag_key (uid_flag_key id u f)) (flags_at id v flags ++ among us) ≡ true
      by true e here rest = any_append (has_key flag_key (uid_flag_key id u f)) (flags_at id v flags) (among us) (subst (λ n. list_any (has_key flag_key (uid_flag_key id u f)) (flags_at id n flags) ≡ true) (sym (eqb-true v u e)) (one_in u f flags some))
      by false e here rest = append_any (has_key flag_key (uid_flag_key id u f)) (flags_at id v flags) (among us) (rest here)

  -- and no other is
  pub none_in : (u f : ℕ) (us : List ℕ) → is_among u us ≡ false → list_any (λ j. same_key j (uid_flag_key id u f)) (map flag_key (among us)) ≡ false
  none_in u f us other =
      any_keys (uid_flag_key id u f) (among us)
      ∙ none_any (has_key flag_key (uid_flag_key id u f)) (among us)
      (all-weaker (λ r. (is_among r.uid us ≡ true) × (r.mailbox ≡ id)) (λ r. has_key flag_key (uid_flag_key id u f) r ≡ false)
      (λ r its. and_left ((r.flag == f) && (r.uid == u)) (r.mailbox == id) (and_right (r.flag == f) (r.uid == u) (differs r its.0))) (among us) (all_among us))
    where
      differs : (r : FlagRow) → is_among r.uid us ≡ true → (r.uid == u) ≡ false
      differs r its = by (r.uid == u) refl
        where
          by : (b : Bool) → (r.uid == u) ≡ b → b ≡ false
          by false e = refl
          by true e = absurd (true≢false (sym (subst (λ n. is_among n us ≡ true) (eqb-true r.uid u e) its) ∙ other))

  pub none_of_others : (k u f : ℕ) (us : List ℕ) → (id == k) ≡ false → list_any (λ j. same_key j (uid_flag_key k u f)) (map flag_key (among us)) ≡ false
  none_of_others k u f us other =
      flags_elsewhere id k u f (among us) (all-weaker (λ r. (is_among r.uid us ≡ true) × (r.mailbox ≡ id)) (λ r. r.mailbox ≡ id) (λ r its. its.1) (among us) (all_among us)) other

-- ---- keys of the messages

pub uid_here : (id u : ℕ) (us : List ℕ) → list_any (λ j. same_key j (uid_key id u)) (map (uid_key id) us) ≡ is_among u us
uid_here id u [] = refl
uid_here id u (v ∷ us) =
    ap (λ b. ((v == u) && b) || list_any (λ j. same_key j (uid_key id u)) (map (uid_key id) us)) (eq-eqb id id refl)
    ∙ (by (v == u) ∙ ap (λ b. (v == u) || b) (uid_here id u us))
  where
    by : (b : Bool) → ((b && true) || list_any (λ j. same_key j (uid_key id u)) (map (uid_key id) us)) ≡ (b || list_any (λ j. same_key j (uid_key id u)) (map (uid_key id) us))
    by true = refl
    by false = refl

-- ---- the run

module _ (laws : ExpungeLaws) (t : TableRows) (row : Head) (whole : AreWhole t) (found : row_at mailbox_key (number_key row.id) t.heads.mailboxes ≡ Some row) (uids : List ℕ) (there : AllByRecursion (λ u. is_there t row.id u ≡ true) uids) (once : Apart uids)
    (not_gone : AreNotGone t row.id uids) where
  abbrev unflagged : TableRows
  unflagged = without_flag_rows t (flags_among t row.id uids)

  abbrev emptied : TableRows
  emptied = without_entries unflagged row.id uids

  abbrev with_gone_ones : TableRows
  with_gone_ones = with_gone_rows emptied (gone_of row.id (row.highest + 1) uids)

  abbrev pub expunged_tables : TableRows
  expunged_tables = record with_gone_ones { heads = record t.heads { mailboxes = with_replaced mailbox_key (with_next_modseq row) t.heads.mailboxes } }

  flags_found : (rows : List FlagRow) → AllByRecursion (λ r. row_at flag_key (flag_key r) t.marks.flags ≡ Some r) rows → AreApart flag_key rows → AreFlagRows t rows
  flags_found [] all apart = tt
  flags_found (r ∷ rows) all apart = (ap is_some all.0, apart.0, flags_found rows all.1 apart.1)

  flags_are : AreFlagRows t (flags_among t row.id uids)
  flags_are = flags_found (flags_among t row.id uids)
      (among_all row.id t.marks.flags (λ r. row_at flag_key (flag_key r) t.marks.flags ≡ Some r) (laws.at_keys t.marks.flags whole.ordered.flags) uids)
      (among_apart row.id t.marks.flags (ordered_apart flag_key laws.same laws.places t.marks.flags whole.ordered.flags) uids once)

  -- the messages have no flags any more, and those of others stay
  pub unflagged_here : (u f : ℕ) → is_among u uids ≡ true → row_at flag_key (uid_flag_key row.id u f) unflagged.marks.flags ≡ None
  unflagged_here u f here =
      at_without_rows flag_key laws.same laws.no_flags (uid_flag_key row.id u f) (map flag_key (flags_among t row.id uids)) t.marks.flags ∙ by (row_at flag_key (uid_flag_key row.id u f) t.marks.flags) refl
    where
      none_either : (b : Bool) → cond {A = Option FlagRow} b None None ≡ None
      none_either true = refl
      none_either false = refl

      by : (o : Option FlagRow) → row_at flag_key (uid_flag_key row.id u f) t.marks.flags ≡ o → cond (list_any (λ j. same_key j (uid_flag_key row.id u f)) (map flag_key (flags_among t row.id uids))) None o ≡ None
      by None e = none_either (list_any (λ j. same_key j (uid_flag_key row.id u f)) (map flag_key (flags_among t row.id uids)))
      by (Some x) e = ap (λ b. cond b None (Some x)) (any_keys (uid_flag_key row.id u f) (flags_among t row.id uids) ∙ any_in row.id t.marks.flags u f uids here (ap is_some e))

  pub flagged_still : (u f : ℕ) → is_among u uids ≡ false → row_at flag_key (uid_flag_key row.id u f) unflagged.marks.flags ≡ row_at flag_key (uid_flag_key row.id u f) t.marks.flags
  flagged_still u f other =
      at_without_rows flag_key laws.same laws.no_flags (uid_flag_key row.id u f) (map flag_key (flags_among t row.id uids)) t.marks.flags
      ∙ ap (λ b. cond b None (row_at flag_key (uid_flag_key row.id u f) t.marks.flags)) (none_in row.id t.marks.flags u f uids other)

  pub flagged_elsewhere : (k u f : ℕ) → (row.id == k) ≡ false → row_at flag_key (uid_flag_key k u f) unflagged.marks.flags ≡ row_at flag_key (uid_flag_key k u f) t.marks.flags
  flagged_elsewhere k u f other =
      at_without_rows flag_key laws.same laws.no_flags (uid_flag_key k u f) (map flag_key (flags_among t row.id uids)) t.marks.flags
      ∙ ap (λ b. cond b None (row_at flag_key (uid_flag_key k u f) t.marks.flags)) (none_of_others row.id t.marks.flags k u f uids other)

  plain : (us : List ℕ) → AllByRecursion (λ u. is_among u uids ≡ true) us → AllByRecursion (λ u. is_there t row.id u ≡ true) us → Apart us → ArePlainEntries unflagged row.id us
  plain [] among there apart = tt
  plain (u ∷ us) among there apart = (there.0, no_flags_at laws.same laws.itself row.id u unflagged.marks.flags (λ f. unflagged_here u f among.0), apart.0, plain us among.1 there.1 apart.1)

  themselves : (us : List ℕ) → AllByRecursion (λ u. is_among u us ≡ true) us
  themselves [] = tt
  themselves (u ∷ us) = (
    or_left (u == u) (is_among u us) (eq-eqb u u refl),
    all-weaker (λ v. is_among v us ≡ true) (λ v. is_among v (u ∷ us) ≡ true) (λ v here. or_right (u == v) (is_among v us) here) us (themselves us),
  )

  new_gone : (us : List ℕ) → AreNotGone t row.id us → Apart us → AreNewGone emptied (gone_of row.id (row.highest + 1) us)
  new_gone [] none apart = tt
  new_gone (u ∷ us) none apart = (none.0, ap is_some found, differ us apart.0, new_gone us none.1 apart.1)
    where
      differ : (others : List ℕ) → AllByRecursion (λ other. (u == other) ≡ false) others
          → AllByRecursion (λ r. same_key (uid_key row.id u) (deleted_message_key r) ≡ false) (gone_of row.id (row.highest + 1) others)
      differ [] all = tt
      differ (v ∷ others) all = (and_left (u == v) (row.id == row.id) all.0, differ others all.1)

  pub gone_once : (us : List ℕ) → Apart us → AreApart deleted_message_key (gone_of row.id (row.highest + 1) us)
  gone_once [] apart = tt
  gone_once (u ∷ us) apart = (differ us apart.0, gone_once us apart.1)
    where
      differ : (others : List ℕ) → AllByRecursion (λ other. (u == other) ≡ false) others
          → AllByRecursion (λ r. same_key (uid_key row.id u) (deleted_message_key r) ≡ false) (gone_of row.id (row.highest + 1) others)
      differ [] all = tt
      differ (v ∷ others) all = (and_left (u == v) (row.id == row.id) all.0, differ others all.1)

  pub expunge_runs : IsText row.name → Runs t (expunge_changes t row uids) expunged_tables
  expunge_runs text =
      flag_removals_run laws.no_flags t (flags_among t row.id uids) _ _ flags_are
      (entry_removals_run laws.no_entries row.id unflagged uids _ _ (plain uids (themselves uids) there once)
      (gone_run laws.gone emptied (gone_of row.id (row.highest + 1) uids) _ _ (new_gone uids not_gone once)
      ((text, ap is_some found, all_found (MailboxRefers t) (has_key mailbox_key (number_key row.id)) t.heads.mailboxes row whole.closed.mailboxes found), refl)))

  pub expunge_keeps : IsText row.name → (after : TableRows) → Runs t (expunge_changes t row uids) after → KeepsOwners t after
  expunge_keeps text after runs =
      subst (KeepsOwners t) (laws.one_end t (expunge_changes t row uids) expunged_tables after (expunge_runs text) runs)
      (record { users = λ id there. there; mailboxes = replaced_owner laws.same laws.heads t.heads.mailboxes row.id row (with_next_modseq row) refl refl found })
