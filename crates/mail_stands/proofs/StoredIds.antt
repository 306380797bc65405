-- The rows of a message's flags, before they are stored and after.
use Rattle.std.proofs.Common.{ℕ, ◌≡◌, ◌+◌, ◌≤◌, ◌==◌, ◌&&◌, ◌||◌, Bool, true, false, cond, not, List, [], ◌∷◌, length, map, Option, Some, None, refl, sym, ap, subst, ◌∙◌, arith}
use Rattle.std.specs.Prelude.{IsSome, is_some, nat_lt}
use Rattle.std.specs.Ordering.{is_lt}
use Rattle.std.specs.declared.cmp.Ordering.TheVariants.{Less}
use Rattle.std.specs.List.{AllByRecursion, filter, find, list_all, list_any}
use Rattle.std.specs.List.Sorted.{IsStrictlySortedBy}
use Rattle.std.specs.Cmp.Lexicographic.{bytes_decides}
use Rattle.std.proofs.lemmas.Bool.{true≢false, false≢true, eqb-true, and_parts, and_left, or_parts, or_from, or_left, or_right, not_from_true, not-false, le-ltb}
use Rattle.std.proofs.lemmas.List.{length-append}
use Rattle.imap_grammar.specs.declared.flags.Flag.{Flag}
use Rattle.imap_grammar.specs.declared.flags.FlagChange.{FlagChange}
use Rattle.imap_grammar.specs.declared.flags.FlagChange.TheVariants.{Set, Add, Remove}
use Rattle.imap_grammar.specs.Flags.{flag_text}
use Rattle.ordered_rows.specs.RowKey.{RowKey, key_cmp, number_key}
use Rattle.ordered_rows.specs.Listed.{IsInOrder, row_at, row_cmp, has_key}
use Rattle.ordered_rows.specs.InsertLaws.{InsertLaws}
use Rattle.row_tables.specs.Keys.{uid_flag_key, flag_key, flag_name_key}
use Rattle.row_tables.specs.Indexes.{has_flag_name, flag_name_id}
use Rattle.row_tables.specs.References.{FlagRefers, flags_at}
use Rattle.row_tables.specs.TableRows.{TableRows}
use Rattle.row_tables.specs.declared.marks.FlagName.{FlagName}
use Rattle.row_tables.specs.declared.marks.FlagRow.{FlagRow}
use Rattle.mail_world.specs.Names.{same_name}
use Rattle.mail_world.specs.Limits.{most_flags}
use Rattle.mail_world.specs.Flags.{is_flag, has_flag, same_flags, distinct, are_distinct, stored_flags}
use Rattle.mail_world.specs.Worlds.{is_among}
use Rattle.mail_stands.specs.Facts.{has_flag_named}
use Rattle.mail_stands.specs.Flagging.{AreIds, Grows, is_flagged, is_flagged_by}
use Rattle.mail_stands.specs.Naming.{Differ}
use Rattle.mail_stands.specs.Stands.{AreWhole}
use Rattle.mail_stands.specs.Storing.{has_row, ids_at, is_name_of, is_named_id, drops, given, lacked, differs, passes_limit, dropped, added}
use Rattle.mail_stands.proofs.Lists.{all_found, find_passes, number_is}
use Rattle.mail_stands.proofs.Owners.{SameKeys, there_as}
use Rattle.mail_stands.proofs.Counting.{Places}
use Rattle.mail_stands.proofs.Among.{Apart, each_fails, none_among, among_filter, same_length}
use Rattle.mail_stands.proofs.Written.{distinct_differ}
use Rattle.mail_stands.proofs.FlagTexts.{named_same, same_itself}
use Rattle.mail_stands.proofs.Flags.{found_row, at_id, name_of, one_name, same_bool, ids_told, others_differ, unnamed_flags}
use Rattle.mail_stands.proofs.StoredFlags.{named_flag, distinct_itself, combined, stored_named, stored_proper, same_named}

-- ---- the ids of a message's flags

-- an id is one of them where the row is there
pub among_ids : (id uid i : ℕ) (rows : List FlagRow) → is_among i (map (λ r. r.flag) (flags_at id uid rows)) ≡ is_some (row_at flag_key (uid_flag_key id uid i) rows)
among_ids id uid i [] = refl
among_ids id uid i (r ∷ rows) = by (r.flag == i) (r.uid == uid) (r.mailbox == id) refl (among_ids id uid i rows)
  where
    by : (c d m : Bool) → (r.flag == i) ≡ c → is_among i (map (λ x. x.flag) (flags_at id uid rows)) ≡ is_some (row_at flag_key (uid_flag_key id uid i) rows)
        → is_among i (map (λ x. x.flag) (cond (d && m) (r ∷ flags_at id uid rows) (flags_at id uid rows))) ≡ is_some (cond (c && d && m) (Some r) (row_at flag_key (uid_flag_key id uid i) rows))
    by true true true e same = ap (λ b. b || is_among i (map (λ x. x.flag) (flags_at id uid rows))) e
    by false true true e same = ap (λ b. b || is_among i (map (λ x. x.flag) (flags_at id uid rows))) e ∙ same
    by true true false e same = same
    by false true false e same = same
    by true false m e same = same
    by false false m e same = same

module _ (places : Places) (id uid : ℕ) where
  abbrev here : FlagRow → Bool
  here r = (r.uid == uid) && (r.mailbox == id)

  -- no key is below itself
  not_below : (k : RowKey) → key_cmp k k ≡ Less → ⊥
  not_below k e = true≢false (sym (ap is_lt e) ∙ (places k k.place k.place ∙ le-ltb k.place k.place (omega arith)))

  differ : (x y : FlagRow) → here x ≡ true → here y ≡ true → row_cmp flag_key x y ≡ Less → (x.flag == y.flag) ≡ false
  differ x y p q order = by (x.flag == y.flag) refl
    where
      its : (r : FlagRow) → here r ≡ true → flag_key r ≡ uid_flag_key id uid r.flag
      its r h =
          let parts = and_parts (r.uid == uid) (r.mailbox == id) h in
          ap (λ u. uid_flag_key r.mailbox u r.flag) (eqb-true r.uid uid parts.0) ∙ ap (λ m. uid_flag_key m uid r.flag) (eqb-true r.mailbox id parts.1)

      by : (b : Bool) → (x.flag == y.flag) ≡ b → b ≡ false
      by false e = refl
      by true e =
          let same = its x p ∙ (ap (λ f. uid_flag_key id uid f) (eqb-true x.flag y.flag e) ∙ sym (its y q)) in
          absurd (not_below (flag_key y) (subst (λ k. key_cmp k (flag_key y) ≡ Less) same order))

  each_differs : (x : FlagRow) → here x ≡ true → (ys : List FlagRow) → AllByRecursion (λ y. row_cmp flag_key x y ≡ Less) ys → AllByRecursion (λ i. (x.flag == i) ≡ false) (map (λ r. r.flag) (filter here ys))
  each_differs x p [] all = tt
  each_differs x p (y ∷ ys) all = by (here y) refl (each_differs x p ys all.1)
    where
      by : (b : Bool) → here y ≡ b → AllByRecursion (λ i. (x.flag == i) ≡ false) (map (λ r. r.flag) (filter here ys)) → AllByRecursion (λ i. (x.flag == i) ≡ false) (map (λ r. r.flag) (cond b (y ∷ filter here ys) (filter here ys)))
      by true q rest = (differ x y p q all.0, rest)
      by false q rest = rest

  pub ids_apart : (rows : List FlagRow) → IsInOrder flag_key rows → Apart (map (λ r. r.flag) (flags_at id uid rows))
  unfolding IsStrictlySortedBy
  ids_apart [] order = tt
  ids_apart (x ∷ rows) order = by (here x) refl (ids_apart rows order.1)
    where
      by : (b : Bool) → here x ≡ b → Apart (map (λ r. r.flag) (filter here rows)) → Apart (map (λ r. r.flag) (cond b (x ∷ filter here rows) (filter here rows)))
      by true p rest = (each_differs x p rows order.0, rest)
      by false p rest = rest

-- ---- the ids of flags that differ

pub flags_apart : (laws : InsertLaws flag_name_key) (names : List FlagName) → IsInOrder flag_name_key names → (flags : List Flag) (ids : List ℕ) → AreIds names flags ids → Differ flags → Apart ids
flags_apart laws names order [] [] are differ = tt
flags_apart laws names order [] (i ∷ ids) are differ = absurd are
flags_apart laws names order (f ∷ flags) [] are differ = absurd are
flags_apart laws names order (f ∷ flags) (i ∷ ids) are differ = (others_differ laws names order f i are.0 flags ids are.1 differ.0, flags_apart laws names order flags ids are.1 differ.1)

-- each flag is among those that it is of
self_named : (flags : List Flag) → AllByRecursion (λ f. has_flag_named (flag_text f) flags ≡ true) flags
self_named flags = each flags (λ f e. e)
  where
    each : (some : List Flag) → ((f : Flag) → has_flag_named (flag_text f) some ≡ true → has_flag_named (flag_text f) flags ≡ true) → AllByRecursion (λ f. has_flag_named (flag_text f) flags ≡ true) some
    each [] within = tt
    each (f ∷ some) within = (
      within f (or_left (same_name (flag_text f) (flag_text f)) (has_flag_named (flag_text f) some) (same_itself (flag_text f))),
      each some (λ g e. within g (or_right (same_name (flag_text f) (flag_text g)) (has_flag_named (flag_text g) some) e)),
    )

all_fail : {X : Type 0} (p : X → Bool) (xs : List X) → AllByRecursion (λ x. p x ≡ false) xs → list_any p xs ≡ false
all_fail p [] all = refl
all_fail p (x ∷ xs) all = or_from (p x) (list_any p xs) all.0 (all_fail p xs all.1)

fewer : {X : Type 0} (p : X → Bool) (xs : List X) → length (filter p xs) ≤ length xs
fewer p [] = omega arith
fewer {X} p (x ∷ xs) = by (p x) (fewer p xs)
  where
    by : (b : Bool) → length (filter p xs) ≤ length xs → length (cond b (x ∷ filter p xs) (filter p xs)) ≤ length (x ∷ xs)
    by true le = omega (arith, le)
    by false le = omega (arith, le)

-- ---- what is done with a flag

-- whether a flag is one that messages get, from whether it is named
abbrev gives : FlagChange → Bool → Bool
gives Set named = named
gives Add named = named
gives Remove named = false

gives_told : (how : FlagChange) (named : List Flag) (name : List ℕ) → has_flag_named name (given how named) ≡ gives how (has_flag_named name named)
gives_told Set named name = refl
gives_told Add named name = refl
gives_told Remove named name = refl

-- Below, whether a message had the flag, and whether it is named.
stays : (how : FlagChange) (had named : Bool) → (gives how named ≡ true → had ≡ true) → (had ≡ true → drops how named ≡ false) → had ≡ combined how had named
stays Set true true p q = refl
stays Set true false p q = absurd (true≢false (q refl))
stays Set false true p q = p refl
stays Set false false p q = refl
stays Add true named p q = refl
stays Add false true p q = p refl
stays Add false false p q = refl
stays Remove true true p q = absurd (true≢false (q refl))
stays Remove true false p q = refl
stays Remove false named p q = refl

gets : (how : FlagChange) (had named : Bool) → gives how named ≡ true → had ≡ combined how had named → had ≡ true
gets Set had named g e = e ∙ g
gets Add true named g e = refl
gets Add false named g e = e ∙ g
gets Remove had named g e = absurd (false≢true g)

keeps : (how : FlagChange) (had named : Bool) → had ≡ true → had ≡ combined how had named → drops how named ≡ false
keeps Set had true h e = refl
keeps Set had false h e = absurd (true≢false (sym h ∙ e))
keeps Add had named h e = refl
keeps Remove had false h e = refl
keeps Remove true true h e = sym h ∙ e
keeps Remove false true h e = absurd (false≢true h)

none_after : (how : FlagChange) (had named : Bool) → had ≡ false → gives how named ≡ false → false ≡ combined how had named
none_after Set had named p q = sym q
none_after Add had named p q = sym (or_from had named p q)
none_after Remove had named p q = sym (and_left had (not named) p)

ends : (how : FlagChange) (had lost named : Bool) → (had ≡ true → lost ≡ drops how named) → ((not had && gives how named) || (had && not (lost && had))) ≡ combined how had named
ends how true lost named p = ap (λ l. not (l && true)) (p refl) ∙ by how named
  where
    by : (h : FlagChange) (n : Bool) → not (drops h n && true) ≡ combined h true n
    by Set true = refl
    by Set false = refl
    by Add n = refl
    by Remove true = refl
    by Remove false = refl
ends Set false lost true p = refl
ends Set false lost false p = refl
ends Add false lost true p = refl
ends Add false lost false p = refl
ends Remove false lost named p = refl

-- ---- a message

-- Its flags in the world are those that the rows tell.
module _ (same : SameKeys) (laws : InsertLaws flag_name_key) (places : Places) (t : TableRows) (whole : AreWhole t) (id uid : ℕ) (flags : List Flag) (are : (name : List ℕ) → is_flagged id uid name t.marks.flag_names t.marks.flags ≡ has_flag_named name flags)
    (proper : list_all is_flag flags ≡ true) (distinct_flags : are_distinct flags ≡ true) where
  abbrev names : List FlagName
  names = t.marks.flag_names

  abbrev has : ℕ → Bool
  has i = is_some (row_at flag_key (uid_flag_key id uid i) t.marks.flags)

  -- the name of a flag that it has
  id_named : {P : Type 0} (i : ℕ) → has i ≡ true → ((row : FlagName) → row_at flag_name_key (number_key i) names ≡ Some row → flag_name_id row.name names ≡ Some i → P) → P
  id_named i there use_it =
      there_as (row_at flag_key (uid_flag_key id uid i) t.marks.flags) there (λ r found.
      let its = ap (λ (k : RowKey). k.item) (same (flag_key r) (uid_flag_key id uid i) (find_passes (has_key flag_key (uid_flag_key id uid i)) t.marks.flags r found)) in
      there_as (row_at flag_name_key (number_key i) names) (subst (λ n. IsSome (row_at flag_name_key (number_key n) names)) its (all_found (FlagRefers t) _ t.marks.flags r whole.closed.flags found).2) (λ row at.
      use_it row at
      (ap (λ (o : Option FlagName). by o) (all_found (λ x. find (has_flag_name x.name) names ≡ Some x) _ names row whole.distinct.flag_names at) ∙ ap Some (number_is (λ (x : FlagName). x.id) i names row at))))
    where
      by : Option FlagName → Option ℕ
      by None = None
      by (Some r) = Some r.id

  -- the id of a name is named where the name is
  named_id : (name : List ℕ) (i : ℕ) → flag_name_id name names ≡ Some i → (others : List Flag) → is_named_id t others i ≡ has_flag_named name others
  named_id name i e others =
      found_row name names i e (λ r found is.
      ap (is_name_of others) (at_id laws names whole.ordered.flag_names name i r found is) ∙ ap (λ n. has_flag_named n others) (name_of names name r found))

  has_id : (name : List ℕ) (i : ℕ) → flag_name_id name names ≡ Some i → has i ≡ has_flag_named name flags
  has_id name i e = sym (ap (is_flagged_by id uid t.marks.flags) e) ∙ are name

  flagged_id : {P : Type 0} (name : List ℕ) → has_flag_named name flags ≡ true → ((i : ℕ) → flag_name_id name names ≡ Some i → has i ≡ true → P) → P
  flagged_id {P} name e use_it = by (flag_name_id name names) refl
    where
      by : (o : Option ℕ) → flag_name_id name names ≡ o → P
      by None q = absurd (false≢true (sym (ap (is_flagged_by id uid t.marks.flags) q) ∙ (are name ∙ e)))
      by (Some i) q = use_it i q (has_id name i q ∙ e)

  -- the row of a flag is there where the message has it
  row_told : (f : Flag) → is_flag f ≡ true → has_row t id uid f ≡ has_flag f flags
  row_told f p = are (flag_text f) ∙ named_flag f flags p proper

  -- ---- how many there are

  known : {P : Type 0} (some : List Flag) → AllByRecursion (λ f. has_flag_named (flag_text f) flags ≡ true) some → ((ids : List ℕ) → AreIds names some ids → AllByRecursion (λ i. has i ≡ true) ids → length ids ≡ length some → P) → P
  known [] all use_it = use_it [] tt tt refl
  known (f ∷ some) all use_it =
      flagged_id (flag_text f) all.0 (λ i e there.
      known some all.1 (λ ids is each size. use_it (i ∷ ids) (e, is) (there, each) (omega (arith, size))))

  each_has : (ids : List ℕ) (i : ℕ) → AllByRecursion (λ j. has j ≡ true) ids → is_among i ids ≡ true → has i ≡ true
  each_has [] i all e = absurd (false≢true e)
  each_has (j ∷ ids) i all e = by (j == i) refl e (each_has ids i all.1)
    where
      by : (b : Bool) → (j == i) ≡ b → (b || is_among i ids) ≡ true → (is_among i ids ≡ true → has i ≡ true) → has i ≡ true
      by true s h rest = subst (λ n. has n ≡ true) (eqb-true j i s) all.0
      by false s h rest = rest h

  pub count_told : length (ids_at t id uid) ≡ length flags
  count_told =
      known flags (self_named flags) (λ ids is each size.
      same_length (ids_at t id uid) ids (ids_apart places id uid t.marks.flags whole.ordered.flags)
      (flags_apart laws names whole.ordered.flag_names flags ids is (subst Differ (distinct_itself flags distinct_flags) (distinct_differ flags proper)))
      (λ i. among_ids id uid i t.marks.flags ∙ same_bool (has i) (is_among i ids)
      (λ there. id_named i there (λ row at e. ids_told laws names whole.ordered.flag_names flags ids is row.name i e ∙ (sym (has_id row.name i e) ∙ there)))
      (each_has ids i each))
      ∙ size)

  -- ---- what is named

  module _ (how : FlagChange) (named : List Flag) (named_proper : list_all is_flag named ≡ true) (once : are_distinct named ≡ true) where
    abbrev lacks : Flag → Bool
    lacks f = not (has_row t id uid f)

    abbrev loses : ℕ → Bool
    loses i = drops how (is_named_id t named i)

    -- whether a flag of a name is there after
    abbrev after : List ℕ → Bool
    after name = combined how (has_flag_named name flags) (has_flag_named name named)

    -- none is lacked
    none_lacked : (some : List Flag) → list_any lacks some ≡ false → (name : List ℕ) → has_flag_named name some ≡ true → has_flag_named name flags ≡ true
    none_lacked [] none name e = absurd (false≢true e)
    none_lacked (f ∷ some) none name e =
        let parts = or_parts (lacks f) (list_any lacks some) none in
        by (same_name (flag_text f) name) refl (sym (are (flag_text f)) ∙ not-false (has_row t id uid f) parts.0) (none_lacked some parts.1 name) e
      where
        by : (b : Bool) → same_name (flag_text f) name ≡ b → has_flag_named (flag_text f) flags ≡ true → (has_flag_named name some ≡ true → has_flag_named name flags ≡ true) → (b || has_flag_named name some) ≡ true → has_flag_named name flags ≡ true
        by true s first rest h = subst (λ n. has_flag_named n flags ≡ true) ((bytes_decides (flag_text f) name).0 s) first
        by false s first rest h = rest h

    none_lost : list_any loses (ids_at t id uid) ≡ false → (name : List ℕ) → has_flag_named name flags ≡ true → drops how (has_flag_named name named) ≡ false
    none_lost none name e =
        flagged_id name e (λ i q there.
        sym (ap (drops how) (named_id name i q named)) ∙ each_fails loses (ids_at t id uid) i none (among_ids id uid i t.marks.flags ∙ there))

    -- where nothing is lacked and nothing lost, nothing changes
    stay : differs t id how named uid ≡ false → (name : List ℕ) → has_flag_named name flags ≡ after name
    stay none name =
        let parts = or_parts (list_any lacks (given how named)) (list_any loses (ids_at t id uid)) none in
        stays how (has_flag_named name flags) (has_flag_named name named) (λ e. none_lacked (given how named) parts.0 name (gives_told how named name ∙ e)) (none_lost parts.1 name)

    -- where nothing changes, nothing is lacked and nothing lost
    unchanged : ((name : List ℕ) → has_flag_named name flags ≡ after name) → differs t id how named uid ≡ false
    unchanged equal =
        or_from (list_any lacks (given how named)) (list_any loses (ids_at t id uid)) (all_fail lacks (given how named) (each (given how named) (self_named (given how named))))
        (none_among loses (ids_at t id uid) (λ i there.
        let had = sym (among_ids id uid i t.marks.flags) ∙ there in
        id_named i had (λ row at e.
        ap (drops how) (named_id row.name i e named) ∙ keeps how (has_flag_named row.name flags) (has_flag_named row.name named) (sym (has_id row.name i e) ∙ had) (equal row.name))))
      where
        each : (some : List Flag) → AllByRecursion (λ f. has_flag_named (flag_text f) (given how named) ≡ true) some → AllByRecursion (λ f. lacks f ≡ false) some
        each [] all = tt
        each (f ∷ some) all = (
          not_from_true (has_row t id uid f)
              (are (flag_text f) ∙ gets how (has_flag_named (flag_text f) flags) (has_flag_named (flag_text f) named) (sym (gives_told how named (flag_text f)) ∙ all.0) (equal (flag_text f))),
          each some all.1,
        )

    pub changes_told : differs t id how named uid ≡ not (same_flags flags (stored_flags how named flags))
    changes_told =
        by (differs t id how named uid) (same_flags flags (stored_flags how named flags))
        (λ d. named_same flags (stored_flags how named flags) proper stored_is (λ name. stay d name ∙ sym (stored_named named flags named_proper proper once how name)))
        (λ s. unchanged (λ name. same_named flags (stored_flags how named flags) proper stored_is s name ∙ stored_named named flags named_proper proper once how name))
      where
        stored_is : list_all is_flag (stored_flags how named flags) ≡ true
        stored_is = stored_proper how named flags named_proper proper once

        by : (d s : Bool) → (d ≡ false → s ≡ true) → (s ≡ true → d ≡ false) → d ≡ not s
        by true true p q = absurd (true≢false (q refl))
        by true false p q = refl
        by false true p q = refl
        by false false p q = absurd (false≢true (p refl))

    -- ---- how many there are after

    lacked_told : (some : List Flag) → list_all is_flag some ≡ true → filter lacks some ≡ filter (λ f. not (has_flag f flags)) some
    lacked_told [] e = refl
    lacked_told (f ∷ some) e =
        let parts = and_parts (is_flag f) (list_all is_flag some) e in
        ap (λ b. cond (not b) (f ∷ filter lacks some) (filter lacks some)) (row_told f parts.0) ∙ ap (λ l. cond (not (has_flag f flags)) (f ∷ l) l) (lacked_told some parts.1)

    -- ---- the rows after

    module _ (after_names : List FlagName) (grows : Grows names after_names) (order : IsInOrder flag_name_key after_names) (ids : List ℕ) (are_ids : AreIds after_names (given how named) ids)
        (are_after : (name : List ℕ) → is_flagged id uid name after_names t.marks.flags ≡ has_flag_named name flags) where
      pub rows_told : (rows : List FlagRow) → ((i : ℕ) → is_some (row_at flag_key (uid_flag_key id uid i) rows) ≡ (is_among i (added t id ids uid) || (has i && not (is_among i (dropped t id how named uid))))) → (name : List ℕ)
          → is_flagged id uid name after_names rows ≡ has_flag_named name (stored_flags how named flags)
      rows_told rows told name = by (flag_name_id name after_names) refl ∙ sym (stored_named named flags named_proper proper once how name)
        where
          loses_named : (i : ℕ) → flag_name_id name after_names ≡ Some i → has i ≡ true → loses i ≡ drops how (has_flag_named name named)
          loses_named i e there =
              id_named i there (λ row at q.
              ap (drops how) (named_id row.name i q named ∙ ap (λ n. has_flag_named n named) (one_name laws after_names order row.name name i (grows.keeps row.name i q) e)))

          by : (o : Option ℕ) → flag_name_id name after_names ≡ o → is_flagged_by id uid rows o ≡ after name
          by None e =
              none_after how (has_flag_named name flags) (has_flag_named name named) (sym (are_after name) ∙ ap (is_flagged_by id uid t.marks.flags) e)
              (sym (gives_told how named name) ∙ unnamed_flags after_names (given how named) ids are_ids name e)
          by (Some i) e =
              let had : has i ≡ has_flag_named name flags = sym (ap (is_flagged_by id uid t.marks.flags) e) ∙ are_after name in
              told i
              ∙ ap (λ b. b || (has i && not (is_among i (dropped t id how named uid))))
              (among_filter (λ f. not (has f)) ids i ∙ ap (λ b. not (has i) && b) (ids_told laws after_names order (given how named) ids are_ids name i e ∙ gives_told how named name))
              ∙ ap (λ b. (not (has i) && gives how (has_flag_named name named)) || (has i && not b)) (among_filter loses (ids_at t id uid) i ∙ ap (λ b. loses i && b) (among_ids id uid i t.marks.flags))
              ∙ ends how (has i) (loses i) (has_flag_named name named) (loses_named i e)
              ∙ ap (λ b. combined how b (has_flag_named name named)) had

  pub limit_told : (how : FlagChange) (named : List Flag) → list_all is_flag named ≡ true → are_distinct named ≡ true → length flags ≤ most_flags
      → passes_limit t id how named uid ≡ nat_lt most_flags (length (stored_flags how named flags))
  limit_told Set named named_proper once few = ap (λ l. nat_lt most_flags (length l)) (sym (distinct_itself named once))
  limit_told Add named named_proper once few =
      ap (λ n. nat_lt most_flags n)
      (ap (λ n. n + length (lacked t id Add named uid)) count_told
      ∙ (ap (λ l. length flags + length l) (lacked_told Add named named_proper once named named_proper ∙ ap (filter (λ f. not (has_flag f flags))) (sym (distinct_itself named once)))
      ∙ sym (length-append flags (filter (λ f. not (has_flag f flags)) (distinct named)))))
  limit_told Remove named named_proper once few =
      let less = fewer (λ f. not (has_flag f named)) flags in
      sym (le-ltb most_flags (length (filter (λ f. not (has_flag f named)) flags)) (omega (arith, less, few)))
