-- Flags of a message that comes, as rows.
use Rattle.std.proofs.Common.{ℕ, ◌≡◌, ◌==◌, ◌&&◌, ◌||◌, ◌⊎◌, inl, inr, Bool, true, false, List, [], ◌∷◌, ◌++◌, Option, Some, None, refl, sym, ap, subst, ◌∙◌}
use Rattle.std.specs.Prelude.{IsSome, is_some}
use Rattle.std.specs.List.{find, AllByRecursion}
use Rattle.std.specs.Option.{option_map}
use Rattle.std.specs.Cmp.Lexicographic.{bytes_decides}
use Rattle.std.proofs.lemmas.Bool.{true≢false, false≢true, eqb-true, eq-eqb}
use Rattle.std.proofs.lemmas.Option.{none-some, same_Some}
use Rattle.imap_grammar.specs.declared.flags.Flag.{Flag}
use Rattle.imap_grammar.specs.Flags.{flag_text}
use Rattle.ordered_rows.specs.RowKey.{RowKey, number_key}
use Rattle.ordered_rows.specs.Listed.{IsInOrder, row_at, with_row, has_key}
use Rattle.ordered_rows.specs.InsertLaws.{InsertLaws}
use Rattle.row_tables.specs.Keys.{uid_flag_key, flag_key, flag_name_key}
use Rattle.row_tables.specs.Indexes.{has_flag_name, flag_name_id}
use Rattle.row_tables.specs.TableRows.{TableRows}
use Rattle.row_tables.specs.References.{HasMailbox, HasMailboxMessage}
use Rattle.row_tables.specs.InTurn.{flag_insertions, AreNewFlags}
use Rattle.row_tables.specs.Fits.{Runs, applied}
use Rattle.row_tables.specs.declared.marks.FlagName.{FlagName}
use Rattle.row_tables.specs.declared.marks.FlagRow.{FlagRow}
use Rattle.row_tables.specs.declared.change.RowChange.{RowChange}
use Rattle.row_tables.specs.declared.change.RowChange.TheVariants.{InsertFlagRow}
use Rattle.mail_world.specs.Names.{same_name}
use Rattle.mail_world.specs.Worlds.{is_among}
use Rattle.mail_stands.specs.Facts.{has_flag_named}
use Rattle.mail_stands.specs.Flagging.{AreIds, Grows, is_flagged, is_flagged_by}
use Rattle.mail_stands.specs.Naming.{Differ}
use Rattle.mail_stands.proofs.Lists.{all_found, find_passes}
use Rattle.mail_stands.proofs.Owners.{SameKeys}

-- ---- the row that a name finds

pub found_row : {P : Type 0} (name : List ℕ) (names : List FlagName) (id : ℕ) → flag_name_id name names ≡ Some id → ((r : FlagName) → find (has_flag_name name) names ≡ Some r → r.id ≡ id → P) → P
found_row {P} name names id e use_it = by (find (has_flag_name name) names) refl e
  where
    by : (o : Option FlagName) → find (has_flag_name name) names ≡ o → option_map (λ r. r.id) o ≡ Some id → P
    by None found is = absurd (none-some id is)
    by (Some r) found is = use_it r found (same_Some r.id id is)

-- the row of an id is there
pub at_id : InsertLaws flag_name_key → (names : List FlagName) → IsInOrder flag_name_key names → (name : List ℕ) (id : ℕ) (r : FlagName) → find (has_flag_name name) names ≡ Some r → r.id ≡ id → row_at flag_name_key (number_key id) names ≡ Some r
at_id laws names order name id r found is = subst (λ k. row_at flag_name_key (number_key k) names ≡ Some r) is (laws.at_key (has_flag_name name) r names order found)

pub name_of : (names : List FlagName) (name : List ℕ) (r : FlagName) → find (has_flag_name name) names ≡ Some r → r.name ≡ name
name_of names name r found = (bytes_decides r.name name).0 (find_passes (has_flag_name name) names r found)

-- an id is of one name
pub one_name : InsertLaws flag_name_key → (names : List FlagName) → IsInOrder flag_name_key names → (a b : List ℕ) (id : ℕ) → flag_name_id a names ≡ Some id → flag_name_id b names ≡ Some id → a ≡ b
one_name laws names order a b id e f =
    found_row a names id e (λ r found is. found_row b names id f (λ q there same.
    sym (name_of names a r found) ∙ (ap (λ x. x.name) (same_Some r q (sym (at_id laws names order a id r found is) ∙ at_id laws names order b id q there same)) ∙ name_of names b q there)))

-- ---- the ids of flags

pub same_bool : (b c : Bool) → (b ≡ true → c ≡ true) → (c ≡ true → b ≡ true) → b ≡ c
same_bool true c h k = sym (h refl)
same_bool false true h k = k refl
same_bool false false h k = refl

module _ (laws : InsertLaws flag_name_key) (names : List FlagName) (order : IsInOrder flag_name_key names) where
  -- an id is among those of flags where its name is
  pub ids_told : (flags : List Flag) (ids : List ℕ) → AreIds names flags ids → (name : List ℕ) (id : ℕ) → flag_name_id name names ≡ Some id → is_among id ids ≡ has_flag_named name flags
  ids_told [] [] are name id e = refl
  ids_told [] (i ∷ ids) are name id e = absurd are
  ids_told (flag ∷ flags) [] are name id e = absurd are
  ids_told (flag ∷ flags) (i ∷ ids) are name id e =
      ap (λ b. b || is_among id ids)
      (same_bool (i == id) (same_name (flag_text flag) name)
      (λ q. (bytes_decides (flag_text flag) name).1 (one_name laws names order (flag_text flag) name id (are.0 ∙ ap Some (eqb-true i id q)) e))
      (λ q. eq-eqb i id (same_Some i id (sym are.0 ∙ (ap (λ n. flag_name_id n names) ((bytes_decides (flag_text flag) name).0 q) ∙ e)))))
      ∙ ap (λ b. same_name (flag_text flag) name || b) (ids_told flags ids are.1 name id e)

  pub others_differ : (flag : Flag) (id : ℕ) → flag_name_id (flag_text flag) names ≡ Some id → (flags : List Flag) (ids : List ℕ) → AreIds names flags ids
      → AllByRecursion (λ other. same_name (flag_text flag) (flag_text other) ≡ false) flags → AllByRecursion (λ other. (id == other) ≡ false) ids
  others_differ flag id e [] [] are differ = tt
  others_differ flag id e [] (i ∷ ids) are differ = absurd are
  others_differ flag id e (other ∷ flags) [] are differ = absurd are
  others_differ flag id e (other ∷ flags) (i ∷ ids) are differ = (by (id == i) refl, others_differ flag id e flags ids are.1 differ.1)
    where
      by : (b : Bool) → (id == i) ≡ b → b ≡ false
      by false q = refl
      by true q = absurd (true≢false (sym ((bytes_decides (flag_text flag) (flag_text other)).1 (one_name laws names order (flag_text flag) (flag_text other) i (e ∙ ap Some (eqb-true id i q)) are.0)) ∙ differ.0))

  -- the message has none of the flags, and none comes twice
  pub new_flags : (t : TableRows) (mailbox uid : ℕ) → ((flag : ℕ) → row_at flag_key (uid_flag_key mailbox uid flag) t.marks.flags ≡ None) → (flags : List Flag) (ids : List ℕ) → AreIds names flags ids → Differ flags → AreNewFlags t mailbox uid ids
  new_flags t mailbox uid free [] [] are differ = tt
  new_flags t mailbox uid free [] (i ∷ ids) are differ = absurd are
  new_flags t mailbox uid free (flag ∷ flags) [] are differ = absurd are
  new_flags t mailbox uid free (flag ∷ flags) (i ∷ ids) are differ = (free i, others_differ flag i are.0 flags ids are.1 differ.0, new_flags t mailbox uid free flags ids are.1 differ.1)

  pub have_names : (flags : List Flag) (ids : List ℕ) → AreIds names flags ids → AllByRecursion (λ id. IsSome (row_at flag_name_key (number_key id) names)) ids
  have_names [] [] are = tt
  have_names [] (i ∷ ids) are = absurd are
  have_names (flag ∷ flags) [] are = absurd are
  have_names (flag ∷ flags) (i ∷ ids) are =
      (found_row (flag_text flag) names i are.0 (λ r found is. ap is_some (at_id laws names order (flag_text flag) i r found is)), have_names flags ids are.1)

-- no flag is written so where the name has no id
pub unnamed_flags : (names : List FlagName) (flags : List Flag) (ids : List ℕ) → AreIds names flags ids → (name : List ℕ) → flag_name_id name names ≡ None → has_flag_named name flags ≡ false
unnamed_flags names [] ids are name e = refl
unnamed_flags names (flag ∷ flags) [] are name e = absurd are
unnamed_flags names (flag ∷ flags) (i ∷ ids) are name e = ap (λ b. b || has_flag_named name flags) (by (same_name (flag_text flag) name) refl) ∙ unnamed_flags names flags ids are.1 name e
  where
    by : (b : Bool) → same_name (flag_text flag) name ≡ b → b ≡ false
    by false q = refl
    by true q = absurd (none-some i (sym e ∙ (sym (ap (λ n. flag_name_id n names) ((bytes_decides (flag_text flag) name).0 q)) ∙ are.0)))

-- ---- names that are added

-- a flag that no name has is a flag of no message
no_rows_of : SameKeys → (before : List FlagName) (rows : List FlagRow) → AllByRecursion (λ r. IsSome (row_at flag_name_key (number_key r.flag) before)) rows → (m uid flag : ℕ) → row_at flag_name_key (number_key flag) before ≡ None
    → is_some (row_at flag_key (uid_flag_key m uid flag) rows) ≡ false
no_rows_of same before rows refer m uid flag none = by (row_at flag_key (uid_flag_key m uid flag) rows) refl
  where
    by : (o : Option FlagRow) → row_at flag_key (uid_flag_key m uid flag) rows ≡ o → is_some o ≡ false
    by None e = refl
    by (Some r) e =
        let its = ap (λ (k : RowKey). k.item) (same (flag_key r) (uid_flag_key m uid flag) (find_passes (has_key flag_key (uid_flag_key m uid flag)) rows r e)) in
        let there = all_found (λ x. IsSome (row_at flag_name_key (number_key x.flag) before)) _ rows r refer e in
        absurd (false≢true (sym (ap is_some (subst (λ k. row_at flag_name_key (number_key k) before ≡ None) (sym its) none)) ∙ there))

pub grown_flags : SameKeys → (before after : List FlagName) (rows : List FlagRow) → AllByRecursion (λ r. IsSome (row_at flag_name_key (number_key r.flag) before)) rows → Grows before after → (m uid : ℕ) (name : List ℕ)
    → is_flagged m uid name after rows ≡ is_flagged m uid name before rows
grown_flags same before after rows refer grows m uid name = by (flag_name_id name before) (flag_name_id name after) refl refl
  where
    new : (id : ℕ) → flag_name_id name before ≡ None → (flag_name_id name before ≡ Some id) ⊎ (row_at flag_name_key (number_key id) before ≡ None) → is_some (row_at flag_key (uid_flag_key m uid id) rows) ≡ false
    new id none (inl e) = absurd (none-some id (sym none ∙ e))
    new id none (inr e) = no_rows_of same before rows refer m uid id e

    by : (o p : Option ℕ) → flag_name_id name before ≡ o → flag_name_id name after ≡ p → is_flagged_by m uid rows p ≡ is_flagged_by m uid rows o
    by (Some id) p e f = ap (is_flagged_by m uid rows) (sym f ∙ grows.keeps name id e)
    by None None e f = refl
    by None (Some id) e f = new id e (grows.added name id f)

-- ---- rows that are inserted

abbrev pub with_flags : ℕ → ℕ → List ℕ → List FlagRow → List FlagRow
with_flags mailbox uid [] rows = rows
with_flags mailbox uid (flag ∷ flags) rows = with_flags mailbox uid flags (with_row flag_key (record { mailbox = mailbox; uid = uid; flag = flag }) rows)

abbrev pub flagged : TableRows → ℕ → ℕ → List ℕ → TableRows
flagged t mailbox uid flags = record t { marks = record t.marks { flags = with_flags mailbox uid flags t.marks.flags } }

pub none_such : (b c d : Bool) → (c && d) ≡ false → (b && c && d) ≡ false
none_such true c d e = e
none_such false c d e = refl

module _ (laws : InsertLaws flag_key) (mailbox uid : ℕ) where
  abbrev row : ℕ → FlagRow
  row flag = record { mailbox = mailbox; uid = uid; flag = flag }

  still_new : (t : TableRows) (flag : ℕ) (flags : List ℕ) → AllByRecursion (λ other. (flag == other) ≡ false) flags → AreNewFlags t mailbox uid flags → AreNewFlags (applied t (InsertFlagRow (row flag))) mailbox uid flags
  still_new t flag [] differ new = tt
  still_new t flag (other ∷ flags) differ new =
      (laws.other (row flag) (uid_flag_key mailbox uid other) t.marks.flags (ap (λ b. b && (uid == uid) && (mailbox == mailbox)) differ.0) ∙ new.0, new.1, still_new t flag flags differ.1 new.2)

  pub flags_run : (t : TableRows) (flags : List ℕ) (rest : List RowChange) (after : TableRows) → HasMailbox t mailbox → HasMailboxMessage t mailbox uid → AllByRecursion (λ id. IsSome (row_at flag_name_key (number_key id) t.marks.flag_names)) flags
      → AreNewFlags t mailbox uid flags → Runs (flagged t mailbox uid flags) rest after → Runs t (flag_insertions mailbox uid flags ++ rest) after
  flags_run t [] rest after box message named new runs = runs
  flags_run t (flag ∷ flags) rest after box message named new runs =
      ((new.0, (box, message, named.0)), flags_run (applied t (InsertFlagRow (row flag))) flags rest after box message named.1 (still_new t flag flags new.1 new.2) runs)

  -- other messages have the flags that they had
  pub others_flags : (flags : List ℕ) (rows : List FlagRow) (m u flag : ℕ) → ((uid == u) && (mailbox == m)) ≡ false → row_at flag_key (uid_flag_key m u flag) (with_flags mailbox uid flags rows) ≡ row_at flag_key (uid_flag_key m u flag) rows
  others_flags [] rows m u flag differ = refl
  others_flags (f ∷ flags) rows m u flag differ =
      others_flags flags (with_row flag_key (row f) rows) m u flag differ ∙ laws.other (row f) (uid_flag_key m u flag) rows (none_such (f == flag) (uid == u) (mailbox == m) differ)

  -- the message has these, and those that it had
  pub its_flags : (flags : List ℕ) (rows : List FlagRow) (flag : ℕ) → is_some (row_at flag_key (uid_flag_key mailbox uid flag) (with_flags mailbox uid flags rows)) ≡ (is_among flag flags || is_some (row_at flag_key (uid_flag_key mailbox uid flag) rows))
  its_flags [] rows flag = refl
  its_flags (f ∷ flags) rows flag = its_flags flags (with_row flag_key (row f) rows) flag ∙ by (f == flag) refl
    where
      or_true : (b : Bool) → (b || true) ≡ true
      or_true true = refl
      or_true false = refl

      by : (b : Bool) → (f == flag) ≡ b → (is_among flag flags || is_some (row_at flag_key (uid_flag_key mailbox uid flag) (with_row flag_key (row f) rows))) ≡ ((b || is_among flag flags) || is_some (row_at flag_key (uid_flag_key mailbox uid flag) rows))
      by true e = ap (λ o. is_among flag flags || is_some o) (subst (λ k. row_at flag_key (uid_flag_key mailbox uid k) (with_row flag_key (row f) rows) ≡ Some (row f)) (eqb-true f flag e) (laws.same (row f) rows)) ∙ or_true (is_among flag flags)
      by false e = ap (λ o. is_among flag flags || is_some o) (laws.other (row f) (uid_flag_key mailbox uid flag) rows (ap (λ b. b && (uid == uid) && (mailbox == mailbox)) e))
