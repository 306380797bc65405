-- Names of flags that are added one after another.
use Rattle.std.proofs.Common.{ℕ, ◌≡◌, ◌+◌, ◌≤◌, ◌⊎◌, inl, inr, nat_eq, Bool, true, false, cond, not, List, [], ◌∷◌, ◌++◌, Option, Some, None, refl, sym, ap, subst, ◌∙◌, arith}
use Rattle.std.specs.List.{find, AllByRecursion}
use Rattle.std.specs.Option.{option_map}
use Rattle.std.specs.Cmp.Lexicographic.{pointwise, bytes_decides}
use Rattle.std.proofs.lemmas.Bool.{true≢false, ne_eqb, ltb-true}
use Rattle.std.proofs.lemmas.Option.{none-some, same_Some}
use Rattle.imap_grammar.specs.declared.flags.Flag.{Flag}
use Rattle.imap_grammar.specs.Flags.{flag_text}
use Rattle.ordered_rows.specs.RowKey.{number_key}
use Rattle.ordered_rows.specs.Listed.{IsInOrder, row_at, rows_from, with_row, is_below}
use Rattle.ordered_rows.specs.InsertLaws.{InsertLaws}
use Rattle.row_tables.specs.Keys.{flag_name_key}
use Rattle.row_tables.specs.Indexes.{has_flag_name, flag_name_id}
use Rattle.row_tables.specs.TableRows.{TableRows, MarkRows}
use Rattle.row_tables.specs.Fits.{IsText, Runs, applied}
use Rattle.row_tables.specs.declared.marks.FlagName.{FlagName}
use Rattle.row_tables.specs.declared.change.RowChange.TheVariants.{InsertFlagName}
use Rattle.mail_world.specs.Names.{same_name}
use Rattle.mail_stands.specs.Flagging.{AreIds, Grows, NamesFlags}
use Rattle.mail_stands.specs.Naming.{id_or, next_after, naming, flag_ids, flag_namings, Differ}
use Rattle.mail_stands.proofs.Lists.{all_both}
use Rattle.mail_stands.proofs.Making.{Numbers}

-- no row has an id from this one on
abbrev pub AreFree : ℕ → List FlagName → Type 0
AreFree next names = (id : ℕ) → next ≤ id → row_at flag_name_key (number_key id) names ≡ None

-- the name isn't there
abbrev pub IsUnnamed : List FlagName → Flag → Type 0
IsUnnamed names flag = find (has_flag_name (flag_text flag)) names ≡ None

abbrev is_filled : {X : Type 0} → List X → Bool
is_filled [] = false
is_filled (x ∷ xs) = true

-- no row stands from this id on
free_after : Numbers → (next : ℕ) (r : FlagName) (names : List FlagName) (b : Bool) → is_below flag_name_key (number_key next) r ≡ b → (rows_from flag_name_key (number_key next) names ≡ [] → AreFree next names)
    → cond (not b) (r ∷ rows_from flag_name_key (number_key next) names) (rows_from flag_name_key (number_key next) names) ≡ [] → AreFree next (r ∷ names)
free_after numbers next r names false e rest none id from = absurd (true≢false (ap is_filled none))
free_after numbers next r names true e rest none id from =
    let less = ltb-true r.id next (sym (numbers r.id next) ∙ e) in
    ap (λ b. cond b (Some r) (row_at flag_name_key (number_key id) names)) (ne_eqb r.id id (λ same. omega (arith, less, from, same))) ∙ rest none id from

pub free_of : Numbers → (next : ℕ) (names : List FlagName) → rows_from flag_name_key (number_key next) names ≡ [] → AreFree next names
free_of numbers next [] none id from = refl
free_of numbers next (r ∷ names) none id from = free_after numbers next r names (is_below flag_name_key (number_key next) r) refl (free_of numbers next names) none id from

-- ---- one name more

unnamed : (name : List ℕ) (names : List FlagName) → flag_name_id name names ≡ None → find (has_flag_name name) names ≡ None
unnamed name names e = by (find (has_flag_name name) names) refl e
  where
    by : (o : Option FlagName) → find (has_flag_name name) names ≡ o → option_map (λ r. r.id) o ≡ None → find (has_flag_name name) names ≡ None
    by None found e = found
    by (Some r) found e = absurd (none-some r.id (sym e))

module _ (laws : InsertLaws flag_name_key) (r : FlagName) (names : List FlagName) (order : IsInOrder flag_name_key names) (lacks : find (has_flag_name r.name) names ≡ None) where
  abbrev more : List FlagName
  more = with_row flag_name_key r names

  -- another name finds what it did
  other_found : (name : List ℕ) → pointwise nat_eq r.name name ≡ false → find (has_flag_name name) more ≡ find (has_flag_name name) names
  other_found name differs = laws.passes_by (has_flag_name name) r names differs order

  new_found : (name : List ℕ) → pointwise nat_eq r.name name ≡ true → find (has_flag_name name) more ≡ Some r
  new_found name same = laws.finds (has_flag_name name) r names same (subst (λ n. find (has_flag_name n) names ≡ None) ((bytes_decides r.name name).0 same) lacks)

  named_still : (name : List ℕ) (id : ℕ) → flag_name_id name names ≡ Some id → flag_name_id name more ≡ Some id
  named_still name id e = by (pointwise nat_eq r.name name) refl
    where
      by : (b : Bool) → pointwise nat_eq r.name name ≡ b → flag_name_id name more ≡ Some id
      by true same = absurd (none-some id (sym (ap (option_map (λ x. x.id)) (subst (λ n. find (has_flag_name n) names ≡ None) ((bytes_decides r.name name).0 same) lacks)) ∙ e))
      by false differs = ap (option_map (λ x. x.id)) (other_found name differs) ∙ e

  named_before : (name : List ℕ) (id : ℕ) → flag_name_id name more ≡ Some id → (flag_name_id name names ≡ Some id) ⊎ (r.id ≡ id)
  named_before name id e = by (pointwise nat_eq r.name name) refl
    where
      by : (b : Bool) → pointwise nat_eq r.name name ≡ b → (flag_name_id name names ≡ Some id) ⊎ (r.id ≡ id)
      by true same = inr (same_Some r.id id (sym (ap (option_map (λ x. x.id)) (new_found name same)) ∙ e))
      by false differs = inl (sym (ap (option_map (λ x. x.id)) (other_found name differs)) ∙ e)

grown : (laws : InsertLaws flag_name_key) (start : List FlagName) (r : FlagName) (names : List FlagName) → IsInOrder flag_name_key names → find (has_flag_name r.name) names ≡ None
    → row_at flag_name_key (number_key r.id) start ≡ None → Grows start names → Grows start (with_row flag_name_key r names)
grown laws start r names order lacks new grows = record {
  keeps = λ name id e. named_still laws r names order lacks name id (grows.keeps name id e);
  added = λ name id e. by name id (named_before laws r names order lacks name id e);
}
  where
    by : (name : List ℕ) (id : ℕ) → (flag_name_id name names ≡ Some id) ⊎ (r.id ≡ id) → (flag_name_id name start ≡ Some id) ⊎ (row_at flag_name_key (number_key id) start ≡ None)
    by name id (inl e) = grows.added name id e
    by name id (inr e) = inr (subst (λ k. row_at flag_name_key (number_key k) start ≡ None) e new)

free_still : InsertLaws flag_name_key → (next : ℕ) (name : List ℕ) (names : List FlagName) → AreFree next names → AreFree (next + 1) (with_row flag_name_key (record { id = next; name = name }) names)
free_still laws next name names free id from = laws.other (record { id = next; name = name }) (number_key id) names (ne_eqb next id (λ same. omega (arith, from, same))) ∙ free id (omega (arith, from))

free_from : (next : ℕ) (names : List FlagName) → AreFree next names → AreFree (next + 1) names
free_from next names free id from = free id (omega (arith, from))

-- ---- one after another

-- a name as it is added
abbrev named_row : ℕ → Flag → FlagName
named_row next flag = record { id = next; name = flag_text flag }

-- The names so far, and what the rest of the flags makes of them.
record Named (start names : List FlagName) (next : ℕ) (flags : List Flag) : Type 0 where
  after : List FlagName
  runs : (t : TableRows) → t.marks.flag_names ≡ names → Runs t (flag_namings next start flags) (record t { marks = record t.marks { flag_names = after } })
  keeps : (name : List ℕ) (id : ℕ) → flag_name_id name names ≡ Some id → flag_name_id name after ≡ Some id
  grows : Grows start after
  ids_are : AreIds after flags (flag_ids next start flags)

-- What isn't there at the start isn't there yet.
abbrev AreLacking : List FlagName → List FlagName → List Flag → Type 0
AreLacking start names flags = AllByRecursion (λ flag. IsUnnamed start flag → IsUnnamed names flag) flags

still_lacks : InsertLaws flag_name_key → (start names : List FlagName) (next : ℕ) (flag : Flag) (flags : List Flag) → IsInOrder flag_name_key names → AllByRecursion (λ other. same_name (flag_text flag) (flag_text other) ≡ false) flags
    → AreLacking start names flags → AreLacking start (with_row flag_name_key (named_row next flag) names) flags
still_lacks laws start names next flag flags order differ lacks_all =
    all_both (λ other. same_name (flag_text flag) (flag_text other) ≡ false) (λ other. IsUnnamed start other → IsUnnamed names other)
    (λ other. IsUnnamed start other → IsUnnamed (with_row flag_name_key (named_row next flag) names) other)
    (λ other differs unless none. laws.passes_by (has_flag_name (flag_text other)) (named_row next flag) names differs order ∙ unless none) flags differ lacks_all

name_all : InsertLaws flag_name_key → (start names : List FlagName) (next : ℕ) (flags : List Flag) → IsInOrder flag_name_key names → AreFree next start → AreFree next names → Grows start names
    → AreLacking start names flags → Differ flags → AllByRecursion (λ flag. IsText (flag_text flag)) flags → Named start names next flags
name_all laws start names next [] order start_free free grows lacks_all differ texts = record {
  after = names;
  runs = λ t e. ap (λ ns. record t { marks = record t.marks { flag_names = ns } }) e;
  keeps = λ name id e. e;
  grows = grows;
  ids_are = tt;
}
name_all laws start names next (flag ∷ flags) order start_free free grows lacks_all differ texts =
    by (flag_name_id (flag_text flag) start) refl
    (λ none. let lacks = lacks_all.0 (unnamed (flag_text flag) start none) in
    name_all laws start (with_row flag_name_key (named_row next flag) names) (next + 1) flags (laws.order (named_row next flag) names order (free next (omega arith))) (free_from next start start_free) (free_still laws next (flag_text flag) names free)
    (grown laws start (named_row next flag) names order lacks (start_free next (omega arith)) grows) (still_lacks laws start names next flag flags order differ.0 lacks_all.1) differ.1 texts.1)
    (name_all laws start names next flags order start_free free grows lacks_all.1 differ.1 texts.1)
  where
    one : flag_name_id (flag_text flag) start ≡ None → Named start (with_row flag_name_key (named_row next flag) names) (next + 1) flags → Named start names next (flag ∷ flags)
    one none rest =
        let lacks = lacks_all.0 (unnamed (flag_text flag) start none) in
        record {
          after = rest.after;
          runs = λ t e. subst (λ o. Runs t (naming next (flag_text flag) o ++ flag_namings (next_after next o) start flags) (record t { marks = record t.marks { flag_names = rest.after } })) (sym none) (
            (texts.0, subst (λ ns. row_at flag_name_key (number_key next) ns ≡ None) (sym e) (free next (omega arith)), subst (λ ns. find (has_flag_name (flag_text flag)) ns ≡ None) (sym e) lacks),
            rest.runs (applied t (InsertFlagName (named_row next flag))) (ap (with_row flag_name_key (named_row next flag)) e),
          );
          keeps = λ name id e. rest.keeps name id (named_still laws (named_row next flag) names order lacks name id e);
          grows = rest.grows;
          ids_are = subst (λ o. AreIds rest.after (flag ∷ flags) (id_or next o ∷ flag_ids (next_after next o) start flags)) (sym none)
              (rest.keeps (flag_text flag) next (ap (option_map (λ r. r.id)) (new_found laws (named_row next flag) names order lacks (flag_text flag) ((bytes_decides (flag_text flag) (flag_text flag)).1 refl))), rest.ids_are);
        }

    there : (id : ℕ) → flag_name_id (flag_text flag) start ≡ Some id → Named start names next flags → Named start names next (flag ∷ flags)
    there id some rest = record {
      after = rest.after;
      runs = λ t e. subst (λ o. Runs t (naming next (flag_text flag) o ++ flag_namings (next_after next o) start flags) (record t { marks = record t.marks { flag_names = rest.after } })) (sym some) (rest.runs t e);
      keeps = rest.keeps;
      grows = rest.grows;
      ids_are = subst (λ o. AreIds rest.after (flag ∷ flags) (id_or next o ∷ flag_ids (next_after next o) start flags)) (sym some)
          (rest.keeps (flag_text flag) id (grows.keeps (flag_text flag) id some), rest.ids_are);
    }

    by : (o : Option ℕ) → flag_name_id (flag_text flag) start ≡ o → (flag_name_id (flag_text flag) start ≡ None → Named start (with_row flag_name_key (named_row next flag) names) (next + 1) flags) → Named start names next flags
        → Named start names next (flag ∷ flags)
    by None none new old = one none (new none)
    by (Some id) some new old = there id some old

at_first : (names : List FlagName) (flags : List Flag) → AreLacking names names flags
at_first names [] = tt
at_first names (flag ∷ flags) = (λ none. none, at_first names flags)

pub names_are : InsertLaws flag_name_key → (marks : MarkRows) (next : ℕ) (flags : List Flag) → IsInOrder flag_name_key marks.flag_names → AreFree next marks.flag_names → Differ flags
    → AllByRecursion (λ flag. IsText (flag_text flag)) flags → NamesFlags marks flags (flag_ids next marks.flag_names flags) (flag_namings next marks.flag_names flags)
names_are laws marks next flags order free differ texts =
    let named = name_all laws marks.flag_names marks.flag_names next flags order free free (record { keeps = λ name id e. e; added = λ name id e. inl e }) (at_first marks.flag_names flags) differ texts in
    record {
      names = named.after;
      runs = λ t e. subst (λ (m : MarkRows). Runs t (flag_namings next marks.flag_names flags) (record t { marks = record m { flag_names = named.after } })) e (named.runs t (ap (λ (m : MarkRows). m.flag_names) e));
      grows = named.grows;
      ids_are = named.ids_are;
    }
