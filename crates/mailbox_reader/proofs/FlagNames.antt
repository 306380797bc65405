-- The ids and the names of flags, each found by the other.
use Rattle.std.proofs.Common.{ℕ, ◌≡◌, Bool, true, false, cond, List, [], ◌∷◌, Option, Some, None, refl, sym, ap, subst, ◌∙◌}
use Rattle.std.specs.List.{AllByRecursion, find}
use Rattle.std.specs.Option.{option_map}
use Rattle.std.specs.Cmp.Lexicographic.{bytes_decides}
use Rattle.std.proofs.lemmas.Bool.{false≢true}
use Rattle.std.proofs.lemmas.Option.{none-some, same_Some}
use Rattle.ordered_rows.specs.RowKey.{RowKey, number_key, same_key}
use Rattle.ordered_rows.specs.Listed.{row_at, has_key}
use Rattle.ordered_rows.specs.InsertLaws.{InsertLaws}
use Rattle.row_tables.specs.Keys.{flag_name_key}
use Rattle.row_tables.specs.Indexes.{has_flag_name, flag_name_id}
use Rattle.row_tables.specs.TableRows.{TableRows}
use Rattle.row_tables.specs.declared.marks.FlagName.{FlagName}
use Rattle.mail_stands.specs.Stands.{AreWhole}
use Rattle.mailbox_reader.specs.FlagRows.{is_row_of}

find_passes : {X : Type 0} (p : X → Bool) (xs : List X) (y : X) → find p xs ≡ Some y → p y ≡ true
find_passes p [] y found = absurd (none-some y found)
find_passes p (x ∷ xs) y found = by (p x) refl found (find_passes p xs y)
  where
    by : (b : Bool) → p x ≡ b → cond b (Some x) (find p xs) ≡ Some y → (find p xs ≡ Some y → p y ≡ true) → p y ≡ true
    by true is first rest = subst (λ z. p z ≡ true) (same_Some x y first) is
    by false is first rest = rest first

found_all : {X : Type 0} (Q : X → Type 0) (g : X → Bool) (xs : List X) (x : X) → AllByRecursion Q xs → find g xs ≡ Some x → Q x
found_all Q g [] x all found = absurd (none-some x found)
found_all Q g (y ∷ xs) x all found = by (g y) found (λ rest. found_all Q g xs x all.1 rest)
  where
    by : (b : Bool) → cond b (Some y) (find g xs) ≡ Some x → (find g xs ≡ Some x → Q x) → Q x
    by true is rest = subst Q (same_Some y x is) all.0
    by false is rest = rest is

abbrev pub SameKeys : Type 0
SameKeys = (a b : RowKey) → same_key a b ≡ true → a ≡ b

module _ (same : SameKeys) (laws : InsertLaws flag_name_key) (t : TableRows) (whole : AreWhole t) where
  abbrev names : List FlagName
  names = t.marks.flag_names

  -- the flag of a name that an id's row has
  pub named_by : (q : List ℕ) (flag : ℕ) → is_row_of q (row_at flag_name_key (number_key flag) names) ≡ true → flag_name_id q names ≡ Some flag
  named_by q flag e = by (row_at flag_name_key (number_key flag) names) refl e
    where
      by : (o : Option FlagName) → row_at flag_name_key (number_key flag) names ≡ o → is_row_of q o ≡ true → flag_name_id q names ≡ Some flag
      by None found e = absurd (false≢true e)
      by (Some n) found e =
          let its_name : n.name ≡ q = (bytes_decides n.name q).0 e in
          let its_id : n.id ≡ flag = ap (λ (k : RowKey). k.number) (same (number_key n.id) (number_key flag) (find_passes (has_key flag_name_key (number_key flag)) names n found)) in
          let itself : find (has_flag_name n.name) names ≡ Some n = found_all (λ (r : FlagName). find (has_flag_name r.name) names ≡ Some r) (has_key flag_name_key (number_key flag)) names n whole.distinct.flag_names found in
          ap (λ (o : Option FlagName). option_map (λ (r : FlagName). r.id) o) (subst (λ (l : List ℕ). find (has_flag_name l) names ≡ Some n) its_name itself) ∙ ap Some its_id

  -- the row of the id that a name has
  pub row_named : (q : List ℕ) (flag : ℕ) → flag_name_id q names ≡ Some flag → is_row_of q (row_at flag_name_key (number_key flag) names) ≡ true
  row_named q flag e = by (find (has_flag_name q) names) refl e
    where
      by : (o : Option FlagName) → find (has_flag_name q) names ≡ o → option_map (λ (r : FlagName). r.id) o ≡ Some flag → is_row_of q (row_at flag_name_key (number_key flag) names) ≡ true
      by None found is = absurd (none-some flag is)
      by (Some n) found is =
          let there : row_at flag_name_key (number_key n.id) names ≡ Some n = laws.at_key (has_flag_name q) n names whole.ordered.flag_names found in
          ap (is_row_of q) (subst (λ k. row_at flag_name_key (number_key k) names ≡ Some n) (same_Some n.id flag is) there) ∙ find_passes (has_flag_name q) names n found
