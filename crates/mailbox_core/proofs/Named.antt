-- The ids and the names of flags, as they are planned one after another.
use Rattle.std.proofs.Common.{◌≡◌, ◌≤◌, ◌<◌, ℕ, ◌+◌, List, [], ◌∷◌, ◌++◌, length, map, get_or, drop, Option, Some, None, sym, ap, ◌∙◌, subst}
use Rattle.std.proofs.lemmas.List.{append_assoc, append-nil, drop_more}
use Rattle.std.specs.List.{AllByRecursion}
use Rattle.imap_grammar.specs.declared.flags.Flag.{Flag}
use Rattle.imap_grammar.specs.Flags.{flag_text}
use Rattle.ordered_rows.specs.RowKey.{number_key}
use Rattle.ordered_rows.specs.Listed.{IsInOrder, row_at}
use Rattle.row_tables.specs.Keys.{flag_name_key}
use Rattle.row_tables.specs.TableRows.{MarkRows, TableRows}
use Rattle.row_tables.specs.Fits.{IsText}
use Rattle.row_tables.specs.Indexes.{flag_name_id}
use Rattle.row_tables.specs.declared.marks.FlagName.{FlagName}
use Rattle.row_tables.specs.declared.change.RowChange.{RowChange}
use Rattle.row_store.specs.Bodies.{ArePlaced}
use Rattle.row_tables.specs.declared.contents.BodyPart.{BodyPart}
use Rattle.mail_world.specs.Flags.{distinct}
use Rattle.mail_stands.specs.Flagging.{NamesFlags}
use Rattle.mail_stands.specs.Naming.{Differ, flag_ids, flag_namings, id_or, naming, next_after}
use Rattle.mailbox_core.specs.Appending.{PlansFlags}
use Rattle.mailbox_core.proofs.FlagTexts.{all_distinct}

module _ {A : Type 0} (f : A → Flag) (names : List FlagName) (flags : List A) (k : ℕ) (x : A) (less : k < length flags) (is : x ≡ get_or flags k x) where
  left : drop k flags ≡ x ∷ drop (k + 1) flags
  left = drop_more flags k x less ∙ ap (λ (y : A). y ∷ drop (k + 1) flags) (sym is)

  pub ids_step : (next after : ℕ) (name : List ℕ) (before new all : List ℕ) → name ≡ flag_text (f x) → after ≡ next_after next (flag_name_id name names)
      → new ≡ before ++ id_or next (flag_name_id name names) ∷ [] → before ++ flag_ids next names (map f (drop k flags)) ≡ all → new ++ flag_ids after names (map f (drop (k + 1) flags)) ≡ all
  ids_step next after name before new all e_name e_after e_new so_far =
      let rest : List Flag = map f (drop (k + 1) flags) in
      ap (λ (l : List ℕ). l ++ flag_ids after names rest) e_new
      ∙ (append_assoc before (id_or next (flag_name_id name names) ∷ []) (flag_ids after names rest)
      ∙ (ap (λ (a : ℕ). before ++ (id_or next (flag_name_id name names) ∷ flag_ids a names rest)) e_after
      ∙ (ap (λ (n : List ℕ). before ++ (id_or next (flag_name_id n names) ∷ flag_ids (next_after next (flag_name_id n names)) names rest)) e_name
      ∙ (ap (λ (l : List A). before ++ flag_ids next names (map f l)) (sym left) ∙ so_far))))

  pub names_step : (next after : ℕ) (name : List ℕ) (before new all : List RowChange) → name ≡ flag_text (f x) → after ≡ next_after next (flag_name_id name names)
      → new ≡ before ++ naming next name (flag_name_id name names) → before ++ flag_namings next names (map f (drop k flags)) ≡ all → new ++ flag_namings after names (map f (drop (k + 1) flags)) ≡ all
  names_step next after name before new all e_name e_after e_new so_far =
      let rest : List Flag = map f (drop (k + 1) flags) in
      ap (λ (l : List RowChange). l ++ flag_namings after names rest) e_new
      ∙ (append_assoc before (naming next name (flag_name_id name names)) (flag_namings after names rest)
      ∙ (ap (λ (a : ℕ). before ++ (naming next name (flag_name_id name names) ++ flag_namings a names rest)) e_after
      ∙ (ap (λ (n : List ℕ). before ++ (naming next n (flag_name_id n names) ++ flag_namings (next_after next (flag_name_id n names)) names rest)) e_name
      ∙ (ap (λ (l : List A). before ++ flag_namings next names (map f l)) (sym left) ∙ so_far))))

-- nothing is left
pub ids_end : {A : Type 0} (f : A → Flag) (names : List FlagName) (flags : List A) (k next : ℕ) (ids all : List ℕ) → drop k flags ≡ [] → ids ++ flag_ids next names (map f (drop k flags)) ≡ all → ids ≡ all
ids_end {A} f names flags k next ids all none so_far = sym (append-nil ids) ∙ (ap (λ (l : List A). ids ++ flag_ids next names (map f l)) (sym none) ∙ so_far)

pub names_end : {A : Type 0} (f : A → Flag) (names : List FlagName) (flags : List A) (k next : ℕ) (changes all : List RowChange) → drop k flags ≡ [] → changes ++ flag_namings next names (map f (drop k flags)) ≡ all
    → changes ≡ all
names_end {A} f names flags k next changes all none so_far = sym (append-nil changes) ∙ (ap (λ (l : List A). changes ++ flag_namings next names (map f l)) (sym none) ∙ so_far)

-- names place no body
naming_placed : (placed : List BodyPart) (next : ℕ) (name : List ℕ) (id : Option ℕ) (rest : List RowChange) → ArePlaced placed rest → ArePlaced placed (naming next name id ++ rest)
naming_placed placed next name None rest are = (tt, are)
naming_placed placed next name (Some id) rest are = are

pub namings_placed : (placed : List BodyPart) (next : ℕ) (names : List FlagName) (flags : List Flag) → ArePlaced placed (flag_namings next names flags)
namings_placed placed next names [] = tt
namings_placed placed next names (flag ∷ flags) =
    let id = flag_name_id (flag_text flag) names in
    naming_placed placed next (flag_text flag) id (flag_namings (next_after next id) names flags) (namings_placed placed (next_after next id) names flags)

-- ---- what is planned for flags, once each of them has its id

abbrev pub IsFree : ℕ → List FlagName → Type 0
IsFree next names = (id : ℕ) → next ≤ id → row_at flag_name_key (number_key id) names ≡ None

module _ (named : (marks : MarkRows) (next : ℕ) (flags : List Flag) → IsInOrder flag_name_key marks.flag_names → IsFree next marks.flag_names → Differ flags
    → AllByRecursion (λ flag. IsText (flag_text flag)) flags → NamesFlags marks flags (flag_ids next marks.flag_names flags) (flag_namings next marks.flag_names flags)) where
  pub plans_flags : (t : TableRows) (flags found : List Flag) (next : ℕ) (ids : List ℕ) (names : List RowChange) → IsInOrder flag_name_key t.marks.flag_names → IsFree next t.marks.flag_names
      → Differ (distinct flags) → AllByRecursion (λ flag. IsText (flag_text flag)) flags → found ≡ distinct flags
      → ids ≡ flag_ids next t.marks.flag_names found → names ≡ flag_namings next t.marks.flag_names found → PlansFlags t flags ids names
  plans_flags t flags found next ids names ordered free differ texts same e_ids e_names =
      let each : List Flag = distinct flags in
      let rows : List FlagName = t.marks.flag_names in
      let ids_are : ids ≡ flag_ids next rows each = e_ids ∙ ap (λ (l : List Flag). flag_ids next rows l) same in
      let names_are : names ≡ flag_namings next rows each = e_names ∙ ap (λ (l : List Flag). flag_namings next rows l) same in
      let all : NamesFlags t.marks each (flag_ids next rows each) (flag_namings next rows each) =
      named t.marks next each ordered free differ (all_distinct (λ (flag : Flag). IsText (flag_text flag)) flags texts) in
      record {
        named = subst (λ (l : List ℕ). NamesFlags t.marks each l names) (sym ids_are) (subst (λ (l : List RowChange). NamesFlags t.marks each (flag_ids next rows each) l) (sym names_are) all);
        placed = λ placed. subst (λ (l : List RowChange). ArePlaced placed l) (sym names_are) (namings_placed placed next rows each);
      }
