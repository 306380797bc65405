-- Indexes of names after an insertion, and what they find.
use Rattle.std.proofs.Common.{◌≡◌, ℕ, Bool, true, false, cond, ◌&&◌, ◌||◌, ◌==◌, nat_eq, nat_lt, List, [], ◌∷◌, map, Some, None, refl, sym, ap, ◌∙◌, subst}
use mathlib.Core.Bool.{true≢false}
use borrow.Author.Tests.{eqb-true}
use Rattle.std.specs.Ordering.{is_lt, nat_cmp, ordering_then}
use Rattle.std.specs.declared.cmp.Ordering.TheVariants.{Equal}
use Rattle.std.specs.Cmp.{tied_itself, nat_cmp_total, first_so, second_so}
use Rattle.std.specs.Cmp.Lexicographic.{pointwise, bytes_decides, nat_list_cmp_total, slice_cmp}
use Rattle.std.specs.List.{filter, find, list_any}
use Rattle.ordered_rows.specs.RowKey.{RowKey, key_cmp, same_key, number_key}
use Rattle.ordered_rows.specs.Listed.{IsInOrder, has_key, is_below, is_in_group, row_at, with_row, placed}
use Rattle.row_tables.specs.Names.{Names, AreNamed, name_key, name_entry_key}
use Rattle.row_tables.specs.declared.indexes.NameEntry.{NameEntry}
use Rattle.row_tables.proofs.Entries.{Numbers, is_lt_nat, or_right}

name_lt : (n : ℕ) (t : List ℕ) (a b : ℕ) → is_lt (key_cmp (name_key n t a) (name_key n t b)) ≡ nat_lt a b
name_lt n t a b =
    ap (λ r. is_lt (ordering_then (ordering_then (ordering_then (ordering_then (ordering_then r (slice_cmp nat_cmp t t)) Equal) Equal) Equal) (nat_cmp a b))) (tied_itself nat_cmp_total n)
    ∙ ap (λ r. is_lt (ordering_then (ordering_then (ordering_then (ordering_then r Equal) Equal) Equal) (nat_cmp a b))) (tied_itself nat_list_cmp_total t) ∙ is_lt_nat a b

-- what the entries of one name have in common
abbrev pub is_here : ℕ → List ℕ → NameEntry → Bool
is_here n t = is_in_group name_entry_key (name_key n t 0)

pub here_name : (n : ℕ) (t : List ℕ) (e : NameEntry) → is_here n t e ≡ true → e.name ≡ t
here_name n t e h = (bytes_decides e.name t).0 (first_so (pointwise nat_eq e.name t) true (first_so (pointwise nat_eq e.name t && true) (e.number == n) h))

pub here_number : (n : ℕ) (t : List ℕ) (e : NameEntry) → is_here n t e ≡ true → e.number ≡ n
here_number n t e h = eqb-true e.number n (second_so (pointwise nat_eq e.name t && true) (e.number == n) h)

-- entries of one name are ordered by their ids
below_here : (n : ℕ) (t : List ℕ) (e x : NameEntry) → is_here n t e ≡ true → is_here n t x ≡ true → is_below name_entry_key (name_entry_key e) x ≡ nat_lt x.id e.id
below_here n t e x he hx =
    ap (λ m. is_lt (key_cmp (name_key m x.name x.id) (name_key e.number e.name e.id))) (here_number n t x hx ∙ sym (here_number n t e he))
    ∙ ap (λ s. is_lt (key_cmp (name_key e.number s x.id) (name_key e.number e.name e.id))) (here_name n t x hx ∙ sym (here_name n t e he)) ∙ name_lt e.number e.name x.id e.id

-- an entry of a row
pub record IsEntry {X : Type 0} (names : Names X) (entry : NameEntry) (row : X) : Type 0 where
  pub number : entry.number ≡ names.number (names.place row)
  pub name : entry.name ≡ names.name (names.place row)
  pub id : entry.id ≡ names.id row

module _ {X : Type 0} (names : Names X) (key : X → RowKey) (keyed : (row : X) → key row ≡ number_key (names.id row)) where
  below_id : ((a b : ℕ) → is_lt (key_cmp (number_key a) (number_key b)) ≡ nat_lt a b) → (row x : X) → is_below key (key row) x ≡ nat_lt (names.id x) (names.id row)
  below_id numbers row x = ap (λ k. is_lt (key_cmp k (key row))) (keyed x) ∙ ap (λ k. is_lt (key_cmp (number_key (names.id x)) k)) (keyed row) ∙ numbers (names.id x) (names.id row)

  pub entry_here : (entry : NameEntry) (row : X) → IsEntry names entry row → (p : names.Place) → is_here (names.number p) (names.name p) entry ≡ names.has p row
  entry_here entry row is p =
      ap (λ t. pointwise nat_eq t (names.name p) && true && (entry.number == names.number p)) is.name
      ∙ ap (λ n. pointwise nat_eq (names.name (names.place row)) (names.name p) && true && (n == names.number p)) is.number ∙ names.same p row

  pub named_with : (entries : List NameEntry) (rows : List X) (entry : NameEntry) (row : X) → Numbers key → Numbers name_entry_key → ((a b : ℕ) → is_lt (key_cmp (number_key a) (number_key b)) ≡ nat_lt a b)
      → AreNamed names entries rows → IsEntry names entry row → IsInOrder name_entry_key entries → IsInOrder key rows → AreNamed names (with_row name_entry_key entry entries) (with_row key row rows)
  named_with entries rows entry row laws entry_laws numbers are is entries_order order = record { each = λ p. by p (names.has p row) refl }
    where
      by : (p : names.Place) (b : Bool) → names.has p row ≡ b
          → map (λ (e : NameEntry). e.id) (filter (is_here (names.number p) (names.name p)) (with_row name_entry_key entry entries)) ≡ map names.id (filter (names.has p) (with_row key row rows))
      by p true q =
          let here : is_here (names.number p) (names.name p) entry ≡ true = entry_here entry row is p ∙ q in
          entry_laws.same (λ x. x.id) (is_here (names.number p) (names.name p)) entry entries here (λ x h. below_here (names.number p) (names.name p) entry x here h)
          ∙ ap (λ i. placed i (map (λ (x : NameEntry). x.id) (filter (is_here (names.number p) (names.name p)) entries))) is.id ∙ ap (placed (names.id row)) (are.each p)
          ∙ sym (laws.same names.id (names.has p) row rows q (λ x h. below_id numbers row x))
      by p false q =
          entry_laws.other (λ x. x.id) (is_here (names.number p) (names.name p)) entry entries (entry_here entry row is p ∙ q) entries_order ∙ are.each p
          ∙ sym (laws.other names.id (names.has p) row rows q order)

  -- an id that no row has is in no entry
  no_id : (g : X → Bool) (i : ℕ) (rows : List X) → row_at key (number_key i) rows ≡ None → list_any (λ j. j == i) (map names.id (filter g rows)) ≡ false
  no_id g i [] e = refl
  no_id g i (r ∷ rows) e = by (names.id r == i) (g r) refl (ap (λ k. cond (same_key k (number_key i)) (Some r) (row_at key (number_key i) rows)) (sym (keyed r)) ∙ e) (λ h. no_id g i rows h)
    where
      by : (a b : Bool) → (names.id r == i) ≡ a → cond a (Some r) (row_at key (number_key i) rows) ≡ None → (row_at key (number_key i) rows ≡ None → list_any (λ j. j == i) (map names.id (filter g rows)) ≡ false)
          → list_any (λ j. j == i) (map names.id (cond b (r ∷ filter g rows) (filter g rows))) ≡ false
      by true b q h rest = cc
      by false true q h rest = ap (λ c. c || list_any (λ j. j == i) (map names.id (filter g rows))) q ∙ rest h
      by false false q h rest = rest h

no_entry : (n : ℕ) (t : List ℕ) (i : ℕ) (entries : List NameEntry) → list_any (λ j. j == i) (map (λ (e : NameEntry). e.id) (filter (is_here n t) entries)) ≡ false → row_at name_entry_key (name_key n t i) entries ≡ None
no_entry n t i [] h = refl
no_entry n t i (x ∷ xs) h = by (has_key name_entry_key (name_key n t i) x) (is_here n t x) refl refl h (λ k. no_entry n t i xs k)
  where
    by : (a b : Bool) → has_key name_entry_key (name_key n t i) x ≡ a → is_here n t x ≡ b
        → list_any (λ j. j == i) (map (λ (e : NameEntry). e.id) (cond b (x ∷ filter (is_here n t) xs) (filter (is_here n t) xs))) ≡ false
        → (list_any (λ j. j == i) (map (λ (e : NameEntry). e.id) (filter (is_here n t) xs)) ≡ false → row_at name_entry_key (name_key n t i) xs ≡ None) → cond a (Some x) (row_at name_entry_key (name_key n t i) xs) ≡ None
    by false true q p h rest = rest (or_right (x.id == i) _ h)
    by false false q p h rest = rest h
    by true b q p h rest =
        let outer = first_so (pointwise nat_eq x.name t && (x.id == i) && true) (x.number == n) q in
        let inner = first_so (pointwise nat_eq x.name t && (x.id == i)) true outer in
        let name : pointwise nat_eq x.name t ≡ true = first_so (pointwise nat_eq x.name t) (x.id == i) inner in
        let id : (x.id == i) ≡ true = second_so (pointwise nat_eq x.name t) (x.id == i) inner in
        let number : (x.number == n) ≡ true = second_so (pointwise nat_eq x.name t && (x.id == i) && true) (x.number == n) q in
        let here : b ≡ true = sym p ∙ ap (λ c. c && true && (x.number == n)) name ∙ number in
        absurd (true≢false (sym (ap (λ c. c || list_any (λ j. j == i) (map (λ (e : NameEntry). e.id) (filter (is_here n t) xs))) id) ∙ subst (λ c. list_any (λ j. j == i) (map (λ (e : NameEntry). e.id) (cond c (x ∷ filter (is_here n t) xs) (filter (is_here n t) xs))) ≡ false) here h))

module _ {X : Type 0} (names : Names X) (key : X → RowKey) (keyed : (row : X) → key row ≡ number_key (names.id row)) where
  pub name_is_new : (entries : List NameEntry) (rows : List X) (entry : NameEntry) (row : X) → AreNamed names entries rows → IsEntry names entry row → row_at key (key row) rows ≡ None
      → row_at name_entry_key (name_entry_key entry) entries ≡ None
  name_is_new entries rows entry row are is new =
      let none : row_at key (number_key (names.id row)) rows ≡ None = subst (λ k. row_at key k rows ≡ None) (keyed row) new in
      let at = no_entry (names.number (names.place row)) (names.name (names.place row)) (names.id row) entries
      (ap (list_any (λ j. j == names.id row)) (are.each (names.place row)) ∙ no_id names key keyed (names.has (names.place row)) (names.id row) rows none) in
      ap (λ n. row_at name_entry_key (name_key n entry.name entry.id) entries) is.number ∙ ap (λ t. row_at name_entry_key (name_key (names.number (names.place row)) t entry.id) entries) is.name
      ∙ ap (λ i. row_at name_entry_key (name_key (names.number (names.place row)) (names.name (names.place row)) i) entries) is.id ∙ at

  -- the first id of a name's rows is that of the row that the name finds
  none_first : (g : X → Bool) (rows : List X) → map names.id (filter g rows) ≡ [] → find g rows ≡ None
  none_first g [] e = refl
  none_first g (r ∷ rows) e = by (g r) refl e (λ h. none_first g rows h)
    where
      by : (b : Bool) → g r ≡ b → map names.id (cond b (r ∷ filter g rows) (filter g rows)) ≡ [] → (map names.id (filter g rows) ≡ [] → find g rows ≡ None) → cond b (Some r) (find g rows) ≡ None
      by true q h rest = cc
      by false q h rest = rest h

  some_first : (g : X → Bool) (i : ℕ) (rest : List ℕ) (rows : List X) → map names.id (filter g rows) ≡ i ∷ rest → (r : X) × (find g rows ≡ Some r) × (names.id r ≡ i)
  some_first g i rest [] e = cc
  some_first g i rest (r ∷ rows) e = by (g r) refl e (λ h. some_first g i rest rows h)
    where
      by : (b : Bool) → g r ≡ b → map names.id (cond b (r ∷ filter g rows) (filter g rows)) ≡ i ∷ rest → (map names.id (filter g rows) ≡ i ∷ rest → (x : X) × (find g rows ≡ Some x) × (names.id x ≡ i))
          → (x : X) × (cond b (Some r) (find g rows) ≡ Some x) × (names.id x ≡ i)
      by true q h later = (r, refl, cc)
      by false q h later = later h

  -- a row that the index finds
  pub found_none : (entries : List NameEntry) (rows : List X) (p : names.Place) → AreNamed names entries rows → map (λ (e : NameEntry). e.id) (filter (is_in_group name_entry_key (name_key (names.number p) (names.name p) 0)) entries) ≡ [] → find (names.has p) rows ≡ None
  found_none entries rows p are none = none_first (names.has p) rows (sym (are.each p) ∙ none)

  pub found_some : (entries : List NameEntry) (rows : List X) (p : names.Place) (i : ℕ) (rest : List ℕ) → AreNamed names entries rows
      → ((g : X → Bool) (row : X) → find g rows ≡ Some row → row_at key (key row) rows ≡ Some row)
      → map (λ (e : NameEntry). e.id) (filter (is_in_group name_entry_key (name_key (names.number p) (names.name p) 0)) entries) ≡ i ∷ rest → row_at key (number_key i) rows ≡ find (names.has p) rows
  found_some entries rows p i rest are at_key ids =
      let first = some_first (names.has p) i rest rows (sym (are.each p) ∙ ids) in
      subst (λ k. row_at key k rows ≡ find (names.has p) rows) (keyed first.0 ∙ ap number_key first.2) (at_key (names.has p) first.0 first.1 ∙ sym first.1)
