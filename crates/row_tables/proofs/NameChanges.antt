-- Indexes of names after a removal and a replacement.
use Rattle.std.proofs.Common.{◌≡◌, ℕ, Bool, true, false, not, cond, if◌then◌else◌, ◌&&◌, ◌==◌, nat_eq, nat_lt, List, [], ◌∷◌, map, Some, None, refl, sym, ap, ◌∙◌, subst}
use mathlib.Core.Bool.{true≢false}
use borrow.Author.Tests.{eqb-true, eq-eqb}
use Rattle.std.specs.Ordering.{is_lt}
use Rattle.std.specs.Cmp.{first_so, second_so}
use Rattle.std.specs.Cmp.Lexicographic.{pointwise, bytes_decides}
use Rattle.std.specs.List.{AllByRecursion, filter, find}
use Rattle.std.proofs.lemmas.List.Kept.{IsStrictlySortedBy-filter}
use Rattle.ordered_rows.specs.RowKey.{RowKey, key_cmp, same_key, number_key}
use Rattle.ordered_rows.specs.Listed.{IsInOrder, has_key, row_at, row_cmp, with_row, with_replaced, without}
use Rattle.row_tables.specs.Indexes.{same_bytes}
use Rattle.row_tables.specs.Names.{Names, AreNamed, and_true, name_key, name_entry_key}
use Rattle.row_tables.specs.declared.indexes.NameEntry.{NameEntry}
use Rattle.row_tables.proofs.Entries.{Numbers}
use Rattle.row_tables.proofs.Lists.{all_map}
use Rattle.row_tables.proofs.NameEntries.{IsEntry, is_here, here_name, here_number, named_with, name_is_new}

all_of : {X : Type 0} (P : X → Type 0) → ((x : X) → P x) → (xs : List X) → AllByRecursion P xs
all_of P f [] = tt
all_of P f (x ∷ xs) = (f x, all_of P f xs)

-- what a test finds passes it
pub found_passes : {X : Type 0} (g : X → Bool) (xs : List X) (x : X) → find g xs ≡ Some x → g x ≡ true
found_passes g [] x e = cc
found_passes {X} g (y ∷ ys) x e = by (g y) refl e (λ h. found_passes g ys x h)
  where
    by : (b : Bool) → g y ≡ b → cond b (Some y) (find g ys) ≡ Some x → (find g ys ≡ Some x → g x ≡ true) → g x ≡ true
    by true q h rest = let same : y ≡ x = cc in subst (λ z. g z ≡ true) same q
    by false q h rest = rest h

-- a row that is looked up by its key has that key
pub has_its_key : {X : Type 0} (key : X → RowKey) → ((a b : RowKey) → same_key a b ≡ true → a ≡ b) → (k : RowKey) (rows : List X) (row : X) → row_at key k rows ≡ Some row → key row ≡ k
has_its_key key keys k rows row at = keys (key row) k (found_passes (has_key key k) rows row at)

-- without a row that isn't there
pub without_none : {X : Type 0} (key : X → RowKey) (k : RowKey) (rows : List X) → row_at key k rows ≡ None → without key k rows ≡ rows
without_none key k [] e = refl
without_none {X} key k (x ∷ rows) e = by (has_key key k x) e (λ h. without_none key k rows h)
  where
    by : (b : Bool) → cond b (Some x) (row_at key k rows) ≡ None → (row_at key k rows ≡ None → without key k rows ≡ rows) → cond (not b) (x ∷ without key k rows) (without key k rows) ≡ x ∷ rows
    by true h rest = cc
    by false h rest = ap (λ l. x ∷ l) (rest h)

-- the numbers of the rows that pass a test and are left, where the numbers tell which are
numbers_left : {X : Type 0} (f : X → ℕ) (g q : X → Bool) (w : ℕ → Bool) (xs : List X) → AllByRecursion (λ x. g x ≡ true → q x ≡ w (f x)) xs → map f (filter g (filter q xs)) ≡ filter w (map f (filter g xs))
numbers_left f g q w [] h = refl
numbers_left {X} f g q w (x ∷ xs) h = by (g x) (q x) refl refl (numbers_left f g q w xs h.1)
  where
    by : (a b : Bool) → g x ≡ a → q x ≡ b → map f (filter g (filter q xs)) ≡ filter w (map f (filter g xs)) → map f (filter g (cond b (x ∷ filter q xs) (filter q xs))) ≡ filter w (map f (cond a (x ∷ filter g xs) (filter g xs)))
    by true true p r rest =
        ap (λ c. map f (cond c (x ∷ filter g (filter q xs)) (filter g (filter q xs)))) p ∙ ap (λ l. f x ∷ l) rest
        ∙ sym (ap (λ c. cond c (f x ∷ filter w (map f (filter g xs))) (filter w (map f (filter g xs)))) (sym (h.0 p) ∙ r))
    by true false p r rest = rest ∙ sym (ap (λ c. cond c (f x ∷ filter w (map f (filter g xs))) (filter w (map f (filter g xs)))) (sym (h.0 p) ∙ r))
    by false true p r rest = ap (λ c. map f (cond c (x ∷ filter g (filter q xs)) (filter g (filter q xs)))) p ∙ rest
    by false false p r rest = rest

module _ {X : Type 0} (names : Names X) where
  -- the key of a row's entry
  pub entry_key_is : (entry : NameEntry) (row : X) (i : ℕ) → IsEntry names entry row → names.id row ≡ i → name_entry_key entry ≡ name_key (names.number (names.place row)) (names.name (names.place row)) i
  entry_key_is entry row i is id =
      ap (λ n. name_key n entry.name entry.id) is.number ∙ ap (λ t. name_key (names.number (names.place row)) t entry.id) is.name ∙ ap (λ j. name_key (names.number (names.place row)) (names.name (names.place row)) j) (is.id ∙ id)

  at_name : (p : names.Place) (row : X) → names.has p row ≡ true → names.name (names.place row) ≡ names.name p
  at_name p row h =
      let all = names.same p row ∙ h in
      (bytes_decides (names.name (names.place row)) (names.name p)).0 (first_so (pointwise nat_eq (names.name (names.place row)) (names.name p)) true (first_so (pointwise nat_eq (names.name (names.place row)) (names.name p) && true) (names.number (names.place row) == names.number p) all))

  pub at_number : (p : names.Place) (row : X) → names.has p row ≡ true → names.number (names.place row) ≡ names.number p
  at_number p row h = eqb-true (names.number (names.place row)) (names.number p) (second_so (pointwise nat_eq (names.name (names.place row)) (names.name p) && true) (names.number (names.place row) == names.number p) (names.same p row ∙ h))

  -- rows with one name pass the same tests
  same_rows : (p : names.Place) (row old : X) → names.name (names.place row) ≡ names.name (names.place old) → names.number (names.place row) ≡ names.number (names.place old) → names.has p row ≡ names.has p old
  same_rows p row old name number =
      sym (names.same p row) ∙ ap (λ t. pointwise nat_eq t (names.name p) && true && (names.number (names.place row) == names.number p)) name
      ∙ ap (λ n. pointwise nat_eq (names.name (names.place old)) (names.name p) && true && (n == names.number p)) number ∙ names.same p old

  is_at : (p : names.Place) (row : X) → names.name (names.place row) ≡ names.name p → names.number (names.place row) ≡ names.number p → names.has p row ≡ true
  is_at p row name number =
      sym (names.same p row) ∙ ap (λ t. pointwise nat_eq t (names.name p) && true && (names.number (names.place row) == names.number p)) name
      ∙ ap (λ b. b && true && (names.number (names.place row) == names.number p)) (same_bytes (names.name p)) ∙ eq-eqb (names.number (names.place row)) (names.number p) number

  abbrev entry_at : names.Place → ℕ → RowKey
  entry_at p i = name_key (names.number p) (names.name p) i

  module _ (keys : (a b : RowKey) → same_key a b ≡ true → a ≡ b) where
    -- the entries of one name that have the key of a row's entry
    entry_has : (row : X) (i : ℕ) (p : names.Place) (h : Bool) → names.has p row ≡ h → (e : NameEntry) → is_here (names.number p) (names.name p) e ≡ true → has_key name_entry_key (entry_at (names.place row) i) e ≡ (h && (e.id == i))
    entry_has row i p true q e here =
        let s = names.name (names.place row) in
        let m = names.number (names.place row) in
        ap (λ t. pointwise nat_eq t s && (e.id == i) && true && (e.number == m)) (here_name (names.number p) (names.name p) e here ∙ sym (at_name p row q))
        ∙ ap (λ b. b && (e.id == i) && true && (e.number == m)) (same_bytes s)
        ∙ ap (λ b. (e.id == i) && true && b) (eq-eqb e.number m (here_number (names.number p) (names.name p) e here ∙ sym (at_number p row q))) ∙ and_true ((e.id == i) && true) ∙ and_true (e.id == i)
    entry_has row i p false q e here = by (has_key name_entry_key (entry_at (names.place row) i) e) refl
      where
        by : (b : Bool) → has_key name_entry_key (entry_at (names.place row) i) e ≡ b → b ≡ false
        by false k = refl
        by true k =
            let same = keys (name_entry_key e) (entry_at (names.place row) i) k in
            let there = is_at p row (sym (ap (λ (r : RowKey). r.text) same) ∙ here_name (names.number p) (names.name p) e here) (sym (ap (λ (r : RowKey). r.number) same) ∙ here_number (names.number p) (names.name p) e here) in
            absurd (true≢false (sym there ∙ q))

    module _ (key : X → RowKey) (keyed : (row : X) → key row ≡ number_key (names.id row)) (rows : List X) (each : AllByRecursion (λ r. row_at key (key r) rows ≡ Some r) rows) where
      row_has : (r : X) (i : ℕ) → has_key key (number_key i) r ≡ (names.id r == i)
      row_has r i = ap (λ k. same_key k (number_key i)) (keyed r)

      -- the one row with an id
      one_row : (row r : X) (i : ℕ) → row_at key (number_key i) rows ≡ Some row → row_at key (key r) rows ≡ Some r → (names.id r == i) ≡ true → r ≡ row
      one_row row r i there at q = by (sym (subst (λ k. row_at key k rows ≡ Some r) (keyed r ∙ ap number_key (eqb-true (names.id r) i q)) at) ∙ there)
        where
          by : Some r ≡ Some row → r ≡ row
          by e = cc

      row_left : (row : X) (i : ℕ) (p : names.Place) (h : Bool) → names.has p row ≡ h → row_at key (number_key i) rows ≡ Some row → (r : X) → row_at key (key r) rows ≡ Some r → names.has p r ≡ true → not (has_key key (number_key i) r) ≡ not (h && (names.id r == i))
      row_left row i p true q there r at g = ap not (row_has r i)
      row_left row i p false q there r at g = by (names.id r == i) refl
        where
          by : (b : Bool) → (names.id r == i) ≡ b → not (has_key key (number_key i) r) ≡ true
          by false e = ap not (row_has r i ∙ e)
          by true e = absurd (true≢false (sym g ∙ ap (names.has p) (one_row row r i there at e) ∙ q))

      pub named_without : (entries : List NameEntry) (row : X) (i : ℕ) → row_at key (number_key i) rows ≡ Some row → AreNamed names entries rows
          → AreNamed names (without name_entry_key (entry_at (names.place row) i) entries) (without key (number_key i) rows)
      named_without entries row i there are = record { each = λ p. by p (names.has p row) refl }
        where
          by : (p : names.Place) (h : Bool) → names.has p row ≡ h
              → map (λ (e : NameEntry). e.id) (filter (is_here (names.number p) (names.name p)) (without name_entry_key (entry_at (names.place row) i) entries)) ≡ map names.id (filter (names.has p) (without key (number_key i) rows))
          by p h q =
              numbers_left (λ (e : NameEntry). e.id) (is_here (names.number p) (names.name p)) (λ e. not (has_key name_entry_key (entry_at (names.place row) i) e)) (λ j. not (h && (j == i))) entries
              (all_of (λ e. is_here (names.number p) (names.name p) e ≡ true → not (has_key name_entry_key (entry_at (names.place row) i) e) ≡ not (h && (e.id == i))) (λ e here. ap not (entry_has row i p h q e here)) entries)
              ∙ ap (filter (λ j. not (h && (j == i)))) (are.each p)
              ∙ sym (numbers_left names.id (names.has p) (λ r. not (has_key key (number_key i) r)) (λ j. not (h && (j == i))) rows
              (all_map (λ r. row_at key (key r) rows ≡ Some r) (λ r. names.has p r ≡ true → not (has_key key (number_key i) r) ≡ not (h && (names.id r == i))) (λ r at g. row_left row i p h q there r at g) rows each))

      module _ (row old : X) (there : row_at key (key row) rows ≡ Some old) where
        -- a row that keeps its name
        pub named_kept : (entries : List NameEntry) → names.has (names.place row) old ≡ true → AreNamed names entries rows → AreNamed names entries (with_replaced key row rows)
        named_kept entries stays are = record { each = λ p. are.each p ∙ sym (replaced p rows each) }
          where
            replaced : (p : names.Place) (xs : List X) → AllByRecursion (λ r. row_at key (key r) rows ≡ Some r) xs → map names.id (filter (names.has p) (with_replaced key row xs)) ≡ map names.id (filter (names.has p) xs)
            replaced p [] h = refl
            replaced p (x ∷ xs) h = by (has_key key (key row) x) refl (replaced p xs h.1)
              where
                behind : (b : Bool) (y : X) → names.id y ≡ names.id x → map names.id (filter (names.has p) (with_replaced key row xs)) ≡ map names.id (filter (names.has p) xs)
                    → map names.id (cond b (y ∷ filter (names.has p) (with_replaced key row xs)) (filter (names.has p) (with_replaced key row xs))) ≡ map names.id (cond b (x ∷ filter (names.has p) xs) (filter (names.has p) xs))
                behind true y e rest = ap (λ i. i ∷ map names.id (filter (names.has p) (with_replaced key row xs))) e ∙ ap (λ l. names.id x ∷ l) rest
                behind false y e rest = rest

                by : (b : Bool) → has_key key (key row) x ≡ b → map names.id (filter (names.has p) (with_replaced key row xs)) ≡ map names.id (filter (names.has p) xs)
                    → map names.id (filter (names.has p) ((if b then row else x) ∷ with_replaced key row xs)) ≡ map names.id (filter (names.has p) (x ∷ xs))
                by false q rest = behind (names.has p x) x refl rest
                by true q rest =
                    let same : key x ≡ key row = keys (key x) (key row) q in
                    let is_old : Some x ≡ Some old = sym (subst (λ k. row_at key k rows ≡ Some x) same h.0) ∙ there in
                    let old_is : old ≡ x = cc in
                    let has : names.has p row ≡ names.has p x = same_rows p row old (sym (at_name (names.place row) old stays)) (sym (at_number (names.place row) old stays)) ∙ ap (names.has p) old_is in
                    let id : names.id row ≡ names.id x = ap (λ (k : RowKey). k.number) (sym (keyed row) ∙ sym same ∙ keyed x) in
                    ap (λ b. map names.id (cond b (row ∷ filter (names.has p) (with_replaced key row xs)) (filter (names.has p) (with_replaced key row xs)))) has ∙ behind (names.has p x) row id rest

        -- the id stays
        pub id_stays : names.id old ≡ names.id row
        id_stays = ap (λ (k : RowKey). k.number) (sym (keyed old) ∙ has_its_key key keys (key row) rows old there ∙ keyed row)

        -- a row whose name changes
        module _ (entries : List NameEntry) (entry : NameEntry) (is : IsEntry names entry row) (moves : names.has (names.place row) old ≡ false) (are : AreNamed names entries rows) where
          abbrev gone : RowKey
          gone = entry_at (names.place old) (names.id row)

          differ : name_entry_key entry ≡ gone → ⊥
          differ e =
              let there : names.has (names.place row) old ≡ true = is_at (names.place row) old (sym (ap (λ (k : RowKey). k.text) e) ∙ is.name) (sym (ap (λ (k : RowKey). k.number) e) ∙ is.number) in
              true≢false (sym there ∙ moves)

          differs : (a b : RowKey) → (a ≡ b → ⊥) → same_key a b ≡ false
          differs a b f = by (same_key a b) refl
            where
              by : (c : Bool) → same_key a b ≡ c → c ≡ false
              by false q = refl
              by true q = absurd (f (keys a b q))

          left : AreNamed names (without name_entry_key gone entries) (without key (number_key (names.id row)) rows)
          left = named_without entries old (names.id row) (subst (λ k. row_at key k rows ≡ Some old) (keyed row) there) are

          pub moved_is_new : ((k : RowKey) (xs : List X) → row_at key k (without key k xs) ≡ None)
              → ((k other : RowKey) (xs : List NameEntry) → same_key k other ≡ false → row_at name_entry_key other (without name_entry_key k xs) ≡ row_at name_entry_key other xs)
              → row_at name_entry_key (name_entry_key entry) entries ≡ None
          moved_is_new removed others =
              sym (others gone (name_entry_key entry) entries (differs gone (name_entry_key entry) (λ e. differ (sym e))))
              ∙ name_is_new names key keyed (without name_entry_key gone entries) (without key (number_key (names.id row)) rows) entry row left is
              (subst (λ k. row_at key k (without key (number_key (names.id row)) rows) ≡ None) (sym (keyed row)) (removed (number_key (names.id row)) rows))

          pub named_moved : Numbers key → Numbers name_entry_key → ((a b : ℕ) → is_lt (key_cmp (number_key a) (number_key b)) ≡ nat_lt a b)
              → ((g : NameEntry → Bool) (e : NameEntry) (es : List NameEntry) → g e ≡ true → filter g (with_row name_entry_key e es) ≡ with_row name_entry_key e (filter g es))
              → with_replaced key row rows ≡ with_row key row (without key (key row) rows) → IsInOrder name_entry_key entries → IsInOrder key rows
              → AreNamed names (without name_entry_key gone (with_row name_entry_key entry entries)) (with_replaced key row rows)
          named_moved laws entry_laws numbers passing replaced entries_order order =
              let next = named_with names key keyed (without name_entry_key gone entries) (without key (number_key (names.id row)) rows) entry row laws entry_laws numbers left is
              (IsStrictlySortedBy-filter (row_cmp name_entry_key) (λ e. not (has_key name_entry_key gone e)) entries entries_order) (IsStrictlySortedBy-filter (row_cmp key) (λ r. not (has_key key (number_key (names.id row)) r)) rows order) in
              subst (λ l. AreNamed names l (with_replaced key row rows)) (sym (passing (λ e. not (has_key name_entry_key gone e)) entry entries (ap not (differs (name_entry_key entry) gone differ))))
              (subst (λ l. AreNamed names (with_row name_entry_key entry (without name_entry_key gone entries)) l) (sym (replaced ∙ ap (λ k. with_row key row (without key k rows)) (keyed row))) next)
