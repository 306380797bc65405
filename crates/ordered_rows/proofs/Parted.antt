-- Rows in order, parted at the first that isn't below a key.
use Rattle.std.proofs.Common.{◌≡◌, Bool, true, false, not, cond, if◌then◌else◌, List, [], ◌∷◌, ◌++◌, map, Some, None, refl, sym, ap, ◌∙◌, subst}
use Rattle.std.proofs.lemmas.List.{map-append}
use Rattle.std.proofs.lemmas.List.Elements.{filter-append}
use Rattle.ordered_rows.specs.RowKey.{RowKey}
use Rattle.ordered_rows.specs.Listed.{IsInOrder, has_key, is_below, row_at, rows_below, rows_from, with_replaced, without}
use Rattle.ordered_rows.proofs.Cuts.{AllAre, AllAre-not, not-false, filter-keeps, filter-passing, falls_cut}
use Rattle.ordered_rows.proofs.Keys.{below_falls, below_none, none_behind, in_order_right, find-none, find-behind, none-find}

module _ {X : Type 0} (key : X → RowKey) (k : RowKey) where
  pub record IsParted (rows front : List X) (row : X) (rest : List X) : Type 0 where
    pub whole : rows ≡ front ++ row ∷ rest
    pub not_below : is_below key k row ≡ false
    pub front_none : AllAre (has_key key k) false front
    pub rest_none : AllAre (has_key key k) false rest

  pub parted : (rows front : List X) (row : X) (rest : List X) → IsInOrder key rows → front ≡ rows_below key k rows → row ∷ rest ≡ rows_from key k rows → IsParted rows front row rest
  parted rows front row rest order below above =
      let p : X → Bool = is_below key k in
      let whole : rows ≡ front ++ row ∷ rest = falls_cut p rows (below_falls key k rows order) ∙ ap (λ l. l ++ rows_from key k rows) (sym below) ∙ ap (λ l. front ++ l) (sym above) in
      let fails = not-false (p row) (subst (AllAre (λ r. not (p r)) true) (sym above) (filter-keeps (λ r. not (p r)) rows)).0 in
      record {
        whole = whole;
        not_below = fails;
        front_none = below_none key k front (subst (AllAre p true) (sym below) (filter-keeps p rows));
        rest_none = none_behind key k row rest (in_order_right key front (row ∷ rest) (subst (IsInOrder key) whole order)) fails;
      }

  pub row_at-parted : (rows front : List X) (row : X) (rest : List X) → IsParted rows front row rest → row_at key k rows ≡ cond (has_key key k row) (Some row) None
  row_at-parted rows front row rest h =
      ap (row_at key k) h.whole ∙ find-behind (has_key key k) front (row ∷ rest) h.front_none ∙ ap (λ o. cond (has_key key k row) (Some row) o) (find-none (has_key key k) rest h.rest_none)

  kept : (rows : List X) → AllAre (has_key key k) false rows → without key k rows ≡ rows
  kept rows h = filter-passing (λ r. not (has_key key k r)) rows (AllAre-not (has_key key k) false rows h)

  pub without-parted : (rows front : List X) (row : X) (rest : List X) → IsParted rows front row rest → without key k rows ≡ front ++ cond (has_key key k row) rest (row ∷ rest)
  without-parted rows front row rest h =
      ap (without key k) h.whole ∙ filter-append (λ r. not (has_key key k r)) front (row ∷ rest) ∙ ap (λ l. l ++ without key k (row ∷ rest)) (kept front h.front_none) ∙ ap (λ l. front ++ l) (by (has_key key k row))
    where
      by : (b : Bool) → cond (not b) (row ∷ without key k rest) (without key k rest) ≡ cond b rest (row ∷ rest)
      by true = kept rest h.rest_none
      by false = ap (λ l. row ∷ l) (kept rest h.rest_none)

  pub untouched : (row : X) (rows : List X) → AllAre (has_key key k) false rows → map (λ r. if has_key key k r then row else r) rows ≡ rows
  untouched row [] h = refl
  untouched row (r ∷ rows) h = ap (λ b. (if b then row else r) ∷ map (λ r. if has_key key k r then row else r) rows) h.0 ∙ ap (λ l. r ∷ l) (untouched row rows h.1)

pub without-none : {X : Type 0} (key : X → RowKey) (k : RowKey) (rows : List X) → row_at key k rows ≡ None → without key k rows ≡ rows
without-none key k rows e = kept key k rows (none-find (has_key key k) rows e)

pub with_replaced-none : {X : Type 0} (key : X → RowKey) (row : X) (rows : List X) → row_at key (key row) rows ≡ None → with_replaced key row rows ≡ rows
with_replaced-none key row rows e = untouched key (key row) row rows (none-find (has_key key (key row)) rows e)

pub with_replaced-parted : {X : Type 0} (key : X → RowKey) (row : X) (rows front : List X) (old : X) (rest : List X) → IsParted key (key row) rows front old rest → with_replaced key row rows ≡ front ++ (if has_key key (key row) old then row else old) ∷ rest
with_replaced-parted key row rows front old rest h =
    ap (with_replaced key row) h.whole ∙ map-append (λ r. if has_key key (key row) r then row else r) front (old ∷ rest)
    ∙ ap (λ l. l ++ with_replaced key row (old ∷ rest)) (untouched key (key row) row front h.front_none)
    ∙ ap (λ l. front ++ (if has_key key (key row) old then row else old) ∷ l) (untouched key (key row) row rest h.rest_none)
