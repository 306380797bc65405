-- Where the rows below a key end in the blocks of a table.
use Rattle.std.proofs.Common.{◌≡◌, ℕ, ◌+◌, ◌-◌, ◌<◌, ◌≤◌, suc, Bool, true, false, List, [], ◌∷◌, ◌++◌, length, take, drop, get_or, Vec, Some, None, slice_get, refl, sym, ap, ◌∙◌, subst, inl, inr, arith, append_assoc}
use mathlib.Core.Bool.{true≢false}
use Rattle.std.proofs.lemmas.List.{append-nil, take-append-drop, drop_more, take_all, get_or_default}
use Rattle.std.proofs.lemmas.Bool.{cases_lt}
use Rattle.std.proofs.lemmas.Option.{slice_get-get_or}
use Rattle.std.proofs.lemmas.Grind.{flat_map-append}
use Rattle.std.specs.List.Sorted.{IsPartitionPoint}
use Rattle.ordered_rows.specs.RowKey.{RowKey}
use Rattle.ordered_rows.specs.Listed.{is_below}
use Rattle.ordered_rows.specs.Blocks.{flat, AreFilled, IsTable, passes_if_any, last_passes, IsSpot, IsEnd}
use Rattle.ordered_rows.proofs.Cuts.{AllAre, Falls, AllAre-append, AllAre-left, AllAre-right, Falls-left, Falls-right, passes_before, fails_behind, AllAre-take, cut}
use Rattle.ordered_rows.proofs.Keys.{below_falls}

-- a list with its last element
pub record HasLast {X : Type 0} (xs : List X) : Type 0 where
  pub front : List X
  pub last : X
  pub split : xs ≡ front ++ last ∷ []
  pub at_end : slice_get xs (length xs - 1) ≡ Some last

pub has_last : {X : Type 0} (xs : List X) → 0 < length xs → HasLast xs
has_last [] lt = absurd (omega arith)
has_last (x ∷ []) lt = record { front = []; last = x; split = refl; at_end = refl }
has_last (x ∷ y ∷ ys) lt =
    let rest : HasLast (y ∷ ys) = has_last (y ∷ ys) (omega arith) in
    record {
      front = x ∷ rest.front;
      last = rest.last;
      split = ap (λ l. x ∷ l) rest.split;
      at_end = let e : length (x ∷ y ∷ ys) - 1 ≡ suc (length (y ∷ ys) - 1) = omega arith in
          ap (slice_get (x ∷ y ∷ ys)) e ∙ rest.at_end;
    }

-- a list round its element n
pub around : {A : Type 0} (xs : List A) (n : ℕ) (x : A) → n < length xs → x ≡ get_or xs n x → xs ≡ take n xs ++ x ∷ drop (n + 1) xs
around xs n x lt is = sym (take-append-drop n xs) ∙ ap (λ l. take n xs ++ l) (drop_more xs n x lt ∙ ap (λ y. y ∷ drop (n + 1) xs) (sym is))

module _ {X Y : Type 0} where
  pub flat-append : (bs cs : List (Vec X Y)) → flat (bs ++ cs) ≡ flat bs ++ flat cs
  flat-append bs cs = flat_map-append (λ (b : Vec X Y). b.items) bs cs

  module _ (p : X → Bool) where
    last_passes_is : (b : Vec X Y) (h : HasLast b.items) → last_passes p b ≡ p h.last
    last_passes_is b h = ap (passes_if_any p) h.at_end

    -- a block whose rows all answer t has a last row that does
    pub last_answers : (b : Vec X Y) (t : Bool) → 0 < length b.items → AllAre p t b.items → last_passes p b ≡ t
    last_answers b t lt h =
        let l = has_last b.items lt in
        last_passes_is b l ∙ (AllAre-right p t l.front (l.last ∷ []) (subst (AllAre p t) l.split h)).0

    blocks_fail : (bs : List (Vec X Y)) → AreFilled bs → AllAre p false (flat bs) → AllAre (last_passes p) false bs
    blocks_fail [] f h = tt
    blocks_fail (b ∷ bs) f h = (last_answers b false f.0 (AllAre-left p false b.items (flat bs) h), blocks_fail bs f.1 (AllAre-right p false b.items (flat bs) h))

    -- the rows of a block, cut before its last
    last_cut : (b : Vec X Y) (h : HasLast b.items) (rest : List X) → b.items ++ rest ≡ h.front ++ h.last ∷ rest
    last_cut b h rest = ap (λ l. l ++ rest) h.split ∙ append_assoc h.front (h.last ∷ []) rest

    pub blocks_fall : (bs : List (Vec X Y)) → AreFilled bs → Falls p (flat bs) → Falls (last_passes p) bs
    blocks_fall [] f h = tt
    blocks_fall (b ∷ bs) f h =
        let l = has_last b.items f.0 in (
          λ e. blocks_fail bs f.1 (fails_behind p l.front l.last (flat bs) (subst (Falls p) (last_cut b l (flat bs)) h) (sym (last_passes_is b l) ∙ e)),
          blocks_fall bs f.1 (Falls-right p b.items (flat bs) h),
        )

    pub blocks_pass : (bs : List (Vec X Y)) → AreFilled bs → Falls p (flat bs) → AllAre (last_passes p) true bs → AllAre p true (flat bs)
    blocks_pass [] f h all = tt
    blocks_pass (b ∷ bs) f h all =
        let l = has_last b.items f.0 in
        let before = passes_before p l.front l.last (flat bs) (subst (Falls p) (last_cut b l (flat bs)) h) (sym (last_passes_is b l) ∙ all.0) in
        AllAre-append p true b.items (flat bs) (subst (AllAre p true) (sym l.split) (AllAre-append p true l.front (l.last ∷ []) before (sym (last_passes_is b l) ∙ all.0, tt)))
        (blocks_pass bs f.1 (Falls-right p b.items (flat bs) h) all.1)

  pub AreFilled-left : (bs cs : List (Vec X Y)) → AreFilled (bs ++ cs) → AreFilled bs
  AreFilled-left [] cs f = tt
  AreFilled-left (b ∷ bs) cs f = (f.0, AreFilled-left bs cs f.1)

  pub AreFilled-right : (bs cs : List (Vec X Y)) → AreFilled (bs ++ cs) → AreFilled cs
  AreFilled-right [] cs f = f
  AreFilled-right (b ∷ bs) cs f = AreFilled-right bs cs f.1

  pub AreFilled-append : (bs cs : List (Vec X Y)) → AreFilled bs → AreFilled cs → AreFilled (bs ++ cs)
  AreFilled-append [] cs f g = g
  AreFilled-append (b ∷ bs) cs f g = (f.0, AreFilled-append bs cs f.1 g)

-- the rows of all blocks, cut at row i of block n
pub flat_around : {X Y : Type 0} (blocks : List (Vec X Y)) (n : ℕ) (block : Vec X Y) → n < length blocks → block ≡ get_or blocks n block → flat blocks ≡ flat (take n blocks) ++ (block.items ++ flat (drop (n + 1) blocks))
flat_around blocks n block lt is = ap flat (around blocks n block lt is) ∙ flat-append (take n blocks) (block ∷ drop (n + 1) blocks)

pub cut_at : {X : Type 0} (a items b : List X) (i : ℕ) (row : X) → i < length items → row ≡ get_or items i row → a ++ (items ++ b) ≡ (a ++ take i items) ++ row ∷ (drop (i + 1) items ++ b)
cut_at a items b i row lt is =
    ap (λ l. a ++ (l ++ b)) (around items i row lt is) ∙ ap (λ l. a ++ l) (append_assoc (take i items) (row ∷ drop (i + 1) items) b) ∙ sym (append_assoc a (take i items) (row ∷ (drop (i + 1) items ++ b)))

module _ {X Y : Type 0} (key : X → RowKey) (k : RowKey) (blocks : List (Vec X Y)) (table : IsTable key blocks) where
  abbrev p : X → Bool
  p = is_below key k

  rows_fall : Falls p (flat blocks)
  rows_fall = below_falls key k (flat blocks) table.order

  pub blocks_falls : Falls (last_passes p) blocks
  blocks_falls = blocks_fall p blocks table.filled rows_fall

  pub end_none : (n : ℕ) → IsPartitionPoint (λ b. last_passes p b ≡ true) (λ b. last_passes p b ≡ false) blocks n → n ≡ length blocks → IsEnd p blocks None
  end_none n at is =
      let all : AllAre (last_passes p) true (take n blocks) = AllAre-take (last_passes p) true blocks n (λ b d lt. at.0 b d (omega arith) lt) (omega arith) in
      let whole : AllAre (last_passes p) true blocks = subst (AllAre (last_passes p) true) (take_all n blocks (omega arith)) all in
      let c = cut p (flat blocks) (flat blocks) [] (sym (append-nil (flat blocks))) (blocks_pass p blocks table.filled rows_fall whole) tt in
      (c.keeps, c.drops)

  pub items_fall : (n : ℕ) (block : Vec X Y) → n < length blocks → block ≡ get_or blocks n block → Falls p block.items
  items_fall n block lt is =
      Falls-left p block.items (flat (drop (n + 1) blocks)) (Falls-right p (flat (take n blocks)) (block.items ++ flat (drop (n + 1) blocks)) (subst (Falls p) (flat_around blocks n block lt is) rows_fall))

  pub end_some : (n i : ℕ) (block : Vec X Y) → n < length blocks → block ≡ get_or blocks n block → (items : List X) → items ≡ block.items → i ≤ length items
      → IsPartitionPoint (λ b. last_passes p b ≡ true) (λ b. last_passes p b ≡ false) blocks n → IsPartitionPoint (λ r. p r ≡ true) (λ r. p r ≡ false) items i → IsEnd p blocks (Some (n, i))
  end_some n i block lt is items same le at_block at_row = subst (λ l. i ≤ length l → IsPartitionPoint (λ r. p r ≡ true) (λ r. p r ≡ false) l i → IsSpot p blocks n i) (sym same) (λ le' at. by le' at (inside le' at)) le at_row
    where
      split : blocks ≡ take n blocks ++ block ∷ drop (n + 1) blocks
      split = around blocks n block lt is

      front_filled : AreFilled (take n blocks)
      front_filled = AreFilled-left (take n blocks) (block ∷ drop (n + 1) blocks) (subst AreFilled split table.filled)

      block_filled : 0 < length block.items
      block_filled = (AreFilled-right (take n blocks) (block ∷ drop (n + 1) blocks) (subst AreFilled split table.filled)).0

      falls : Falls p (flat (take n blocks) ++ (block.items ++ flat (drop (n + 1) blocks)))
      falls = subst (Falls p) (flat_around blocks n block lt is) rows_fall

      front_pass : AllAre p true (flat (take n blocks))
      front_pass = blocks_pass p (take n blocks) front_filled (Falls-left p (flat (take n blocks)) (block.items ++ flat (drop (n + 1) blocks)) falls) (AllAre-take (last_passes p) true blocks n (λ b d l. at_block.0 b d (omega arith) l) (omega arith))

      ends : last_passes p block ≡ false
      ends = subst (λ b. last_passes p b ≡ false) (sym is) (at_block.1 n block (omega arith) lt)

      items_pass : i ≤ length block.items → IsPartitionPoint (λ r. p r ≡ true) (λ r. p r ≡ false) block.items i → AllAre p true (take i block.items)
      items_pass l at = AllAre-take p true block.items i (λ r d m. at.0 r d (omega arith) m) l

      inside : i ≤ length block.items → IsPartitionPoint (λ r. p r ≡ true) (λ r. p r ≡ false) block.items i → i < length block.items
      inside l at = elim (cases_lt i (length block.items)) [ inl here ↦ here | inr past ↦ absurd (true≢false (sym (last_answers p block true block_filled (subst (AllAre p true) (take_all i block.items past) (items_pass l at))) ∙ ends)) ]

      by : i ≤ length block.items → IsPartitionPoint (λ r. p r ≡ true) (λ r. p r ≡ false) block.items i → i < length block.items → IsSpot p blocks n i
      by l at here =
          let h = has_last block.items block_filled in
          let row : X = get_or block.items i h.last in
          let row_is : row ≡ get_or block.items i row = get_or_default block.items i h.last row here in
          let fails : p row ≡ false = at.1 i h.last (omega arith) here in
          let whole = flat_around blocks n block lt is ∙ cut_at (flat (take n blocks)) block.items (flat (drop (n + 1) blocks)) i row here row_is in
          let behind = fails_behind p (flat (take n blocks) ++ take i block.items) row (drop (i + 1) block.items ++ flat (drop (n + 1) blocks)) (subst (Falls p) whole rows_fall) fails in
          let c = cut p (flat blocks) (flat (take n blocks) ++ take i block.items) (row ∷ (drop (i + 1) block.items ++ flat (drop (n + 1) blocks))) whole (AllAre-append p true (flat (take n blocks)) (take i block.items) front_pass (items_pass l at)) (fails, behind) in
          record {
            block = block;
            row = row;
            has_block = slice_get-get_or blocks n block lt ∙ ap Some (sym is);
            has_row = slice_get-get_or block.items i h.last here;
            front = c.keeps;
            back = c.drops;
          }
