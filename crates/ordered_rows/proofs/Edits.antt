-- What the blocks hold at a spot.
use Rattle.std.proofs.Common.{◌≡◌, ℕ, ◌+◌, ◌-◌, ◌<◌, suc, zero, Bool, true, not, cond, List, [], ◌∷◌, ◌++◌, length, take, drop, get_or, set, insert, remove, Vec, Some, None, Result, Ok, Err, OnOk, OnErr, slice_get, if◌then◌else◌, ◌≤◌, length-take, length-drop, refl, sym, ap, ◌∙◌, subst, arith, append_assoc, length-append}
use Rattle.std.proofs.lemmas.Option.{get_or_from_slice_get, slice_get_within}
use Rattle.std.proofs.lemmas.List.{append-nil, drop_more, take_rest, set_split, take-append-drop, get_or_default}
use Rattle.std.proofs.lemmas.List.Edits.{get_or-insert_below}
use Rattle.std.specs.List.{filter}
use Rattle.ordered_rows.specs.RowKey.{RowKey}
use Rattle.ordered_rows.specs.Listed.{is_below, has_key, row_at, rows_below, rows_from, last_row, with_row, with_replaced, without}
use Rattle.ordered_rows.specs.Blocks.{flat, AreFilled, IsTable, IsSpot, IsEnd, HasKey}
use Rattle.ordered_rows.proofs.Parted.{IsParted, parted, row_at-parted, without-parted, with_replaced-parted}
use Rattle.ordered_rows.proofs.Spots.{flat-append, flat_around, has_last, AreFilled-right}
use Rattle.ordered_rows.proofs.Keys.{find-none, below_none}
use Rattle.ordered_rows.proofs.Cuts.{AllAre, filter-keeps}

-- what a read of the block and the row gives
pub record IsRead {X Y : Type 0} {p : X → Bool} {blocks : List (Vec X Y)} {n i : ℕ} (s : IsSpot p blocks n i) (items : List X) (row : X) : Type 0 where
  pub items_are : items ≡ s.block.items
  pub row_is : row ≡ s.row

pub spot_read : {X Y : Type 0} {p : X → Bool} {blocks : List (Vec X Y)} {n i : ℕ} (s : IsSpot p blocks n i) (block : Vec X Y) → block ≡ get_or blocks n block → (items : List X) → items ≡ block.items → (row : X) → row ≡ get_or items i row → IsRead s items row
spot_read {X} {Y} {p} {blocks} {n} {i} s block is items are row at =
    let same : block ≡ s.block = is ∙ get_or_from_slice_get blocks n s.block block s.has_block in
    let all : items ≡ s.block.items = are ∙ ap (λ (b : Vec X Y). b.items) same in
    record { items_are = all; row_is = at ∙ ap (λ l. get_or l i row) all ∙ get_or_from_slice_get s.block.items i s.row row s.has_row }

pub rows_from_spot : {X Y : Type 0} {p : X → Bool} {blocks : List (Vec X Y)} {n i : ℕ} (s : IsSpot p blocks n i) → drop i s.block.items ++ flat (drop (n + 1) blocks) ≡ filter (λ r. not (p r)) (flat blocks)
rows_from_spot {X} {Y} {p} {blocks} {n} {i} s =
    let lt = slice_get_within s.block.items i s.row s.has_row in
    ap (λ l. l ++ flat (drop (n + 1) blocks)) (drop_more s.block.items i s.row lt ∙ ap (λ r. r ∷ drop (i + 1) s.block.items) (get_or_from_slice_get s.block.items i s.row s.row s.has_row)) ∙ s.back

module _ {X Y : Type 0} (key : X → RowKey) (k : RowKey) (blocks : List (Vec X Y)) (table : IsTable key blocks) where
  pub row_at_end : IsEnd (is_below key k) blocks None → row_at key k (flat blocks) ≡ None
  row_at_end e = find-none (has_key key k) (flat blocks) (below_none key k (flat blocks) (subst (AllAre (is_below key k) true) (sym e.0) (filter-keeps (is_below key k) (flat blocks))))

  pub spot_parted : (n i : ℕ) (s : IsSpot (is_below key k) blocks n i) → IsParted key k (flat blocks) (flat (take n blocks) ++ take i s.block.items) s.row (drop (i + 1) s.block.items ++ flat (drop (n + 1) blocks))
  spot_parted n i s = parted key k (flat blocks) _ s.row _ table.order s.front s.back

  pub row_at_spot : (n i : ℕ) (s : IsSpot (is_below key k) blocks n i) (items : List X) (row : X) → IsRead s items row → row_at key k (flat blocks) ≡ cond (has_key key k row) (Some row) None
  row_at_spot n i s items row read =
      row_at-parted key k (flat blocks) _ s.row _ (spot_parted n i s) ∙ ap (λ (r : X). cond (has_key key k r) (Some r) None) (sym read.row_is)

  -- the same as the slices give it
  pub rest_from_spot : (n i : ℕ) (s : IsSpot (is_below key k) blocks n i) (block : Vec X Y) → block ≡ get_or blocks n block → (items : List X) → items ≡ block.items
      → take (length items - i) (drop i items) ++ flat (take (length blocks - (n + 1)) (drop (n + 1) blocks)) ≡ rows_from key k (flat blocks)
  rest_from_spot n i s block is items are =
      let all : items ≡ s.block.items = are ∙ ap (λ (b : Vec X Y). b.items) (is ∙ get_or_from_slice_get blocks n s.block block s.has_block) in
      ap (λ l. l ++ flat (take (length blocks - (n + 1)) (drop (n + 1) blocks))) (take_rest items i) ∙ ap (λ l. drop i items ++ flat l) (take_rest blocks (n + 1)) ∙ ap (λ l. drop i l ++ flat (drop (n + 1) blocks)) all ∙ rows_from_spot s

-- ---- a block that is written

module _ {X Y : Type 0} where
  pub flat-set : (blocks : List (Vec X Y)) (n : ℕ) (b : Vec X Y) → n < length blocks → flat (set blocks n b) ≡ flat (take n blocks) ++ (b.items ++ flat (drop (n + 1) blocks))
  flat-set blocks n b lt =
      let e : suc n ≡ n + 1 = omega arith in
      ap flat (set_split blocks n b lt ∙ ap (λ m. take n blocks ++ b ∷ drop m blocks) e) ∙ flat-append (take n blocks) (b ∷ drop (n + 1) blocks)

  pub flat-set_same : (blocks : List (Vec X Y)) (n : ℕ) (b block : Vec X Y) → n < length blocks → block ≡ get_or blocks n block → b.items ≡ block.items → flat (set blocks n b) ≡ flat blocks
  flat-set_same blocks n b block lt is same =
      flat-set blocks n b lt ∙ ap (λ l. flat (take n blocks) ++ (l ++ flat (drop (n + 1) blocks))) same ∙ sym (flat_around blocks n block lt is)

  pub AreFilled-set : (blocks : List (Vec X Y)) (n : ℕ) (b : Vec X Y) → AreFilled blocks → 0 < length b.items → AreFilled (set blocks n b)
  AreFilled-set [] n b f lt = f
  AreFilled-set (c ∷ cs) zero b f lt = (lt, f.1)
  AreFilled-set (c ∷ cs) (suc n) b f lt = (f.0, AreFilled-set cs n b f.1 lt)

  pub filled_at : (blocks : List (Vec X Y)) (n : ℕ) (block : Vec X Y) → AreFilled blocks → n < length blocks → block ≡ get_or blocks n block → 0 < length block.items
  filled_at [] n block f lt is = absurd (omega arith)
  filled_at (c ∷ cs) zero block f lt is = subst (λ (b : Vec X Y). 0 < length b.items) (sym is) f.0
  filled_at (c ∷ cs) (suc n) block f lt is = filled_at cs n block f.1 (omega arith) is

  -- the blocks but block n are filled once it is written
  pub AreFilled-others : (blocks : List (Vec X Y)) (n : ℕ) (b : Vec X Y) → AreFilled blocks → AreFilled (remove (set blocks n b) n)
  AreFilled-others [] zero b f = f
  AreFilled-others [] (suc n) b f = f
  AreFilled-others (c ∷ cs) zero b f = f.1
  AreFilled-others (c ∷ cs) (suc n) b f = (f.0, AreFilled-others cs n b f.1)

  pub AreFilled-with : (blocks : List (Vec X Y)) (n : ℕ) (block : Vec X Y) → AreFilled (remove blocks n) → n < length blocks → block ≡ get_or blocks n block → 0 < length block.items → AreFilled blocks
  AreFilled-with [] n block f lt is has = tt
  AreFilled-with (c ∷ cs) zero block f lt is has = (subst (λ (b : Vec X Y). 0 < length b.items) is has, f)
  AreFilled-with (c ∷ cs) (suc n) block f lt is has = (f.0, AreFilled-with cs n block f.1 (omega arith) is has)

  pub flat-remove_empty : (blocks : List (Vec X Y)) (n : ℕ) (block : Vec X Y) → n < length blocks → block ≡ get_or blocks n block → length block.items ≡ 0 → flat (remove blocks n) ≡ flat blocks
  flat-remove_empty [] n block lt is none = absurd (omega arith)
  flat-remove_empty (c ∷ cs) zero block lt is none = ap (λ l. l ++ flat cs) (sym (empty c.items (subst (λ (b : Vec X Y). length b.items ≡ 0) is none)))
    where
      empty : (xs : List X) → length xs ≡ 0 → xs ≡ []
      empty [] e = refl
      empty (x ∷ xs) e = absurd (omega arith)
  flat-remove_empty (c ∷ cs) (suc n) block lt is none = ap (λ l. c.items ++ l) (flat-remove_empty cs n block (omega arith) is none)

  -- an empty block behind block n, which then goes halves with it
  pub flat-halved : (bs : List (Vec X Y)) (n : ℕ) (e h t : Vec X Y) → n < length bs → ((d : Vec X Y) → h.items ++ t.items ≡ (get_or bs n d).items) → flat (set (set (insert bs (suc n) e) n h) (suc n) t) ≡ flat bs
  flat-halved [] n e h t lt is = absurd (omega arith)
  flat-halved (b ∷ bs) zero e h t lt is = sym (append_assoc h.items t.items (flat bs)) ∙ ap (λ l. l ++ flat bs) (is b)
  flat-halved (b ∷ bs) (suc n) e h t lt is = ap (λ l. b.items ++ l) (flat-halved bs n e h t (omega arith) is)

  pub AreFilled-halved : (bs : List (Vec X Y)) (n : ℕ) (e h t : Vec X Y) → n < length bs → AreFilled bs → 0 < length h.items → 0 < length t.items → AreFilled (set (set (insert bs (suc n) e) n h) (suc n) t)
  AreFilled-halved [] n e h t lt f hh ht = absurd (omega arith)
  AreFilled-halved (b ∷ bs) zero e h t lt f hh ht = (hh, (ht, f.1))
  AreFilled-halved (b ∷ bs) (suc n) e h t lt f hh ht = (f.0, AreFilled-halved bs n e h t (omega arith) f.1 hh ht)

  pub flat-set_last : (bs : List (Vec X Y)) (m : ℕ) (b block : Vec X Y) (row : X) → suc m ≡ length bs → block ≡ get_or bs m block → b.items ≡ block.items ++ row ∷ [] → flat (set bs m b) ≡ flat bs ++ row ∷ []
  flat-set_last [] m b block row e is more = absurd (omega arith)
  flat-set_last (c ∷ []) zero b block row e is more = append-nil b.items ∙ more ∙ ap (λ l. l ++ row ∷ []) (ap (λ (v : Vec X Y). v.items) is ∙ sym (append-nil c.items))
  flat-set_last (c ∷ []) (suc m) b block row e is more = absurd (omega arith)
  flat-set_last (c ∷ d ∷ cs) zero b block row e is more = absurd (omega arith)
  flat-set_last (c ∷ d ∷ cs) (suc m) b block row e is more = ap (λ l. c.items ++ l) (flat-set_last (d ∷ cs) m b block row (omega arith) is more) ∙ sym (append_assoc c.items (flat (d ∷ cs)) (row ∷ []))

  pub flat-push : (bs : List (Vec X Y)) (b : Vec X Y) (row : X) → b.items ≡ row ∷ [] → flat (bs ++ b ∷ []) ≡ flat bs ++ row ∷ []
  flat-push bs b row e = flat-append bs (b ∷ []) ∙ ap (λ l. flat bs ++ l) (append-nil b.items ∙ e)

pub length-middle : {X : Type 0} (xs : List X) (y : X) (ys : List X) → 0 < length (xs ++ y ∷ ys)
length-middle xs y ys = omega (arith, length-append xs (y ∷ ys))

-- a row inserted at a spot
pub flat-put : {X Y : Type 0} (key : X → RowKey) (row : X) (blocks : List (Vec X Y)) (n i : ℕ) (s : IsSpot (is_below key (key row)) blocks n i) (b block : Vec X Y) → n < length blocks → block ≡ get_or blocks n block
    → b.items ≡ take i block.items ++ row ∷ drop i block.items → flat (set blocks n b) ≡ with_row key row (flat blocks)
flat-put {X} {Y} key row blocks n i s b block lt is more =
    let same : block ≡ s.block = is ∙ get_or_from_slice_get blocks n s.block block s.has_block in
    let items : b.items ≡ take i s.block.items ++ row ∷ drop i s.block.items = more ∙ ap (λ (v : Vec X Y). take i v.items ++ row ∷ drop i v.items) same in
    let before = flat (take n blocks) in
    let after = flat (drop (n + 1) blocks) in
    flat-set blocks n b lt ∙ ap (λ l. before ++ (l ++ after)) items
    ∙ ap (λ l. before ++ l) (append_assoc (take i s.block.items) (row ∷ drop i s.block.items) after)
    ∙ sym (append_assoc before (take i s.block.items) (row ∷ (drop i s.block.items ++ after)))
    ∙ ap (λ l. l ++ row ∷ (drop i s.block.items ++ after)) s.front
    ∙ ap (λ l. rows_below key (key row) (flat blocks) ++ row ∷ l) (rows_from_spot s)

module _ {X Y : Type 0} (key : X → RowKey) (k : RowKey) (blocks : List (Vec X Y)) (n i : ℕ) (table : IsTable key blocks) (found : HasKey key k blocks n i) where
  abbrev s : IsSpot (is_below key k) blocks n i
  s = found.spot

  pub block_within : n < length blocks
  block_within = slice_get_within blocks n s.block s.has_block

  pub row_within : (block : Vec X Y) → block ≡ get_or blocks n block → i < length block.items
  row_within block is = subst (λ (b : Vec X Y). i < length b.items) (sym (is ∙ get_or_from_slice_get blocks n s.block block s.has_block)) (slice_get_within s.block.items i s.row s.has_row)

  pub row_found : (items : List X) (row : X) → IsRead s items row → row_at key k (flat blocks) ≡ Some row
  row_found items row read = row_at_spot key k blocks table n i s items row read ∙ ap (λ (r : X). cond (has_key key k r) (Some row) None) read.row_is ∙ ap (λ b. cond b (Some row) None) found.has

  -- the row taken out
  pub flat-taken : (b block : Vec X Y) → block ≡ get_or blocks n block → b.items ≡ take i block.items ++ drop (i + 1) block.items → flat (set blocks n b) ≡ without key k (flat blocks)
  flat-taken b block is less =
      let same : block ≡ s.block = is ∙ get_or_from_slice_get blocks n s.block block s.has_block in
      let items : b.items ≡ take i s.block.items ++ drop (i + 1) s.block.items = less ∙ ap (λ (v : Vec X Y). take i v.items ++ drop (i + 1) v.items) same in
      let before = flat (take n blocks) in
      let after = flat (drop (n + 1) blocks) in
      flat-set blocks n b block_within ∙ ap (λ l. before ++ (l ++ after)) items
      ∙ ap (λ l. before ++ l) (append_assoc (take i s.block.items) (drop (i + 1) s.block.items) after)
      ∙ sym (append_assoc before (take i s.block.items) (drop (i + 1) s.block.items ++ after))
      ∙ sym (without-parted key k (flat blocks) _ s.row _ (spot_parted key k blocks table n i s) ∙ ap (λ c. (before ++ take i s.block.items) ++ cond c (drop (i + 1) s.block.items ++ after) (s.row ∷ (drop (i + 1) s.block.items ++ after))) found.has)

  pub length-taken : length (without key k (flat blocks)) + 1 ≡ length (flat blocks)
  length-taken =
      let h = spot_parted key k blocks table n i s in
      let front = flat (take n blocks) ++ take i s.block.items in
      let rest = drop (i + 1) s.block.items ++ flat (drop (n + 1) blocks) in
      let w : without key k (flat blocks) ≡ front ++ rest = without-parted key k (flat blocks) front s.row rest h ∙ ap (λ c. front ++ cond c rest (s.row ∷ rest)) found.has in
      omega (arith, ap length w, ap length h.whole, length-append front rest, length-append front (s.row ∷ rest))

-- a row exchanged
pub flat-exchanged : {X Y : Type 0} (key : X → RowKey) (row : X) (blocks : List (Vec X Y)) (n i : ℕ) → IsTable key blocks → (found : HasKey key (key row) blocks n i) → (b block : Vec X Y) → block ≡ get_or blocks n block
    → b.items ≡ set block.items i row → flat (set blocks n b) ≡ with_replaced key row (flat blocks)
flat-exchanged {X} {Y} key row blocks n i table found b block is written =
    let s = found.spot in
    let same : block ≡ s.block = is ∙ get_or_from_slice_get blocks n s.block block s.has_block in
    let lt = slice_get_within s.block.items i s.row s.has_row in
    let e : suc i ≡ i + 1 = omega arith in
    let items : b.items ≡ take i s.block.items ++ row ∷ drop (i + 1) s.block.items = written ∙ ap (λ (v : Vec X Y). set v.items i row) same ∙ set_split s.block.items i row lt ∙ ap (λ m. take i s.block.items ++ row ∷ drop m s.block.items) e in
    let before = flat (take n blocks) in
    let after = flat (drop (n + 1) blocks) in
    flat-set blocks n b (slice_get_within blocks n s.block s.has_block) ∙ ap (λ l. before ++ (l ++ after)) items
    ∙ ap (λ l. before ++ l) (append_assoc (take i s.block.items) (row ∷ drop (i + 1) s.block.items) after)
    ∙ sym (append_assoc before (take i s.block.items) (row ∷ (drop (i + 1) s.block.items ++ after)))
    ∙ sym (with_replaced-parted key row (flat blocks) _ s.row _ (spot_parted key (key row) blocks table n i s) ∙ ap (λ c. (before ++ take i s.block.items) ++ (if c then row else s.row) ∷ (drop (i + 1) s.block.items ++ after)) found.has)

-- a block of so many rows, halved
pub record IsHalved {X Y : Type 0} (old new : List (Vec X Y)) : Type 0 where
  pub rows : flat new ≡ flat old
  pub filled : AreFilled new

pub halved : {X Y : Type 0} (bs zs : List (Vec X Y)) (n : ℕ) (e h t first block : Vec X Y) → n < length bs → AreFilled bs → first ≡ get_or bs n first → 64 ≤ length first.items → zs ≡ insert bs (n + 1) e → block ≡ get_or zs n block → h.items ≡ take 32 block.items → t.items ≡ drop 32 block.items
    → IsHalved bs (set (set zs n h) (n + 1) t)
halved {X} {Y} bs zs n e h t first block lt filled first_is first_long zs_is is front back =
    let one : n + 1 ≡ suc n = omega arith in
    let at : (d : Vec X Y) → block ≡ get_or bs n d = λ d. is ∙ ap (λ l. get_or l n block) zs_is ∙ get_or-insert_below bs (n + 1) e block n (omega arith) (omega arith) ∙ get_or_default bs n block d lt in
    let long : 64 ≤ length block.items = subst (λ (v : Vec X Y). 64 ≤ length v.items) (first_is ∙ sym (at first)) first_long in
    let whole : (d : Vec X Y) → h.items ++ t.items ≡ (get_or bs n d).items = λ d. ap (λ l. l ++ t.items) front ∙ ap (λ l. take 32 block.items ++ l) back ∙ take-append-drop 32 block.items ∙ ap (λ (v : Vec X Y). v.items) (at d) in
    let some_h : 0 < length h.items = subst (λ l. 0 < length l) (sym front) (omega (arith, length-take 32 block.items)) in
    let some_t : 0 < length t.items = subst (λ l. 0 < length l) (sym back) (omega (arith, length-drop 32 block.items)) in
    let goal : IsHalved bs (set (set (insert bs (suc n) e) n h) (suc n) t) = record { rows = flat-halved bs n e h t lt whole; filled = AreFilled-halved bs n e h t lt filled some_h some_t } in
    subst (λ l. IsHalved bs (set (set l n h) (n + 1) t)) (sym zs_is) (subst (λ m. IsHalved bs (set (set (insert bs m e) n h) m t)) (sym one) goal)

-- the last row of all
last_row-end : {X : Type 0} (xs : List X) (x : X) → last_row (xs ++ x ∷ []) ≡ Some x
last_row-end [] x = refl
last_row-end (y ∷ []) x = refl
last_row-end (y ∷ z ∷ xs) x = last_row-end (z ∷ xs) x

pub last_row-flat : {X Y : Type 0} (bs : List (Vec X Y)) (block : Vec X Y) → AreFilled bs → slice_get bs (length bs - 1) ≡ Some block → slice_get block.items (length block.items - 1) ≡ last_row (flat bs)
last_row-flat [] block f e = cc
last_row-flat {X} {Y} (b ∷ bs) block f e =
    let l = has_last (b ∷ bs) (omega arith) in
    let same : l.last ≡ block = some_is l.last block (sym l.at_end ∙ e) in
    let filled : 0 < length block.items = subst (λ (v : Vec X Y). 0 < length v.items) same (AreFilled-right l.front (l.last ∷ []) (subst AreFilled l.split f)).0 in
    let r = has_last block.items filled in
    let all : flat (b ∷ bs) ≡ (flat l.front ++ r.front) ++ r.last ∷ [] =
    ap flat l.split ∙ flat-append l.front (l.last ∷ []) ∙ ap (λ k. flat l.front ++ k) (append-nil l.last.items ∙ ap (λ (v : Vec X Y). v.items) same ∙ r.split) ∙ sym (append_assoc (flat l.front) r.front (r.last ∷ [])) in
    r.at_end ∙ sym (ap last_row all ∙ last_row-end (flat l.front ++ r.front) r.last)
  where
    some_is : (x y : Vec X Y) → Some x ≡ Some y → x ≡ y
    some_is x y q = cc

pub on_err : {T E : Type 0} (r : Result T E) (P : Type 0) → P → OnErr r P
on_err (Ok x) P p = tt
on_err (Err e) P p = p

pub either : {T E : Type 0} (r : Result T E) (P Q S : Type 0) → OnOk r P → OnErr r Q → (P → S) → (Q → S) → S
either (Ok x) P Q S p q f g = f p
either (Err e) P Q S p q f g = g q
