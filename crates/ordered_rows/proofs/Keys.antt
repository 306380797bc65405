-- The order of keys, and what follows of rows in order.
use Rattle.std.proofs.Common.{◌≡◌, Bool, true, false, not, cond, ◌&&◌, ◌==◌, nat_eq, List, [], ◌∷◌, ◌++◌, Some, None, if◌then◌else◌, suc, ◌+◌, length, map, length-append, refl, sym, ap, ◌∙◌, subst, arith}
use mathlib.Core.Bool.{true≢false}
use Rattle.std.specs.declared.cmp.Ordering.{Ordering}
use Rattle.std.specs.declared.cmp.Ordering.TheVariants.{Less, Equal, Greater}
use Rattle.std.specs.Ordering.{is_lt, is_eq, ordering_reverse, nat_cmp}
use Rattle.std.specs.Cmp.{IsTotalOrder, then_total, on_total, nat_cmp_total, tied_itself, alike_right, unsigned_ties, Equal-is, both_tied, first_so, second_so}
use Rattle.std.specs.Cmp.Lexicographic.{slice_cmp, pointwise, lists_total, bytes_decides, texts_ties}
use Rattle.std.specs.List.{filter, find, AllByRecursion}
use Rattle.std.specs.List.Sorted.{IsStrictlySortedBy}
use Rattle.std.proofs.lemmas.List.Kept.{IsStrictlySortedBy-filter}
use Rattle.std.proofs.lemmas.List.Filters.{length-filter_both}
use borrow.Author.Tests.{eqb-true}
use Rattle.ordered_rows.specs.RowKey.{RowKey, key_cmp, same_key}
use Rattle.ordered_rows.specs.Listed.{row_cmp, IsInOrder, has_key, is_below, row_at, with_row, with_replaced, without}
use Rattle.ordered_rows.proofs.Cuts.{AllAre, AllAre-back, Falls, falls_cut, filter-keeps, filter-AllAre}

pub texts_total : IsTotalOrder (slice_cmp nat_cmp)
texts_total = lists_total nat_cmp_total

pub key_total : IsTotalOrder key_cmp
key_total =
    then_total (then_total (then_total (then_total (then_total (on_total (λ (k : RowKey). k.number) nat_cmp_total) (on_total (λ (k : RowKey). k.text) texts_total)) (on_total (λ (k : RowKey). k.second) texts_total)) (on_total (λ (k : RowKey). k.third) texts_total))
    (on_total (λ (k : RowKey). k.place) nat_cmp_total)) (on_total (λ (k : RowKey). k.item) nat_cmp_total)

permuted : (s t x i p n : Bool) → (s && t && x && i && p && n) ≡ (n && x && s && t && p && i)
permuted true true true true true n = by n
  where
    by : (b : Bool) → b ≡ (b && true && true && true && true && true)
    by true = refl
    by false = refl
permuted true true true true false n = by n
  where
    by : (b : Bool) → (false && b) ≡ (b && true && true && true && false && true)
    by true = refl
    by false = refl
permuted true true true false p n = by p n
  where
    by : (a b : Bool) → (false && a && b) ≡ (b && true && true && true && a && false)
    by true true = refl
    by true false = refl
    by false true = refl
    by false false = refl
permuted true true false i p n = by i p n
  where
    by : (c a b : Bool) → (false && c && a && b) ≡ (b && false && true && true && a && c)
    by c a true = refl
    by c a false = refl
permuted true false x i p n = by x i p n
  where
    by : (d c a b : Bool) → (false && d && c && a && b) ≡ (b && d && true && false && a && c)
    by true c a true = refl
    by false c a true = refl
    by d c a false = refl
permuted false t x i p n = by t x i p n
  where
    by : (e d c a b : Bool) → (false && e && d && c && a && b) ≡ (b && d && false && e && a && c)
    by e true c a true = refl
    by e false c a true = refl
    by e d c a false = refl

pub same_eq : (a b : RowKey) → same_key a b ≡ is_eq (key_cmp a b)
same_eq a b =
    permuted (pointwise nat_eq a.second b.second) (pointwise nat_eq a.third b.third) (pointwise nat_eq a.text b.text) (a.item == b.item) (a.place == b.place) (a.number == b.number)
    ∙ both_tied _ _ _ _ (both_tied _ _ _ _ (both_tied _ _ _ _ (both_tied _ _ _ _ (both_tied _ _ _ _ (unsigned_ties a.number b.number) (texts_ties a.text b.text)) (texts_ties a.second b.second)) (texts_ties a.third b.third)) (unsigned_ties a.place b.place)) (unsigned_ties a.item b.item)

pub same_Equal : (a b : RowKey) → same_key a b ≡ true → key_cmp a b ≡ Equal
same_Equal a b e = (Equal-is (key_cmp a b)).0 (sym (same_eq a b) ∙ e)

pub same_itself : (a : RowKey) → same_key a a ≡ true
same_itself a = same_eq a a ∙ ap is_eq (tied_itself key_total a)

Equal_not_Less : Equal ≡ Less → ⊥
Equal_not_Less e = true≢false (ap is_eq e)

is_Less : (r : Ordering) → is_lt r ≡ true → r ≡ Less
is_Less Less e = refl
is_Less Equal e = absurd (true≢false (sym e))
is_Less Greater e = absurd (true≢false (sym e))

module _ {X : Type 0} (key : X → RowKey) (k : RowKey) where
  -- a row with the key isn't below it
  pub has-not_below : (row : X) → has_key key k row ≡ true → is_below key k row ≡ false
  has-not_below row e = ap is_lt (same_Equal (key row) k e)

  pub below-not_has : (row : X) → is_below key k row ≡ true → has_key key k row ≡ false
  below-not_has row e = same_eq (key row) k ∙ ap is_eq (is_Less (key_cmp (key row) k) e)

  pub below_none : (rows : List X) → AllAre (is_below key k) true rows → AllAre (has_key key k) false rows
  below_none [] h = tt
  below_none (row ∷ rows) h = (below-not_has row h.0, below_none rows h.1)

  not_below_later : (row other : X) → row_cmp key row other ≡ Less → is_below key k row ≡ false → is_below key k other ≡ false
  not_below_later row other less e = by (key_cmp (key other) k) refl
    where
      by : (r : Ordering) → key_cmp (key other) k ≡ r → is_lt r ≡ false
      by Less q = absurd (true≢false (sym (ap is_lt (key_total.trans (key row) (key other) k less q)) ∙ e))
      by Equal q = refl
      by Greater q = refl

  not_below_none : (row other : X) → row_cmp key row other ≡ Less → is_below key k row ≡ false → has_key key k other ≡ false
  not_below_none row other less e = by (has_key key k other) refl
    where
      by : (b : Bool) → has_key key k other ≡ b → b ≡ false
      by false q = refl
      by true q = absurd (true≢false (sym (ap is_lt (sym (alike_right key_total (key other) k (key row) (same_Equal (key other) k q)) ∙ less)) ∙ e))

  pub each_later : (row : X) (rows : List X) → AllByRecursion (λ y. row_cmp key row y ≡ Less) rows → is_below key k row ≡ false → AllAre (is_below key k) false rows
  each_later row [] h e = tt
  each_later row (other ∷ rows) h e = (not_below_later row other h.0 e, each_later row rows h.1 e)

  none_later : (row : X) (rows : List X) → AllByRecursion (λ y. row_cmp key row y ≡ Less) rows → is_below key k row ≡ false → AllAre (has_key key k) false rows
  none_later row [] h e = tt
  none_later row (other ∷ rows) h e = (not_below_none row other h.0 e, none_later row rows h.1 e)

  -- in order, those below a key come first
  pub below_falls : (rows : List X) → IsInOrder key rows → Falls (is_below key k) rows
  unfolding IsStrictlySortedBy
  below_falls [] s = tt
  below_falls (row ∷ rows) s = (each_later row rows s.0, below_falls rows s.1)

  -- behind a row that isn't below the key none has it
  pub none_behind : (row : X) (rows : List X) → IsInOrder key (row ∷ rows) → is_below key k row ≡ false → AllAre (has_key key k) false rows
  unfolding IsStrictlySortedBy
  none_behind row rows s e = none_later row rows s.0 e

pub in_order_right : {X : Type 0} (key : X → RowKey) (xs ys : List X) → IsInOrder key (xs ++ ys) → IsInOrder key ys
unfolding IsStrictlySortedBy
in_order_right key [] ys s = s
in_order_right key (x ∷ xs) ys s = in_order_right key xs ys s.1

pub find-none : {X : Type 0} (p : X → Bool) (xs : List X) → AllAre p false xs → find p xs ≡ None
find-none p [] h = refl
find-none p (x ∷ xs) h = ap (λ b. cond b (Some x) (find p xs)) h.0 ∙ find-none p xs h.1

pub find-behind : {X : Type 0} (p : X → Bool) (xs ys : List X) → AllAre p false xs → find p (xs ++ ys) ≡ find p ys
find-behind p [] ys h = refl
find-behind p (x ∷ xs) ys h = ap (λ b. cond b (Some x) (find p (xs ++ ys))) h.0 ∙ find-behind p xs ys h.1

pub none-find : {X : Type 0} (p : X → Bool) (xs : List X) → find p xs ≡ None → AllAre p false xs
none-find p [] e = tt
none-find p (x ∷ xs) e = by (p x) refl e (λ none. none-find p xs none)
  where
    by : (b : Bool) → p x ≡ b → cond b (Some x) (find p xs) ≡ None → (find p xs ≡ None → AllAre p false xs) → (p x ≡ false) × AllAre p false xs
    by true q some rest = cc
    by false q none rest = (q, rest none)

-- ---- rows in order after an edit

less_before : {X : Type 0} (key : X → RowKey) (row : X) (rows : List X) → AllAre (is_below key (key row)) true rows → AllByRecursion (λ x. row_cmp key x row ≡ Less) rows
less_before key row [] h = tt
less_before key row (x ∷ rows) h = (is_Less (key_cmp (key x) (key row)) h.0, less_before key row rows h.1)

turned_Less : (r : Ordering) → is_lt r ≡ false → is_eq r ≡ false → ordering_reverse r ≡ Less
turned_Less Less a b = absurd (true≢false a)
turned_Less Equal a b = absurd (true≢false b)
turned_Less Greater a b = refl

less_behind : {X : Type 0} (key : X → RowKey) (row : X) (rows : List X) → AllAre (is_below key (key row)) false rows → AllAre (has_key key (key row)) false rows → AllByRecursion (λ y. row_cmp key row y ≡ Less) rows
less_behind key row [] h g = tt
less_behind key row (y ∷ rows) h g =
    (key_total.antisymm (key row) (key y) ∙ turned_Less (key_cmp (key y) (key row)) h.0 (sym (same_eq (key y) (key row)) ∙ g.0), less_behind key row rows h.1 g.1)

each_with : {X : Type 0} (P : X → Type 0) (xs : List X) (row : X) (ys : List X) → AllByRecursion P (xs ++ ys) → P row → AllByRecursion P (xs ++ row ∷ ys)
each_with P [] row ys h r = (r, h)
each_with P (x ∷ xs) row ys h r = (h.0, each_with P xs row ys h.1 r)

order_with : {X : Type 0} (key : X → RowKey) (xs : List X) (row : X) (ys : List X) → IsInOrder key (xs ++ ys) → AllByRecursion (λ x. row_cmp key x row ≡ Less) xs → AllByRecursion (λ y. row_cmp key row y ≡ Less) ys → IsInOrder key (xs ++ row ∷ ys)
unfolding IsStrictlySortedBy
order_with key [] row ys s h g = (g, s)
order_with key (x ∷ xs) row ys s h g = (each_with (λ y. row_cmp key x y ≡ Less) xs row ys s.0 h.0, order_with key xs row ys s.1 h.1 g)

pub order-with_row : {X : Type 0} (key : X → RowKey) (row : X) (rows : List X) → IsInOrder key rows → row_at key (key row) rows ≡ None → IsInOrder key (with_row key row rows)
order-with_row {X} key row rows order new =
    let p : X → Bool = is_below key (key row) in
    let q : X → Bool = λ r. not (p r) in
    order_with key (filter p rows) row (filter q rows) (subst (IsInOrder key) (falls_cut p rows (below_falls key (key row) rows order)) order)
    (less_before key row (filter p rows) (filter-keeps p rows))
    (less_behind key row (filter q rows) (AllAre-back p (filter q rows) (filter-keeps q rows)) (filter-AllAre (has_key key (key row)) false q rows (none-find (has_key key (key row)) rows new)))

pub order-without : {X : Type 0} (key : X → RowKey) (k : RowKey) (rows : List X) → IsInOrder key rows → IsInOrder key (without key k rows)
order-without key k rows order = IsStrictlySortedBy-filter (row_cmp key) (λ r. not (has_key key k r)) rows order

pub same_is : (a b : RowKey) → same_key a b ≡ true → a ≡ b
same_is a b e =
    let e5 = first_so (pointwise nat_eq a.second b.second && pointwise nat_eq a.third b.third && pointwise nat_eq a.text b.text && (a.item == b.item) && (a.place == b.place)) (a.number == b.number) e in
    let e4 = first_so (pointwise nat_eq a.second b.second && pointwise nat_eq a.third b.third && pointwise nat_eq a.text b.text && (a.item == b.item)) (a.place == b.place) e5 in
    let e3 = first_so (pointwise nat_eq a.second b.second && pointwise nat_eq a.third b.third && pointwise nat_eq a.text b.text) (a.item == b.item) e4 in
    let e2 = first_so (pointwise nat_eq a.second b.second && pointwise nat_eq a.third b.third) (pointwise nat_eq a.text b.text) e3 in
    let second : a.second ≡ b.second = (bytes_decides a.second b.second).0 (first_so (pointwise nat_eq a.second b.second) (pointwise nat_eq a.third b.third) e2) in
    let third : a.third ≡ b.third = (bytes_decides a.third b.third).0 (second_so (pointwise nat_eq a.second b.second) (pointwise nat_eq a.third b.third) e2) in
    let text : a.text ≡ b.text = (bytes_decides a.text b.text).0 (second_so (pointwise nat_eq a.second b.second && pointwise nat_eq a.third b.third) (pointwise nat_eq a.text b.text) e3) in
    let item : a.item ≡ b.item = eqb-true a.item b.item (second_so (pointwise nat_eq a.second b.second && pointwise nat_eq a.third b.third && pointwise nat_eq a.text b.text) (a.item == b.item) e4) in
    let place : a.place ≡ b.place = eqb-true a.place b.place (second_so (pointwise nat_eq a.second b.second && pointwise nat_eq a.third b.third && pointwise nat_eq a.text b.text && (a.item == b.item)) (a.place == b.place) e5) in
    let number : a.number ≡ b.number = eqb-true a.number b.number (second_so (pointwise nat_eq a.second b.second && pointwise nat_eq a.third b.third && pointwise nat_eq a.text b.text && (a.item == b.item) && (a.place == b.place)) (a.number == b.number) e) in
    λ i. record { number = number i; text = text i; second = second i; third = third i; place = place i; item = item i }

-- order is a matter of the keys alone
each_key : {X Y : Type 0} (f : X → RowKey) (g : Y → RowKey) (k : RowKey) (xs : List X) (ys : List Y) → map f xs ≡ map g ys → AllByRecursion (λ x. key_cmp k (f x) ≡ Less) xs → AllByRecursion (λ y. key_cmp k (g y) ≡ Less) ys
each_key f g k xs [] e h = tt
each_key f g k [] (y ∷ ys) e h = cc
each_key f g k (x ∷ xs) (y ∷ ys) e h = let head : f x ≡ g y = cc in let rest : map f xs ≡ map g ys = cc in (subst (λ a. key_cmp k a ≡ Less) head h.0, each_key f g k xs ys rest h.1)

order_keys : {X : Type 0} (key : X → RowKey) (xs ys : List X) → map key xs ≡ map key ys → IsInOrder key xs → IsInOrder key ys
unfolding IsStrictlySortedBy
order_keys key xs [] e s = tt
order_keys key [] (y ∷ ys) e s = cc
order_keys key (x ∷ xs) (y ∷ ys) e s =
    let head : key x ≡ key y = cc in
    let rest : map key xs ≡ map key ys = cc in
    (subst (λ k. AllByRecursion (λ z. key_cmp k (key z) ≡ Less) ys) head (each_key key key (key x) xs ys rest s.0), order_keys key xs ys rest s.1)

replaced_keys : {X : Type 0} (key : X → RowKey) (row : X) (rows : List X) → map key rows ≡ map key (with_replaced key row rows)
replaced_keys key row [] = refl
replaced_keys key row (r ∷ rows) = by (has_key key (key row) r) refl (replaced_keys key row rows)
  where
    by : (b : Bool) → has_key key (key row) r ≡ b → map key rows ≡ map key (with_replaced key row rows) → key r ∷ map key rows ≡ key (if b then row else r) ∷ map key (with_replaced key row rows)
    by true e rest = let same : key r ≡ key row = same_is (key r) (key row) e in cc
    by false e rest = cc

pub order-with_replaced : {X : Type 0} (key : X → RowKey) (row : X) (rows : List X) → IsInOrder key rows → IsInOrder key (with_replaced key row rows)
order-with_replaced key row rows order = order_keys key rows (with_replaced key row rows) (replaced_keys key row rows) order

pub length-with_row : {X : Type 0} (key : X → RowKey) (row : X) (rows : List X) → length (with_row key row rows) ≡ length rows + 1
length-with_row {X} key row rows =
    let p : X → Bool = is_below key (key row) in
    omega (arith, length-append (filter p rows) (row ∷ filter (λ r. not (p r)) rows), length-filter_both p (λ r. not (p r)) (λ r. refl) rows)

pub length-with_replaced : {X : Type 0} (key : X → RowKey) (row : X) (rows : List X) → length (with_replaced key row rows) ≡ length rows
length-with_replaced key row [] = refl
length-with_replaced key row (r ∷ rows) = ap suc (length-with_replaced key row rows)
