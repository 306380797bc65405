-- Keys of rows without where they lie in memory, and their order.
use Rattle.std.specs.Prelude.{ℕ, Bool, List, [], ◌&&◌, ◌==◌, nat_eq}
use Rattle.std.specs.declared.cmp.Ordering.{Ordering}
use Rattle.std.specs.Ordering.{nat_cmp, ordering_then}
use Rattle.std.specs.Cmp.Lexicographic.{slice_cmp, pointwise}
use Rattle.ordered_rows.specs.declared.key.Key.{Key}

pub record RowKey : Type 0 where
  pub number : ℕ
  pub text : List ℕ
  pub second : List ℕ
  pub third : List ℕ
  pub place : ℕ
  pub item : ℕ

abbrev pub row_key : Key → RowKey
row_key k = record { number = k.number; text = k.text.now; second = k.second.now; third = k.third.now; place = k.place; item = k.item }

-- the key of a table whose rows have a number alone
abbrev pub number_key : ℕ → RowKey
number_key n = record { number = n; text = []; second = []; third = []; place = 0; item = 0 }

-- the parts in their order, the first that differs decides
abbrev pub key_cmp : RowKey → RowKey → Ordering
key_cmp a b =
    ordering_then (ordering_then (ordering_then (ordering_then (ordering_then (nat_cmp a.number b.number) (slice_cmp nat_cmp a.text b.text)) (slice_cmp nat_cmp a.second b.second)) (slice_cmp nat_cmp a.third b.third))
    (nat_cmp a.place b.place)) (nat_cmp a.item b.item)

-- Each part is the same. The parts that most keys leave empty stand first, so that the test computes where they are.
abbrev pub same_key : RowKey → RowKey → Bool
same_key a b = pointwise nat_eq a.second b.second && pointwise nat_eq a.third b.third && pointwise nat_eq a.text b.text && (a.item == b.item) && (a.place == b.place) && (a.number == b.number)

-- each part but the item is the same
abbrev pub same_group : RowKey → RowKey → Bool
same_group a b = pointwise nat_eq a.second b.second && pointwise nat_eq a.third b.third && pointwise nat_eq a.text b.text && (a.place == b.place) && (a.number == b.number)

-- the least key of its group
abbrev pub first_key : RowKey → RowKey
first_key k = record k { item = 0 }
