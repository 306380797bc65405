-- The rows of one number and one text.
use Rattle.std.proofs.Common.{◌≡◌, ℕ, Bool, true, false, cond, ◌&&◌, ◌==◌, nat_eq, List, [], ◌∷◌, refl, sym, ap, ◌∙◌}
use mathlib.Core.Bool.{true≢false}
use Rattle.std.specs.declared.cmp.Ordering.{Ordering}
use Rattle.std.specs.declared.cmp.Ordering.TheVariants.{Less, Equal, Greater}
use Rattle.std.specs.Ordering.{is_lt, is_eq, ordering_then, nat_cmp}
use Rattle.std.specs.Cmp.{IsTotalOrder, then_total, on_total, nat_cmp_total, alike_right, unsigned_ties, Equal-is, both_tied}
use Rattle.std.specs.Cmp.Lexicographic.{slice_cmp, pointwise, texts_ties}
use Rattle.std.specs.List.{filter}
use Rattle.ordered_rows.specs.RowKey.{RowKey}
use Rattle.ordered_rows.specs.Listed.{row_cmp, IsInOrder, is_below, rows_from, leading, has_number, has_text, is_under}
use Rattle.ordered_rows.proofs.Groups.{leading_from, zero_least}
use Rattle.ordered_rows.proofs.Keys.{below_falls, texts_total}

abbrev prefix_cmp : RowKey → RowKey → Ordering
prefix_cmp a b = ordering_then (nat_cmp a.number b.number) (slice_cmp nat_cmp a.text b.text)

prefix_total : IsTotalOrder prefix_cmp
prefix_total = then_total (on_total (λ (k : RowKey). k.number) nat_cmp_total) (on_total (λ (k : RowKey). k.text) texts_total)

turned : (t n : Bool) → (t && n) ≡ (n && t)
turned true true = refl
turned true false = refl
turned false true = refl
turned false false = refl

prefix_eq : (a b : RowKey) → (pointwise nat_eq a.text b.text && (a.number == b.number)) ≡ is_eq (prefix_cmp a b)
prefix_eq a b = turned (pointwise nat_eq a.text b.text) (a.number == b.number) ∙ both_tied _ _ _ _ (unsigned_ties a.number b.number) (texts_ties a.text b.text)

-- how keys with prefixes in an order compare
abbrev behind : RowKey → RowKey → Ordering → Ordering
behind a b r = ordering_then (ordering_then (ordering_then (ordering_then r (slice_cmp nat_cmp a.second b.second)) (slice_cmp nat_cmp a.third b.third)) (nat_cmp a.place b.place)) (nat_cmp a.item b.item)

no_text_least : (xs : List ℕ) → is_lt (slice_cmp nat_cmp xs []) ≡ false
no_text_least [] = refl
no_text_least (x ∷ xs) = refl

neither : (a b : Ordering) → is_lt a ≡ false → is_lt b ≡ false → is_lt (ordering_then a b) ≡ false
neither Less b e f = e
neither Equal b e f = f
neither Greater b e f = e

module _ {X : Type 0} (key : X → RowKey) (n : ℕ) (text : List ℕ) where
  abbrev k : RowKey
  k = record { number = n; text = text; second = []; third = []; place = 0; item = 0 }

  abbrev g : X → Bool
  g = is_under key n text

  abbrev first : X → Bool
  first = is_below key k

  least : (a : RowKey) → is_lt (behind a k Equal) ≡ false
  least a = neither _ (nat_cmp a.item 0) (neither _ (nat_cmp a.place 0) (neither (slice_cmp nat_cmp a.second []) (slice_cmp nat_cmp a.third []) (no_text_least a.second) (no_text_least a.third)) (zero_least a.place)) (zero_least a.item)

  under_not_below : (x : X) → g x ≡ true → first x ≡ false
  under_not_below x e =
      let same : prefix_cmp (key x) k ≡ Equal = (Equal-is (prefix_cmp (key x) k)).0 (sym (prefix_eq (key x) k) ∙ e) in
      ap (λ r. is_lt (behind (key x) k r)) same ∙ least (key x)

  is_above : (x : X) → first x ≡ false → g x ≡ false → prefix_cmp (key x) k ≡ Greater
  is_above x nb ng = by (prefix_cmp (key x) k) refl
    where
      by : (r : Ordering) → prefix_cmp (key x) k ≡ r → prefix_cmp (key x) k ≡ Greater
      by Less e = absurd (true≢false (sym (ap (λ s. is_lt (behind (key x) k s)) e) ∙ nb))
      by Equal e = absurd (true≢false (sym (prefix_eq (key x) k ∙ ap is_eq e) ∙ ng))
      by Greater e = e

  not_under_later : (x y : X) → first x ≡ false → g x ≡ false → row_cmp key x y ≡ Less → g y ≡ false
  not_under_later x y nb ng less = by (g y) refl
    where
      by : (b : Bool) → g y ≡ b → g y ≡ false
      by false q = q
      by true q =
          let same : prefix_cmp (key y) k ≡ Equal = (Equal-is (prefix_cmp (key y) k)).0 (sym (prefix_eq (key y) k) ∙ q) in
          let greater : prefix_cmp (key x) (key y) ≡ Greater = alike_right prefix_total (key y) k (key x) same ∙ is_above x nb ng in
          absurd (true≢false (sym (ap is_lt less) ∙ ap (λ s. is_lt (behind (key x) (key y) s)) greater))

  both : (rows : List X) → filter g rows ≡ filter (has_text key text) (filter (has_number key n) rows)
  both [] = refl
  both (x ∷ rows) = by (has_text key text x) (has_number key n x) refl refl (both rows)
    where
      by : (t m : Bool) → has_text key text x ≡ t → has_number key n x ≡ m → filter g rows ≡ filter (has_text key text) (filter (has_number key n) rows)
          → cond (t && m) (x ∷ filter g rows) (filter g rows) ≡ filter (has_text key text) (cond m (x ∷ filter (has_number key n) rows) (filter (has_number key n) rows))
      by true true q r rest = ap (λ l. x ∷ l) rest ∙ ap (λ c. cond c (x ∷ filter (has_text key text) (filter (has_number key n) rows)) (filter (has_text key text) (filter (has_number key n) rows))) (sym q)
      by true false q r rest = rest
      by false true q r rest = rest ∙ ap (λ c. cond c (x ∷ filter (has_text key text) (filter (has_number key n) rows)) (filter (has_text key text) (filter (has_number key n) rows))) (sym q)
      by false false q r rest = rest

  pub under_is : (rows : List X) → IsInOrder key rows → leading g (rows_from key k rows) ≡ filter (has_text key text) (filter (has_number key n) rows)
  under_is rows order = leading_from key g first under_not_below not_under_later rows order (below_falls key k rows order) ∙ both rows
