-- What spans cover.
use Rattle.std.proofs.Common.{◌≡◌, ℕ, suc, ◌+◌, ◌-◌, ◌<◌, ◌≤◌, Bool, true, false, List, [], ◌∷◌, length, get_or, take, max, ◌++◌, refl, sym, ap, ◌∙◌, arith, inl, inr, ◌⊎◌}
use Rattle.std.specs.Prelude.{min, Option}
use Rattle.std.specs.List.{list_any, slice_range}
use Rattle.std.specs.List.Sorted.{IsPermutation, IsNonDecreasingBy}
use Rattle.std.specs.Ordering.{nat_cmp}
use Rattle.std.proofs.lemmas.Bool.{cases_lt, lt-leb, le-leb, and_left, and_right, lt-ltb, le-ltb}
use Rattle.std.proofs.lemmas.Bool.Decides.{nat_tests}
use Rattle.std.proofs.lemmas.List.Folds.{list_any_none, list_any_at}
use Rattle.std.proofs.lemmas.List.Sorted.{list_any-IsPermutation}
use Rattle.std.proofs.lemmas.Map.Keys.{sorted_head, sorted_tail}
use Rattle.session_view.specs.declared.spans.Span.{Span}
use Rattle.session_view.specs.Order.{Ascend}
use Rattle.session_view.specs.Spans.{covers, holds_at, last_of}
use Rattle.session_view.specs.Resolving.{greatest, is_in, lies_between, numbered, resolved}
use Rattle.session_view.proofs.Numbered.{numbered_same, numbered_shift, numbered_filter, numbered_more}

-- the places up to a count of those below one number, and of those below another and one
pub between_places : (start end place one other n : ℕ) → (place < start → n < min one other) → (start ≤ place → min one other ≤ n) → (place < end → n < max one other + 1) → (end ≤ place → max one other + 1 ≤ n)
    → covers place (record { start = start; end = end }) ≡ lies_between one other n
between_places start end place one other n below from under over =
    elim (cases_lt place start) [
      | inl a ↦ and_left _ _ (lt-leb start place a) ∙ sym (and_left _ _ (lt-leb (min one other) n (below a)))
      | inr a ↦ elim (cases_lt place end) [
        | inl b ↦ rw (le-leb start place a, lt-ltb place end b, le-leb (min one other) n (from a), le-leb n (max one other) (omega (arith, under b))) refl
        | inr b ↦ and_right _ _ (le-ltb place end b) ∙ sym (and_right _ _ (lt-leb n (max one other) (omega (arith, over b))))
      ]
    ]

-- The greatest of numbers that ascend is the last.
pub greatest_last : (xs : List ℕ) → Ascend xs → greatest xs ≡ get_or xs (length xs - 1) 0
greatest_last [] up = refl
greatest_last (x ∷ []) up = omega arith
greatest_last (x ∷ y ∷ ys) up =
    let head = sorted_head nat_cmp x (y ∷ ys) up in
    let less : x < y = grind (arith, nat_tests, head.0) in
    let rest = greatest_last (y ∷ ys) (sorted_tail nat_cmp x (y ∷ ys) up) in
    let skip : max x (max y (greatest ys)) ≡ max y (greatest ys) = omega (arith, less) in
    let one : suc (length ys) - 1 ≡ length ys = omega arith in
    let two : suc (length ys) ≡ suc (suc (length ys)) - 1 = omega arith in
    skip ∙ rest ∙ ap (λ n. get_or (y ∷ ys) n 0) one ∙ ap (λ n. get_or (x ∷ y ∷ ys) n 0) two

-- a place before the next span's start, that no span so far has
pub gap_free : (spans : List Span) (index place : ℕ) → IsNonDecreasingBy (λ s. s.start) spans → index < length spans → ((j : ℕ) (e : Span) → j < index → covers place (get_or spans j e) ≡ false) → ((d : Span) → place < (get_or spans index d).start) → list_any (covers place) spans ≡ false
gap_free spans index place up within passed before =
    list_any_none (covers place) spans (λ k e lt. elim (cases_lt k index) [
      | inl a ↦ passed k e a
      | inr a ↦ and_left _ _ (lt-leb (get_or spans k e).start place (omega (arith, up index k e a lt, before e)))
    ])

pub all_passed : (spans : List Span) (place : ℕ) → ((j : ℕ) (e : Span) → j < length spans → covers place (get_or spans j e) ≡ false) → list_any (covers place) spans ≡ false
all_passed spans place passed = list_any_none (covers place) spans passed

pub in_span : (spans : List Span) (index place : ℕ) (d : Span) → index < length spans → (get_or spans index d).start ≤ place → place < (get_or spans index d).end → list_any (covers place) spans ≡ true
in_span spans index place d within low high =
    list_any_at (covers place) spans index d within (rw (le-leb (get_or spans index d).start place low, lt-ltb place (get_or spans index d).end high) refl)

-- what the spans of a set's ranges cover is what the set selects
pub resolved_is : (uids : List ℕ) (ranges : List (Option ℕ × Option ℕ)) (by_uid : Bool) (spans moved : List Span) → IsPermutation spans moved → ((place : ℕ) → place < length uids → list_any (covers place) spans ≡ list_any (holds_at uids by_uid place) ranges) → numbered (λ place. list_any (covers place) moved) 0 uids ≡ resolved uids ranges by_uid
resolved_is uids ranges true spans moved same covered =
    numbered_filter (λ place. list_any (covers place) moved) (is_in (greatest uids) ranges) 0 uids
    (λ k lt. let e : 0 + k ≡ k = omega arith in ap (λ place. list_any (covers place) moved) e ∙ sym (list_any-IsPermutation (covers k) spans moved same) ∙ covered k lt)
resolved_is uids ranges false spans moved same covered =
    numbered_same (λ place. list_any (covers place) moved) (λ place. is_in (length uids) ranges (place + 1)) 0 uids
    (λ k low lt. sym (list_any-IsPermutation (covers k) spans moved same) ∙ covered k (omega arith))
    ∙ numbered_shift (is_in (length uids) ranges) 0 uids

pub last_is : (uids : List ℕ) (by_uid : Bool) → by_uid ≡ true → Ascend uids → get_or uids (length uids - 1) 0 ≡ last_of uids by_uid
last_is uids true is up = sym (greatest_last uids up)
last_is uids false is up = absurd cc

-- a span is passed once the places up to its end are done
pub passed_more : (uids : List ℕ) (spans : List Span) (index done next from end : ℕ) (s : Span) → ((d : Span) → get_or spans index d ≡ s) → from ≡ max s.start done → end ≡ min s.end (length uids) → done ≤ next → (next ≡ end) ⊎ (end ≤ from)
    → ((j place : ℕ) (d : Span) → j < index → done ≤ place → place < length uids → covers place (get_or spans j d) ≡ false)
    → (j place : ℕ) (d : Span) → j < index + 1 → next ≤ place → place < length uids → covers place (get_or spans j d) ≡ false
passed_more uids spans index done next from end s here starts ends low how passed j place d lt high within =
    elim (cases_lt j index) [
      | inl a ↦ passed j place d a (omega arith) within
      | inr a ↦ (let e : j ≡ index = omega arith in ap (λ n. covers place (get_or spans n d)) e ∙ ap (covers place) (here d) ∙ out)
    ]
  where
    out : covers place s ≡ false
    out = elim (cases_lt place s.start) [
      | inl b ↦ and_left _ _ (lt-leb s.start place b)
      | inr b ↦ and_right _ _ (le-ltb place s.end (elim how [ inl same ↦ omega arith | inr none ↦ omega arith ]))
    ]

pub found_more : (uids : List ℕ) (spans : List Span) (index done from end : ℕ) (s : Span) → ((d : Span) → get_or spans index d ≡ s) → from ≡ max s.start done → end ≡ min s.end (length uids) → from < end → IsNonDecreasingBy (λ span. span.start) spans → index < length spans
    → ((j place : ℕ) (d : Span) → j < index → done ≤ place → place < length uids → covers place (get_or spans j d) ≡ false)
    → numbered (λ place. list_any (covers place) spans) 0 (take end uids) ≡ numbered (λ place. list_any (covers place) spans) 0 (take done uids) ++ slice_range uids from end
found_more uids spans index done from end s here starts ends some up within passed =
    numbered_more (λ place. list_any (covers place) spans) uids done from end (omega arith) (omega arith) (omega arith)
    (λ k low lt. gap_free spans index k up within (λ j e h. passed j k e h low (omega arith)) (λ e. (let same = ap (λ (span : Span). span.start) (here e) in omega (arith, same))))
    (λ k low lt. in_span spans index k s within (let same = ap (λ (span : Span). span.start) (here s) in omega (arith, same)) (let same = ap (λ (span : Span). span.end) (here s) in omega (arith, same)))
