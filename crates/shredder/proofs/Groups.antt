-- Rows that are added behind those of their group.
use Rattle.std.proofs.Common.{◌≡◌, ℕ, ◌+◌, ◌<◌, ◌≤◌, Bool, true, false, cond, ◌==◌, nat_lt, List, [], ◌∷◌, ◌++◌, Some, None, refl, sym, ap, ◌∙◌, subst, arith}
use mathlib.Core.Bool.{true≢false}
use Rattle.std.proofs.lemmas.Bool.{le-ltb}
use Rattle.std.proofs.lemmas.List.{append-nil, append_assoc}
use Rattle.std.specs.declared.cmp.Ordering.TheVariants.{Less, Equal, Greater}
use Rattle.std.specs.Ordering.{nat_cmp, ordering_then, is_lt}
use Rattle.std.specs.Cmp.{nat_cmp_total, tied_itself}
use Rattle.std.specs.Cmp.Lexicographic.{slice_cmp, nat_list_cmp_total}
use Rattle.std.specs.List.{AllByRecursion, filter, find}
use Rattle.ordered_rows.specs.RowKey.{RowKey, key_cmp}
use Rattle.ordered_rows.specs.Listed.{has_key, is_below, row_at, with_row}
use Rattle.ordered_rows.specs.InsertLaws.{InsertLaws}
use Rattle.shredder.specs.Making.{RowLaws}
use Rattle.shredder.proofs.Lookups.{find_among}
use Rattle.shredder.proofs.Frames.{all_joined, not_true}

-- ---- lists

-- where what holds of all rows speaks against a test, none passes
pub none_pass : {X : Type 0} (P : X → Type 0) (g : X → Bool) → ((x : X) → P x → g x ≡ true → ⊥) → (rows : List X) → AllByRecursion P rows → filter g rows ≡ []
none_pass P g n [] all = refl
none_pass {X} P g n (x ∷ rows) all = ap (λ b. cond b (x ∷ filter g rows) (filter g rows)) (not_true (g x) (n x all.0)) ∙ none_pass P g n rows all.1

pub none_found : {X : Type 0} (P : X → Type 0) (g : X → Bool) → ((x : X) → P x → g x ≡ true → ⊥) → (rows : List X) → AllByRecursion P rows → find g rows ≡ None
none_found P g n [] all = refl
none_found {X} P g n (x ∷ rows) all = ap (λ b. cond b (Some x) (find g rows)) (not_true (g x) (n x all.0)) ∙ none_found P g n rows all.1

-- what holds of the rows that pass a test, with what the test says
pub all_passing : {X : Type 0} (P Q : X → Type 0) (g : X → Bool) → ((x : X) → g x ≡ true → P x → Q x) → (rows : List X) → AllByRecursion P (filter g rows) → AllByRecursion Q (filter g rows)
all_passing P Q g f [] all = tt
all_passing {X} P Q g f (x ∷ rows) all = by (g x) refl all (λ h. all_passing P Q g f rows h)
  where
    by : (b : Bool) → g x ≡ b → AllByRecursion P (cond b (x ∷ filter g rows) (filter g rows)) → (AllByRecursion P (filter g rows) → AllByRecursion Q (filter g rows)) → AllByRecursion Q (cond b (x ∷ filter g rows) (filter g rows))
    by true q h rest = (f x q h.0, rest h.1)
    by false q h rest = rest h

-- ---- keys

-- keys that differ in their items alone compare as these
pub items_lt : (k : RowKey) (a b : ℕ) → is_lt (key_cmp (record k { item = a }) (record k { item = b })) ≡ nat_lt a b
items_lt k a b =
    ap (λ r. is_lt (ordering_then (ordering_then (ordering_then (ordering_then (ordering_then r (slice_cmp nat_cmp k.text k.text)) (slice_cmp nat_cmp k.second k.second)) (slice_cmp nat_cmp k.third k.third)) (nat_cmp k.place k.place)) (nat_cmp a b))) (tied_itself nat_cmp_total k.number)
    ∙ ap (λ r. is_lt (ordering_then (ordering_then (ordering_then (ordering_then r (slice_cmp nat_cmp k.second k.second)) (slice_cmp nat_cmp k.third k.third)) (nat_cmp k.place k.place)) (nat_cmp a b))) (tied_itself nat_list_cmp_total k.text)
    ∙ ap (λ r. is_lt (ordering_then (ordering_then (ordering_then r (slice_cmp nat_cmp k.third k.third)) (nat_cmp k.place k.place)) (nat_cmp a b))) (tied_itself nat_list_cmp_total k.second)
    ∙ ap (λ r. is_lt (ordering_then (ordering_then r (nat_cmp k.place k.place)) (nat_cmp a b))) (tied_itself nat_list_cmp_total k.third)
    ∙ ap (λ r. is_lt (ordering_then r (nat_cmp a b))) (tied_itself nat_cmp_total k.place) ∙ last (nat_lt a b) (a == b)
  where
    last : (s t : Bool) → is_lt (ordering_then Equal (cond s Less (cond t Equal Greater))) ≡ s
    last true t = refl
    last false true = refl
    last false false = refl

below_itself : (laws : RowLaws) (k : RowKey) → is_lt (key_cmp k k) ≡ false
below_itself laws k = laws.places k k.place k.place ∙ le-ltb k.place k.place (omega arith)

-- ---- groups

-- the table after rows were inserted one after another
abbrev pub with_rows : {X : Type 0} → (X → RowKey) → List X → List X → List X
with_rows key [] rows = rows
with_rows key (new ∷ news) rows = with_rows key news (with_row key new rows)

module _ {X : Type 0} (key : X → RowKey) (laws : RowLaws) (insert : InsertLaws key) where
  -- all are below a key
  abbrev pub AreBelow : RowKey → List X → Type 0
  AreBelow k rows = AllByRecursion (λ r. is_below key k r ≡ true) rows

  none_there : (k : RowKey) (rows : List X) → AreBelow k rows → row_at key k rows ≡ None
  none_there k rows all = none_found (λ r. is_below key k r ≡ true) (has_key key k) (λ x below e. true≢false (sym below ∙ ap (λ a. is_lt (key_cmp a k)) (laws.same (key x) k e) ∙ below_itself laws k)) rows all

  pub is_free : (g : X → Bool) (k : RowKey) (rows : List X) → ((x : X) → has_key key k x ≡ true → g x ≡ true) → AreBelow k (filter g rows) → row_at key k rows ≡ None
  is_free g k rows sub all = sym (find_among (has_key key k) g sub rows) ∙ none_there k (filter g rows) all

  pub behind_group : (g : X → Bool) (row : X) (rows : List X) → g row ≡ true → AreBelow (key row) (filter g rows) → filter g (with_row key row rows) ≡ filter g rows ++ row ∷ []
  behind_group g row rows q all = insert.passing g row rows q ∙ insert.behind row (filter g rows) all

  -- ---- rows whose keys count up

  module _ (g : X → Bool) (nth : ℕ → RowKey) (sub : (n : ℕ) (x : X) → has_key key (nth n) x ≡ true → g x ≡ true) (up : (m n : ℕ) → m < n → is_lt (key_cmp (nth m) (nth n)) ≡ true) where
    abbrev pub AreNumbered : ℕ → List X → Type 0
    AreNumbered n [] = Unit {0}
    AreNumbered n (x ∷ xs) = (key x ≡ nth n) × (g x ≡ true) × AreNumbered (n + 1) xs

    -- the group has nothing from a number on
    abbrev pub IsOpenFrom : ℕ → List X → Type 0
    IsOpenFrom n rows = (m : ℕ) → n ≤ m → AreBelow (nth m) (filter g rows)

    pub next_free : (n : ℕ) (x : X) (rows : List X) → key x ≡ nth n → IsOpenFrom n rows → row_at key (key x) rows ≡ None
    next_free n x rows e open_n = subst (λ k. row_at key k rows ≡ None) (sym e) (is_free g (nth n) rows (sub n) (open_n n (omega arith)))

    next_behind : (n : ℕ) (x : X) (rows : List X) → key x ≡ nth n → g x ≡ true → IsOpenFrom n rows → filter g (with_row key x rows) ≡ filter g rows ++ x ∷ []
    next_behind n x rows e q open_n = behind_group g x rows q (subst (λ k. AreBelow k (filter g rows)) (sym e) (open_n n (omega arith)))

    pub next_open : (n : ℕ) (x : X) (rows : List X) → key x ≡ nth n → g x ≡ true → IsOpenFrom n rows → IsOpenFrom (n + 1) (with_row key x rows)
    next_open n x rows e q open_n m le =
        subst (AreBelow (nth m)) (sym (next_behind n x rows e q open_n))
        (all_joined (λ r. is_below key (nth m) r ≡ true) (filter g rows) (x ∷ []) (open_n m (omega (arith, le))) (ap (λ k. is_lt (key_cmp k (nth m))) e ∙ up n m (omega (arith, le)), tt))

    pub all_behind : (n : ℕ) (news rows : List X) → AreNumbered n news → IsOpenFrom n rows → filter g (with_rows key news rows) ≡ filter g rows ++ news
    all_behind n [] rows h open_n = sym (append-nil (filter g rows))
    all_behind n (x ∷ news) rows h open_n =
        all_behind (n + 1) news (with_row key x rows) h.2 (next_open n x rows h.0 h.1 open_n) ∙ ap (λ l. l ++ news) (next_behind n x rows h.0 h.1 open_n) ∙ append_assoc (filter g rows) (x ∷ []) news
