-- What look-ups find after insertions.
use Rattle.std.proofs.Common.{◌≡◌, ◌⊎◌, ℕ, Bool, true, false, cond, List, [], ◌∷◌, Option, Some, None, refl, sym, ap, ◌∙◌, subst, inl, inr}
use mathlib.Core.Bool.{true≢false}
use Rattle.std.specs.Option.{option_map}
use Rattle.std.specs.List.{filter, find}
use Rattle.ordered_rows.specs.RowKey.{RowKey, same_key, number_key}
use Rattle.ordered_rows.specs.Listed.{IsInOrder, has_key, row_at, with_row}
use Rattle.ordered_rows.specs.InsertLaws.{InsertLaws}
use Rattle.shredder.specs.Making.{IsUnion}

pub some_none : {X : Type 0} (x : X) → Some x ≡ None → ⊥
some_none x e = cc

pub some_same : {X : Type 0} (x y : X) → Some x ≡ Some y → x ≡ y
some_same x y e = cc

-- keys that the test doesn't tell apart are the same
pub record SameKeys : Type 0 where
  pub same : (a b : RowKey) → same_key a b ≡ true → a ≡ b

-- what a test finds passes it
pub find_passes : {X : Type 0} (p : X → Bool) (rows : List X) (x : X) → find p rows ≡ Some x → p x ≡ true
find_passes p [] x e = absurd (some_none x (sym e))
find_passes {X} p (y ∷ rows) x e = by (p y) refl e (λ q. find_passes p rows x q)
  where
    by : (b : Bool) → p y ≡ b → cond b (Some y) (find p rows) ≡ Some x → (find p rows ≡ Some x → p x ≡ true) → p x ≡ true
    by true q h rest = subst (λ z. p z ≡ true) (some_same y x h) q
    by false q h rest = rest h

-- what a test passes by isn't found by another
pub none_passes : {X : Type 0} (p q : X → Bool) (rows : List X) (x : X) → find p rows ≡ None → find q rows ≡ Some x → p x ≡ false
none_passes p q [] x n e = absurd (some_none x (sym e))
none_passes {X} p q (y ∷ rows) x n e = by (p y) (q y) refl n e (λ m h. none_passes p q rows x m h)
  where
    by : (a b : Bool) → p y ≡ a → cond a (Some y) (find p rows) ≡ None → cond b (Some y) (find q rows) ≡ Some x → (find p rows ≡ None → find q rows ≡ Some x → p x ≡ false) → p x ≡ false
    by true b e m h rest = absurd (some_none y m)
    by false true e m h rest = subst (λ z. p z ≡ false) (some_same y x h) e
    by false false e m h rest = rest m h

-- a test that implies another finds the same among those that pass the other
pub find_among : {X : Type 0} (g p : X → Bool) → ((x : X) → g x ≡ true → p x ≡ true) → (xs : List X) → find g (filter p xs) ≡ find g xs
find_among g p sub [] = refl
find_among {X} g p sub (x ∷ xs) = by (g x) (p x) refl refl (find_among g p sub xs)
  where
    by : (a b : Bool) → g x ≡ a → p x ≡ b → find g (filter p xs) ≡ find g xs → find g (cond b (x ∷ filter p xs) (filter p xs)) ≡ cond a (Some x) (find g xs)
    by a true q r rest = ap (λ c. cond c (Some x) (find g (filter p xs))) q ∙ ap (λ o. cond a (Some x) o) rest
    by false false q r rest = rest
    by true false q r rest = absurd (true≢false (sym (sub x q) ∙ r))

pub mapped_some : {X Y : Type 0} (f : X → Y) (o : Option X) (y : Y) → option_map f o ≡ Some y → (x : X) × (o ≡ Some x) × (f x ≡ y)
mapped_some f None y e = absurd (some_none y (sym e))
mapped_some f (Some x) y e = (x, refl, some_same (f x) y e)

pub mapped_none : {X Y : Type 0} (f : X → Y) (o : Option X) → option_map f o ≡ None → o ≡ None
mapped_none f None e = refl
mapped_none f (Some x) e = absurd (some_none (f x) e)

id_key : (a b : ℕ) → number_key a ≡ number_key b → a ≡ b
id_key a b e = ap (λ (k : RowKey). k.number) e

-- ---- contents of rows with ids

module _ {X A : Type 0} (key : X → RowKey) (f : X → A) where
  -- what is read of the row with an id
  abbrev pub Reads : List X → ℕ → A → Type 0
  Reads rows id a = option_map f (row_at key (number_key id) rows) ≡ Some a

  -- it is read of no row
  abbrev pub Lacks : List X → A → Type 0
  Lacks rows a = (id : ℕ) → Reads rows id a → ⊥

  -- no two rows have the same content
  abbrev pub AreApart : List X → Type 0
  AreApart rows = (i j : ℕ) (a : A) → Reads rows i a → Reads rows j a → i ≡ j

  module _ (keys : SameKeys) (laws : InsertLaws key) where
    pub kept : (new : X) (rows : List X) (id : ℕ) (a : A) → row_at key (key new) rows ≡ None → Reads rows id a → Reads (with_row key new rows) id a
    kept new rows id a none h = by (same_key (key new) (number_key id)) refl
      where
        by : (b : Bool) → same_key (key new) (number_key id) ≡ b → Reads (with_row key new rows) id a
        by true q = absurd (some_none a (sym h ∙ ap (option_map f) (subst (λ k. row_at key k rows ≡ None) (keys.same (key new) (number_key id) q) none)))
        by false q = ap (option_map f) (laws.other new (number_key id) rows q) ∙ h

    -- it was read of another row before, or is the new row's
    pub read_now : (new : X) (rows : List X) (id : ℕ) (a : A) → Reads (with_row key new rows) id a → ((key new ≡ number_key id) × (f new ≡ a)) ⊎ Reads rows id a
    read_now new rows id a h = by (same_key (key new) (number_key id)) refl
      where
        by : (b : Bool) → same_key (key new) (number_key id) ≡ b → ((key new ≡ number_key id) × (f new ≡ a)) ⊎ Reads rows id a
        by true q =
            let e = keys.same (key new) (number_key id) q in
            inl (e, some_same (f new) a (sym (ap (option_map f) (laws.same new rows)) ∙ subst (λ k. option_map f (row_at key k (with_row key new rows)) ≡ Some a) (sym e) h))
        by false q = inr (sym (ap (option_map f) (laws.other new (number_key id) rows q)) ∙ h)

    pub still_apart : (new : X) (rows : List X) (id : ℕ) → key new ≡ number_key id → Lacks rows (f new) → AreApart rows → AreApart (with_row key new rows)
    still_apart new rows id named lacks apart i j a hi hj = by (read_now new rows i a hi) (read_now new rows j a hj)
      where
        old : (k : ℕ) → f new ≡ a → Reads rows k a → ⊥
        old k e c = lacks k (subst (λ x. Reads rows k x) (sym e) c)

        by : ((key new ≡ number_key i) × (f new ≡ a)) ⊎ Reads rows i a → ((key new ≡ number_key j) × (f new ≡ a)) ⊎ Reads rows j a → i ≡ j
        by (inl x) (inl y) = id_key i j (sym x.0 ∙ y.0)
        by (inl x) (inr y) = absurd (old j x.1 y)
        by (inr x) (inl y) = absurd (old i y.1 x)
        by (inr x) (inr y) = apart i j a x y

  -- ---- where a test finds contents

  module _ (laws : InsertLaws key) (has : A → X → Bool) (sound : (a : A) (x : X) → has a x ≡ true → f x ≡ a) (complete : (a : A) (x : X) → f x ≡ a → has a x ≡ true) (id_of : X → ℕ) (named : (x : X) → key x ≡ number_key (id_of x)) where
    at_id : (rows : List X) (a : A) (x : X) → IsInOrder key rows → find (has a) rows ≡ Some x → Reads rows (id_of x) a
    at_id rows a x order e = ap (option_map f) (subst (λ k. row_at key k rows ≡ Some x) (named x) (laws.at_key (has a) x rows order e)) ∙ ap Some (sound a x (find_passes (has a) rows x e))

    pub found : (rows : List X) (a : A) (id : ℕ) → IsInOrder key rows → option_map id_of (find (has a) rows) ≡ Some id → Reads rows id a
    found rows a id order e = let it = mapped_some id_of (find (has a) rows) id e in subst (λ i. Reads rows i a) it.2 (at_id rows a it.0 order it.1)

    pub lacking : (rows : List X) (a : A) → option_map id_of (find (has a) rows) ≡ None → Lacks rows a
    lacking rows a e id h =
        let it = mapped_some f (row_at key (number_key id) rows) a h in
        true≢false (sym (complete a it.0 it.2) ∙ none_passes (has a) (has_key key (number_key id)) rows it.0 (mapped_none id_of (find (has a) rows) e) it.1)

    pub finds_none : (rows : List X) (a : A) → IsInOrder key rows → Lacks rows a → find (has a) rows ≡ None
    finds_none rows a order lacks = by (find (has a) rows) refl
      where
        by : (o : Option X) → find (has a) rows ≡ o → o ≡ None
        by None e = refl
        by (Some x) e = absurd (lacks (id_of x) (at_id rows a x order e))

  -- ---- two tables as one

  module _ (rows added all : List X) (union : IsUnion key rows added all) where
    pub reads_first : (id : ℕ) (a : A) → Reads rows id a → Reads all id a
    reads_first id a h = let it = mapped_some f (row_at key (number_key id) rows) a h in ap (option_map f) (union.first id it.0 it.1) ∙ ap Some it.2

    pub reads_second : (id : ℕ) (a : A) → Reads added id a → Reads all id a
    reads_second id a h = let it = mapped_some f (row_at key (number_key id) added) a h in ap (option_map f) (union.second id it.0 it.1) ∙ ap Some it.2

    pub lacks_both : (a : A) → Lacks rows a → Lacks added a → Lacks all a
    lacks_both a l m id h = by (row_at key (number_key id) rows) refl (row_at key (number_key id) added) refl
      where
        by : (o : Option X) → row_at key (number_key id) rows ≡ o → (p : Option X) → row_at key (number_key id) added ≡ p → ⊥
        by (Some x) e p g = l id (ap (option_map f) (e ∙ sym (union.first id x e)) ∙ h)
        by None e (Some x) g = m id (ap (option_map f) (g ∙ sym (union.second id x g)) ∙ h)
        by None e None g = some_none a (sym h ∙ ap (option_map f) (union.neither id e g))

pub union_start : {X : Type 0} (key : X → RowKey) (rows : List X) → IsUnion key rows [] rows
union_start key rows = record { first = λ id r e. e; second = λ id r e. absurd (some_none r (sym e)); neither = λ id e f. e }

-- a table grows by a row, and so do those that are added
pub union_grown : {X : Type 0} (key : X → RowKey) (keys : SameKeys) (laws : InsertLaws key) (new : X) (rows added grown all : List X) → row_at key (key new) rows ≡ None → row_at key (key new) grown ≡ Some new
    → ((k : RowKey) → same_key (key new) k ≡ false → row_at key k grown ≡ row_at key k added) → IsUnion key rows added all → IsUnion key rows grown (with_row key new all)
union_grown {X} key keys laws new rows added grown all none is others u = record { first = first; second = second; neither = neither }
  where
    first : (id : ℕ) (r : X) → row_at key (number_key id) rows ≡ Some r → row_at key (number_key id) (with_row key new all) ≡ Some r
    first id r e = by (same_key (key new) (number_key id)) refl
      where
        by : (b : Bool) → same_key (key new) (number_key id) ≡ b → row_at key (number_key id) (with_row key new all) ≡ Some r
        by true q = absurd (some_none r (sym e ∙ subst (λ k. row_at key k rows ≡ None) (keys.same (key new) (number_key id) q) none))
        by false q = laws.other new (number_key id) all q ∙ u.first id r e

    second : (id : ℕ) (r : X) → row_at key (number_key id) grown ≡ Some r → row_at key (number_key id) (with_row key new all) ≡ Some r
    second id r e = by (same_key (key new) (number_key id)) refl
      where
        by : (b : Bool) → same_key (key new) (number_key id) ≡ b → row_at key (number_key id) (with_row key new all) ≡ Some r
        by true q = let k = keys.same (key new) (number_key id) q in subst (λ k. row_at key k (with_row key new all) ≡ Some r) k (laws.same new all ∙ sym is ∙ subst (λ k. row_at key k grown ≡ Some r) (sym k) e)
        by false q = laws.other new (number_key id) all q ∙ u.second id r (sym (others (number_key id) q) ∙ e)

    neither : (id : ℕ) → row_at key (number_key id) rows ≡ None → row_at key (number_key id) grown ≡ None → row_at key (number_key id) (with_row key new all) ≡ None
    neither id e g = by (same_key (key new) (number_key id)) refl
      where
        by : (b : Bool) → same_key (key new) (number_key id) ≡ b → row_at key (number_key id) (with_row key new all) ≡ None
        by true q = let k = keys.same (key new) (number_key id) q in absurd (some_none new (sym is ∙ subst (λ k. row_at key k grown ≡ None) (sym k) g))
        by false q = laws.other new (number_key id) all q ∙ u.neither id e (sym (others (number_key id) q) ∙ g)

pub union_more : {X : Type 0} (key : X → RowKey) (keys : SameKeys) (laws : InsertLaws key) (new : X) (rows added all : List X) → row_at key (key new) rows ≡ None → IsUnion key rows added all
    → IsUnion key rows (with_row key new added) (with_row key new all)
union_more key keys laws new rows added all none u = union_grown key keys laws new rows added (with_row key new added) all none (laws.same new added) (λ k q. laws.other new k added q) u
