-- What a row of fronts says of the rest of a pattern.
use Rattle.std.proofs.Common.{◌≡◌, ℕ, zero, suc, ◌+◌, ◌<◌, ◌≤◌, ◌==◌, ◌&&◌, ◌||◌, Bool, true, false, List, [], ◌∷◌, ◌++◌, length, get_or, replicate, take, drop, drop-cons, add-one, subst, refl, sym, ap, ◌∙◌, arith}
use Rattle.mailbox_names.specs.Patterns.{is_wildcard, takes, matches}
use Rattle.std.specs.List.{list_any}
use Rattle.std.proofs.lemmas.Bool.{true≢false}
use Rattle.std.proofs.lemmas.List.{take-append-drop, drop_all, length-take-le, length-replicate}
use Rattle.mailbox_names.specs.Fronts.{AreFronts}
use Rattle.mailbox_names.specs.Rows.{carried, stepped}

-- whether a pattern matches what is behind one of the fronts of a row
abbrev pub reached : List ℕ → List Bool → List ℕ → Bool
reached pattern [] name = false
reached pattern (was ∷ row) [] = was && matches pattern []
reached pattern (was ∷ row) (b ∷ name) = (was && matches pattern (b ∷ name)) || reached pattern row name

-- ---- the first row and the last

none_reached : (n : ℕ) (pattern name : List ℕ) → reached pattern (replicate n false) name ≡ false
none_reached zero pattern name = refl
none_reached (suc n) pattern [] = refl
none_reached (suc n) pattern (b ∷ name) = none_reached n pattern name

or_none : (b : Bool) → (b || false) ≡ b
or_none true = refl
or_none false = refl

pub first_reached : (n : ℕ) (pattern name : List ℕ) → reached pattern (true ∷ replicate n false) name ≡ matches pattern name
first_reached n pattern [] = refl
first_reached n pattern (b ∷ name) = ap (λ x. matches pattern (b ∷ name) || x) (none_reached n pattern name) ∙ or_none (matches pattern (b ∷ name))

and_true : (b : Bool) → (b && true) ≡ b
and_true true = refl
and_true false = refl

and_false : (b c : Bool) → ((b && false) || c) ≡ c
and_false true c = refl
and_false false c = refl

pub last_reached : (row : List Bool) (name : List ℕ) → reached [] row name ≡ get_or row (length name) false
unfolding matches
last_reached [] name = refl
last_reached (was ∷ row) [] = and_true was
last_reached (was ∷ row) (b ∷ name) = and_false was (reached [] row name) ∙ last_reached row name

-- ---- one byte more

-- of a wildcard, which goes on from where it was entered
module _ (p : ℕ) (wild : is_wildcard p ≡ true) where
  ended : (carry was m : Bool) → ((carry || was) && m) ≡ ((carry && m) || (was && m))
  ended true true true = refl
  ended true true false = refl
  ended true false true = refl
  ended true false false = refl
  ended false was m = refl

  went : (h M t mp R : Bool) → ((h && M) || (((h && t) && mp) || R)) ≡ ((h && (M || (t && mp))) || R)
  went false M t mp R = refl
  went true true t mp R = refl
  went true false t mp R = refl

  split : (carry was X R : Bool) → (((carry || was) && X) || R) ≡ ((carry && X) || ((was && X) || R))
  split true true true R = refl
  split true true false R = refl
  split true false true R = refl
  split true false false R = refl
  split false was X R = refl

  pub wild_stepped : (pattern front rest : List ℕ) (carry : Bool) (row : List Bool) → length front < length row
      → reached pattern (stepped p carry row (front ++ rest)) front ≡ ((carry && matches (p ∷ pattern) front) || reached (p ∷ pattern) row front)
  unfolding matches
  wild_stepped pattern front rest carry [] few = absurd (omega arith)
  wild_stepped pattern [] [] carry (was ∷ row) few = rw wild (ended carry was (matches pattern []))
  wild_stepped pattern [] (r ∷ rest) carry (was ∷ row) few = rw wild (ended carry was (matches pattern []))
  wild_stepped pattern (b ∷ front) rest carry (was ∷ row) few =
      let few' : length front < length row = omega arith in
      rw wild (ap (λ x. ((carry || was) && matches pattern (b ∷ front)) || x) (wild_stepped pattern front rest ((carry || was) && takes p b) row few')
      ∙ (went (carry || was) (matches pattern (b ∷ front)) (takes p b) (matches (p ∷ pattern) front) (reached (p ∷ pattern) row front)
      ∙ split carry was (matches pattern (b ∷ front) || (takes p b && matches (p ∷ pattern) front)) (reached (p ∷ pattern) row front)))

-- of any other byte, which was the byte before
module _ (p : ℕ) (plain : is_wildcard p ≡ false) where
  fell : (carry was m : Bool) → ((carry || false) && m) ≡ ((carry && m) || (was && false))
  fell true true true = refl
  fell true true false = refl
  fell true false true = refl
  fell true false false = refl
  fell false true m = refl
  fell false false m = refl

  passed : (c w e M m R : Bool) → (((c || false) && M) || (((w && e) && m) || R)) ≡ ((c && M) || ((w && (e && m)) || R))
  passed true true true M m R = refl
  passed true true false M m R = refl
  passed true false e M m R = refl
  passed false true true M m R = refl
  passed false true false M m R = refl
  passed false false e M m R = refl

  pub plain_stepped : (pattern front rest : List ℕ) (carry : Bool) (row : List Bool) → length front < length row
      → reached pattern (stepped p carry row (front ++ rest)) front ≡ ((carry && matches pattern front) || reached (p ∷ pattern) row front)
  unfolding matches
  plain_stepped pattern front rest carry [] few = absurd (omega arith)
  plain_stepped pattern [] [] carry (was ∷ row) few = rw plain (fell carry was (matches pattern []))
  plain_stepped pattern [] (r ∷ rest) carry (was ∷ row) few = rw plain (fell carry was (matches pattern []))
  plain_stepped pattern (b ∷ front) rest carry (was ∷ row) few =
      let few' : length front < length row = omega arith in
      rw plain (ap (λ x. ((carry || false) && matches pattern (b ∷ front)) || x) (plain_stepped pattern front rest (was && (b == p)) row few')
      ∙ passed carry was (b == p) (matches pattern (b ∷ front)) (matches pattern front) (reached (p ∷ pattern) row front))

pub stepped_reached : (p : ℕ) (pattern front rest : List ℕ) (row : List Bool) → length front < length row
    → reached pattern (stepped p false row (front ++ rest)) front ≡ reached (p ∷ pattern) row front
stepped_reached p pattern front rest row few = by (is_wildcard p) refl
  where
    by : (b : Bool) → is_wildcard p ≡ b → reached pattern (stepped p false row (front ++ rest)) front ≡ reached (p ∷ pattern) row front
    by true e = wild_stepped p e pattern front rest false row few
    by false e = plain_stepped p e pattern front rest false row few

pub stepped_length : (p : ℕ) (carry : Bool) (row : List Bool) (name : List ℕ) → length row ≡ length name + 1 → length (stepped p carry row name) ≡ length row
stepped_length p carry [] name count = refl
stepped_length p carry (was ∷ []) [] count = refl
stepped_length p carry (was ∷ next ∷ row) [] count = absurd (omega arith)
stepped_length p carry (was ∷ row) (b ∷ name) count =
    let count' : length row ≡ length name + 1 = omega arith in
    ap (λ n. suc n) (stepped_length p (carried p carry was b) row name count')

-- What a row says once it has gone over some bytes of a pattern, where the rest of the pattern is given: for each front of the name, whether the whole matches it.
pub record Says (whole rest name : List ℕ) (row : List Bool) : Type 0 where
  pub count : length row ≡ length name + 1
  pub each : (i : ℕ) → i ≤ length name → reached rest row (take i name) ≡ matches whole (take i name)

pub says_first : (pattern name : List ℕ) → Says pattern pattern name (true ∷ replicate (length name) false)
says_first pattern name = record {
  count = rw length-replicate (omega arith);
  each = λ i few. first_reached (length name) pattern (take i name);
}

says_next : (whole : List ℕ) (p : ℕ) (rest name : List ℕ) (row : List Bool) → Says whole (p ∷ rest) name row → Says whole rest name (stepped p false row name)
says_next whole p rest name row says = record {
  count = stepped_length p false row name says.count ∙ says.count;
  each = λ i few.
      let short : length (take i name) < length row = let is = length-take-le i name few in let count = says.count in omega arith in
      ap (λ l. reached rest (stepped p false row l) (take i name)) (sym (take-append-drop i name))
      ∙ (stepped_reached p rest (take i name) (drop i name) row short ∙ says.each i few);
}

pub says_at : (whole name : List ℕ) (i : ℕ) (row next : List Bool) → i < length whole → next ≡ stepped (get_or whole i 0) false row name
    → Says whole (drop i whole) name row → Says whole (drop (i + 1) whole) name next
says_at whole name i row next more is says =
    subst (λ l. Says whole (drop (i + 1) whole) name l) (sym is)
    (rw add-one (says_next whole (get_or whole i 0) (drop (suc i) whole) name row (subst (λ l. Says whole l name row) (drop-cons whole i 0 more) says)))

says_last : (pattern name : List ℕ) (row : List Bool) → Says pattern [] name row → AreFronts pattern name row
says_last pattern name row says = record {
  count = says.count;
  each = λ i few. ap (λ n. get_or row n false) (sym (length-take-le i name few)) ∙ (sym (last_reached row (take i name)) ∙ says.each i few);
}

pub says_all : (pattern name : List ℕ) (i : ℕ) (row : List Bool) → length pattern ≤ i → Says pattern (drop i pattern) name row → AreFronts pattern name row
says_all pattern name i row all says = says_last pattern name row (subst (λ l. Says pattern l name row) (drop_all i pattern all) says)

-- ---- a row in which nothing is matched any more

none_live : (rest : List ℕ) (row : List Bool) (name : List ℕ) → list_any (λ was. was) row ≡ false → reached rest row name ≡ false
none_live rest [] name none = refl
none_live rest (false ∷ row) [] none = refl
none_live rest (false ∷ row) (b ∷ name) none = none_live rest row name none
none_live rest (true ∷ row) name none = absurd (true≢false none)

none_at : (row : List Bool) (i : ℕ) → list_any (λ was. was) row ≡ false → get_or row i false ≡ false
none_at [] i none = refl
none_at (false ∷ row) zero none = refl
none_at (false ∷ row) (suc i) none = none_at row i none
none_at (true ∷ row) i none = absurd (true≢false none)

pub says_dead : (pattern rest name : List ℕ) (row : List Bool) → list_any (λ was. was) row ≡ false → Says pattern rest name row → AreFronts pattern name row
says_dead pattern rest name row none says = record {
  count = says.count;
  each = λ i few. none_at row i none ∙ (sym (none_live rest row (take i name) none) ∙ says.each i few);
}
