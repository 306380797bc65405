-- Parts of a message have different paths.
use Rattle.std.proofs.Common.{◌≡◌, ◌≢◌, ◌⊎◌, ℕ, ◌+◌, ◌%◌, ◌^◌, ◌<◌, ◌≤◌, Bool, true, false, ◌||◌, ◌==◌, List, [], ◌∷◌, ◌++◌, length, length-append, decimal, refl, sym, ap, ◌∙◌, subst, inl, inr, arith}
use mathlib.Core.Bool.{true≢false}
use borrow.Author.Tests.{eqb-true}
use Rattle.std.proofs.lemmas.List.{append-nil, append_assoc, append_cancel_left}
use Rattle.std.proofs.lemmas.List.Folds.{list_any-append}
use Rattle.std.proofs.lemmas.Fmt.{decimal_by_steps, decimal_nonempty, decimal_injective}
use Rattle.std.specs.List.{list_any}
use Rattle.std.specs.Cmp.Lexicographic.{bytes_decides}
use Rattle.mime_tree.specs.Trees.{Tree, Content, Trees}
use Rattle.mime_tree.specs.Trees.Tree.{node}
use Rattle.mime_tree.specs.Trees.Content.{leaf, multi, nested}
use Rattle.mime_tree.specs.Trees.Trees.{none, more}
use Rattle.shredder.specs.Making.{IsEnd, IsUnder, Among}
use Rattle.shredder.specs.Fitting.{count}
use Rattle.shredder.specs.Paths.{child_path, paths, inner_paths, child_paths, is_path, is_among}

-- ---- numbers have no dots

abbrev HasNoDot : List ℕ → Type 0
HasNoDot text = list_any (λ c. c == 46) text ≡ false

not_dot : (c : ℕ) → c ≢ 46 → (c == 46) ≡ false
not_dot c n = by (c == 46) refl
  where
    by : (b : Bool) → (c == 46) ≡ b → b ≡ false
    by true e = absurd (n (eqb-true c 46 e))
    by false e = refl

digit_no_dot : (d : ℕ) → HasNoDot ((48 + d) ∷ [])
digit_no_dot d = rw (not_dot (48 + d) (λ e. absurd (omega arith))) refl

joined_no_dot : (xs ys : List ℕ) → HasNoDot xs → HasNoDot ys → HasNoDot (xs ++ ys)
joined_no_dot xs ys h k = list_any-append (λ c. c == 46) xs ys ∙ ap (λ b. b || list_any (λ c. c == 46) ys) h ∙ k

decimal_no_dot : (n : ℕ) → n < 2 ^ 64 → HasNoDot (decimal n)
decimal_no_dot n lt = decimal_by_steps (λ n ds. HasNoDot ds) (λ n h. digit_no_dot n) (λ n ds le h. joined_no_dot ds ((48 + n % 10) ∷ []) h (digit_no_dot (n % 10))) n lt

-- ---- texts up to their first dot

head_no_dot : (c : ℕ) (cs : List ℕ) → HasNoDot (c ∷ cs) → c ≡ 46 → ⊥
head_no_dot c cs h e = true≢false (sym (ap (λ (b : ℕ). (b == 46) || list_any (λ x. x == 46) cs) e) ∙ h)

tail_no_dot : (c : ℕ) (cs : List ℕ) → HasNoDot (c ∷ cs) → HasNoDot cs
tail_no_dot c cs h = by (c == 46) h
  where
    by : (b : Bool) → (b || list_any (λ x. x == 46) cs) ≡ false → HasNoDot cs
    by true k = absurd (true≢false k)
    by false k = k

same_first : (xs ys r s : List ℕ) → HasNoDot xs → HasNoDot ys → IsEnd r → IsEnd s → xs ++ r ≡ ys ++ s → xs ≡ ys
same_first [] [] r s h k e f q = refl
same_first [] (y ∷ ys) [] s h k e f q = absurd (cc)
same_first [] (y ∷ ys) (c ∷ r) s h k e f q = let first : c ≡ y = cc in absurd (head_no_dot y ys k (sym first ∙ e))
same_first (x ∷ xs) [] r [] h k e f q = absurd (cc)
same_first (x ∷ xs) [] r (c ∷ s) h k e f q = let first : x ≡ c = cc in absurd (head_no_dot x xs h (first ∙ f))
same_first (x ∷ xs) (y ∷ ys) r s h k e f q =
    let first : x ≡ y = cc in
    let rest : xs ++ r ≡ ys ++ s = cc in
    let same : xs ≡ ys = same_first xs ys r s (tail_no_dot x xs h) (tail_no_dot y ys k) e f rest in
    cc

-- ---- what stands under a path

pub under_self : (path : List ℕ) → IsUnder path path
under_self path = ([], sym (append-nil path), inr tt)

pub under_top : (path : List ℕ) → IsUnder [] path
under_top path = (path, refl, inl refl)

-- what stands before the number of a part
abbrev stem : List ℕ → List ℕ
stem [] = []
stem (c ∷ path) = c ∷ path ++ 46 ∷ []

child_is : (path : List ℕ) (n : ℕ) → child_path path n ≡ stem path ++ decimal n
child_is [] n = refl
child_is (c ∷ path) n = sym (append_assoc (c ∷ path) (46 ∷ []) (decimal n))

pub under_child : (path : List ℕ) (n : ℕ) (other : List ℕ) → IsUnder (child_path path n) other → IsUnder path other
under_child [] n other u = under_top other
under_child (c ∷ path) n other u = (46 ∷ decimal n ++ u.0, u.1 ∙ append_assoc (c ∷ path) (46 ∷ decimal n) u.0, inr refl)

child_nonempty : (path : List ℕ) (n : ℕ) → n < 2 ^ 64 → child_path path n ≡ [] → ⊥
child_nonempty path n lt e = absurd (omega (arith, ap length (sym (child_is path n) ∙ e), length-append (stem path) (decimal n), decimal_nonempty n lt))

-- a part isn't under one of its own parts
pub parent_apart : (path : List ℕ) (n : ℕ) → n < 2 ^ 64 → IsUnder (child_path path n) path → ⊥
parent_apart path n lt u =
    absurd (omega (arith, ap length u.1, length-append (child_path path n) u.0, ap length (child_is path n), length-append (stem path) (decimal n), decimal_nonempty n lt, stem_longer path))
  where
    stem_longer : (p : List ℕ) → length p ≤ length (stem p)
    stem_longer [] = omega arith
    stem_longer (c ∷ p) = omega (arith, length-append (c ∷ p) (46 ∷ []))

ends : (path : List ℕ) (n : ℕ) (rest : List ℕ) → n < 2 ^ 64 → (child_path path n ≡ []) ⊎ IsEnd rest → IsEnd rest
ends path n rest lt (inl e) = absurd (child_nonempty path n lt e)
ends path n rest lt (inr e) = e

-- nothing is under two parts of one part
pub children_apart : (path : List ℕ) (m n : ℕ) (other : List ℕ) → m < 2 ^ 64 → n < 2 ^ 64 → m ≢ n → IsUnder (child_path path m) other → IsUnder (child_path path n) other → ⊥
children_apart path m n other lm ln differs u v =
    let from : stem path ++ (decimal m ++ u.0) ≡ stem path ++ (decimal n ++ v.0) =
    sym (append_assoc (stem path) (decimal m) u.0) ∙ ap (λ l. l ++ u.0) (sym (child_is path m)) ∙ sym u.1 ∙ v.1 ∙ ap (λ l. l ++ v.0) (child_is path n) ∙ append_assoc (stem path) (decimal n) v.0 in
    let same = same_first (decimal m) (decimal n) u.0 v.0 (decimal_no_dot m lm) (decimal_no_dot n ln) (ends path m u.0 lm u.2) (ends path n v.0 ln v.2) (append_cancel_left (stem path) (decimal m ++ u.0) (decimal n ++ v.0) from) in
    differs (decimal_injective m n lm ln same)

-- ---- the paths of a tree

pub among_one : (path other : List ℕ) → is_among (path ∷ []) other ≡ true → other ≡ path
among_one path other h = by (is_path other path) refl h
  where
    by : (b : Bool) → is_path other path ≡ b → (b || false) ≡ true → other ≡ path
    by true q k = (bytes_decides other path).0 q
    by false q k = absurd (true≢false (sym k))

pub among_parts : (ps qs : List (List ℕ)) (path : List ℕ) → is_among (ps ++ qs) path ≡ true → (is_among ps path ≡ true) ⊎ (is_among qs path ≡ true)
among_parts ps qs path h = by (is_among ps path) refl (sym (list_any-append (is_path path) ps qs) ∙ h)
  where
    by : (b : Bool) → is_among ps path ≡ b → (b || is_among qs path) ≡ true → (is_among ps path ≡ true) ⊎ (is_among qs path ≡ true)
    by true q k = inl q
    by false q k = inr k

pub among_first : (ps qs : List (List ℕ)) (path : List ℕ) → is_among ps path ≡ true → is_among (ps ++ qs) path ≡ true
among_first ps qs path h = list_any-append (is_path path) ps qs ∙ ap (λ b. b || is_among qs path) h

pub among_second : (ps qs : List (List ℕ)) (path : List ℕ) → is_among qs path ≡ true → is_among (ps ++ qs) path ≡ true
among_second ps qs path h = list_any-append (is_path path) ps qs ∙ by (is_among ps path) h
  where
    by : (b : Bool) → is_among qs path ≡ true → (b || is_among qs path) ≡ true
    by true k = refl
    by false k = k

pub among_self : (path : List ℕ) (ps : List (List ℕ)) → is_among (path ∷ ps) path ≡ true
among_self path ps = ap (λ b. b || is_among ps path) ((bytes_decides path path).1 refl)

mutual
  pub paths_under : (path : List ℕ) (tree : Tree) (other : List ℕ) → is_among (paths path tree) other ≡ true → IsUnder path other
  paths_under path (node fields content) other h = by (among_parts (path ∷ []) (inner_paths path content) other h) (λ k. inner_under path content other k)
    where
      by : (is_among (path ∷ []) other ≡ true) ⊎ (is_among (inner_paths path content) other ≡ true) → (is_among (inner_paths path content) other ≡ true → IsUnder path other) → IsUnder path other
      by (inl k) rest = subst (IsUnder path) (sym (among_one path other k)) (under_self path)
      by (inr k) rest = rest k

  inner_under : (path : List ℕ) (content : Content) (other : List ℕ) → is_among (inner_paths path content) other ≡ true → IsUnder path other
  inner_under path (leaf encoding bytes) other h = absurd (true≢false (sym h))
  inner_under path (multi trees) other h = children_under path 1 trees other h
  inner_under path (nested tree) other h = under_child path 0 other (paths_under (child_path path 0) tree other h)

  children_under : (path : List ℕ) (n : ℕ) (trees : Trees) (other : List ℕ) → is_among (child_paths path n trees) other ≡ true → IsUnder path other
  children_under path n none other h = absurd (true≢false (sym h))
  children_under path n (more tree trees) other h =
      by (among_parts (paths (child_path path n) tree) (child_paths path (n + 1) trees) other h) (λ k. under_child path n other (paths_under (child_path path n) tree other k)) (λ k. children_under path (n + 1) trees other k)
    where
      by : (is_among (paths (child_path path n) tree) other ≡ true) ⊎ (is_among (child_paths path (n + 1) trees) other ≡ true) → (is_among (paths (child_path path n) tree) other ≡ true → IsUnder path other) → (is_among (child_paths path (n + 1) trees) other ≡ true → IsUnder path other)
          → IsUnder path other
      by (inl k) one rest = one k
      by (inr k) one rest = rest k

-- each of the paths below a part is under one of its parts
pub under_one : (path : List ℕ) (n : ℕ) (trees : Trees) (other : List ℕ) → Among (child_paths path n trees) other → (m : ℕ) × (n ≤ m) × (m + 1 ≤ n + count trees) × IsUnder (child_path path m) other
under_one path n none other h = absurd (true≢false (sym h))
under_one path n (more tree trees) other h = by (among_parts (paths (child_path path n) tree) (child_paths path (n + 1) trees) other h) (λ k. under_one path (n + 1) trees other k)
  where
    by : (is_among (paths (child_path path n) tree) other ≡ true) ⊎ (is_among (child_paths path (n + 1) trees) other ≡ true) → (Among (child_paths path (n + 1) trees) other → (m : ℕ) × (n + 1 ≤ m) × (m + 1 ≤ n + 1 + count trees) × IsUnder (child_path path m) other)
        → (m : ℕ) × (n ≤ m) × (m + 1 ≤ n + (count trees + 1)) × IsUnder (child_path path m) other
    by (inl k) rest = (n, omega arith, omega arith, paths_under (child_path path n) tree other k)
    by (inr k) rest = let it = rest k in (it.0, omega (arith, it.1), omega (arith, it.2), it.3)
