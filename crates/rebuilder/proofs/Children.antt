-- Parts that are read one after another.
use Rattle.std.proofs.Common.{◌≡◌, ℕ, ◌+◌, ◌≤◌, List, [], ◌∷◌, ◌++◌, Some, None, refl, sym, ap, ◌∙◌, subst, arith}
use Rattle.mime_tree.specs.Contents.{trees_of}
use Rattle.mime_tree.specs.Sizes.{levels, levels_of}
use Rattle.mime_tree.specs.Trees.{Tree, Trees}
use Rattle.mime_tree.specs.Trees.Tree.{node}
use Rattle.mime_tree.specs.Trees.Trees.{none, more}
use Rattle.row_tables.specs.TableRows.{TableRows}
use Rattle.row_tables.specs.declared.mails.PartNumber.{PartNumber}
use Rattle.row_store.specs.Holding.{stored_by, in_row}
use Rattle.shredder.specs.Paths.{child_path}
use Rattle.shredder.specs.MessageRows.{HasNode, HasChildren, part_at}
use Rattle.rebuilder.specs.Parts.{IsPart}
use Rattle.rebuilder.proofs.OneValue.{some_same}
use Rattle.rebuilder.proofs.OneMail.{kind_in, stands, nowhere}

-- parts before others
abbrev pub before : List Tree → Trees → Trees
before [] trees = trees
before (t ∷ done) trees = more t (before done trees)

before_none : (done : List Tree) → before done none ≡ trees_of done
before_none [] = refl
before_none (t ∷ done) = ap (more t) (before_none done)

before_push : (done : List Tree) (t : Tree) (trees : Trees) → before (done ++ t ∷ []) trees ≡ before done (more t trees)
before_push [] t trees = refl
before_push (d ∷ done) t trees = ap (more d) (before_push done t trees)

-- It holds of what the row is of, if that has no more levels than are read.
abbrev pub IfAt : TableRows → ℕ → PartNumber → (Tree → Type 0) → Type 0
IfAt t most r P = (tree : Tree) → IsPart t r → HasNode (stored_by in_row t) r.message r.path tree → levels tree ≤ most → P tree

pub at_row : (t : TableRows) (message : ℕ) (most : ℕ) (P : Tree → Type 0) (path : List ℕ) (tree : Tree) (r : PartNumber) → IfAt t most r P → part_at t message path ≡ Some r → HasNode (stored_by in_row t) message path tree → levels tree ≤ most → P tree
at_row t message most P path (node fields content) r holds e h few =
    let at = stands (stored_by in_row t) message path content h.1 in
    let row : record { message = message; path = path; kind = kind_in content; body = at.body } ≡ r = some_same (sym at.part ∙ e) in
    let message_is : message ≡ r.message = ap (λ (p : PartNumber). p.message) row in
    let path_is : path ≡ r.path = ap (λ (p : PartNumber). p.path) row in
    holds (node fields content)
    (subst (λ (p : List ℕ). part_at t r.message p ≡ Some r) path_is (subst (λ (m : ℕ). part_at t m path ≡ Some r) message_is e))
    (subst (λ (p : List ℕ). HasNode (stored_by in_row t) r.message p (node fields content)) path_is (subst (λ (m : ℕ). HasNode (stored_by in_row t) m path (node fields content)) message_is h)) few

module _ (t : TableRows) (message : ℕ) (path : List ℕ) (most : ℕ) (trees : Trees) where
  -- the first of the parts were read, and those from n on are the rest
  pub record AreHalfway (done : List Tree) (n : ℕ) : Type 0 where
    pub rest : Trees
    pub whole : trees ≡ before done rest
    pub to_come : HasChildren (stored_by in_row t) message path n rest
    pub few_levels : levels_of rest ≤ most

  pub gone_on : (done : List Tree) (n : ℕ) (r : PartNumber) (read : Tree) → IfAt t most r (λ tree. read ≡ tree) → part_at t message (child_path path n) ≡ Some r → AreHalfway done n → AreHalfway (done ++ read ∷ []) (n + 1)
  gone_on done n r read same e h = by h.rest h.whole h.to_come h.few_levels
    where
      by : (rest : Trees) → trees ≡ before done rest → HasChildren (stored_by in_row t) message path n rest → levels_of rest ≤ most → AreHalfway (done ++ read ∷ []) (n + 1)
      by none whole k few = cc
      by (more tree others) whole k few =
          let is : read ≡ tree = at_row t message most (λ x. read ≡ x) (child_path path n) tree r same e k.0 (omega (arith, few)) in
          record {
            rest = others;
            whole = whole ∙ ap (λ (x : Tree). before done (more x others)) (sym is) ∙ sym (before_push done read others);
            to_come = k.1;
            few_levels = omega (arith, few);
          }

  pub ended : (done : List Tree) (n : ℕ) → part_at t message (child_path path n) ≡ None → AreHalfway done n → trees_of done ≡ trees
  ended done n e h = by h.rest h.whole h.to_come
    where
      by : (rest : Trees) → trees ≡ before done rest → HasChildren (stored_by in_row t) message path n rest → trees_of done ≡ trees
      by none whole k = sym (whole ∙ before_none done)
      by (more tree others) whole k = absurd (nowhere (stored_by in_row t) message (child_path path n) tree k.0 e)
