-- Parts by their places.
use Rattle.std.proofs.Common.{◌≡◌, ℕ, zero, suc, ◌+◌, ◌<◌, ◌≤◌, Some, None, List, [], ◌∷◌, length, get_or, drop, refl, ap, sym, ◌∙◌, arith}
use Rattle.std.proofs.lemmas.List.{drop_more}
use Rattle.mime_tree.specs.Trees.{Tree}
use Rattle.mime_tree.specs.Contents.{trees_of}
use Rattle.mime_tree.specs.Sizes.{nodes, nodes_of}
use Rattle.envelope_view.specs.Parts.{numbered, part_of_part, part_behind}

part_nodes : (ts : List Tree) (at : ℕ) (d : Tree) → at < length ts → nodes (get_or ts at d) ≤ nodes_of (trees_of ts)
part_nodes [] at d h = absurd (omega arith)
part_nodes (t ∷ ts) zero d h = omega arith
part_nodes (t ∷ ts) (suc at) d h = omega (arith, part_nodes ts at d (omega arith))

-- A part is smaller than the parts.
pub part_smaller : (ts : List Tree) (at : ℕ) (t : Tree) → at < length ts → t ≡ get_or ts at t → nodes t ≤ nodes_of (trees_of ts)
part_smaller ts at t h is = let e = ap nodes is in omega (arith, e, part_nodes ts at t h)

-- The part with a number that there is.
found_at : (ts : List Tree) (at : ℕ) (d : Tree) → at < length ts → numbered (suc at) (trees_of ts) ≡ Some (get_or ts at d)
found_at [] at d h = absurd (omega arith)
found_at (t ∷ ts) zero d h = refl
found_at (t ∷ ts) (suc at) d h = found_at ts at d (omega arith)

pub numbered_found : (ts : List Tree) (n at : ℕ) (t : Tree) → n ≡ suc at → at < length ts → t ≡ get_or ts at t → Some t ≡ numbered n (trees_of ts)
numbered_found ts n at t e h is = ap Some is ∙ sym (found_at ts at t h) ∙ ap (λ k. numbered k (trees_of ts)) (sym e)

-- None has the number 0, or one past the last.
pub numbered_zero : (ts : List Tree) (n : ℕ) → n ≡ 0 → None ≡ numbered n (trees_of ts)
numbered_zero [] n e = refl
numbered_zero (t ∷ ts) n e = ap (λ k. numbered k (trees_of (t ∷ ts))) (sym e)

past : (ts : List Tree) (at : ℕ) → length ts ≤ at → numbered (suc at) (trees_of ts) ≡ None
past [] at h = refl
past (t ∷ ts) zero h = absurd (omega arith)
past (t ∷ ts) (suc at) h = past ts at (omega arith)

pub numbered_past : (ts : List Tree) (n at : ℕ) → n ≡ suc at → length ts ≤ at → None ≡ numbered n (trees_of ts)
numbered_past ts n at e h = sym (past ts at h) ∙ ap (λ k. numbered k (trees_of ts)) (sym e)

-- Behind a part that isn't there, there is none.
pub none_behind : (ns : List ℕ) → part_behind ns None ≡ None
none_behind [] = refl
none_behind (n ∷ ns) = none_behind ns

-- One number further.
pub next_part : (ns : List ℕ) (at : ℕ) (part : Tree) → at < length ns → part_behind (drop at ns) (Some part) ≡ part_behind (drop (at + 1) ns) (part_of_part (get_or ns at 0) part)
next_part ns at part h = ap (λ ms. part_behind ms (Some part)) (drop_more ns at 0 h)
