-- A part is smaller than the parts.
use Rattle.std.proofs.Common.{◌≡◌, ℕ, zero, suc, ◌<◌, ◌≤◌, List, [], ◌∷◌, length, get_or, ap, arith}
use Rattle.mime_tree.specs.Trees.{Tree}
use Rattle.mime_tree.specs.Contents.{trees_of}
use Rattle.mime_tree.specs.Sizes.{nodes, nodes_of}

part_nodes : (ts : List Tree) (at : ℕ) (d : Tree) → at < length ts → nodes (get_or ts at d) ≤ nodes_of (trees_of ts)
part_nodes [] at d h = absurd (omega arith)
part_nodes (t ∷ ts) zero d h = omega arith
part_nodes (t ∷ ts) (suc at) d h = omega (arith, part_nodes ts at d (omega arith))

pub part_smaller : (ts : List Tree) (at : ℕ) (t : Tree) → at < length ts → t ≡ get_or ts at t → nodes t ≤ nodes_of (trees_of ts)
part_smaller ts at t h is = let e = ap nodes is in omega (arith, e, part_nodes ts at t h)
