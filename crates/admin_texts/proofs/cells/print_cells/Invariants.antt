use Rattle.std.proofs.Common.{◌≡◌, ◌++◌, take, map}
use Rattle.std.specs.Prelude.{flat_map}
use Rattle.admin_texts.specs.Columns.{spaced}
use Rattle.admin_texts.specs.Cells.{column_of}
use Rattle.admin_texts.proofs.cells.print_cells.Given as goal

abbrev pub invariant-loop-cell : goal.invariant-loop-cell
invariant-loop-cell l = l.out.items ≡ l.fn.out.items ++ flat_map spaced (map column_of (take l.cell-index l.cells))
