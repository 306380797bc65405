use Rattle.std.proofs.Common.{◌≡◌, ◌++◌, length}
use Rattle.std.specs.Prelude.{flat_map}
use Rattle.admin_texts.proofs.lines.print_rows.Given as goal

abbrev pub invariant-rows : goal.invariant-rows
invariant-rows g l = l.out.items ++ flat_map g.R.Lined.line_of l.rows ≡ l.fn.out.items ++ flat_map g.R.Lined.line_of l.fn.rows

abbrev pub decreases-rows : goal.decreases-rows
decreases-rows g l = length l.rows
