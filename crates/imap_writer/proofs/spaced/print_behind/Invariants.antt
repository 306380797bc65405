use Rattle.std.proofs.Common.{◌≡◌, ◌++◌, take, map}
use Rattle.std.specs.Prelude.{flat_map}
use Rattle.imap_writer.specs.Spaced.{behind_space}
use Rattle.imap_writer.proofs.spaced.print_behind.Given as goal

abbrev pub invariant-loop-one : goal.invariant-loop-one
invariant-loop-one g l = l.out.items ≡ l.fn.out.items ++ flat_map behind_space (map g.T.Shown.text_of (take l.one-index l.all))
