use Rattle.std.proofs.Common.{◌≡◌, ◌++◌, take}
use Rattle.std.specs.Prelude.{flat_map}
use Rattle.fetch_writer.specs.Names.{number_behind}
use Rattle.fetch_writer.proofs.names.push_numbers_behind.Given as goal

abbrev pub invariant-loop-n : goal.invariant-loop-n
invariant-loop-n l = l.out.items ≡ l.fn.out.items ++ flat_map number_behind (take l.n-index l.numbers)
