use Rattle.std.proofs.Common.{◌≡◌, ◌++◌, take, map}
use Rattle.std.specs.Prelude.{flat_map}
use Rattle.imap_writer.specs.Spaced.{behind_space}
use Rattle.fetch_writer.specs.Names.{field_name}
use Rattle.fetch_writer.proofs.names.push_names_behind.Given as goal

abbrev pub invariant-loop-name : goal.invariant-loop-name
invariant-loop-name l = l.out.items ≡ l.fn.out.items ++ flat_map behind_space (map field_name (take l.name-index l.names))
