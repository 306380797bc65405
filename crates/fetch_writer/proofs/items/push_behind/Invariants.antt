use Rattle.std.proofs.Common.{◌≡◌, ◌++◌, take, map}
use Rattle.std.specs.Prelude.{flat_map}
use Rattle.imap_writer.specs.Spaced.{behind_space}
use Rattle.fetch_writer.specs.Told.{item_told}
use Rattle.fetch_writer.specs.Items.{item_text}
use Rattle.fetch_writer.proofs.items.push_behind.Given as goal

abbrev pub invariant-loop-item : goal.invariant-loop-item
invariant-loop-item l = l.out.items ≡ l.fn.out.items ++ flat_map behind_space (map (item_text l.facts l.message) (map item_told (take l.item-index l.items)))
