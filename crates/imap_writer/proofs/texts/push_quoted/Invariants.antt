use Rattle.std.proofs.Common.{◌≡◌, ◌++◌, take}
use Rattle.std.specs.Prelude.{flat_map, codes}
use Rattle.imap_writer.specs.Texts.{escaped}
use Rattle.imap_writer.proofs.texts.push_quoted.Given as goal

abbrev pub invariant-loop-b : goal.invariant-loop-b
invariant-loop-b l = l.out.items ≡ l.fn.out.items ++ codes "\"" ++ flat_map escaped (take l.b-index l.bytes)
