use Rattle.std.proofs.Common.{◌≡◌, ◌++◌, take, map}
use Rattle.std.specs.Prelude.{flat_map}
use Rattle.imap_writer.specs.Spaced.{behind_space}
use Rattle.envelope_view.specs.Structure.{parameter_text}
use Rattle.envelope_view.proofs.structures.push_further.Given as goal

abbrev pub invariant-loop-parameter : goal.invariant-loop-parameter
invariant-loop-parameter l = l.out.items ≡ l.fn.out.items ++ flat_map behind_space (map parameter_text (take l.parameter-index l.parameters))
