use Rattle.std.proofs.Common.{◌≡◌, length}
use Rattle.mime_reader.specs.ContentTypes.{parameters_of}
use Rattle.mime_reader.specs.ValueSizes.{parameter_size}
use Rattle.mime_reader.proofs.value_sizes.parameter_size.Given as goal

abbrev pub invariant-loop-is_named : goal.invariant-loop-is_named
invariant-loop-is_named l = parameter_size l.name (parameters_of l.rest) ≡ parameter_size l.name (parameters_of l.text)

abbrev pub decreases-loop-is_named : goal.decreases-loop-is_named
decreases-loop-is_named l = length l.rest
