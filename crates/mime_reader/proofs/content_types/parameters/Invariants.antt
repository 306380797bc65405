use Rattle.std.proofs.Common.{◌≡◌, ◌++◌, length}
use Rattle.mime_reader.specs.ContentTypes.{parameters_of}
use Rattle.mime_reader.proofs.content_types.parameters.Given as goal

-- The parameters that were read, and those that are left.
abbrev pub invariant-loop-out : goal.invariant-loop-out
invariant-loop-out l = l.out.items ++ parameters_of l.rest ≡ parameters_of l.text

abbrev pub decreases-loop-out : goal.decreases-loop-out
decreases-loop-out l = length l.rest
