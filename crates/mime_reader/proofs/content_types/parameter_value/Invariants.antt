use Rattle.std.proofs.Common.{◌≡◌, drop}
use Rattle.mime_reader.specs.ContentTypes.{parameter_value}
use Rattle.mime_reader.proofs.content_types.parameter_value.Given as goal

abbrev pub invariant-loop-parameter : goal.invariant-loop-parameter
invariant-loop-parameter l = parameter_value l.name (drop l.parameter-index l.parameters) ≡ parameter_value l.name l.parameters
