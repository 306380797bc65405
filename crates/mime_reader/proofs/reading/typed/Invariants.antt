use Rattle.std.proofs.Common.{◌≡◌, map}
use Rattle.header_reader.specs.Values.{read_field}
use Rattle.mime_reader.proofs.reading.typed.Given as goal

abbrev pub invariant-loop-field : goal.invariant-loop-field
invariant-loop-field l = l.fields.items ≡ map read_field l.yielded
