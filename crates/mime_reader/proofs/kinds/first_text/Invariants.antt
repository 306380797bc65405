use Rattle.std.proofs.Common.{◌≡◌, drop}
use Rattle.mime_reader.specs.Kinds.{first_text}
use Rattle.mime_reader.proofs.kinds.first_text.Given as goal

abbrev pub invariant-loop-field : goal.invariant-loop-field
invariant-loop-field l = first_text l.name (drop l.field-index l.fields) ≡ first_text l.name l.fields
