use Rattle.std.proofs.Common.{◌≡◌, drop}
use Rattle.envelope_view.specs.Envelope.{first_value}
use Rattle.envelope_view.proofs.values.first_value.Given as goal

abbrev pub invariant-loop-field : goal.invariant-loop-field
invariant-loop-field l = first_value l.name (drop l.field-index l.fields) ≡ first_value l.name l.fields
