use Rattle.std.proofs.Common.{◌≡◌, ◌++◌, drop}
use Rattle.envelope_view.specs.Sections.{is_taken}
use Rattle.envelope_view.proofs.FieldLemmas.{left}
use Rattle.envelope_view.proofs.sections.some_fields.Given as goal

-- What is written, and the fields that are left.
abbrev pub invariant-loop-field : goal.invariant-loop-field
invariant-loop-field l = l.out.items ++ left (is_taken l.names l.except) (drop l.field-index l.fields) ≡ left (is_taken l.names l.except) l.fields
