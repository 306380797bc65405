use Rattle.std.proofs.Common.{◌+◌, ◌++◌, drop, sym, ap, ◌∙◌}
use Rattle.envelope_view.specs.Sections.{is_taken}
use Rattle.envelope_view.proofs.FieldLemmas.{left, taken, left_out}
use Rattle.envelope_view.proofs.sections.some_fields.Goals as goal
use Rattle.envelope_view.proofs.sections.some_fields.Goals.{then-is_taken+in_ok-append_field, else-is_taken}

pub loop-field-preserved : goal.loop-field-preserved
loop-field-preserved c =
    let fields = c.args.fields.now in
    let at = c.loop-field.field-index in
    let f = c.field-item.result in
    let test = is_taken c.args.names.now c.args.except in
    let out = c.loop-field.out.items in
    let rest = left test (drop (at + 1) fields) in
    elim c.if-is_taken.branch [
      | then-is_taken+in_ok-append_field w ↦
          ap (λ v. v.items ++ rest) w.out-is ∙ ap (λ z. z ++ rest) w.in_ok-append_field.ensures
          ∙ taken test fields at f out c.loop-field-test.true c.field-item.is (sym c.is_taken.ensures ∙ w.if-is_taken.true) ∙ c.loop-field.invariant
      | else-is_taken w ↦
          ap (λ v. v.items ++ rest) w.out-is
          ∙ left_out test fields at f out c.loop-field-test.true c.field-item.is (sym c.is_taken.ensures ∙ w.if-is_taken.false) ∙ c.loop-field.invariant
    ]
