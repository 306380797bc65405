use Rattle.std.proofs.Common.{◌≡◌, ◌++◌, ap, ◌∙◌}
use Rattle.std.specs.Prelude.{codes}
use Rattle.std.proofs.lemmas.List.{append_assoc}
use Rattle.std.proofs.lemmas.Result.{on_ok_weaker}
use Rattle.canon_writer.specs.Printing.{print}
use Rattle.imap_writer.specs.Spaced.{behind_space}
use Rattle.envelope_view.specs.Envelope.{envelope}
use Rattle.envelope_view.specs.Structure.{body_fields, fields_of, nested_head, size_of}
use Rattle.envelope_view.proofs.WrittenLemmas.{three}
use Rattle.envelope_view.proofs.structures.push_nested_head.Goals as goal

pub returns : goal.returns
unfolding nested_head
returns c =
    let old = c.args.out.now.items in
    let begun = c.extend_from_slice.new.self.items in
    let described = c.push_body_fields_behind.new.out.items in
    let new = c.push_envelope.new.out.items in
    let kind = c.args.kind.now in
    let fields = c.args.fields.now in
    let inner = c.args.inner.now in
    let known = c.deref.result.now in
    on_ok_weaker c.push_envelope.result
    (λ (h : new ≡ c.extend_from_slice-2.new.self.items ++ envelope known).
    three old begun described new (codes "\"MESSAGE\" \"RFC822\"") (behind_space (body_fields kind fields (size_of (print inner)))) (behind_space (envelope (fields_of inner)))
    c.in_ok-extend_from_slice.ensures.items
    (c.in_ok-push_body_fields_behind.ensures ∙ ap (λ n. begun ++ behind_space (body_fields kind fields n)) c.printed_size.ensures)
    (h ∙ ap (λ z. z ++ envelope known) c.in_ok-extend_from_slice-2.ensures.items ∙ append_assoc described (codes " ") (envelope known)
    ∙ ap (λ fs. described ++ behind_space (envelope fs)) (c.deref.ensures.value ∙ ap fields_of c.inner.view_is)))
    c.push_envelope.ensures
