use Rattle.std.proofs.Common.{◌≡◌, ◌++◌, Bool, OnOk, sym, ap, ◌∙◌, subst}
use Rattle.std.specs.Prelude.{codes}
use Rattle.std.proofs.lemmas.List.{append_assoc}
use Rattle.std.proofs.lemmas.Result.{on_ok_weaker}
use Rattle.imap_writer.specs.Spaced.{behind_space}
use Rattle.envelope_view.specs.Envelope.{field_text}
use Rattle.envelope_view.specs.Structure.{place_fields, single_extension}
use Rattle.envelope_view.proofs.WrittenLemmas.{two}
use Rattle.envelope_view.proofs.structures.push_single_extension.Goals as goal

pub returns : goal.returns
unfolding single_extension
returns c =
    let old = c.args.out.now.items in
    let checked = c.push_field_behind.new.out.items in
    let new = c.push_place_fields.new.out.items in
    let fields = c.args.fields.now in
    let place = place_fields fields in
    subst (λ (b : Bool). OnOk c.push_place_fields.result (new ≡ old ++ single_extension b fields)) (sym c.if-not-extended.false)
    (on_ok_weaker c.push_place_fields.result
    (λ (h : new ≡ c.extend_from_slice.new.self.items ++ place).
    two old checked new (behind_space (field_text (codes "Content-MD5") fields)) (behind_space place) c.in_ok-push_field_behind.ensures
    (h ∙ ap (λ z. z ++ place) c.in_ok-extend_from_slice.ensures.items ∙ append_assoc checked (codes " ") place))
    c.push_place_fields.ensures)
