use Rattle.std.proofs.Common.{◌++◌, refl, ap, ◌∙◌}
use Rattle.std.specs.Prelude.{codes, decimal}
use Rattle.std.proofs.lemmas.Result.{on_ok_weaker}
use Rattle.imap_writer.specs.Spaced.{behind_space}
use Rattle.envelope_view.specs.Envelope.{field_text}
use Rattle.envelope_view.specs.Structure.{body_fields, encoding_text, parameters_text}
use Rattle.envelope_view.proofs.WrittenLemmas.{five}
use Rattle.envelope_view.proofs.structures.push_body_fields.Goals as goal

pub returns : goal.returns
unfolding body_fields
returns c =
    let fields = c.args.fields.now in
    let id = behind_space (field_text (codes "Content-ID") fields) in
    let description = behind_space (field_text (codes "Content-Description") fields) in
    let encoding = behind_space (encoding_text fields) in
    let described = c.push_field_behind-2.new.out.items in
    on_ok_weaker c.push_encoding_and_size.result
    (five c.args.out.now.items c.push_parameters.new.out.items c.push_field_behind.new.out.items described (described ++ encoding) c.push_encoding_and_size.new.out.items
    (parameters_text c.args.kind.now.parameters) id description encoding (behind_space (decimal c.args.size))
    (c.in_ok-push_parameters.ensures ∙ ap (λ parameters. c.args.out.now.items ++ parameters_text parameters) c.as_slice.ensures) c.in_ok-push_field_behind.ensures c.in_ok-push_field_behind-2.ensures refl)
    c.push_encoding_and_size.ensures
