use Rattle.std.specs.Prelude.{codes}
use Rattle.std.proofs.lemmas.Result.{on_ok_weaker}
use Rattle.imap_writer.specs.Spaced.{behind_space}
use Rattle.envelope_view.specs.Envelope.{field_text}
use Rattle.envelope_view.specs.Structure.{place_fields, disposition_text}
use Rattle.envelope_view.proofs.WrittenLemmas.{three}
use Rattle.envelope_view.proofs.structures.push_place_fields.Goals as goal

pub returns : goal.returns
unfolding place_fields
returns c =
    let fields = c.args.fields.now in
    let language = behind_space (field_text (codes "Content-Language") fields) in
    let location = behind_space (field_text (codes "Content-Location") fields) in
    on_ok_weaker c.push_field_behind-2.result
    (three c.args.out.now.items c.push_disposition.new.out.items c.push_field_behind.new.out.items c.push_field_behind-2.new.out.items (disposition_text fields) language location
    c.in_ok-push_disposition.ensures c.in_ok-push_field_behind.ensures)
    c.push_field_behind-2.ensures
