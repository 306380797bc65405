use Rattle.std.specs.Prelude.{codes}
use Rattle.std.proofs.lemmas.Result.{on_ok_weaker}
use Rattle.imap_writer.specs.Spaced.{behind_space}
use Rattle.envelope_view.specs.Envelope.{field_text, items_in, items_text, or_authors, origin_values}
use Rattle.envelope_view.proofs.WrittenLemmas.{five}
use Rattle.envelope_view.proofs.envelopes.push_origin_values.Goals as goal

pub returns : goal.returns
unfolding origin_values
returns c =
    let fields = c.args.fields.now in
    on_ok_weaker c.push_authors_behind-2.result
    (five c.args.out.now.items c.push_field_text.new.out.items c.push_field_behind.new.out.items c.push_items_behind.new.out.items c.push_authors_behind.new.out.items c.push_authors_behind-2.new.out.items
    (field_text (codes "Date") fields)
    (behind_space (field_text (codes "Subject") fields))
    (behind_space (items_text (items_in (codes "From") fields)))
    (behind_space (items_text (or_authors (items_in (codes "Sender") fields) fields)))
    (behind_space (items_text (or_authors (items_in (codes "Reply-To") fields) fields)))
    c.in_ok-push_field_text.ensures c.in_ok-push_field_behind.ensures c.in_ok-push_items_behind.ensures c.in_ok-push_authors_behind.ensures)
    c.push_authors_behind-2.ensures
