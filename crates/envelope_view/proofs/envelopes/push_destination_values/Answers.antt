use Rattle.std.proofs.Common.{◌++◌, ap, ◌∙◌}
use Rattle.std.specs.Prelude.{codes}
use Rattle.std.proofs.lemmas.Result.{on_ok_weaker}
use Rattle.imap_writer.specs.Spaced.{behind_space}
use Rattle.envelope_view.specs.Envelope.{field_text, items_in, items_text, destination_values}
use Rattle.envelope_view.proofs.WrittenLemmas.{five}
use Rattle.envelope_view.proofs.envelopes.push_destination_values.Goals as goal

pub returns : goal.returns
unfolding destination_values
returns c =
    let fields = c.args.fields.now in
    let old = c.args.out.now.items in
    on_ok_weaker c.push_field_behind-2.result
    (five old c.push_items.new.out.items c.push_items_behind.new.out.items c.push_items_behind-2.new.out.items c.push_field_behind.new.out.items c.push_field_behind-2.new.out.items
    (items_text (items_in (codes "To") fields))
    (behind_space (items_text (items_in (codes "Cc") fields)))
    (behind_space (items_text (items_in (codes "Bcc") fields)))
    (behind_space (field_text (codes "In-Reply-To") fields))
    (behind_space (field_text (codes "Message-ID") fields))
    (c.in_ok-push_items.ensures ∙ ap (λ items. old ++ items_text items) c.items_in.ensures)
    c.in_ok-push_items_behind.ensures c.in_ok-push_items_behind-2.ensures c.in_ok-push_field_behind.ensures)
    c.push_field_behind-2.ensures
