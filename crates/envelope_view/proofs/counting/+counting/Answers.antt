use Rattle.std.proofs.Common.{◌∙◌}
use Rattle.mime_tree.specs.Contents.{content_of}
use Rattle.envelope_view.proofs.LineLemmas.{message_counted}
use Rattle.envelope_view.proofs.counting.+counting.Goals as goal

pub message_lines-returns : goal.message_lines-returns
message_lines-returns t c =
    c.saturating_add.ensures
    ∙ message_counted c.deref.result.now c.deref-2.result.now c.message.inside.fields.items (content_of c.message.inside.body) c.args.message.now c.in_ok-header.header c.in_ok-body.body
    c.deref.ensures.value c.deref-2.ensures.value c.message.view_is c.in_ok-header.ensures c.in_ok-body.ensures
