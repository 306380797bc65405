use Rattle.std.proofs.Common.{◌+◌, ◌*◌}
use Rattle.mime_tree.specs.Contents.{content_of}
use Rattle.mime_tree.specs.Sizes.{nodes, nodes_in}
use Rattle.envelope_view.proofs.counting.+counting.Given as goal

abbrev pub decreases-message_lines : goal.decreases-message_lines
decreases-message_lines l = 2 * nodes l.message.now

abbrev pub decreases-body_lines : goal.decreases-body_lines
decreases-body_lines l = 2 * nodes_in (content_of l.body.now) + 1
