use Rattle.std.proofs.Common.{◌∙◌}
use Rattle.inbox_moves.proofs.Found.{found}
use Rattle.inbox_moves.proofs.entry_rows.messages.Goals as goal

pub returns : goal.returns
returns c = c.in_ok-rows.ensures ∙ found c.args.mailbox c.args.tables.now.marks.mailbox_messages (c.rows_at_keys.ensures c.args.tables.now.marks.mailbox_messages c.are_whole.ensures.ordered.mailbox_messages)
