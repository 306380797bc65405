use Rattle.std.proofs.Common.{ap, ◌∙◌}
use Rattle.ordered_rows.specs.RowKey.{number_key}
use Rattle.ordered_rows.specs.Listed.{row_at}
use Rattle.row_tables.specs.Keys.{mailbox_key}
use Rattle.row_tables.specs.Names.{mailbox_named}
use Rattle.mail_stands.proofs.Frames.{head_row, head_named}
use Rattle.mail_stands.proofs.laws.mailbox_rows.Goals as goal

pub returns-clause-at : goal.returns-clause-at
returns-clause-at c content t world id s = ap (row_at mailbox_key (number_key id)) s.mailboxes ∙ head_row id world.mailboxes

pub returns-clause-named : goal.returns-clause-named
returns-clause-named c content t world owner name s = ap (mailbox_named owner name) s.mailboxes ∙ head_named owner name world.mailboxes
