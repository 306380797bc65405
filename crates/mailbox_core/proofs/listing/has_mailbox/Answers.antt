use Rattle.std.proofs.Common.{◌∙◌}
use Rattle.mailbox_core.proofs.NameRows.{has_as_found}
use Rattle.mailbox_core.proofs.listing.has_mailbox.Goals as goal

pub returns : goal.returns
returns c = c.is_some.ensures ∙ has_as_found c.args.user c.args.name.now c.args.tables.now.heads.mailboxes c.mailbox_named.result c.mailbox_named.ensures
