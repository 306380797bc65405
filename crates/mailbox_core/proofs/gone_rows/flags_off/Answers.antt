use Rattle.std.proofs.Common.{◌∙◌}
use Rattle.mailbox_core.proofs.Expunges.{all_off}
use Rattle.mailbox_core.proofs.gone_rows.flags_off.Goals as goal

pub returns : goal.returns
returns c = c.in_ok-changes.ensures ∙ all_off c.args.tables.now c.args.mailbox c.args.uids.now
