use Rattle.std.proofs.Common.{◌∙◌}
use Rattle.mailbox_core.proofs.Expunges.{all_kept}
use Rattle.mailbox_core.proofs.gone_rows.gone_ones.Goals as goal

pub returns : goal.returns
returns c = c.in_ok-changes.ensures ∙ all_kept c.args.mailbox c.args.modseq c.args.uids.now
