use Rattle.std.proofs.Common.{◌∙◌}
use Rattle.mailbox_reader.proofs.FlagsTold.{seen_is}
use Rattle.mailbox_reader.proofs.flags.is_seen.Goals as goal

pub returns : goal.returns
returns c content w stands = c.is_flagged.ensures ∙ seen_is content c.args.tables.now w c.args.mailbox c.args.uid stands
