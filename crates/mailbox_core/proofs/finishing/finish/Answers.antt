use Rattle.mail_stands.specs.Leading.{KeepsOwners}
use Rattle.mailbox_core.specs.Rooms.{AreTables}
use Rattle.mailbox_core.proofs.Behaving.{behaves_told, is_outage, made_told}
use Rattle.mailbox_core.proofs.finishing.finish.Goals as goal

pub returns-in-Err-clause-behaves : goal.returns-in-Err-clause-behaves
returns-in-Err-clause-behaves g c after runs owners =
    behaves_told g.D.Disk.told c.args.store.now c.finish_unrefused.new.store c.in-Err.fault c.told_as.result c.told_as.ensures KeepsOwners (c.in-Err.ensures.behaves after runs owners)

pub returns-in-Err-clause-commits : goal.returns-in-Err-clause-commits
returns-in-Err-clause-commits g c after runs =
    behaves_told g.D.Disk.told c.args.store.now c.finish_unrefused.new.store c.in-Err.fault c.told_as.result c.told_as.ensures (AreTables after) (c.in-Err.ensures.commits after runs)

pub returns-in-Err-clause-made : goal.returns-in-Err-clause-made
returns-in-Err-clause-made g c world next stands leads =
    made_told g.D.Disk.told c.args.store.now c.finish_unrefused.new.store c.in-Err.fault c.told_as.result c.told_as.ensures world next c.args.answer
    (c.in-Err.ensures.made world next stands leads)

pub returns-in-Err-clause-outage : goal.returns-in-Err-clause-outage
returns-in-Err-clause-outage g c = is_outage c.in-Err.fault c.told_as.result c.told_as.ensures

pub returns-in-Ok-clause-behaves : goal.returns-in-Ok-clause-behaves
returns-in-Ok-clause-behaves g c after runs owners = c.in-Ok.ensures.behaves after runs owners

pub returns-in-Ok-clause-commits : goal.returns-in-Ok-clause-commits
returns-in-Ok-clause-commits g c after runs = c.in-Ok.ensures.commits after runs

pub returns-in-Ok-clause-made : goal.returns-in-Ok-clause-made
returns-in-Ok-clause-made g c world next stands leads = c.in-Ok.ensures.made world next stands leads
