use Rattle.mailbox_core.proofs.Reopening.{joint_images, left_images}
use Rattle.mailbox_core.proofs.laws.images_stand.Goals as goal

pub returns-clause-joint : goal.returns-clause-joint
returns-clause-joint g c files since worlds left = joint_images g.D.Disk.told files since worlds left

pub returns-clause-moments : goal.returns-clause-moments
returns-clause-moments g c files since worlds left = left_images g.D.Disk.told files since worlds left
