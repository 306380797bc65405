use Rattle.std.proofs.Common.{refl}
use Rattle.mail_server.proofs.FromSteps.{leave_stands, leaves_files, ready_with}
use Rattle.mail_server.proofs.store_core.StoreCoreCore.leave.Goals as goal

pub returns-clause-stands : goal.returns-clause-stands
returns-clause-stands g c = leave_stands g.D.Disk.told c.args.self.now _ c.args.number refl c.leave.ensures.left

pub returns-clause-ready : goal.returns-clause-ready
returns-clause-ready g c = ready_with g.D.Disk.told c.args.self.now _ refl c.leave.ensures.live c.requires

pub returns-clause-files : goal.returns-clause-files
returns-clause-files g c = leaves_files g.D.Disk.told c.args.self.now _ refl
