use Rattle.disk_model.proofs.Tearing.{exact}
use Rattle.disk_model.proofs.memory.torn_writes_leave_the_images.Goals as goal

pub returns : goal.returns
returns c = exact
