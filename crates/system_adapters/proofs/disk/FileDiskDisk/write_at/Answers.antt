use Rattle.std.proofs.Common.{refl, arith}
use Rattle.disk_model.specs.Images.{Torn}
use Rattle.system_adapters.proofs.disk.FileDiskDisk.write_at.Goals as goal

pub returns-in_err-usable-clause-images : goal.returns-in_err-usable-clause-images
returns-in_err-usable-clause-images g c image any = (image, tt, record { kept = λ place lt free. refl; no_shorter = omega arith; no_longer = omega arith })

pub returns-clause-images : goal.returns-clause-images
returns-clause-images g c image any = (image, tt, record { kept = λ place lt free. refl; no_shorter = omega arith; no_longer = omega arith })
