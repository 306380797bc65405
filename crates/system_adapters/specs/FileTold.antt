-- What contracts know of a disk over a real file.
use Rattle.disk_model.specs.Told.{Told}
use Rattle.disk_model.specs.Untold.{untold}
use Rattle.system_adapters.specs.declared.disk.FileDisk.{FileDisk}

-- Nothing of its content, as of any untold disk. Its calls that failed are counted, and its reads.
abbrev pub file_told : {F : Type 0} → Told (FileDisk F)
file_told = record untold { faults = λ disk. disk.faults; reads = λ disk. disk.reads }
