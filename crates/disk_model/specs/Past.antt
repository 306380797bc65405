-- A state that is computed again.
use Rattle.disk_model.specs.declared.replaying.Past.{Past}
use Rattle.disk_model.specs.Memory.{State}

abbrev pub state_in : Past → State
state_in past = record { reading = past.reading.items; synced = past.synced.items; ranges = past.ranges.items }
