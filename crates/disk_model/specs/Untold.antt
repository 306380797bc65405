-- A disk of which contracts know nothing, as one over a real file.
use Rattle.std.specs.Prelude.{◌-◌, ◌^◌, None}
use Rattle.disk_model.specs.Told.{Told}

-- It tells no reading, a crash may leave anything of it, and its counts stand at their last value.
abbrev pub untold : {D : Type 0} → Told D
untold = record {
  reading = λ disk. None;
  images = λ disk image. Unit {0};
  moment = λ disk. 0;
  left_since = λ disk since image. Unit {0};
  faults = λ disk. 2 ^ 64 - 1;
  reads = λ disk. 2 ^ 64 - 1;
  reading_is_image = λ disk. tt;
  now_counts = λ disk since image le now. tt;
  now_alone = λ disk image left. tt;
  since_earlier = λ disk earlier later image le left. tt;
}
