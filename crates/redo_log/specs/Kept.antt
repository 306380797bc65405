-- What a log in use keeps of its text.
use Rattle.std.specs.Prelude.{ℕ, Bool, List}
use Rattle.disk_model.specs.Told.{Told, IfTold}
use Rattle.disk_model.specs.Images.{Only}
use Rattle.redo_log.specs.Text.{EndsAt}

-- what contracts see of a log in use: its header, the place of its closed gate, and whether it was given up
pub record Kept : Type 0 where
  pub format : ℕ
  pub generation : ℕ
  pub end : ℕ
  pub spent : Bool

-- The disk has this log with these payloads: where it tells its reading, it is at rest, and its reading is that text.
abbrev pub HasLog : {D : Type 0} → Told D → Kept → List (List ℕ) → D → Type 0
HasLog told log payloads disk = IfTold (told.reading disk) (λ reading. Only reading (told.images disk) × EndsAt log.format log.generation payloads log.end reading)
