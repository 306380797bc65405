-- What a crash leaves of a store that stands for a world.
use Rattle.std.specs.Prelude.{◌≡◌, ◌⊎◌, ℕ, List, [], ◌∷◌}
use Rattle.std.specs.List.{AllByRecursion}
use Rattle.disk_model.specs.Told.{Told}
use Rattle.disk_model.specs.declared.disk.Files.{Files}
use Rattle.row_tables.specs.declared.contents.BodyPart.{BodyPart}
use Rattle.row_tables.specs.TableRows.{TableRows}
use Rattle.row_store.specs.ThreeFiles.{FileBytes, LogMoments}
use Rattle.row_store.specs.Holding.{Stored, stored_by, Holds}
use Rattle.row_store.specs.Crashes.{JointlyHolds, Leaves}
use Rattle.mail_world.specs.Worlds.{World}
use Rattle.mail_stands.specs.Stands.{Stands}

-- The tables and the contents of bodies stand for the world.
pub record StandsFor (state : Stored) (world : World) : Type 0 where
  pub content : BodyPart → List ℕ
  pub contents : state ≡ stored_by content state.tables
  pub stands : Stands content state.tables world

-- for one of these worlds
abbrev pub StandsForOne : List World → Stored → Type 0
StandsForOne [] state = ⊥
StandsForOne (world ∷ worlds) state = StandsFor state world ⊎ StandsForOne worlds state

-- Every joint image of now, and every image of a log of a moment since an earlier one with each image of the two other files of
-- now, holds a state that stands for one of these worlds. The worlds of a list are the newest first.
pub record Left {D : Type 0} (told : Told D) (files : Files D) (since : LogMoments) (worlds : List World) : Type 0 where
  pub states : List Stored
  pub stand : AllByRecursion (StandsForOne worlds) states
  pub joint : JointlyHolds told files states
  pub moments : Leaves told files since states

-- the files hold a state that stands for one of these worlds
abbrev pub HoldsWorld : FileBytes → List World → Type 0
HoldsWorld files worlds = (state : Stored) × Holds files state.tables state.contents × StandsForOne worlds state

-- the tables, whose bodies have this content, stand for one of these worlds
abbrev pub StandForOne : (BodyPart → List ℕ) → TableRows → List World → Type 0
StandForOne content t [] = ⊥
StandForOne content t (world ∷ worlds) = Stands content t world ⊎ StandForOne content t worlds
