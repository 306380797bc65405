-- Files of a store whose tables stand for a world of mail.
use Rattle.std.specs.Prelude.{List, [], ◌∷◌}
use Rattle.disk_model.specs.Told.{Told}
use Rattle.disk_model.specs.declared.disk.Files.{Files}
use Rattle.row_store.specs.ThreeFiles.{IfRead, LogMoments}
use Rattle.row_store.specs.Holding.{Stored}
use Rattle.row_store.specs.Crashes.{IsSettled}
use Rattle.row_store.specs.Kept.{Store, IfContents}
use Rattle.mail_world.specs.Worlds.{World}
use Rattle.mail_stands.specs.Stands.{Stands}
use Rattle.mailbox_core.specs.Left.{HoldsWorld, Left, StandsFor}
use Rattle.mail_model.specs.Machine.{Made}
use Rattle.mail_rounds.specs.Crashes.{worlds_since}
use Rattle.mail_server.specs.Stores.{HoldsSome}

-- The files as read hold a store; where it stands for a world, this holds of the world.
abbrev pub IfWorld : {D : Type 0} → Told D → Files D → (World → Type 0) → Type 0
IfWorld told files P = IfRead told files (λ bytes. HoldsSome bytes × ((world : World) → HoldsWorld bytes (world ∷ []) → P world))

-- The files are at rest, so that a crash leaves them as they are, and hold what stands for this world.
pub record SettledFor {D : Type 0} (told : Told D) (files : Files D) (world : World) : Type 0 where
  pub state : Stored
  pub settled : IsSettled told files state
  pub stands : StandsFor state world

-- What is done to a store that was loaded, whose tables have this content.
abbrev pub IfStands : {D : Type 0} → Told D → Store D → (World → Type 0) → Type 0
IfStands told store P = IfContents told store (λ content. (world : World) → Stands content store.tables world → P world)

-- What a crash leaves of the files stands for the world after some of these changes, which are told by the world that the files as
-- read stand for, or for one of those before where a run began earlier: the joint images of now, and those of each moment since.
abbrev pub LeavesChanges : {D : Type 0} → Told D → (World → List Made) → Files D → Files D → Type 0
LeavesChanges told changes files files' = IfRead told files (λ bytes. (world : World) → HoldsWorld bytes (world ∷ []) → (since : LogMoments) (earlier : List World) → Left told files since (world ∷ earlier)
    → Left told files' since (worlds_since world (changes world) earlier))
