-- The three files of a store together: what a read of them gives, and what a crash may leave of them.
use Rattle.std.specs.Prelude.{◌≡◌, ◌⊎◌, ℕ, ◌≤◌, List}
use Rattle.fault_counts.specs.Rose.{Rose}
use Rattle.disk_model.specs.Told.{Told, IfTold, SameTold}
use Rattle.disk_model.specs.Calls.{IsAtRest, LeavesAlone, LeavesOnly}
use Rattle.disk_model.specs.declared.disk.Files.{Files}

-- the bytes of each file
pub record FileBytes : Type 0 where
  pub log0 : List ℕ
  pub log1 : List ℕ
  pub bodies : List ℕ

-- A fact about the files as they are read, where each disk tells its reading. Else nothing is said.
abbrev pub IfRead : {D : Type 0} → Told D → Files D → (FileBytes → Type 0) → Type 0
IfRead told files P =
    IfTold (told.reading files.log0) (λ log0. IfTold (told.reading files.log1) (λ log1. IfTold (told.reading files.bodies) (λ bodies.
    P (record { log0 = log0; log1 = log1; bodies = bodies }))))

-- a joint image: one of each file, chosen apart
abbrev pub IsJointImage : {D : Type 0} → Told D → Files D → FileBytes → Type 0
IsJointImage told files image =
    told.images files.log0 image.log0 × told.images files.log1 image.log1 × told.images files.bodies image.bodies

-- the only image of each file is its reading
abbrev pub AreAtRest : {D : Type 0} → Told D → Files D → Type 0
AreAtRest told files = IsAtRest told files.log0 × IsAtRest told files.log1 × IsAtRest told files.bodies

-- a moment of each log
pub record LogMoments : Type 0 where
  pub log0 : ℕ
  pub log1 : ℕ

-- the moments of now
abbrev pub moments : {D : Type 0} → Told D → Files D → LogMoments
moments told files = record { log0 = told.moment files.log0; log1 = told.moment files.log1 }

-- an image of one log of a moment since an earlier one, with images of the two other files of now
abbrev pub IsLeftSince : {D : Type 0} → Told D → Files D → LogMoments → FileBytes → Type 0
IsLeftSince told files since image =
    (told.left_since files.log0 since.log0 image.log0 × told.images files.log1 image.log1 × told.images files.bodies image.bodies)
    ⊎ (told.images files.log0 image.log0 × told.left_since files.log1 since.log1 image.log1 × told.images files.bodies image.bodies)

-- the count of faults of some disk rose
abbrev pub FaultRose : {D : Type 0} → Told D → Files D → Files D → Type 0
FaultRose told old new =
    Rose (told.faults old.log0) (told.faults new.log0) ⊎ Rose (told.faults old.log1) (told.faults new.log1) ⊎ Rose (told.faults old.bodies) (told.faults new.bodies)

-- what each call keeps of each disk: whether it tells its reading; and its count of faults doesn't fall
pub record KeepsDisks {D : Type 0} (told : Told D) (old new : Files D) : Type 0 where
  pub told0 : SameTold (told.reading old.log0) (told.reading new.log0)
  pub told1 : SameTold (told.reading old.log1) (told.reading new.log1)
  pub told_bodies : SameTold (told.reading old.bodies) (told.reading new.bodies)
  pub faults0 : told.faults old.log0 ≤ told.faults new.log0
  pub faults1 : told.faults old.log1 ≤ told.faults new.log1
  pub faults_bodies : told.faults old.bodies ≤ told.faults new.bodies

-- no disk counted a fault
abbrev pub CountsNoFault : {D : Type 0} → Told D → Files D → Files D → Type 0
CountsNoFault told old new =
    (told.faults new.log0 ≡ told.faults old.log0) × (told.faults new.log1 ≡ told.faults old.log1) × (told.faults new.bodies ≡ told.faults old.bodies)

-- How each call answers for the disks: one that tells of a fault comes only where a count rose, and any other left the counts as they were.
pub record TellsFaults {D : Type 0} (told : Told D) (tells : Type 0) (old new : Files D) : Type 0 where
  pub disks : KeepsDisks told old new
  pub failed : tells → FaultRose told old new
  pub quiet : (tells → ⊥) → CountsNoFault told old new

-- no disk was read
abbrev pub ReadsNothing : {D : Type 0} → Told D → Files D → Files D → Type 0
ReadsNothing told old new =
    (told.reads new.log0 ≡ told.reads old.log0) × (told.reads new.log1 ≡ told.reads old.log1) × (told.reads new.bodies ≡ told.reads old.bodies)

-- What a read of the disk gives is as before, and so is what a crash may leave, or it is less.
pub record MakesSure {D : Type 0} (told : Told D) (old new : D) : Type 0 where
  pub reading : told.reading new ≡ told.reading old
  pub images : (image : List ℕ) → told.images new image → told.images old image
  pub leaves : LeavesOnly told old new (told.images old)

abbrev pub MakesAllSure : {D : Type 0} → Told D → Files D → Files D → Type 0
MakesAllSure told old new = MakesSure told old.log0 new.log0 × MakesSure told old.log1 new.log1 × MakesSure told old.bodies new.bodies

-- what is read and what may be lost is as before, of each disk
abbrev pub LeavesAllAlone : {D : Type 0} → Told D → Files D → Files D → Type 0
LeavesAllAlone told old new = LeavesAlone told old.log0 new.log0 × LeavesAlone told old.log1 new.log1 × LeavesAlone told old.bodies new.bodies
