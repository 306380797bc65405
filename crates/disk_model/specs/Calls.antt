-- What the calls of a disk do, and what runs of them leave.
use Rattle.std.specs.Prelude.{◌≡◌, ◌⊎◌, ◌↔◌, ℕ, ◌+◌, ◌-◌, ◌≤◌, min, List, ◌++◌, length, take, drop, Result, OnOk, OnErr}
use Rattle.fault_counts.specs.Rose.{Rose}
use Rattle.disk_model.specs.Told.{Told, IfTold}
use Rattle.disk_model.specs.Images.{Only}

-- the file with these bytes at this place
abbrev pub overwritten : ℕ → List ℕ → List ℕ → List ℕ
overwritten at bytes file = take at file ++ bytes ++ drop (at + length bytes) file

-- a read of the file at this place gave the first `count` bytes of the buffer: as many as fit and are there
pub record GivesBytes (file : List ℕ) (at count : ℕ) (old new : List ℕ) : Type 0 where
  pub count_is : count ≡ min (length old) (length file - at)
  pub bytes : take count new ≡ take count (drop at file)

-- a fault never comes but with a count that rose, any other answer leaves the count as it was, and the count never falls
pub record HasCause {D T E : Type 0} (told : Told D) (old new : D) (result : Result T E) : Type 0 where
  pub never_falls : told.faults old ≤ told.faults new
  pub rose : OnErr result (Rose (told.faults old) (told.faults new))
  pub quiet : OnOk result (told.faults new ≡ told.faults old)

-- what is read and what may be lost is as before, at each moment
pub record LeavesAlone {D : Type 0} (told : Told D) (old new : D) : Type 0 where
  pub reading : told.reading new ≡ told.reading old
  pub images : (image : List ℕ) → told.images new image ↔ told.images old image
  pub moment : told.moment new ≡ told.moment old
  pub left_since : (since : ℕ) (image : List ℕ) → told.left_since new since image ↔ told.left_since old since image

-- Time went on: what a crash might have left since an earlier moment is what it might have left before, or what it may leave now.
pub record Elapses {D : Type 0} (told : Told D) (old new : D) : Type 0 where
  pub later : told.moment old ≤ told.moment new
  pub nothing_else : (since : ℕ) (image : List ℕ) → since ≤ told.moment old → told.left_since new since image → told.left_since old since image ⊎ told.images new image
  pub keeps : (since : ℕ) (image : List ℕ) → since ≤ told.moment old → told.left_since old since image → told.left_since new since image

-- Each image of a moment from old to new has P; and of the moments since an earlier one, each image that was none before has it.
pub record LeavesOnly {D : Type 0} (told : Told D) (old new : D) (P : List ℕ → Type 0) : Type 0 where
  pub later : told.moment old ≤ told.moment new
  pub each : (image : List ℕ) → told.left_since new (told.moment old) image → P image
  pub before : (since : ℕ) (image : List ℕ) → since ≤ told.moment old → told.left_since new since image → told.left_since old since image ⊎ P image

-- the disk's only image is its reading
abbrev pub IsAtRest : {D : Type 0} → Told D → D → Type 0
IsAtRest told disk = IfTold (told.reading disk) (λ reading. Only reading (told.images disk))
