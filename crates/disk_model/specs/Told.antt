-- What contracts know of a disk.
use Rattle.std.specs.Prelude.{ℕ, ◌≤◌, List, Option, Some, None}

-- A fact about the reading, where the disk tells it. Of a disk that doesn't tell, nothing is said.
abbrev pub IfTold : Option (List ℕ) → (List ℕ → Type 0) → Type 0
IfTold None P = Unit {0}
IfTold (Some reading) P = P reading

-- both tell their reading, or neither does
abbrev pub SameTold : Option (List ℕ) → Option (List ℕ) → Type 0
SameTold None None = Unit {0}
SameTold None (Some new) = ⊥
SameTold (Some old) None = ⊥
SameTold (Some old) (Some new) = Unit {0}

-- The meanings of a disk, and their laws.
pub record Told (D : Type 0) : Type 1 where
  -- the bytes that a read gives; a disk over a real file doesn't tell them
  pub reading : D → Option (List ℕ)
  -- what a crash now may leave
  pub images : D → List ℕ → Type 0
  -- the moment, a number that never falls
  pub moment : D → ℕ
  -- what a crash at some moment from this one on, up to now, might have left
  pub left_since : D → ℕ → List ℕ → Type 0
  -- how often a call failed, a number of 64 bits that stays at its last value
  pub faults : D → ℕ
  -- how often `read` was called, a number of 64 bits that stays at its last value
  pub reads : D → ℕ
  -- a crash may leave what a read gives
  pub reading_is_image : (disk : D) → IfTold (reading disk) (images disk)
  -- now is one of the moments since an earlier one
  pub now_counts : (disk : D) (since : ℕ) (image : List ℕ) → since ≤ moment disk → images disk image → left_since disk since image
  -- since now there is no moment but now
  pub now_alone : (disk : D) (image : List ℕ) → left_since disk (moment disk) image → images disk image
  -- the moments since a later one are among those since an earlier one
  pub since_earlier : (disk : D) (earlier later : ℕ) (image : List ℕ) → earlier ≤ later → left_since disk later image → left_since disk earlier image
