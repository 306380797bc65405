-- A disk in memory, by what was done to it.
use Rattle.std.specs.Prelude.{◌≡◌, ◌⊎◌, ◌==◌, ◌&&◌, ◌+◌, ◌-◌, ◌<◌, ◌≤◌, ◌^◌, ℕ, zero, suc, min, Bool, true, false, not, if◌then◌else◌, List, [], ◌∷◌, ◌++◌, length, take, slice_index, nat_lt, Result, OnOk, OnErr, IsErr}
use Rattle.std.specs.List.{list_any}
use Rattle.disk_model.specs.declared.disk.DiskFault.{DiskFault}
use Rattle.disk_model.specs.declared.memory.Change.{Change}
use Rattle.disk_model.specs.declared.memory.Change.TheVariants.{Write, Sync}
use Rattle.disk_model.specs.declared.memory.Written.{Written}
use Rattle.disk_model.specs.Images.{is_written, greatest_length}
use Rattle.disk_model.specs.Calls.{overwritten}

-- what contracts see of a disk in memory
pub record Memory : Type 0 where
  -- the bytes at moment 0, which are at rest
  pub first : List ℕ
  -- the changes of what may be lost, the first of them first
  pub changes : List Change
  -- how many calls were made, and the numbers of those that fail
  pub calls : ℕ
  pub fails : List ℕ
  pub faults : ℕ
  pub reads : ℕ
  -- whether it found no memory for a change
  pub starved : Bool

-- an empty disk that never fails
abbrev pub empty_disk : Memory
empty_disk = record { first = []; changes = []; calls = 0; fails = []; faults = 0; reads = 0; starved = false }

-- what a read gives, the bytes of the last sync, and the ranges written since, the last of them first
pub record State : Type 0 where
  pub reading : List ℕ
  pub synced : List ℕ
  pub ranges : List Written

abbrev pub at_rest : List ℕ → State
at_rest bytes = record { reading = bytes; synced = bytes; ranges = [] }

abbrev pub next : State → Change → State
next s (Write at piece) = record { reading = overwritten at piece s.reading; synced = s.synced; ranges = record { at = at; count = length piece } ∷ s.ranges }
next s Sync = at_rest s.reading

-- the state after these changes
abbrev pub after : State → List Change → State
after s [] = s
after s (change ∷ changes) = after (next s change) changes

-- the state at a moment, which is the number of changes before it
abbrev pub state_at : List ℕ → List Change → ℕ → State
state_at first changes moment = after (at_rest first) (take moment changes)

-- the state now
abbrev pub state_of : Memory → State
state_of disk = after (at_rest disk.first) disk.changes

-- the number of the next call, and whether that call fails
abbrev pub next_call : Memory → ℕ
next_call disk = min (disk.calls + 1) (2 ^ 64 - 1)

abbrev pub is_to_fail : Memory → Bool
is_to_fail disk = list_any (λ number. number == next_call disk) disk.fails

-- the disk has counted the call
abbrev pub called : Memory → Memory
called disk = record disk { calls = next_call disk }

-- the disk has counted a fault
abbrev pub failed : Memory → Memory
failed disk = record disk { faults = min (disk.faults + 1) (2 ^ 64 - 1) }

-- the disk has counted a call of `read`
abbrev pub read_counted : Memory → Memory
read_counted disk = record disk { reads = min (disk.reads + 1) (2 ^ 64 - 1) }

-- What a call that changes what may be lost does. It fails where its number is one of those that fail or its
-- range ends too far; else it fails only where it found no memory to record the change.
pub record Attempt (old new : Memory) (change : Change) (ends_too_far : Bool) (result : Result Unit DiskFault) : Type 0 where
  pub first : new.first ≡ old.first
  pub calls : new.calls ≡ next_call old
  pub fails : new.fails ≡ old.fails
  pub reads : new.reads ≡ old.reads
  pub changes : (new.changes ≡ old.changes ++ change ∷ []) ⊎ (new.changes ≡ old.changes)
  pub done : OnOk result (new ≡ record (called old) { changes = old.changes ++ change ∷ [] })
  pub never_falls : old.faults ≤ new.faults
  pub fault : OnErr result (new.faults ≡ min (old.faults + 1) (2 ^ 64 - 1))
  pub listed : is_to_fail old ≡ true → IsErr result
  pub too_far : ends_too_far ≡ true → IsErr result
  pub else_starved : IsErr result → is_to_fail old ≡ false → ends_too_far ≡ false → new.starved ≡ true
  -- once it found no memory, it says so for good
  pub stays_starved : old.starved ≡ true → new.starved ≡ true

-- the last sync has the byte at this place, and it wasn't written since
abbrev pub is_kept : List ℕ → List Written → ℕ → Bool
is_kept synced ranges place = nat_lt place (length synced) && not (is_written ranges place)

-- how many of the places below this one are free
abbrev pub free_below : List ℕ → List Written → ℕ → ℕ
free_below synced ranges zero = 0
free_below synced ranges (suc place) = free_below synced ranges place + (if is_kept synced ranges place then 0 else 1)

-- the byte at a place of the image whose free places take the bytes of `choice` in turn, and then 0
abbrev pub chosen : List ℕ → List Written → List ℕ → ℕ → ℕ
chosen synced ranges choice place = if is_kept synced ranges place then slice_index synced place else slice_index choice (free_below synced ranges place)

-- the image of greatest length in which the free places take the bytes of `choice` in turn, and then 0
pub record IsImageBy (synced : List ℕ) (ranges : List Written) (choice image : List ℕ) : Type 0 where
  pub size : length image ≡ greatest_length (length synced) ranges
  pub bytes : (place : ℕ) → place < length image → slice_index image place ≡ chosen synced ranges choice place

-- what a disk in memory keeps: its bytes, and that at each moment the file was the longest since the last sync
pub record IsRecorded (first : List ℕ) (changes : List Change) (bytes : List ℕ) : Type 0 where
  pub reading : bytes ≡ (after (at_rest first) changes).reading
  pub longest : (moment : ℕ) → let s = state_at first changes moment in greatest_length (length s.synced) s.ranges ≡ length s.reading
