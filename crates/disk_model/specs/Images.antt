-- What a crash may leave of a disk.
use Rattle.std.specs.Prelude.{◌≡◌, ◌⊎◌, ◌&&◌, ℕ, ◌+◌, ◌<◌, ◌≤◌, max, Bool, false, List, [], ◌∷◌, length, slice_index, nat_lt, nat_le}
use Rattle.std.specs.List.{list_any}
use Rattle.disk_model.specs.declared.memory.Written.{Written}

abbrev pub is_within : Written → ℕ → Bool
is_within range place = nat_le range.at place && nat_lt place (range.at + range.count)

-- the place is in one of the ranges
abbrev pub is_written : List Written → ℕ → Bool
is_written ranges place = list_any (λ range. is_within range place) ranges

-- the greatest length since a sync of a file of this length, after which these ranges were written
abbrev pub greatest_length : ℕ → List Written → ℕ
greatest_length synced [] = synced
greatest_length synced (range ∷ ranges) = max (range.at + range.count) (greatest_length synced ranges)

-- What a crash may leave of a disk whose last sync made sure of the bytes `synced`, and on which these
-- ranges were written since: outside of the ranges the bytes of that sync stand, and every other byte is any byte.
pub record IsImage (synced : List ℕ) (ranges : List Written) (image : List ℕ) : Type 0 where
  pub kept : (place : ℕ) → place < length synced → is_written ranges place ≡ false → slice_index image place ≡ slice_index synced place
  pub no_shorter : length synced ≤ length image
  pub no_longer : length image ≤ greatest_length (length synced) ranges

-- What a crash within a write of `count` bytes may make of a file: any bytes in the range and behind the
-- old end, no shorter, and no longer than the file or the range.
pub record Torn (at count : ℕ) (old new : List ℕ) : Type 0 where
  pub kept : (place : ℕ) → place < length old → (place < at) ⊎ (at + count ≤ place) → slice_index new place ≡ slice_index old place
  pub no_shorter : length old ≤ length new
  pub no_longer : length new ≤ max (length old) (at + count)

-- each new image is an old one, torn in this range
abbrev pub Tears : ℕ → ℕ → (List ℕ → Type 0) → (List ℕ → Type 0) → Type 0
Tears at count old new = (image : List ℕ) → new image → (before : List ℕ) × old before × Torn at count before image

-- each old image, torn in this range, is a new one
abbrev pub TearsAll : ℕ → ℕ → (List ℕ → Type 0) → (List ℕ → Type 0) → Type 0
TearsAll at count old new = (image before : List ℕ) → old before → Torn at count before image → new image

-- the bytes, torn in one of the ranges after the other, the last of the list first
abbrev pub TornThrough : List ℕ → List Written → List ℕ → Type 0
TornThrough bytes [] image = image ≡ bytes
TornThrough bytes (range ∷ ranges) image = (before : List ℕ) × TornThrough bytes ranges before × Torn range.at range.count before image

-- a crash leaves this alone
abbrev pub Only : List ℕ → (List ℕ → Type 0) → Type 0
Only bytes images = (image : List ℕ) → images image → image ≡ bytes
