-- The meanings of a disk in memory, and that they keep the laws.
use Rattle.std.specs.Prelude.{◌≡◌, ◌⊎◌, ◌||◌, ℕ, ◌<◌, ◌≤◌, ◌+◌, ◌-◌, max, Bool, true, false, List, [], ◌∷◌, ◌++◌, length, take, drop, slice_index, Some, refl}
use Rattle.std.proofs.Common.{sym, ◌∙◌, ap, subst, inl, inr, arith, get_or, length-append, length-take, length-drop}
use Rattle.std.proofs.lemmas.List.{take_all, get_or_append_left, get_or-append_right, get_or-take, get_or-drop}
use Rattle.std.proofs.lemmas.Bool.Decides.{nat_tests}
use Rattle.disk_model.specs.declared.memory.Change.{Change}
use Rattle.disk_model.specs.declared.memory.Change.TheVariants.{Write, Sync}
use Rattle.disk_model.specs.declared.memory.Written.{Written}
use Rattle.disk_model.specs.Told.{Told}
use Rattle.disk_model.specs.Images.{IsImage, is_within, is_written}
use Rattle.disk_model.specs.Calls.{overwritten}
use Rattle.disk_model.specs.Memory.{Memory, State, at_rest, next, after, state_at, state_of}

-- what a crash at a state may leave
abbrev pub may_leave : State → List ℕ → Type 0
may_leave s image = IsImage s.synced s.ranges image

-- what a crash at a moment since this one might have left
abbrev pub left_of : Memory → ℕ → List ℕ → Type 0
left_of disk since image = (moment : ℕ) × (since ≤ moment) × (moment ≤ length disk.changes) × may_leave (state_at disk.first disk.changes moment) image

pub length-overwritten : (at : ℕ) (piece file : List ℕ) → (length file ≤ length (overwritten at piece file)) × (length (overwritten at piece file) ≤ max (length file) (at + length piece))
length-overwritten at piece file =
    let a = length-append (take at file ++ piece) (drop (at + length piece) file) in
    let b = length-append (take at file) piece in
    (omega (arith, a, b, length-take at file, length-drop (at + length piece) file), omega (arith, a, b, length-take at file, length-drop (at + length piece) file))

-- outside of its range a write changes nothing
pub overwritten_outside : (at : ℕ) (piece file : List ℕ) (place : ℕ) → place < length file → (place < at) ⊎ (at + length piece ≤ place) → slice_index (overwritten at piece file) place ≡ slice_index file place
overwritten_outside at piece file place lt (inl before) =
    get_or_append_left (take at file ++ piece) (drop (at + length piece) file) 0 place (omega (arith, length-append (take at file) piece, length-take at file))
    ∙ get_or_append_left (take at file) piece 0 place (omega (arith, length-take at file)) ∙ get_or-take at file place 0 before
overwritten_outside at piece file place lt (inr behind) =
    let size : length (take at file ++ piece) ≡ at + length piece = omega (arith, length-append (take at file) piece, length-take at file) in
    get_or-append_right (take at file ++ piece) (drop (at + length piece) file) (at + length piece) place 0 size behind
    ∙ get_or-drop (at + length piece) file (place - (at + length piece)) 0 ∙ ap (λ j. get_or file j 0) (omega arith)

-- a place that no range of the list has is outside of the first
pub outside_first : (range : Written) (ranges : List Written) (place : ℕ) → is_written (range ∷ ranges) place ≡ false → ((place < range.at) ⊎ (range.at + range.count ≤ place)) × (is_written ranges place ≡ false)
outside_first range ranges place free = split (is_within range place) (is_written ranges place) refl free
  where
    split : (a b : Bool) → is_within range place ≡ a → (a || b) ≡ false → ((place < range.at) ⊎ (range.at + range.count ≤ place)) × (b ≡ false)
    split true b is or = cc
    split false b is or = (outside is, or)
      where
        outside : is_within range place ≡ false → (place < range.at) ⊎ (range.at + range.count ≤ place)
        outside is = grind (arith, nat_tests)

image_next : (s : State) → may_leave s s.reading → (change : Change) → may_leave (next s change) (next s change).reading
image_next s now (Write at piece) =
    let l = length-overwritten at piece s.reading in
    record {
      kept = λ place lt free.
          let out = outside_first (record { at = at; count = length piece }) s.ranges place free in
          overwritten_outside at piece s.reading place (omega (arith, now.no_shorter)) out.0 ∙ now.kept place lt out.1;
      no_shorter = omega (arith, now.no_shorter, l.0);
      no_longer = omega (arith, now.no_longer, l.1);
    }
image_next s now Sync = record { kept = λ place lt free. refl; no_shorter = omega arith; no_longer = omega arith }

image_after : (s : State) → may_leave s s.reading → (changes : List Change) → may_leave (after s changes) (after s changes).reading
image_after s now [] = now
image_after s now (change ∷ changes) = image_after (next s change) (image_next s now change) changes

pub reading_is_image_of : (disk : Memory) → may_leave (state_of disk) (state_of disk).reading
reading_is_image_of disk = image_after (at_rest disk.first) (record { kept = λ place lt free. refl; no_shorter = omega arith; no_longer = omega arith }) disk.changes

pub now_counts_of : (disk : Memory) (since : ℕ) (image : List ℕ) → since ≤ length disk.changes → may_leave (state_of disk) image → left_of disk since image
now_counts_of disk since image le now = (length disk.changes, le, omega arith, subst (λ changes. may_leave (after (at_rest disk.first) changes) image) (sym (take_all (length disk.changes) disk.changes (omega arith))) now)

pub now_alone_of : (disk : Memory) (image : List ℕ) → left_of disk (length disk.changes) image → may_leave (state_of disk) image
now_alone_of disk image (moment, le, within, left) = subst (λ changes. may_leave (after (at_rest disk.first) changes) image) (take_all moment disk.changes le) left

pub since_earlier_of : (disk : Memory) (earlier later : ℕ) (image : List ℕ) → earlier ≤ later → left_of disk later image → left_of disk earlier image
since_earlier_of disk earlier later image le (moment, from, within, left) = (moment, omega arith, within, left)

-- the meanings of a disk in memory
abbrev pub memory_told : Told Memory
memory_told = record {
  reading = λ disk. Some (state_of disk).reading;
  images = λ disk image. may_leave (state_of disk) image;
  moment = λ disk. length disk.changes;
  left_since = left_of;
  faults = λ disk. disk.faults;
  reads = λ disk. disk.reads;
  reading_is_image = reading_is_image_of;
  now_counts = now_counts_of;
  now_alone = now_alone_of;
  since_earlier = since_earlier_of;
}
