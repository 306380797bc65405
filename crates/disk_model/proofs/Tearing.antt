-- One torn write leads from the images before it to those after it, and to no others.
use Rattle.std.proofs.Common.{◌≡◌, ◌⊎◌, ◌↔◌, ◌||◌, ◌&&◌, not, nat_lt, inl, inr, ℕ, ◌+◌, ◌<◌, ◌≤◌, min, Bool, true, false, cond, List, [], ◌∷◌, length, get_or, slice_index, refl, sym, ◌∙◌, ap, map, arith}
use Rattle.std.specs.List.{range_with_len}
use Rattle.std.proofs.lemmas.List.{ext_get_or}
use Rattle.std.proofs.lemmas.List.FromFn.{length-map-range_with_len, get_or-map-range_with_len}
use Rattle.std.proofs.lemmas.Bool.Decides.{nat_tests}
use Rattle.disk_model.specs.declared.memory.Written.{Written}
use Rattle.disk_model.specs.Images.{IsImage, Torn, TornThrough, is_within, is_written, greatest_length}
use Rattle.disk_model.specs.Memory.{IsImageBy, free_below}
use Rattle.disk_model.specs.Lawful.{outside_first}

synced_fits : (synced : ℕ) (ranges : List Written) → synced ≤ greatest_length synced ranges
synced_fits synced [] = omega arith
synced_fits synced (range ∷ ranges) = omega (arith, synced_fits synced ranges)

-- an image, torn in one more range, is an image
pub torn_is_image : (synced : List ℕ) (range : Written) (ranges : List Written) (before image : List ℕ) → IsImage synced ranges before → Torn range.at range.count before image → IsImage synced (range ∷ ranges) image
torn_is_image synced range ranges before image was torn = record {
  kept = λ place lt free. let out = outside_first range ranges place free in torn.kept place (omega (arith, was.no_shorter)) out.0 ∙ was.kept place lt out.1;
  no_shorter = omega (arith, was.no_shorter, torn.no_shorter);
  no_longer = omega (arith, was.no_longer, torn.no_longer);
}

module _ (synced : List ℕ) (range : Written) (ranges : List Written) (image : List ℕ) (is : IsImage synced (range ∷ ranges) image) where
  -- the image as it could have been before the write: with the last sync's bytes in its range
  byte_before : ℕ → ℕ
  byte_before place = cond (is_within range place) (get_or synced place 0) (get_or image place 0)

  size_before : ℕ
  size_before = min (length image) (greatest_length (length synced) ranges)

  abbrev before : List ℕ
  before = map byte_before (range_with_len 0 size_before)

  length-before : length before ≡ size_before
  length-before = length-map-range_with_len byte_before 0 size_before

  before_at : (place : ℕ) → place < size_before → get_or before place 0 ≡ byte_before place
  before_at place lt = get_or-map-range_with_len byte_before 0 size_before place place 0 lt (omega arith)

  size_is : size_before ≡ min (length image) (greatest_length (length synced) ranges)
  unfolding size_before
  size_is = refl

  synced_there : length synced ≤ size_before
  synced_there = omega (arith, size_is, is.no_shorter, synced_fits (length synced) ranges)

  within_gives : (place : ℕ) (b : Bool) → is_within range place ≡ b → byte_before place ≡ cond b (get_or synced place 0) (get_or image place 0)
  unfolding byte_before
  within_gives place b e = ap (λ v. cond v (get_or synced place 0) (get_or image place 0)) e

  kept_before : (place : ℕ) → place < length synced → is_written ranges place ≡ false → get_or before place 0 ≡ get_or synced place 0
  kept_before place lt free = before_at place (omega (arith, synced_there)) ∙ by (is_within range place) refl
    where
      by : (b : Bool) → is_within range place ≡ b → byte_before place ≡ get_or synced place 0
      by true e = within_gives place true e
      by false e = within_gives place false e ∙ is.kept place lt (ap (λ (v : Bool). v || is_written ranges place) e ∙ free)

  outside : (place : ℕ) → (place < range.at) ⊎ (range.at + range.count ≤ place) → is_within range place ≡ false
  outside place (inl lt) = grind (arith, nat_tests)
  outside place (inr ge) = grind (arith, nat_tests)

  pub was_image : (d : List ℕ) × IsImage synced ranges d × Torn range.at range.count d image
  was_image = (
    before,
    record {
      kept = kept_before;
      no_shorter = omega (arith, length-before, synced_there);
      no_longer = omega (arith, length-before, size_is);
    },
    record {
      kept = λ place lt out. let small : place < size_before = omega (arith, length-before) in sym (before_at place small ∙ within_gives place false (outside place out));
      no_shorter = omega (arith, length-before, size_is);
      no_longer = omega (arith, length-before, size_is, is.no_longer);
    },
  )

pub exact : (synced : List ℕ) (ranges : List Written) (image : List ℕ) → TornThrough synced ranges image ↔ IsImage synced ranges image
exact synced [] image = (
  λ same. record {
    kept = λ place lt free. ap (λ (l : List ℕ). get_or l place 0) same;
    no_shorter = omega (arith, ap length same);
    no_longer = omega (arith, ap length same);
  },
  λ is. ext_get_or 0 image synced (omega (arith, is.no_shorter, is.no_longer)) (λ place lt. is.kept place (omega (arith, is.no_longer)) refl),
)
exact synced (range ∷ ranges) image = (
  λ torn. torn_is_image synced range ranges torn.0 image ((exact synced ranges torn.0).0 torn.1) torn.2,
  λ is. let was = was_image synced range ranges image is in (was.0, (exact synced ranges was.0).1 was.1, was.2),
)

-- an image whose free bytes were chosen is an image
pub chosen_is_image : (synced : List ℕ) (ranges : List Written) (choice image : List ℕ) → IsImageBy synced ranges choice image → IsImage synced ranges image
chosen_is_image synced ranges choice image is = record {
  kept = λ place lt free. is.bytes place (omega (arith, is.size, synced_fits (length synced) ranges)) ∙ by place lt (is_written ranges place) free;
  no_shorter = omega (arith, is.size, synced_fits (length synced) ranges);
  no_longer = omega (arith, is.size);
}
  where
    by : (place : ℕ) → place < length synced → (b : Bool) → b ≡ false → cond (nat_lt place (length synced) && not b) (slice_index synced place) (slice_index choice (free_below synced ranges place)) ≡ slice_index synced place
    by place lt b e = grind (arith, nat_tests)
