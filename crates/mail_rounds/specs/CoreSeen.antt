-- What contracts know of the core of a server, which has all that it does beside its links.
use Rattle.std.specs.Prelude.{ℕ, ◌≡◌, ◌⊎◌, List, [], ◌∷◌, ◌++◌}
use Rattle.fault_counts.specs.Rose.{Rose}
use Rattle.imap_steps.specs.Stepping.{World, Shared}

-- The meanings of a core, and their laws.
pub record CoreSeen (C : Type 0) : Type 1 where
  -- it can be asked: no earlier call on it answered a fault
  pub ready : C → Type 0
  -- it stands for what the sessions share: the world of mail and their own parts
  pub stands : C → Shared → Type 0
  -- the moments of its files
  pub moments : C → List ℕ
  -- each image that a crash leaves, of now or of a moment of a file since earlier ones, stands for one of these worlds, the newest first
  pub left : C → List ℕ → List World → Type 0
  -- how often calls on its files failed
  pub faults : C → List ℕ
  -- since now a crash leaves the world that it stands for
  pub now : (core : C) (shared : Shared) → stands core shared → left core (moments core) (shared.world ∷ [])
  -- what stands for one of some worlds stands for one of more
  pub widened : (core : C) (since : List ℕ) (more worlds : List World) → left core since worlds → left core since (more ++ worlds)

-- one of some counts rose
abbrev pub SomeRose : List ℕ → List ℕ → Type 0
SomeRose [] new = ⊥
SomeRose (count ∷ counts) [] = ⊥
SomeRose (count ∷ counts) (later ∷ laters) = Rose count later ⊎ SomeRose counts laters

-- A call left the files alone: what a crash leaves is as before, and so are the moments and the counts of faults.
pub record LeavesFiles {C : Type 0} (seen : CoreSeen C) (old new : C) : Type 0 where
  pub left : (since : List ℕ) (worlds : List World) → seen.left old since worlds → seen.left new since worlds
  pub moments : seen.moments new ≡ seen.moments old
  pub faults : seen.faults new ≡ seen.faults old
