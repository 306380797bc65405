-- Which worlds a crash may leave while the machine makes changes. Worlds and changes of a list are the newest first.
use Rattle.std.specs.Prelude.{ℕ, ◌≡◌, List, [], ◌∷◌, ◌++◌, Option, Some, None, length}
use Rattle.port_model.specs.declared.calls.PortCall.{PortCall}
use Rattle.imap_steps.specs.Stepping.{World, Change, Shared, Stepped, applied, after_step}
use Rattle.mail_model.specs.Machine.{Made, Taking, and_change, after}
use Rattle.mail_model.specs.Changes.{folded}
use Rattle.mail_rounds.specs.CoreSeen.{CoreSeen}

-- the worlds after a change, if there is one, and before it, in front of earlier ones
abbrev pub worlds_after : World → Option Change → List World → List World
worlds_after world None earlier = world ∷ earlier
worlds_after world (Some change) earlier = applied world change ∷ world ∷ earlier

-- The worlds after all of some changes, after all but the newest and so on, down to the one before them, in front of earlier ones.
abbrev pub worlds_since : World → List Made → List World → List World
worlds_since world [] earlier = world ∷ earlier
worlds_since world (made ∷ older) earlier = folded world (made ∷ older) ∷ worlds_since world older earlier

-- A crash leaves the world before a change or after it, or, where it may be of an earlier moment, one of before.
abbrev pub MayLeave : {C : Type 0} → CoreSeen C → C → C → World → Option Change → Type 0
MayLeave seen old new world change =
    (since : List ℕ) (earlier : List World) → seen.left old since (world ∷ earlier) → seen.left new since (worlds_after world change earlier)

-- A machine went from a world, after some changes, to another: by these changes more. A crash leaves the world after some of
-- them, so that all changes before are kept, or, where it may be of an earlier moment, one of before.
pub record Crashes {C : Type 0} (seen : CoreSeen C) (old new : C) (world : World) (changes : List Made) (later : World) (all : List Made) : Type 0 where
  pub made : List Made
  pub changes_are : all ≡ made ++ changes
  pub world_is : later ≡ folded world made
  pub left : (since : List ℕ) (earlier : List World) → seen.left old since (world ∷ earlier) → seen.left new since (worlds_since world made earlier)

-- the same of what a session takes
abbrev pub TakingCrashes : {C : Type 0} → CoreSeen C → C → C → Taking → Taking → Type 0
TakingCrashes seen old new before later = Crashes seen old new before.shared.world before.changes later.shared.world later.changes

-- the same of the machine, from one history to a longer one
abbrev pub MachineCrashes : {C : Type 0} → CoreSeen C → C → C → World → List PortCall → List PortCall → Type 0
MachineCrashes seen old new first before later =
    Crashes seen old new (after first before).shared.world (after first before).changes (after first later).shared.world (after first later).changes

-- the same of a greeting, whose change stands for its answer from so many bytes on, in front of these changes
abbrev pub GreetingCrashes : {C : Type 0} → CoreSeen C → C → C → Shared → ℕ → Stepped → ℕ → List Made → Type 0
GreetingCrashes seen old new shared number greeted from changes =
    Crashes seen old new shared.world changes (after_step shared number greeted).world (and_change greeted.change number from (length greeted.answer) changes)
