-- What a crash leaves of a store.
use Rattle.std.specs.Prelude.{◌⊎◌, ℕ, ◌≤◌, List, [], ◌∷◌, ◌++◌}
use Rattle.disk_model.specs.Told.{Told, IfTold}
use Rattle.disk_model.specs.declared.disk.Files.{Files}
use Rattle.row_store.specs.ThreeFiles.{FileBytes, IfRead, IsJointImage, AreAtRest, LogMoments, moments, IsLeftSince}
use Rattle.row_store.specs.OpenLog.{open_log, HasPayloads}
use Rattle.row_store.specs.Holding.{Stored, Holds}

-- the files hold one of these states
abbrev pub HoldsOne : FileBytes → List Stored → Type 0
HoldsOne files [] = ⊥
HoldsOne files (state ∷ states) = Holds files state.tables state.contents ⊎ HoldsOne files states

-- every joint image holds one of these states
abbrev pub JointlyHolds : {D : Type 0} → Told D → Files D → List Stored → Type 0
JointlyHolds told files states = IfRead told files (λ _. (image : FileBytes) → IsJointImage told files image → HoldsOne image states)

-- the files are at rest, and hold this state
pub record IsSettled {D : Type 0} (told : Told D) (files : Files D) (state : Stored) : Type 0 where
  pub rest : AreAtRest told files
  pub holds : IfRead told files (λ bytes. Holds bytes state.tables state.contents)

-- Every image of a log of a moment since an earlier one, with each image of the two other files of now, holds one of these
-- states. So does every joint image of now.
pub record LeavesStates {D : Type 0} (told : Told D) (files : Files D) (since : LogMoments) (states : List Stored) : Type 0 where
  pub later0 : since.log0 ≤ told.moment files.log0
  pub later1 : since.log1 ≤ told.moment files.log1
  pub each : (image : FileBytes) → IsLeftSince told files since image → HoldsOne image states

abbrev pub Leaves : {D : Type 0} → Told D → Files D → LogMoments → List Stored → Type 0
Leaves told files since states = IfRead told files (λ _. LeavesStates told files since states)

-- the open log has one payload more than before
abbrev pub Appends : {D : Type 0} → Told D → Files D → Files D → List ℕ → Type 0
Appends told old new payload =
    IfTold (told.reading (open_log old)) (λ before. (generation : ℕ) (payloads : List (List ℕ)) → HasPayloads generation payloads before
    → IfTold (told.reading (open_log new)) (HasPayloads generation (payloads ++ payload ∷ [])))

-- What a call that changes the state leaves of the files, with whatever answer; `done` says that it was Ok. The states of a list
-- are the newest first.
pub record Commits {D : Type 0} (told : Told D) (done : Type 0) (old new : Files D) (before after : Stored) : Type 0 where
  -- after Ok the files are at rest, and hold the new state
  pub settled : done → IsSettled told new after
  -- at each return every joint image holds the old state or the new one
  pub joint : JointlyHolds told new (after ∷ before ∷ [])
  -- and so does every image of a log of a moment within the call
  pub within : Leaves told new (moments told old) (after ∷ before ∷ [])
  -- for a run that began earlier
  pub since : (since : LogMoments) (states : List Stored) → Leaves told old since states → Leaves told new since (after ∷ before ∷ states)

-- The same for a call that keeps the state.
pub record Stays {D : Type 0} (told : Told D) (done : Type 0) (old new : Files D) (state : Stored) : Type 0 where
  pub settled : done → IsSettled told new state
  pub joint : JointlyHolds told new (state ∷ [])
  pub within : Leaves told new (moments told old) (state ∷ [])
  pub since : (since : LogMoments) (states : List Stored) → Leaves told old since states → Leaves told new since states
