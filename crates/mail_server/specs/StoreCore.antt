-- What contracts see of the server's core over a store.
use Rattle.std.proofs.Common.{inl, inr, refl, sym, subst, arith}
use Rattle.std.specs.Prelude.{◌≡◌, ℕ, List, [], ◌∷◌, ◌++◌, Option, Some, None}
use Rattle.std.specs.List.{AllByRecursion}
use Rattle.disk_model.specs.Told.{Told, IfTold}
use Rattle.disk_model.specs.Images.{Only}
use Rattle.disk_model.specs.declared.disk.Files.{Files}
use Rattle.row_store.specs.ThreeFiles.{FileBytes, IsJointImage, LogMoments, moments, IsLeftSince}
use Rattle.row_store.specs.Holding.{Stored, stored_by, in_row, Holds}
use Rattle.row_store.specs.Crashes.{HoldsOne, JointlyHolds, IsSettled, LeavesStates, Leaves}
use Rattle.row_store.specs.Kept.{Store, IfContents}
use Rattle.session_view.specs.declared.sessions.SessionPart.{SessionPart}
use Rattle.mail_world.specs.Worlds.{World}
use Rattle.mail_stands.specs.Stands.{Stands}
use Rattle.mailbox_core.specs.Left.{Left, StandsForOne}
use Rattle.imap_steps.specs.Stepping.{Shared}
use Rattle.imap_exec.specs.Ready.{IsReady}
use Rattle.mail_rounds.specs.CoreSeen.{CoreSeen}
use Rattle.mail_server.specs.declared.store_core.StoreCore.{StoreCore}

-- The store's tables stand for the world that the sessions share, the files are at rest and hold these tables, and the sessions' own
-- parts are those.
pub record IsServing {D : Type 0} (told : Told D) (store : Store D) (parts : List SessionPart) (shared : Shared) : Type 0 where
  pub stands : IfContents told store (λ content. Stands content store.tables shared.world)
  pub settled : IfContents told store (λ content. IsSettled told store.files (stored_by content store.tables))
  pub parts_are : parts ≡ shared.parts

-- a moment of each log, as numbers
abbrev pub moments_of : LogMoments → List ℕ
moments_of since = since.log0 ∷ since.log1 ∷ []

abbrev pub LeftSince : {D : Type 0} → Told D → Files D → List ℕ → List World → Type 0
LeftSince told files [] worlds = Unit {0}
LeftSince told files (log0 ∷ []) worlds = Unit {0}
LeftSince told files (log0 ∷ log1 ∷ []) worlds = Left told files (record { log0 = log0; log1 = log1 }) worlds
LeftSince told files (log0 ∷ log1 ∷ more ∷ moments) worlds = Unit {0}

-- ---- why these are a core's

module _ {D : Type 0} (told : Told D) (files : Files D) (state : Stored) where
  abbrev HoldsAt : List ℕ → List ℕ → List ℕ → Type 0
  HoldsAt log0 log1 bodies = Holds (record { log0 = log0; log1 = log1; bodies = bodies }) state.tables state.contents

  held_at : (image : FileBytes) (log0 log1 bodies : List ℕ) → image.log0 ≡ log0 → image.log1 ≡ log1 → image.bodies ≡ bodies → HoldsAt log0 log1 bodies → Holds image state.tables state.contents
  held_at image log0 log1 bodies is0 is1 is_bodies holds =
      subst (λ b. HoldsAt image.log0 image.log1 b) (sym is_bodies) (subst (λ l. HoldsAt image.log0 l bodies) (sym is1) (subst (λ l. HoldsAt l log1 bodies) (sym is0) holds))

  pub record AtRest (log0 log1 bodies : List ℕ) : Type 0 where
    pub rest0 : Only log0 (told.images files.log0)
    pub rest1 : Only log1 (told.images files.log1)
    pub rest_bodies : Only bodies (told.images files.bodies)
    pub holds : HoldsAt log0 log1 bodies

  if_at_rest : (o p q : Option (List ℕ)) → IfTold o (λ r. Only r (told.images files.log0)) → IfTold p (λ r. Only r (told.images files.log1)) → IfTold q (λ r. Only r (told.images files.bodies))
      → IfTold o (λ a. IfTold p (λ b. IfTold q (λ c. HoldsAt a b c))) → IfTold o (λ a. IfTold p (λ b. IfTold q (λ c. AtRest a b c)))
  if_at_rest None p q r0 r1 rb holds = tt
  if_at_rest (Some a) None q r0 r1 rb holds = tt
  if_at_rest (Some a) (Some b) None r0 r1 rb holds = tt
  if_at_rest (Some a) (Some b) (Some c) r0 r1 rb holds = record { rest0 = r0; rest1 = r1; rest_bodies = rb; holds = holds }

  if_weaker : (o p q : Option (List ℕ)) (P Q : List ℕ → List ℕ → List ℕ → Type 0) → ((a b c : List ℕ) → P a b c → Q a b c) → IfTold o (λ a. IfTold p (λ b. IfTold q (λ c. P a b c))) → IfTold o (λ a. IfTold p (λ b. IfTold q (λ c. Q a b c)))
  if_weaker None p q P Q step fact = tt
  if_weaker (Some a) None q P Q step fact = tt
  if_weaker (Some a) (Some b) None P Q step fact = tt
  if_weaker (Some a) (Some b) (Some c) P Q step fact = step a b c fact

  rest_joint : (log0 log1 bodies : List ℕ) → AtRest log0 log1 bodies → (image : FileBytes) → IsJointImage told files image → HoldsOne image (state ∷ [])
  rest_joint log0 log1 bodies rest image is = inl (held_at image log0 log1 bodies (rest.rest0 image.log0 is.0) (rest.rest1 image.log1 is.1) (rest.rest_bodies image.bodies is.2) rest.holds)

  rest_each : (log0 log1 bodies : List ℕ) → AtRest log0 log1 bodies → (image : FileBytes) → IsLeftSince told files (moments told files) image → HoldsOne image (state ∷ [])
  rest_each log0 log1 bodies rest image (inl is) = rest_joint log0 log1 bodies rest image (told.now_alone files.log0 image.log0 is.0, is.1, is.2)
  rest_each log0 log1 bodies rest image (inr is) = rest_joint log0 log1 bodies rest image (is.0, told.now_alone files.log1 image.log1 is.1, is.2)

  pub settled_joint : IsSettled told files state → JointlyHolds told files (state ∷ [])
  settled_joint settled =
      if_weaker (told.reading files.log0) (told.reading files.log1) (told.reading files.bodies) (λ a b c. AtRest a b c) (λ a b c. (image : FileBytes) → IsJointImage told files image → HoldsOne image (state ∷ [])) rest_joint
      (if_at_rest (told.reading files.log0) (told.reading files.log1) (told.reading files.bodies) settled.rest.0 settled.rest.1 settled.rest.2 settled.holds)

  pub settled_leaves : IsSettled told files state → Leaves told files (moments told files) (state ∷ [])
  settled_leaves settled =
      if_weaker (told.reading files.log0) (told.reading files.log1) (told.reading files.bodies) (λ a b c. AtRest a b c) (λ a b c. LeavesStates told files (moments told files) (state ∷ []))
      (λ a b c rest. record { later0 = omega arith; later1 = omega arith; each = rest_each a b c rest })
      (if_at_rest (told.reading files.log0) (told.reading files.log1) (told.reading files.bodies) settled.rest.0 settled.rest.1 settled.rest.2 settled.holds)

-- what stands for one of some worlds stands for one of more
one_more : (more worlds : List World) (state : Stored) → StandsForOne worlds state → StandsForOne (more ++ worlds) state
one_more [] worlds state stands = stands
one_more (world ∷ more) worlds state stands = inr (one_more more worlds state stands)

all_more : (more worlds : List World) (states : List Stored) → AllByRecursion (StandsForOne worlds) states → AllByRecursion (StandsForOne (more ++ worlds)) states
all_more more worlds [] stand = tt
all_more more worlds (state ∷ states) stand = (one_more more worlds state stand.0, all_more more worlds states stand.1)

pub left_more : {D : Type 0} (told : Told D) (files : Files D) (since : List ℕ) (more worlds : List World) → LeftSince told files since worlds → LeftSince told files since (more ++ worlds)
left_more told files [] more worlds left = tt
left_more told files (log0 ∷ []) more worlds left = tt
left_more told files (log0 ∷ log1 ∷ []) more worlds left = record { states = left.states; stand = all_more more worlds left.states left.stand; joint = left.joint; moments = left.moments }
left_more told files (log0 ∷ log1 ∷ next ∷ moments) more worlds left = tt

pub serving_left : {D : Type 0} (told : Told D) (store : Store D) (parts : List SessionPart) (shared : Shared) → IsServing told store parts shared → LeftSince told store.files (moments_of (moments told store.files)) (shared.world ∷ [])
serving_left told store parts shared serving = record {
  states = stored_by in_row store.tables ∷ [];
  stand = (inl (record { content = in_row; contents = refl; stands = serving.stands }), tt);
  joint = settled_joint told store.files (stored_by in_row store.tables) serving.settled;
  moments = settled_leaves told store.files (stored_by in_row store.tables) serving.settled;
}

-- The core of a server over a store and the sessions' own parts.
unfoldable pub core_seen : {D : Type 0} (told : Told D) → CoreSeen (StoreCore D)
core_seen told = record {
  ready = λ core. IsReady core.store core.sessions;
  stands = λ core shared. IsServing told core.store core.sessions shared;
  moments = λ core. moments_of (moments told core.store.files);
  left = λ core since worlds. LeftSince told core.store.files since worlds;
  faults = λ core. told.faults core.store.files.log0 ∷ told.faults core.store.files.log1 ∷ told.faults core.store.files.bodies ∷ [];
  now = λ core shared serving. serving_left told core.store core.sessions shared serving;
  widened = λ core since more worlds left. left_more told core.store.files since more worlds left;
}
