-- What a commit leaves of a store that stands for a world.
use Rattle.std.proofs.Common.{◌≡◌, ℕ, List, [], ◌∷◌, Option, Some, None, Result, IsOk, inl, inr, refl, sym, subst}
use Rattle.std.specs.List.{AllByRecursion}
use Rattle.disk_model.specs.Told.{Told, IfTold}
use Rattle.disk_model.specs.declared.disk.Files.{Files}
use Rattle.row_tables.specs.TableRows.{TableRows}
use Rattle.row_store.specs.ThreeFiles.{FileBytes, IfRead, IsJointImage, LogMoments, moments}
use Rattle.row_store.specs.Holding.{Stored, stored, in_row}
use Rattle.row_store.specs.Crashes.{HoldsOne, JointlyHolds, IsSettled, LeavesStates, Leaves, Commits, Stays}
use Rattle.row_store.specs.Kept.{Store}
use Rattle.mail_world.specs.Worlds.{World}
use Rattle.mail_stands.specs.Stands.{Stands}
use Rattle.mailbox_core.specs.declared.faults.MailFault.{MailFault}
use Rattle.mailbox_core.specs.Left.{Left, StandsFor, StandsForOne}
use Rattle.mailbox_core.specs.Calls.{AnswersUnlessFailed, IsMade}

-- ---- facts that hold where the disks tell their readings

if_all : (o p q : Option (List ℕ)) (P Q : FileBytes → Type 0) → ((files : FileBytes) → P files → Q files)
    → IfTold o (λ x. IfTold p (λ y. IfTold q (λ z. P (record { log0 = x; log1 = y; bodies = z }))))
    → IfTold o (λ x. IfTold p (λ y. IfTold q (λ z. Q (record { log0 = x; log1 = y; bodies = z }))))
if_all None p q P Q step fact = tt
if_all (Some x) None q P Q step fact = tt
if_all (Some x) (Some y) None P Q step fact = tt
if_all (Some x) (Some y) (Some z) P Q step fact = step (record { log0 = x; log1 = y; bodies = z }) fact

module _ {D : Type 0} (told : Told D) where
  pub if_read : (files : Files D) (P Q : FileBytes → Type 0) → ((bytes : FileBytes) → P bytes → Q bytes) → IfRead told files P → IfRead told files Q
  if_read files P Q step fact = if_all (told.reading files.log0) (told.reading files.log1) (told.reading files.bodies) P Q step fact

  -- what is left since an earlier moment is left now
  pub joint_of : (files : Files D) (since : LogMoments) (states : List Stored) → Leaves told files since states → JointlyHolds told files states
  joint_of files since states left =
      if_read files (λ _. LeavesStates told files since states) (λ _. (image : FileBytes) → IsJointImage told files image → HoldsOne image states)
      (λ bytes leaves image joint. leaves.each image (inl (told.now_counts files.log0 since.log0 image.log0 leaves.later0 joint.0, joint.1, joint.2))) left

  -- one state more than the files hold
  pub joint_more : (files : Files D) (state : Stored) (states : List Stored) → JointlyHolds told files states → JointlyHolds told files (state ∷ states)
  joint_more files state states joint =
      if_read files (λ _. (image : FileBytes) → IsJointImage told files image → HoldsOne image states) (λ _. (image : FileBytes) → IsJointImage told files image → HoldsOne image (state ∷ states))
      (λ bytes holds image is. inr (holds image is)) joint

  pub leaves_more : (files : Files D) (since : LogMoments) (state : Stored) (states : List Stored) → Leaves told files since states → Leaves told files since (state ∷ states)
  leaves_more files since state states left =
      if_read files (λ _. LeavesStates told files since states) (λ _. LeavesStates told files since (state ∷ states))
      (λ bytes leaves. record { later0 = leaves.later0; later1 = leaves.later1; each = λ image is. inr (leaves.each image is) }) left

  -- nothing was committed
  pub commits_nothing : (done : Type 0) (files : Files D) (before after : Stored) → (done → ⊥) → Stays told (Unit {0}) files files before → Commits told done files files before after
  commits_nothing done files before after never stays = record {
    settled = λ d. absurd (never d);
    joint = joint_more files after (before ∷ []) stays.joint;
    within = leaves_more files (moments told files) after (before ∷ []) stays.within;
    since = λ since states left. leaves_more files since after (before ∷ states) (leaves_more files since before states left);
  }

  -- nothing was to be committed
  pub commits_none : (done : Type 0) (files : Files D) (state : Stored) → Stays told (Unit {0}) files files state → Commits told done files files state state
  commits_none done files state stays = record {
    settled = λ d. stays.settled tt;
    joint = joint_more files state (state ∷ []) stays.joint;
    within = leaves_more files (moments told files) state (state ∷ []) stays.within;
    since = λ since states left. leaves_more files since state (state ∷ states) (leaves_more files since state states left);
  }

-- ---- worlds

pub stand_more : (world : World) (worlds : List World) (states : List Stored) → AllByRecursion (StandsForOne worlds) states → AllByRecursion (StandsForOne (world ∷ worlds)) states
stand_more world worlds [] stand = tt
stand_more world worlds (state ∷ states) stand = (inr stand.0, stand_more world worlds states stand.1)

pub stored_stands : (t : TableRows) (world : World) → Stands in_row t world → StandsFor (stored t) world
stored_stands t world stands = record { content = in_row; contents = refl; stands = stands }

module _ {D : Type 0} (told : Told D) {T : Type 0} (result : Result T MailFault) (old new : Store D) (after : TableRows) (world next : World) where
  module _ (commits : Commits told (IsOk result) old.files new.files (stored old.tables) (stored after)) (before_stands : Stands in_row old.tables world) (after_stands : Stands in_row after next) where
    two : (states : List Stored) (worlds : List World) → AllByRecursion (StandsForOne (world ∷ worlds)) states → AllByRecursion (StandsForOne (next ∷ world ∷ worlds)) (stored after ∷ stored old.tables ∷ states)
    two states worlds stand = (inl (stored_stands after next after_stands), (inr (inl (stored_stands old.tables world before_stands)), stand_more next (world ∷ worlds) states stand))

    left_within : Left told new.files (moments told old.files) (next ∷ world ∷ [])
    left_within = record {
      states = stored after ∷ stored old.tables ∷ [];
      stand = two [] [] tt;
      joint = commits.joint;
      moments = commits.within;
    }

    left_since : (since : LogMoments) (earlier : List World) → Left told old.files since (world ∷ earlier) → Left told new.files since (next ∷ world ∷ earlier)
    left_since since earlier left =
        let moments = commits.since since left.states left.moments in
        record {
          states = stored after ∷ stored old.tables ∷ left.states;
          stand = two left.states earlier left.stand;
          joint = joint_of told new.files since (stored after ∷ stored old.tables ∷ left.states) moments;
          moments = moments;
        }

    -- a commit is a change of the world
    pub is_made : (answer : T) → AnswersUnlessFailed result answer → (IsOk result → new.tables ≡ after) → IsMade told result old new world next answer
    is_made answer answers done = record {
      answers = answers;
      stands = λ ok. subst (λ (t : TableRows). Stands in_row t next) (sym (done ok)) after_stands;
      settled = λ ok. subst (λ (t : TableRows). IsSettled told new.files (stored t)) (sym (done ok)) (commits.settled ok);
      within = left_within;
      since = left_since;
    }
