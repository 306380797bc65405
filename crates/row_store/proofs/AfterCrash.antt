-- What a crash leaves of a store while changes are added to its log.
use Rattle.std.proofs.Common.{◌≡◌, ◌⊎◌, ℕ, ◌≤◌, List, [], ◌∷◌, ◌++◌, Option, Some, None, inl, inr, ⊎_elim, false, refl, sym, ◌∙◌, subst, arith}
use Rattle.disk_model.specs.Told.{Told, IfTold, SameTold}
use Rattle.disk_model.specs.Images.{Only}
use Rattle.disk_model.specs.Calls.{IsAtRest, LeavesOnly}
use Rattle.disk_model.specs.declared.disk.Files.{Files}
use Rattle.redo_log.specs.Text.{IsLog, EndsAt, IsBeforeOrAfter}
use Rattle.redo_log.specs.Kept.{Kept, HasLog}
use Rattle.row_tables.specs.TableRows.{TableRows, no_rows}
use Rattle.row_store.specs.ThreeFiles.{FileBytes, IfRead, IsJointImage, AreAtRest, LogMoments, moments, IsLeftSince}
use Rattle.row_store.specs.Holding.{Stored, stored, content_in, Holds, Replays}
use Rattle.row_store.specs.Crashes.{HoldsOne, JointlyHolds, IsSettled, LeavesStates, Leaves, Appends, Commits, Stays}
use Rattle.row_store.specs.Kept.{IsKept}
use Rattle.row_store.proofs.Loads.{SaysOneThing}

-- what a log says, the files hold
holds_log : (format generation : ℕ) (payloads : List (List ℕ)) (tables : TableRows) (image : FileBytes) → format ≡ 0 → IsLog format generation payloads image.log0 → Replays no_rows payloads tables → Holds image tables (content_in tables)
holds_log format generation payloads tables image known log replay = record {
  generation = generation;
  payloads = payloads;
  log = subst (λ f. IsLog f generation payloads image.log0) known log;
  replay = replay;
  bodies = λ id. refl;
}

-- ---- facts that hold where the disks tell their readings

if_all : (o p q : Option (List ℕ)) (P : Type 0) → P → IfTold o (λ _. IfTold p (λ _. IfTold q (λ _. P)))
if_all None p q P fact = tt
if_all (Some x) None q P fact = tt
if_all (Some x) (Some y) None P fact = tt
if_all (Some x) (Some y) (Some z) P fact = fact

-- from a fact about the first log
from_log : (o n p q : Option (List ℕ)) (L P : Type 0) → SameTold o n → (L → P) → IfTold o (λ _. L) → IfTold n (λ _. IfTold p (λ _. IfTold q (λ _. P)))
from_log None None p q L P same step fact = tt
from_log None (Some y) p q L P same step fact = absurd same
from_log (Some x) None p q L P same step fact = absurd same
from_log (Some x) (Some y) p q L P same step fact = if_all (Some y) p q P (step fact)

-- and from one about all files besides
from_both : (o n p q : Option (List ℕ)) (L M P : Type 0) → SameTold o n → (L → M → P) → IfTold o (λ _. L) → IfTold o (λ _. IfTold p (λ _. IfTold q (λ _. M))) → IfTold n (λ _. IfTold p (λ _. IfTold q (λ _. P)))
from_both None None p q L M P same step fact other = tt
from_both None (Some y) p q L M P same step fact other = absurd same
from_both (Some x) None p q L M P same step fact other = absurd same
from_both (Some x) (Some y) None q L M P same step fact other = tt
from_both (Some x) (Some y) (Some z) None L M P same step fact other = tt
from_both (Some x) (Some y) (Some z) (Some w) L M P same step fact other = step fact other

if_weaker : (o p q : Option (List ℕ)) (P Q : Type 0) → (P → Q) → IfTold o (λ _. IfTold p (λ _. IfTold q (λ _. P))) → IfTold o (λ _. IfTold p (λ _. IfTold q (λ _. Q)))
if_weaker None p q P Q step fact = tt
if_weaker (Some x) None q P Q step fact = tt
if_weaker (Some x) (Some y) None P Q step fact = tt
if_weaker (Some x) (Some y) (Some z) P Q step fact = step fact

module _ {D : Type 0} (told : Told D) (log : Kept) (files : Files D) (tables : TableRows) (kept : IsKept told log files tables) where
  abbrev Reads0 : List ℕ → Type 0
  Reads0 reading = Only reading (told.images files.log0) × EndsAt log.format log.generation kept.payloads log.end reading

  held_by : (image : FileBytes) → IsLog log.format log.generation kept.payloads image.log0 → Holds image tables (content_in tables)
  held_by image text = holds_log log.format log.generation kept.payloads tables image kept.format text kept.replay

  rest0 : (o : Option (List ℕ)) → IfTold o Reads0 → IfTold o (λ reading. Only reading (told.images files.log0))
  rest0 None has = tt
  rest0 (Some x) has = has.0

  holds0 : (o p q : Option (List ℕ)) → IfTold o Reads0 → IfTold o (λ log0. IfTold p (λ log1. IfTold q (λ bodies. Holds (record { log0 = log0; log1 = log1; bodies = bodies }) tables (content_in tables))))
  holds0 None p q has = tt
  holds0 (Some x) None q has = tt
  holds0 (Some x) (Some y) None has = tt
  holds0 (Some x) (Some y) (Some z) has = held_by (record { log0 = x; log1 = y; bodies = z }) has.1.text

  pub settled_of : IsSettled told files (stored tables)
  settled_of = record {
    rest = (rest0 (told.reading files.log0) kept.has_log, kept.rest1, kept.rest_bodies);
    holds = holds0 (told.reading files.log0) (told.reading files.log1) (told.reading files.bodies) kept.has_log;
  }

  images0 : (o p q : Option (List ℕ)) → IfTold o Reads0 → IfTold o (λ _. IfTold p (λ _. IfTold q (λ _. (image : List ℕ) → told.images files.log0 image → IsLog log.format log.generation kept.payloads image)))
  images0 None p q has = tt
  images0 (Some x) p q has = if_all (Some x) p q ((image : List ℕ) → told.images files.log0 image → IsLog log.format log.generation kept.payloads image)
      (λ image now. subst (IsLog log.format log.generation kept.payloads) (sym (has.0 image now)) has.1.text)

  abbrev LogImages : Type 0
  LogImages = (image : List ℕ) → told.images files.log0 image → IsLog log.format log.generation kept.payloads image

  each_now : LogImages → (states : List Stored) (image : FileBytes) → IsLeftSince told files (moments told files) image → HoldsOne image (stored tables ∷ states)
  each_now logs states image (inl left) = inl (held_by image (logs image.log0 (told.now_alone files.log0 image.log0 left.0)))
  each_now logs states image (inr left) = inl (held_by image (logs image.log0 left.0))

  abbrev o0 : Option (List ℕ)
  o0 = told.reading files.log0

  abbrev o1 : Option (List ℕ)
  o1 = told.reading files.log1

  abbrev ob : Option (List ℕ)
  ob = told.reading files.bodies

  pub joint_of : JointlyHolds told files (stored tables ∷ [])
  joint_of = if_weaker o0 o1 ob LogImages ((image : FileBytes) → IsJointImage told files image → HoldsOne image (stored tables ∷ []))
      (λ logs image now. inl (held_by image (logs image.log0 now.0))) (images0 o0 o1 ob kept.has_log)

  pub within_of : Leaves told files (moments told files) (stored tables ∷ [])
  within_of = if_weaker o0 o1 ob LogImages (LeavesStates told files (moments told files) (stored tables ∷ []))
      (λ logs. record { later0 = omega arith; later1 = omega arith; each = each_now logs [] }) (images0 o0 o1 ob kept.has_log)

  -- nothing was done
  pub stays_of : (done : Type 0) → Stays told done files files (stored tables)
  stays_of done = record { settled = λ d. settled_of; joint = joint_of; within = within_of; since = λ since states left. left }

  one_state_more : (image : FileBytes) (after : Stored) (states : List Stored) → HoldsOne image states → HoldsOne image (after ∷ states)
  one_state_more image after states holds = inr holds

  module _ (after : Stored) where
    -- nothing was done yet
    pub commits_nothing : (done : Type 0) → (done → ⊥) → Commits told done files files (stored tables) after
    commits_nothing done never = record {
      settled = λ d. absurd (never d);
      joint = if_weaker o0 o1 ob ((image : FileBytes) → IsJointImage told files image → HoldsOne image (stored tables ∷ []))
          ((image : FileBytes) → IsJointImage told files image → HoldsOne image (after ∷ stored tables ∷ []))
          (λ holds image now. inr (holds image now)) joint_of;
      within = if_weaker o0 o1 ob (LeavesStates told files (moments told files) (stored tables ∷ []))
          (LeavesStates told files (moments told files) (after ∷ stored tables ∷ []))
          (λ leaves. record { later0 = leaves.later0; later1 = leaves.later1; each = λ image left. inr (leaves.each image left) }) within_of;
      since = λ since states. if_weaker o0 o1 ob (LeavesStates told files since states) (LeavesStates told files since (after ∷ stored tables ∷ states))
          (λ leaves. record { later0 = leaves.later0; later1 = leaves.later1; each = λ image left. inr (inr (leaves.each image left)) });
    }

  module _ (after : TableRows) (payload : List ℕ) (new0 : D) (replay : Replays no_rows (kept.payloads ++ payload ∷ []) after) (same : SameTold (told.reading files.log0) (told.reading new0)) where
    abbrev new : Files D
    new = record { log0 = new0; log1 = files.log1; bodies = files.bodies }

    abbrev IsEither : List ℕ → Type 0
    IsEither = IsBeforeOrAfter log.format log.generation kept.payloads payload

    abbrev Run : Type 0
    Run = LeavesOnly told files.log0 new0 IsEither

    either : (states : List Stored) (image : FileBytes) → IsEither image.log0 → HoldsOne image (stored after ∷ stored tables ∷ states)
    either states image is = ⊎_elim
        (λ text. inr (inl (held_by image text)))
        (λ text. inl (holds_log log.format log.generation (kept.payloads ++ payload ∷ []) after image kept.format text replay))
        is

    now_either : Run → (image : List ℕ) → told.images new0 image → IsEither image
    now_either run image now = run.each image (told.now_counts new0 (told.moment files.log0) image run.later now)

    each_within : Run → (image : FileBytes) → IsLeftSince told new (moments told files) image → HoldsOne image (stored after ∷ stored tables ∷ [])
    each_within run image (inl left) = either [] image (run.each image.log0 left.0)
    each_within run image (inr left) = either [] image (now_either run image.log0 left.0)

    each_since : Run → (since : LogMoments) (states : List Stored) → LeavesStates told files since states → (image : FileBytes) → IsLeftSince told new since image → HoldsOne image (stored after ∷ stored tables ∷ states)
    each_since run since states leaves image (inl left) = ⊎_elim
        (λ was. inr (inr (leaves.each image (inl (was, left.1, left.2)))))
        (λ is. either states image is)
        (run.before since.log0 image.log0 leaves.later0 left.0)
    each_since run since states leaves image (inr left) = either states image (now_either run image.log0 left.0)

    -- a payload was added, or a disk failed within that
    pub commits_payload : (done : Type 0) → (done → IsSettled told new (stored after)) → IfTold (told.reading files.log0) (λ _. Run) → Commits told done files new (stored tables) (stored after)
    commits_payload done settled run = record {
      settled = settled;
      joint = from_log o0 (told.reading new0) o1 ob Run ((image : FileBytes) → IsJointImage told new image → HoldsOne image (stored after ∷ stored tables ∷ [])) same
          (λ r image now. either [] image (now_either r image.log0 now.0)) run;
      within = from_log o0 (told.reading new0) o1 ob Run (LeavesStates told new (moments told files) (stored after ∷ stored tables ∷ [])) same
          (λ r. record { later0 = r.later; later1 = omega arith; each = each_within r }) run;
      since = λ since states. from_both o0 (told.reading new0) o1 ob Run (LeavesStates told files since states) (LeavesStates told new since (stored after ∷ stored tables ∷ states)) same
          (λ r leaves. record { later0 = later_still since r leaves; later1 = leaves.later1; each = each_since r since states leaves }) run;
    }
      where
        later_still : (since : LogMoments) {states : List Stored} → Run → LeavesStates told files since states → since.log0 ≤ told.moment new0
        later_still since r leaves = omega (arith, r.later, leaves.later0)

    -- the log as it is kept with one payload more
    pub kept_more : (next : Kept) → next.format ≡ log.format → next.spent ≡ false → HasLog told next (kept.payloads ++ payload ∷ []) new0 → IsKept told next new after
    kept_more next same_format unspent has = record {
      payloads = kept.payloads ++ payload ∷ [];
      format = same_format ∙ kept.format;
      unspent = unspent;
      has_log = has;
      replay = replay;
      rest1 = kept.rest1;
      rest_bodies = kept.rest_bodies;
    }

  module _ (payload : List ℕ) (new0 : D) where
    appended_to : SaysOneThing → (next : Kept) → next.format ≡ log.format → next.generation ≡ log.generation → (o n : Option (List ℕ)) → IfTold o Reads0 → IfTold n (EndsAt next.format next.generation (kept.payloads ++ payload ∷ []) next.end)
        → IfTold o (λ before. (generation : ℕ) (payloads : List (List ℕ)) → IsLog 0 generation payloads before → IfTold n (IsLog 0 generation (payloads ++ payload ∷ [])))
    appended_to one next f g None n was is = tt
    appended_to one next f g (Some x) None was is = λ generation payloads text. tt
    appended_to one next f g (Some x) (Some y) was is = λ generation payloads text.
        let same = one log.format log.generation 0 generation kept.payloads payloads x was.1.text text in
        let in_format : IsLog 0 next.generation (kept.payloads ++ payload ∷ []) y = subst (λ z. IsLog z next.generation (kept.payloads ++ payload ∷ []) y) (f ∙ same.0) is.text in
        let in_generation : IsLog 0 generation (kept.payloads ++ payload ∷ []) y = subst (λ z. IsLog 0 z (kept.payloads ++ payload ∷ []) y) (g ∙ same.1) in_format in
        subst (λ ps. IsLog 0 generation (ps ++ payload ∷ []) y) same.2 in_generation

    ends0 : (next : Kept) (n : Option (List ℕ)) → IfTold n (λ reading. Only reading (told.images new0) × EndsAt next.format next.generation (kept.payloads ++ payload ∷ []) next.end reading)
        → IfTold n (EndsAt next.format next.generation (kept.payloads ++ payload ∷ []) next.end)
    ends0 next None has = tt
    ends0 next (Some y) has = has.1

    -- the log has one payload more
    pub appends : SaysOneThing → (next : Kept) → next.format ≡ log.format → next.generation ≡ log.generation → HasLog told next (kept.payloads ++ payload ∷ []) new0 → Appends told files (record { log0 = new0; log1 = files.log1; bodies = files.bodies }) payload
    appends one next f g has = appended_to one next f g (told.reading files.log0) (told.reading new0) kept.has_log (ends0 next (told.reading new0) has)
