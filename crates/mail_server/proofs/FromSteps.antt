-- What the calls of the commands come to for the rounds.
use Rattle.std.proofs.Common.{ℕ, ◌≡◌, List, [], ◌∷◌, Option, Some, None, refl, sym, ◌∙◌, ap, subst, inl, inr}
use Rattle.std.specs.Prelude.{Result, Ok, Err, IfOk, OnOk, IsOk, IsOkAnd}
use Rattle.disk_model.specs.Told.{Told}
use Rattle.row_store.specs.declared.faults.StoreFault.{StoreFault}
use Rattle.row_store.specs.ThreeFiles.{FaultRose, CountsNoFault, LogMoments, moments}
use Rattle.row_store.specs.Holding.{in_row}
use Rattle.session_view.specs.declared.sessions.SessionPart.{SessionPart}
use Rattle.imap_steps.specs.declared.outcome.Outcome as told_as
use Rattle.imap_steps.specs.Stepping.{World, Change, Shared, Stepped, changed, left_by}
use Rattle.mail_stands.specs.Stands.{Stands}
use Rattle.mailbox_core.specs.Left.{Left}
use Rattle.row_store.specs.Kept.{Store}
use Rattle.imap_exec.specs.Ready.{AreLive, IsReady}
use Rattle.row_tables.specs.TableRows.{TableRows}
use Rattle.imap_exec.specs.Answers.{Says}
use Rattle.imap_exec.specs.Does as exec
use Rattle.imap_exec.specs.Does.{Does}
use Rattle.mail_rounds.specs.declared.mail_core.Outcome.{Outcome}
use Rattle.mail_rounds.specs.declared.mail_core.CoreFault.{CoreFault}
use Rattle.mail_rounds.specs.CoreSeen.{LeavesFiles, SomeRose}
use Rattle.mail_rounds.specs.Crashes.{MayLeave, worlds_after}
use Rattle.mail_rounds.specs.Steps.{IsStep}
use Rattle.mail_server.specs.declared.store_core.StoreCore.{StoreCore}
use Rattle.mail_server.specs.StoreCore.{IsServing, LeftSince, core_seen, moments_of}

same-worlds : (world : World) (change : Option Change) (earlier : List World) → exec.worlds_after world change earlier ≡ worlds_after world change earlier
same-worlds world None earlier = refl
same-worlds world (Some change) earlier = refl

pub rose_some : {D : Type 0} (told : Told D) (core core' : StoreCore D) → FaultRose told core.store.files core'.store.files → SomeRose ((core_seen told).faults core) ((core_seen told).faults core')
unfolding core_seen
rose_some told core core' (inl rose) = inl rose
rose_some told core core' (inr (inl rose)) = inr (inl rose)
rose_some told core core' (inr (inr rose)) = inr (inr (inl rose))

pub none_some : {D : Type 0} (told : Told D) (core core' : StoreCore D) → CountsNoFault told core.store.files core'.store.files → (core_seen told).faults core' ≡ (core_seen told).faults core
unfolding core_seen
none_some told core core' none =
    ap (λ (n : ℕ). n ∷ told.faults core'.store.files.log1 ∷ told.faults core'.store.files.bodies ∷ []) none.0
    ∙ ap (λ (n : ℕ). told.faults core.store.files.log0 ∷ n ∷ told.faults core'.store.files.bodies ∷ []) none.1
    ∙ ap (λ (n : ℕ). told.faults core.store.files.log0 ∷ told.faults core.store.files.log1 ∷ n ∷ []) none.2

-- what a result has, where it has one
ok-of : {T E : Type 0} (result : Result T E) (P : T → Type 0) → IsOkAnd result P → (value : T) × (result ≡ Ok value) × P value
ok-of (Ok value) P fact = (value, refl, fact)
ok-of (Err error) P fact = absurd fact

module _ {D : Type 0} (told : Told D) (core core' : StoreCore D) (before after : List ℕ) (result : Result told_as.Outcome StoreFault) (steps : Shared → Stepped)
    (carries : exec.Carries told result core.store core'.store core.sessions core'.sessions before after steps) where
  its : (shared : Shared) → IsServing told core.store core.sessions shared → Does told result core.store core'.store core'.sessions before after shared (steps shared)
  its shared serving =
      subst (λ (parts : List SessionPart). let shares : Shared = record { world = shared.world; parts = parts } in Does told result core.store core'.store core'.sessions before after shares (steps shares))
      serving.parts_are (carries shared.world serving.stands)

  -- A crash leaves the world before a step or after it.
  pub step_leaves : (shared : Shared) → (core_seen told).stands core shared → MayLeave (core_seen told) core core' shared.world (steps shared).change
  unfolding core_seen
  step_leaves shared serving [] earlier left = tt
  step_leaves shared serving (log0 ∷ []) earlier left = tt
  step_leaves shared serving (log0 ∷ log1 ∷ []) earlier left =
      let since : LogMoments = record { log0 = log0; log1 = log1 } in
      subst (λ (worlds : List World). Left told core'.store.files since worlds) (same-worlds shared.world (steps shared).change earlier) ((its shared serving).leaves since earlier left)
  step_leaves shared serving (log0 ∷ log1 ∷ more ∷ moments) earlier left = tt

  -- A step was made.
  pub step_done : (answer : Result Outcome CoreFault) → IfOk answer (λ outcome. IsOkAnd result (λ told. (outcome.closes ≡ told.closes) × (outcome.awaits ≡ told.awaits)))
      → IfOk answer (λ outcome. (shared : Shared) → (core_seen told).stands core shared → IsStep (core_seen told) core' before after outcome.closes outcome.awaits shared (steps shared))
  unfolding core_seen
  step_done (Err fault) is = tt
  step_done (Ok outcome) is = λ shared serving.
      let found = ok-of result (λ told. (outcome.closes ≡ told.closes) × (outcome.awaits ≡ told.awaits)) is in
      let ok : IsOk result = subst (λ (r : Result told_as.Outcome StoreFault). IsOk r) (sym found.1) refl in
      let does = its shared serving in
      let out = subst (λ (r : Result told_as.Outcome StoreFault). IfOk r (λ outcome. (outcome.closes ≡ (steps shared).closes) × (outcome.awaits ≡ (steps shared).next))) found.1 does.tells.outcome in
      record {
        stands = record { stands = does.stands ok; settled = does.settled ok serving.settled; parts_are = does.parts_are ok };
        answer = does.tells.answer ok;
        closing = found.2.0 ∙ out.0;
        awaits = found.2.1 ∙ out.1;
      }

  pub step_ready : (answer : Result Outcome CoreFault) → IfOk answer (λ outcome. IsOkAnd result (λ told. (outcome.closes ≡ told.closes) × (outcome.awaits ≡ told.awaits)))
      → (IsOk result → IsReady core'.store core'.sessions) → OnOk answer ((core_seen told).ready core')
  unfolding core_seen
  step_ready (Err fault) is ready = tt
  step_ready (Ok outcome) is ready =
      let found = ok-of result (λ told. (outcome.closes ≡ told.closes) × (outcome.awaits ≡ told.awaits)) is in
      ready (subst (λ (r : Result told_as.Outcome StoreFault). IsOk r) (sym found.1) refl)

-- A greeting is a step that leaves the store alone.
pub greeting_carried : {D : Type 0} (told : Told D) (store : Store D) (result : Result told_as.Outcome StoreFault) (parts parts' : List SessionPart) (before after : List ℕ) (steps : Shared → Stepped)
    → ((world : World) → Says result parts' before after (steps (record { world = world; parts = parts }))) → exec.Carries told result store store parts parts' before after steps
greeting_carried told store result parts parts' before after steps says world stands =
    let shared : Shared = record { world = world; parts = parts } in
    let unchanged : None ≡ (steps shared).change = sym (says world).unchanged in
    record {
      stands = λ ok. subst (λ (change : Option Change). Stands in_row store.tables (changed world change)) unchanged stands;
      settled = λ ok settled. settled;
      parts_are = (says world).parts_are;
      tells = (says world).tells;
      leaves = λ since earlier left. subst (λ (change : Option Change). Left told store.files since (exec.worlds_after world change earlier)) unchanged left;
    }

-- A session that takes leave has no part any more.
pub left_serves : {D : Type 0} (told : Told D) (store : Store D) (parts parts' : List SessionPart) (number : ℕ) → ((world : World) → (let now : Shared = record { world = world; parts = parts' } in now) ≡ left_by (record { world = world; parts = parts }) number)
    → (shared : Shared) → IsServing told store parts shared → IsServing told store parts' (left_by shared number)
left_serves told store parts parts' number left shared serving =
    let is : (let now : Shared = record { world = shared.world; parts = parts' } in now) ≡ left_by shared number =
    subst (λ (ps : List SessionPart). (let now : Shared = record { world = shared.world; parts = parts' } in now) ≡ left_by (record { world = shared.world; parts = ps }) number) serving.parts_are (left shared.world) in
    record {
      stands = subst (λ (world : World). Stands in_row store.tables world) (ap (λ (s : Shared). s.world) is) serving.stands;
      settled = serving.settled;
      parts_are = ap (λ (s : Shared). s.parts) is;
    }

-- A core that can be asked.
pub ready_is : {D : Type 0} (told : Told D) (core : StoreCore D) → (core_seen told).ready core → IsReady core.store core.sessions
unfolding core_seen
ready_is told core ready = ready

-- Other sessions over the same store can be asked where their users are there.
pub ready_with : {D : Type 0} (told : Told D) (core core' : StoreCore D) → core'.store ≡ core.store → ((t : TableRows) → AreLive t core.sessions → AreLive t core'.sessions) → (core_seen told).ready core → (core_seen told).ready core'
unfolding core_seen
ready_with {D} told core core' same live ready =
    subst (λ (store : Store D). IsReady store core'.sessions) (sym same) (record { unspent = ready.unspent; none_placed = ready.none_placed; live = live core.store.tables ready.live })

pub leave_stands : {D : Type 0} (told : Told D) (core core' : StoreCore D) (number : ℕ) → core'.store ≡ core.store
    → ((world : World) → (let now : Shared = record { world = world; parts = core'.sessions } in now) ≡ left_by (record { world = world; parts = core.sessions }) number)
    → (shared : Shared) → (core_seen told).stands core shared → (core_seen told).stands core' (left_by shared number)
unfolding core_seen
leave_stands {D} told core core' number same left shared serving =
    subst (λ (store : Store D). IsServing told store core'.sessions (left_by shared number)) (sym same) (left_serves told core.store core.sessions core'.sessions number left shared serving)

pub leaves_files : {D : Type 0} (told : Told D) (core core' : StoreCore D) → core'.store ≡ core.store → LeavesFiles (core_seen told) core core'
unfolding core_seen
leaves_files {D} told core core' same = record {
  left = λ since worlds left. subst (λ (store : Store D). LeftSince told store.files since worlds) (sym same) left;
  moments = ap (λ (store : Store D). moments_of (moments told store.files)) same;
  faults = ap (λ (store : Store D). told.faults store.files.log0 ∷ told.faults store.files.log1 ∷ told.faults store.files.bodies ∷ []) same;
}
