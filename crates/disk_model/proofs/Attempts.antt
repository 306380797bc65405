-- What a call on a disk in memory does to what may be lost.
use Rattle.std.proofs.Common.{◌≡◌, ◌⊎◌, inl, inr, ⊎_elim, ℕ, ◌+◌, ◌-◌, ◌^◌, ◌≤◌, ◌<◌, min, Bool, Result, OnOk, OnErr, List, [], ◌∷◌, ◌++◌, length, Some, refl, sym, ap, subst, arith, length-append}
use Rattle.std.proofs.lemmas.List.{take_all}
use Rattle.std.proofs.lemmas.Bool.{cases_lt}
use Rattle.std.proofs.lemmas.Result.{on_ok_weaker, on_err_weaker}
use Rattle.disk_model.specs.declared.disk.DiskFault.{DiskFault}
use Rattle.disk_model.specs.declared.memory.Change.{Change}
use Rattle.disk_model.specs.declared.memory.Change.TheVariants.{Write}
use Rattle.disk_model.specs.Images.{Torn, Tears, TearsAll}
use Rattle.disk_model.specs.Calls.{LeavesAlone, Elapses, HasCause}
use Rattle.disk_model.specs.Memory.{Memory, State, at_rest, next, after, state_at, state_of, called, Attempt}
use Rattle.disk_model.specs.Lawful.{memory_told, may_leave, left_of, length-overwritten, overwritten_outside}
use Rattle.disk_model.proofs.History.{after_more, moment_before}
use Rattle.disk_model.proofs.Tearing.{torn_is_image, was_image}

abbrev Fact : Type 1
Fact = List ℕ → List Change → Type 0

-- a fact about the first bytes and the changes
moved : (P : Fact) {first first' : List ℕ} {changes changes' : List Change} → first' ≡ first → changes' ≡ changes → P first changes → P first' changes'
moved P {first} {first'} {changes} {changes'} f c p = subst (λ (l : List Change). P first' l) (sym c) (subst (λ (l : List ℕ). P l changes) (sym f) p)

module _ (old new : Memory) (first : new.first ≡ old.first) where
  -- a call that records nothing
  module _ (changes : new.changes ≡ old.changes) where
    abbrev left : List ℕ → List Change → ℕ → List ℕ → Type 0
    left f l since image = (moment : ℕ) × (since ≤ moment) × (moment ≤ length l) × may_leave (state_at f l moment) image

    pub alone : LeavesAlone memory_told old new
    alone = record {
      reading = moved (λ f l. Some (after (at_rest f) l).reading ≡ Some (state_of old).reading) first changes refl;
      images = λ image. (
        moved (λ f l. may_leave (after (at_rest f) l) image → may_leave (state_of old) image) first changes (λ is. is),
        moved (λ f l. may_leave (state_of old) image → may_leave (after (at_rest f) l) image) first changes (λ is. is),
      );
      moment = ap length changes;
      left_since = λ since image. (
        moved (λ f l. left f l since image → left_of old since image) first changes (λ is. is),
        moved (λ f l. left_of old since image → left f l since image) first changes (λ is. is),
      );
    }

    pub elapses_alone : Elapses memory_told old new
    elapses_alone = record {
      later = omega (arith, ap length changes);
      nothing_else = λ since image le left. inl ((alone.left_since since image).0 left);
      keeps = λ since image le left. (alone.left_since since image).1 left;
    }

  -- a call that records a change
  module _ (change : Change) (changes : new.changes ≡ old.changes ++ change ∷ []) where
    pub state_more : state_of new ≡ next (state_of old) change
    state_more = moved (λ f l. after (at_rest f) l ≡ next (state_of old) change) first changes (after_more (at_rest old.first) old.changes change)

    past_state : (moment : ℕ) → moment ≤ length old.changes → state_at new.first new.changes moment ≡ state_at old.first old.changes moment
    past_state moment le = moved (λ f l. state_at f l moment ≡ state_at old.first old.changes moment) first changes (ap (after (at_rest old.first)) (moment_before old.changes change moment le))

    last_state : (moment : ℕ) → length old.changes < moment → state_at new.first new.changes moment ≡ state_of new
    last_state moment lt = ap (after (at_rest new.first)) (take_all moment new.changes (omega (arith, ap length changes, length-append old.changes (change ∷ []))))

    pub elapses_more : Elapses memory_told old new
    elapses_more = record {
      later = omega (arith, ap length changes, length-append old.changes (change ∷ []));
      nothing_else = λ since image le (moment, from, within, left). ⊎_elim
          (λ (lt : length old.changes < moment). inr (subst (λ (s : State). may_leave s image) (last_state moment lt) left))
          (λ (le : moment ≤ length old.changes). inl (moment, from, le, subst (λ (s : State). may_leave s image) (past_state moment le) left))
          (cases_lt (length old.changes) moment);
      keeps = λ since image le (moment, from, within, left). (
        moment,
        from,
        omega (arith, within, ap length changes, length-append old.changes (change ∷ [])),
        subst (λ (s : State). may_leave s image) (sym (past_state moment within)) left,
      );
    }

torn_nothing : (at count : ℕ) (file : List ℕ) → Torn at count file file
torn_nothing at count file = record { kept = λ place lt out. refl; no_shorter = omega arith; no_longer = omega arith }

torn_written : (at : ℕ) (piece file : List ℕ) → Torn at (length piece) file (next (at_rest file) (Write at piece)).reading
torn_written at piece file =
    let l = length-overwritten at piece file in
    record { kept = λ place lt out. overwritten_outside at piece file place lt out; no_shorter = omega (arith, l.0); no_longer = omega (arith, l.1) }

-- a write, done or not
module _ (s t : State) (at : ℕ) (piece : List ℕ) where
  pub tears_all : t ≡ next s (Write at piece) → TearsAll at (length piece) (may_leave s) (may_leave t)
  tears_all is image before was torn = subst (λ (u : State). may_leave u image) (sym is) (torn_is_image s.synced (record { at = at; count = length piece }) s.ranges before image was torn)

  module _ (either : (t ≡ next s (Write at piece)) ⊎ (t ≡ s)) where
    pub torn_reading : Torn at (length piece) s.reading t.reading
    torn_reading = ⊎_elim
        (λ (is : t ≡ next s (Write at piece)). subst (λ (u : State). Torn at (length piece) s.reading u.reading) (sym is) (torn_written at piece s.reading))
        (λ (is : t ≡ s). subst (λ (u : State). Torn at (length piece) s.reading u.reading) (sym is) (torn_nothing at (length piece) s.reading))
        either

    pub tears : Tears at (length piece) (may_leave s) (may_leave t)
    tears image left = ⊎_elim
        (λ (is : t ≡ next s (Write at piece)). was_image s.synced (record { at = at; count = length piece }) s.ranges image (subst (λ (u : State). may_leave u image) is left))
        (λ (is : t ≡ s). (image, subst (λ (u : State). may_leave u image) is left, torn_nothing at (length piece) image))
        either

    pub nothing_sure : (image : List ℕ) → may_leave s image → may_leave t image
    nothing_sure image left = ⊎_elim
        (λ (is : t ≡ next s (Write at piece)). tears_all is image image left (torn_nothing at (length piece) image))
        (λ (is : t ≡ s). subst (λ (u : State). may_leave u image) (sym is) left)
        either

-- a call whose fault was counted
pub counted : {T : Type 0} (old new : Memory) (result : Result T DiskFault) → old.faults ≤ new.faults → OnErr result (new.faults ≡ min (old.faults + 1) (2 ^ 64 - 1)) → OnOk result (new.faults ≡ old.faults) → HasCause memory_told old new result
counted old new result never_falls fault quiet = record {
  never_falls = never_falls;
  rose = on_err_weaker result (λ (is : new.faults ≡ min (old.faults + 1) (2 ^ 64 - 1)). omega (arith, is)) fault;
  quiet = quiet;
}

module _ (old new : Memory) (change : Change) (too_far : Bool) (result : Result Unit DiskFault) (attempt : Attempt old new change too_far result) where
  pub either_state : (state_of new ≡ next (state_of old) change) ⊎ (state_of new ≡ state_of old)
  either_state = ⊎_elim
      (λ (more : new.changes ≡ old.changes ++ change ∷ []). inl (state_more old new attempt.first change more))
      (λ (same : new.changes ≡ old.changes). inr (moved (λ f l. after (at_rest f) l ≡ state_of old) attempt.first same refl))
      attempt.changes

  pub elapses : Elapses memory_told old new
  elapses = ⊎_elim (elapses_more old new attempt.first change) (elapses_alone old new attempt.first) attempt.changes

  pub has_cause : HasCause memory_told old new result
  has_cause = counted old new result attempt.never_falls attempt.fault
      (on_ok_weaker result (λ (is : new ≡ record (called old) { changes = old.changes ++ change ∷ [] }). ap (λ (disk : Memory). disk.faults) is) attempt.done)

  pub done_state : OnOk result (state_of new ≡ next (state_of old) change)
  done_state = on_ok_weaker result
      (λ (is : new ≡ record (called old) { changes = old.changes ++ change ∷ [] }). state_more old new attempt.first change (ap (λ (disk : Memory). disk.changes) is)) attempt.done
