-- Steps that are one change of the world.
use Rattle.std.proofs.Common.{◌≡◌, ℕ, false, List, ◌∷◌, Option, Some, None, Result, Ok, Err, IsOk, IsErrOf, IfOk, MatchResult, inl, inr, refl, sym, ap, subst, ◌∙◌}
use Rattle.std.proofs.lemmas.Bool.{false≢true}
use Rattle.disk_model.specs.Told.{Told}
use Rattle.row_tables.specs.TableRows.{TableRows}
use Rattle.row_store.specs.ThreeFiles.{TellsFaults}
use Rattle.row_store.specs.Holding.{in_row, stored_by}
use Rattle.row_store.specs.Crashes.{IsSettled}
use Rattle.row_store.specs.Kept.{Store}
use Rattle.row_store.specs.declared.faults.StoreFault.{StoreFault}
use Rattle.session_units.specs.declared.forms.Awaits.TheVariants.{Command as AwaitsCommand}
use Rattle.imap_writer.specs.declared.refusals.Refusal as line
use Rattle.session_view.specs.declared.sessions.SessionPart.{SessionPart}
use Rattle.mail_world.specs.Worlds.{World, no_world}
use Rattle.mail_world.specs.Changes.{Change, Refusal, BadName, Absent, Exists, InUse, Full, NoUid}
use Rattle.mail_world.specs.Applying.{apply, refused}
use Rattle.mail_stands.specs.Stands.{Stands}
use Rattle.mail_stands.specs.Leading.{KeepsOwners}
use Rattle.mailbox_core.specs.Left.{Left}
use Rattle.mailbox_core.specs.declared.faults.MailFault.{MailFault}
use Rattle.mailbox_core.specs.declared.faults.MailFault.TheVariants as fault
use Rattle.mailbox_core.specs.Faults.{fault_of, IsOutage}
use Rattle.mailbox_core.specs.Calls.{Behaves, BehavesBy, IsMade, IsRefused, Makes, MakesUnless}
use Rattle.imap_steps.specs.declared.outcome.Outcome.{Outcome}
use Rattle.imap_steps.specs.Stepping.{Shared, applied, made, unless_refused, completed, refused_with, told_as}
use Rattle.imap_exec.specs.Ready.{AreLive, IsReady}
use Rattle.imap_exec.specs.Does.{Does, Executes, Tells}
use Rattle.imap_exec.specs.Answers.{Says, TellsMade, refusal_in}
use Rattle.imap_exec.proofs.Living.{live_stay}

-- ---- how a call ended

pub data Ended {T : Type 0} (call : Result T MailFault) : Type 0 where
  Made : IsOk call → Ended call
  Refused : (refusal : Refusal) → call ≡ Err (fault_of refusal) → Ended call
  Failed : call ≡ Err MailFault.Failed → Ended call
  Starved : call ≡ Err MailFault.NoMemory → Ended call

pub ended : {T : Type 0} (call : Result T MailFault) → Ended call
ended (Ok answer) = Made refl
ended (Err fault.BadName) = Refused BadName refl
ended (Err fault.Absent) = Refused Absent refl
ended (Err fault.Exists) = Refused Exists refl
ended (Err fault.InUse) = Refused InUse refl
ended (Err fault.Full) = Refused Full refl
ended (Err fault.NoUid) = Refused NoUid refl
ended (Err fault.Failed) = Failed refl
ended (Err fault.NoMemory) = Starved refl

-- ---- how it is told

told_so : (refusal : Refusal) → refusal_in (fault_of refusal) ≡ Ok (told_as refusal)
told_so BadName = refl
told_so Absent = refl
told_so Exists = refl
told_so InUse = refl
told_so Full = refl
told_so NoUid = refl

module _ {T : Type 0} (made : Result T MailFault) (fault : MailFault) (refusal : line.Refusal) (result : Result Outcome StoreFault) (before after tag name : List ℕ) (is : made ≡ Err fault) (in_line : refusal_in fault ≡ Ok refusal) where
  err_is : (a b : MailFault) → made ≡ Err a → made ≡ Err b → a ≡ b
  err_is a b e f = cc

  ok_is : (a b : line.Refusal) (r : Result line.Refusal StoreFault) → r ≡ Ok a → r ≡ Ok b → a ≡ b
  ok_is a b r e f = cc

  same_refusal : (other : Refusal) → made ≡ Err (fault_of other) → refusal ≡ told_as other
  same_refusal other e = ok_is refusal (told_as other) (refusal_in (fault_of other)) (subst (λ (f : MailFault). refusal_in f ≡ Ok refusal) (err_is fault (fault_of other) is e) in_line) (told_so other)

  no_line_of : (f : StoreFault) → refusal_in fault ≡ Err f → ⊥
  no_line_of f e = cc

  pub tells_refused : ((shared : Shared) → Says result shared.parts before after (refused_with shared tag refusal)) → TellsMade made result before after tag name
  tells_refused says = record {
    completes = λ ok. absurd (false≢true (subst (λ (r : Result T MailFault). IsOk r) is ok));
    refuses = λ other e shared. subst (λ (r : line.Refusal). Says result shared.parts before after (refused_with shared tag r)) (same_refusal other e) (says shared);
    failed = λ e. absurd (no_line_of StoreFault.Failed (ap refusal_in (err_is fault MailFault.Failed is e)));
    memory = λ e. absurd (no_line_of StoreFault.NoMemory (ap refusal_in (err_is fault MailFault.NoMemory is e)));
  }

pub no_outage : (refusal : Refusal) → IsOutage (fault_of refusal) → ⊥
no_outage BadName (inl e) = cc
no_outage BadName (inr e) = cc
no_outage Absent (inl e) = cc
no_outage Absent (inr e) = cc
no_outage Exists (inl e) = cc
no_outage Exists (inr e) = cc
no_outage InUse (inl e) = cc
no_outage InUse (inr e) = cc
no_outage Full (inl e) = cc
no_outage Full (inr e) = cc
no_outage NoUid (inl e) = cc
no_outage NoUid (inr e) = cc

-- what holds after Ok
if_done : (result : Result Outcome StoreFault) (P : Outcome → Type 0) → (IsOk result → IfOk result P) → IfOk result P
if_done (Ok outcome) P is = is refl
if_done (Err fault) P is = tt

abbrev failed : Result Outcome StoreFault
failed = Err StoreFault.Failed

module _ (result : Result Outcome StoreFault) (fault : StoreFault) (is : result ≡ Err fault) where
  pub not_ok : IsOk result → ⊥
  not_ok ok = false≢true (subst (λ (r : Result Outcome StoreFault). IsOk r) is ok)

module _ {D T : Type 0} (told : Told D) (call : Result T MailFault) (result : Result Outcome StoreFault) (old new : Store D) (parts : List SessionPart) (before after tag name : List ℕ) (tells : TellsMade call result before after tag name) where
  abbrev sharing : World → Shared
  sharing world = record { world = world; parts = parts }

  module _ (Keeps : TableRows → TableRows → Type 0) (stay : (after : TableRows) → Keeps old.tables after → AreLive old.tables parts → AreLive after parts) (behaves : BehavesBy Keeps told call old new) (ready : IsReady old parts) where
    refused_ready : (refusal : Refusal) → call ≡ Err (fault_of refusal) → IsReady new parts
    refused_ready refusal is = subst (λ (store : Store D). IsReady store parts) (sym (behaves.unchanged refusal is)) ready

    made_ready : IsOk call → IsReady new parts
    made_ready ok = record {
      unspent = (behaves.done ok).2;
      none_placed = (behaves.done ok).1;
      live = subst (λ t. AreLive t parts) (sym (behaves.done ok).0) (stay behaves.after behaves.owners ready.live);
    }

    ready_after : Ended call → IsOk result → IsReady new parts
    ready_after (Made ok) done = made_ready ok
    ready_after (Refused refusal is) done = refused_ready refusal is
    ready_after (Failed is) done = absurd (not_ok result StoreFault.Failed (tells.failed is) done)
    ready_after (Starved is) done = absurd (not_ok result StoreFault.NoMemory (tells.memory is) done)

    failed_so : Ended call → (shared : Shared) → IsErrOf result StoreFault.Failed → IsErrOf call MailFault.Failed
    failed_so (Made ok) shared e = absurd ((tells.completes ok shared).memory e)
    failed_so (Refused refusal is) shared e = absurd ((tells.refuses refusal is shared).memory e)
    failed_so (Failed is) shared e = is
    failed_so (Starved is) shared e = absurd (starved (sym (tells.memory is) ∙ e))
      where
        starved : Err StoreFault.NoMemory ≡ failed → ⊥
        starved e = cc

    faults_after : Shared → TellsFaults told (IsErrOf result StoreFault.Failed) old.files new.files
    faults_after shared = record {
      disks = behaves.faults.disks;
      failed = λ e. behaves.faults.failed (failed_so (ended call) shared e);
      quiet = λ never. behaves.faults.quiet (λ e. never (tells.failed e));
    }

  -- ---- over tables that stand for a world

  module _ (world next : World) (answer : T) (change : Change) (is_next : next ≡ applied world change) where
    was_made : IsMade told call old new world next answer → Ended call → IsOk result → IsOk call
    was_made its (Made ok) done = ok
    was_made its (Refused refusal is) done = absurd (no_outage refusal (subst (λ (r : Result T MailFault). MatchResult r (λ given. given ≡ answer) IsOutage) is its.answers))
    was_made its (Failed is) done = absurd (not_ok result StoreFault.Failed (tells.failed is) done)
    was_made its (Starved is) done = absurd (not_ok result StoreFault.NoMemory (tells.memory is) done)

    completed_so : IsMade told call old new world next answer → IsOk result → Tells result before after (completed (sharing world) tag name)
    completed_so its done = (tells.completes (was_made its (ended call) done) (sharing world)).tells

    does_made : IsMade told call old new world next answer → Does told result old new parts before after (sharing world) (unless_refused (sharing world) change tag name None)
    does_made its = record {
      stands = λ ok. subst (λ (w : World). Stands in_row new.tables w) is_next (its.stands (was_made its (ended call) ok));
      settled = λ ok settled. its.settled (was_made its (ended call) ok);
      parts_are = λ ok. refl;
      tells = record {
        answer = λ ok. (completed_so its ok).answer ok;
        outcome = if_done result (λ outcome. (outcome.closes ≡ false) × (outcome.awaits ≡ AwaitsCommand)) (λ ok. (completed_so its ok).outcome);
      };
      leaves = λ since earlier left. subst (λ (w : World). Left told new.files since (w ∷ world ∷ earlier)) is_next (its.since since earlier left);
    }

    does_refused : (refusal : Refusal) → IsRefused call old new refusal → Stands in_row old.tables world
        → Does told result old new parts before after (sharing world) (unless_refused (sharing world) change tag name (Some refusal))
    does_refused refusal its stands = record {
      stands = λ ok. subst (λ (store : Store D). Stands in_row store.tables world) (sym its.unchanged) stands;
      settled = λ ok settled. subst (λ (store : Store D). IsSettled told store.files (stored_by in_row store.tables)) (sym its.unchanged) settled;
      parts_are = λ ok. refl;
      tells = (tells.refuses refusal its.answers (sharing world)).tells;
      leaves = λ since earlier left. subst (λ (store : Store D). Left told store.files since (world ∷ earlier)) (sym its.unchanged) left;
    }

    does_change : (refusal : Option Refusal) → MakesUnless told call old new world next answer refusal → Stands in_row old.tables world
        → Does told result old new parts before after (sharing world) (unless_refused (sharing world) change tag name refusal)
    does_change None makes stands = does_made makes
    does_change (Some refusal) makes stands = does_refused refusal makes stands

  -- a call that makes a change, and what is told of it; whatever it does to tables, the sessions stay those of users who are there
  pub executes_kept : (Keeps : TableRows → TableRows → Type 0) → ((after : TableRows) → Keeps old.tables after → AreLive old.tables parts → AreLive after parts)
      → BehavesBy Keeps told call old new → IsReady old parts → (change : World → Change) (answer : World → T)
      → ((world : World) → Stands in_row old.tables world → Makes told call old new world (change world) (answer world))
      → Executes told result old new parts parts before after (λ shared. made shared (change shared.world) tag name)
  unfolding applied
  executes_kept Keeps stay behaves ready change answer makes = record {
    carries = λ world stands. does_change world (apply world (change world)) (answer world) (change world) refl (refused world (change world)) (makes world stands) stands;
    ready = ready_after Keeps stay behaves ready (ended call);
    faults = faults_after Keeps stay behaves ready (sharing no_world);
  }

  -- the same of a call that takes nobody's mailbox
  pub executes_change : Behaves told call old new → IsReady old parts → (change : World → Change) (answer : World → T)
      → ((world : World) → Stands in_row old.tables world → Makes told call old new world (change world) (answer world))
      → Executes told result old new parts parts before after (λ shared. made shared (change shared.world) tag name)
  executes_change behaves ready change answer makes =
      executes_kept KeepsOwners (λ tables keeps live. live_stay old.tables tables keeps parts live) behaves ready change answer makes
