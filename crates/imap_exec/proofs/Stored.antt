-- Flags that are stored, and what is told of them.
use Rattle.std.proofs.Common.{◌≡◌, ◌++◌, ℕ, Bool, List, Option, Some, None, Result, Err, IsOk, IsErrOf, MatchResult, refl, sym, subst}
use Rattle.std.proofs.lemmas.Bool.{false≢true}
use Rattle.disk_model.specs.Told.{Told}
use Rattle.row_store.specs.Holding.{in_row}
use Rattle.row_store.specs.Kept.{Store}
use Rattle.row_store.specs.declared.faults.StoreFault.{StoreFault}
use Rattle.session_view.specs.declared.sessions.SessionPart.{SessionPart}
use Rattle.session_view.specs.declared.sessions.Selection.{Selection}
use Rattle.mail_world.specs.Worlds.{World}
use Rattle.mail_world.specs.Changes.{Change, Refusal}
use Rattle.mail_world.specs.Applying.{apply, refused}
use Rattle.mail_stands.specs.Stands.{Stands}
use Rattle.mailbox_core.specs.declared.faults.MailFault.{MailFault}
use Rattle.mailbox_core.specs.Faults.{fault_of, IsOutage}
use Rattle.mailbox_core.specs.Calls.{Behaves, IsMade, Makes, MakesUnless}
use Rattle.imap_steps.specs.declared.outcome.Outcome.{Outcome}
use Rattle.imap_steps.specs.Stepping.{Shared, Stepped, answered, applied, made, unless_refused}
use Rattle.imap_steps.specs.Storing.{some_gone, stored_unless}
use Rattle.imap_exec.specs.Ready.{AreLive, IsReady}
use Rattle.imap_exec.specs.Does.{Does, Executes}
use Rattle.imap_exec.specs.Answers.{Says, TellsMade}
use Rattle.imap_exec.specs.Storing.{stored_text}
use Rattle.imap_exec.proofs.Living.{live_stay}
use Rattle.imap_exec.proofs.Making.{Ended, Made, Refused, Failed, Starved, ended, executes_change, no_outage, not_ok}

abbrev Call : Type 0
Call = Result (Unit {0}) MailFault

not_err : (call : Call) (fault : MailFault) → IsOk call → call ≡ Err fault → ⊥
not_err call fault ok is = false≢true (subst (λ (r : Call). IsOk r) is ok)

module _ {D : Type 0} (told : Told D) (call : Call) (result : Result Outcome StoreFault) (old new : Store D) (parts : List SessionPart) (before after tag : List ℕ) (selection : Selection) (by_uid : Bool) (uids : List ℕ) (silent : Bool) (change : Change) (behaves : Behaves told call old new) (ready : IsReady old parts) (makes : (world : World) → Stands in_row old.tables world → Makes told call old new world change tt) where
  abbrev sharing : World → Shared
  sharing world = record { world = world; parts = parts }

  abbrev stored_as : World → Option Refusal → Stepped
  stored_as world refusal = stored_unless (sharing world) tag selection by_uid uids silent change refusal

  -- ---- the flags were stored

  module _ (gone : Bool) (ok : IsOk call) (gone_is : (world : World) → Stands in_row old.tables world → gone ≡ some_gone world selection.mailbox uids) (memory : IsErrOf result StoreFault.Failed → ⊥) (tells : (world : World) → Stands in_row new.tables world → (shared : Shared) → Says result shared.parts before after (answered shared (stored_text world tag selection by_uid uids silent gone))) where
    does_stored : (world : World) → Stands in_row old.tables world → (refusal : Option Refusal) → MakesUnless told call old new world (apply world change) tt refusal → Does told result old new parts before after (sharing world) (stored_as world refusal)
    unfolding applied
    does_stored world stands None its =
        let now : Stands in_row new.tables (apply world change) = its.stands ok in
        let said = tells (apply world change) now (sharing world) in
        record {
          stands = λ done. now;
          settled = λ done settled. its.settled ok;
          parts_are = λ done. refl;
          tells = record {
            answer = λ done. subst (λ (b : Bool). after ≡ before ++ stored_text (apply world change) tag selection by_uid uids silent b) (gone_is world stands) (said.tells.answer done);
            outcome = said.tells.outcome;
          };
          leaves = λ since earlier left. its.since since earlier left;
        }
    does_stored world stands (Some refusal) its = absurd (not_err call (fault_of refusal) ok its.answers)

    pub executes_stored : Executes told result old new parts parts before after (λ shared. stored_unless shared tag selection by_uid uids silent change (refused shared.world change))
    executes_stored = record {
      carries = λ world stands. does_stored world stands (refused world change) (makes world stands);
      ready = λ done. record {
        unspent = (behaves.done ok).2;
        none_placed = (behaves.done ok).1;
        live = subst (λ t. AreLive t parts) (sym (behaves.done ok).0) (live_stay old.tables behaves.after behaves.owners parts ready.live);
      };
      faults = record {
        disks = behaves.faults.disks;
        failed = λ e. absurd (memory e);
        quiet = λ never. behaves.faults.quiet (λ e. not_err call MailFault.Failed ok e);
      };
    }

  -- ---- they weren't

  module _ (name : List ℕ) (tells : TellsMade call result before after tag name) (failed : IsOk call → ⊥) where
    executes : Executes told result old new parts parts before after (λ shared. made shared change tag name)
    executes = executes_change told call result old new parts before after tag name tells behaves ready (λ world. change) (λ world. tt) makes

    none_done : (world : World) → IsMade told call old new world (apply world change) tt → Ended call → IsOk result → ⊥
    none_done world its (Made ok) done = failed ok
    none_done world its (Refused refusal is) done = no_outage refusal (subst (λ (r : Call). MatchResult r (λ given. given ≡ tt) IsOutage) is its.answers)
    none_done world its (Failed is) done = not_ok result StoreFault.Failed (tells.failed is) done
    none_done world its (Starved is) done = not_ok result StoreFault.NoMemory (tells.memory is) done

    does_refused : (world : World) (refusal : Option Refusal) → MakesUnless told call old new world (apply world change) tt refusal
        → Does told result old new parts before after (sharing world) (unless_refused (sharing world) change tag name refusal)
        → Does told result old new parts before after (sharing world) (stored_as world refusal)
    does_refused world None its does = record {
      stands = does.stands;
      settled = does.settled;
      parts_are = does.parts_are;
      tells = record { answer = λ done. absurd (none_done world its (ended call) done); outcome = does.tells.outcome };
      leaves = does.leaves;
    }
    does_refused world (Some refusal) its does = does

    pub executes_unstored : Executes told result old new parts parts before after (λ shared. stored_unless shared tag selection by_uid uids silent change (refused shared.world change))
    executes_unstored = record {
      carries = λ world stands. does_refused world (refused world change) (makes world stands) (executes.carries world stands);
      ready = executes.ready;
      faults = executes.faults;
    }
