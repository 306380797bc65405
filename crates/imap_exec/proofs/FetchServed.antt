-- Steps that read a store, and that make messages seen before.
use Rattle.std.proofs.Common.{◌≡◌, ◌++◌, ℕ, ◌≤◌, ◌==◌, length, arith, ◌&&◌, Bool, true, false, cond, List, [], ◌∷◌, Option, Some, None, Result, Err, IsOk, IsErrOf, IfOk, MatchResult, inl, inr, refl, sym, ap, subst, ◌∙◌}
use Rattle.std.proofs.lemmas.Bool.{eqb-true, false≢true}
use Rattle.disk_model.specs.Told.{Told, IfTold}
use Rattle.disk_model.specs.Images.{Only}
use Rattle.disk_model.specs.Calls.{IsAtRest, LeavesAlone}
use Rattle.disk_model.specs.declared.disk.Files.{Files}
use Rattle.row_tables.specs.TableRows.{TableRows}
use Rattle.row_store.specs.ThreeFiles.{FileBytes, IfRead, IsJointImage, IsLeftSince, LeavesAllAlone, LogMoments}
use Rattle.row_store.specs.Crashes.{HoldsOne, IsSettled, LeavesStates}
use Rattle.row_store.specs.Holding.{Holds, Stored, in_row, stored_by}
use Rattle.row_store.specs.Kept.{Store}
use Rattle.row_store.specs.declared.faults.StoreFault.{StoreFault}
use Rattle.session_units.specs.declared.forms.Awaits.TheVariants.{Command as AwaitsCommand}
use Rattle.imap_grammar.specs.declared.items.FetchItem.{FetchItem}
use Rattle.session_view.specs.declared.sessions.SessionPart.{SessionPart}
use Rattle.session_view.specs.declared.sessions.Selection.{Selection}
use Rattle.mail_world.specs.Worlds.{World}
use Rattle.mail_world.specs.Changes.{Change, Refusal}
use Rattle.mail_world.specs.Applying.{apply, refused}
use Rattle.mail_stands.specs.Stands.{Stands}
use Rattle.mailbox_core.specs.declared.faults.MailFault.{MailFault}
use Rattle.mailbox_core.specs.declared.faults.MailFault.TheVariants as fault
use Rattle.mailbox_core.specs.Faults.{fault_of, IsOutage}
use Rattle.mailbox_core.specs.Left.{Left}
use Rattle.mailbox_core.specs.Calls.{Behaves, Makes, MakesUnless}
use Rattle.imap_steps.specs.declared.outcome.Outcome.{Outcome}
use Rattle.imap_steps.specs.Stepping.{Shared, Stepped, answered, applied, changed}
use Rattle.imap_steps.specs.Storing.{some_gone}
use Rattle.std.specs.List.{list_any}
use Rattle.fetch_writer.specs.Asked.{marks_seen}
use Rattle.session_view.specs.Resolving.{resolved}
use Rattle.imap_steps.specs.Fetching.{fetch, fetched, fetch_line, newly_seen, seeing, seeing_if, seen_unless, served, unseen_among}
use Rattle.imap_exec.specs.Ready.{AreLive, IsReady}
use Rattle.imap_exec.specs.Does.{Does, Executes, Tells, worlds_after}
use Rattle.imap_exec.specs.Answers.{refusal_in}
use Rattle.imap_exec.specs.Fetching.{Reads, fetched_text}
use Rattle.imap_exec.proofs.FetchReading.{faults_more}
use Rattle.imap_exec.proofs.Living.{live_stay}
use Rattle.imap_exec.proofs.Making.{Ended, Made, Refused, Failed, Starved, ended, no_outage, not_ok}

-- ---- files that are left alone

-- a fact about files that are read
abbrev ReadOf : Option (List ℕ) → Option (List ℕ) → Option (List ℕ) → (FileBytes → Type 0) → Type 0
ReadOf a b c P = IfTold a (λ log0. IfTold b (λ log1. IfTold c (λ bodies. P (record { log0 = log0; log1 = log1; bodies = bodies }))))

read_of : (a b c : Option (List ℕ)) (P Q : FileBytes → Type 0) → ((bytes : FileBytes) → P bytes → Q bytes) → ReadOf a b c P → ReadOf a b c Q
read_of None b c P Q f p = tt
read_of (Some x) None c P Q f p = tt
read_of (Some x) (Some y) None P Q f p = tt
read_of (Some x) (Some y) (Some z) P Q f p = f (record { log0 = x; log1 = y; bodies = z }) p

module _ {D : Type 0} (told : Told D) (old new : Files D) (alone : LeavesAllAlone told old new) where
  read_on : (P Q : FileBytes → Type 0) → ((bytes : FileBytes) → P bytes → Q bytes) → IfRead told old P → IfRead told new Q
  read_on P Q f p =
      subst (λ (r : Option (List ℕ)). ReadOf r (told.reading new.log1) (told.reading new.bodies) Q) (sym alone.0.reading)
      (subst (λ (r : Option (List ℕ)). ReadOf (told.reading old.log0) r (told.reading new.bodies) Q) (sym alone.1.reading)
      (subst (λ (r : Option (List ℕ)). ReadOf (told.reading old.log0) (told.reading old.log1) r Q) (sym alone.2.reading)
      (read_of (told.reading old.log0) (told.reading old.log1) (told.reading old.bodies) P Q f p)))

  joint_back : (image : FileBytes) → IsJointImage told new image → IsJointImage told old image
  joint_back image its = ((alone.0.images image.log0).0 its.0, (alone.1.images image.log1).0 its.1, (alone.2.images image.bodies).0 its.2)

  since_back : (since : LogMoments) (image : FileBytes) → IsLeftSince told new since image → IsLeftSince told old since image
  since_back since image (inl its) = inl ((alone.0.left_since since.log0 image.log0).0 its.0, (alone.1.images image.log1).0 its.1, (alone.2.images image.bodies).0 its.2)
  since_back since image (inr its) = inr ((alone.0.images image.log0).0 its.0, (alone.1.left_since since.log1 image.log1).0 its.1, (alone.2.images image.bodies).0 its.2)

  pub left_on : (since : LogMoments) (worlds : List World) → Left told old since worlds → Left told new since worlds
  left_on since worlds left = record {
    states = left.states;
    stand = left.stand;
    joint = read_on (λ bytes. (image : FileBytes) → IsJointImage told old image → HoldsOne image left.states) (λ bytes. (image : FileBytes) → IsJointImage told new image → HoldsOne image left.states) (λ bytes its image is. its image (joint_back image is)) left.joint;
    moments = read_on (λ bytes. LeavesStates told old since left.states) (λ bytes. LeavesStates told new since left.states) (λ bytes its. record {
      later0 = subst (λ (n : ℕ). since.log0 ≤ n) (sym alone.0.moment) its.later0;
      later1 = subst (λ (n : ℕ). since.log1 ≤ n) (sym alone.1.moment) its.later1;
      each = λ image is. its.each image (since_back since image is);
    }) left.moments;
  }

rest_on : {D : Type 0} (told : Told D) (a b : D) → LeavesAlone told a b → IsAtRest told a → IsAtRest told b
rest_on told a b alone rest = by (told.reading a) rest (told.reading b) alone.reading
  where
    by : (o : Option (List ℕ)) → IfTold o (λ reading. Only reading (told.images a)) → (n : Option (List ℕ)) → n ≡ o → IfTold n (λ reading. Only reading (told.images b))
    by o only n e = subst (λ (n : Option (List ℕ)). IfTold n (λ reading. Only reading (told.images b))) (sym e) (only_on o only)
      where
        only_on : (o : Option (List ℕ)) → IfTold o (λ reading. Only reading (told.images a)) → IfTold o (λ reading. Only reading (told.images b))
        only_on None only = tt
        only_on (Some reading) only = λ image is. only image ((alone.images image).0 is)

module _ {D : Type 0} (told : Told D) (old new : Files D) (alone : LeavesAllAlone told old new) where
  settled_by : (state : Stored) → IsSettled told old state → IsSettled told new state
  settled_by state its = record {
    rest = (rest_on told old.log0 new.log0 alone.0 its.rest.0, rest_on told old.log1 new.log1 alone.1 its.rest.1, rest_on told old.bodies new.bodies alone.2 its.rest.2);
    holds = read_on told old new alone (λ bytes. Holds bytes state.tables state.contents) (λ bytes. Holds bytes state.tables state.contents) (λ bytes holds. holds) its.holds;
  }

-- ---- a store that is read

module _ {D : Type 0} (told : Told D) (result : Result Outcome StoreFault) (old new : Store D) (reads : Reads told result old new) where
  settled_on : IsSettled told old.files (stored_by in_row old.tables) → IsSettled told new.files (stored_by in_row new.tables)
  settled_on its = subst (λ (t : TableRows). IsSettled told new.files (stored_by in_row t)) (sym reads.tables) (settled_by told old.files new.files reads.alone (stored_by in_row old.tables) its)

  ready_on : (parts : List SessionPart) → IsReady old parts → IsOk result → IsReady new parts
  ready_on parts ready ok = record {
    unspent = reads.goes_on ok;
    none_placed = reads.placed ∙ ready.none_placed;
    live = subst (λ (t : TableRows). AreLive t parts) (sym reads.tables) ready.live;
  }

module _ {D : Type 0} (told : Told D) (result : Result Outcome StoreFault) (before after tag : List ℕ) (selection : Selection) (by_uid : Bool) (items : List FetchItem) (uids : List ℕ) (gone : Bool) (parts : List SessionPart) where
  abbrev sharing : World → Shared
  sharing world = record { world = world; parts = parts }

  abbrev TellsSeen : World → List ℕ → Type 0
  TellsSeen w seen = (shared : Shared) → Tells result before after (answered shared (fetched_text w tag selection by_uid items seen uids gone))

  -- ---- no message is made seen

  module _ (old new : Store D) (reads : Reads told result old new) (ready : IsReady old parts)
      (gone_is : (world : World) → Stands in_row old.tables world → gone ≡ some_gone world selection.mailbox uids)
      (tells : (world : World) → Stands in_row old.tables world → TellsSeen world []) where
    does_plain : (world : World) → Stands in_row old.tables world → Does told result old new parts before after (sharing world) (served (sharing world) tag selection by_uid items uids [])
    does_plain world stands = record {
      stands = λ ok. subst (λ (t : TableRows). Stands in_row t world) (sym reads.tables) stands;
      settled = λ ok settled. settled_on told result old new reads settled;
      parts_are = λ ok. refl;
      tells = record {
        answer = λ ok. subst (λ (b : Bool). after ≡ before ++ (fetched world selection by_uid items [] uids ++ fetch_line tag by_uid b)) (gone_is world stands) ((tells world stands (sharing world)).answer ok);
        outcome = (tells world stands (sharing world)).outcome;
      };
      leaves = λ since earlier left. left_on told old.files new.files reads.alone since (world ∷ earlier) left;
    }

    pub executes_plain : (seen : World → List ℕ) → ((world : World) → Stands in_row old.tables world → seen world ≡ [])
        → Executes told result old new parts parts before after (λ shared. served shared tag selection by_uid items uids (seen shared.world))
    executes_plain seen none = record {
      carries = λ world stands. subst (λ (s : List ℕ). Does told result old new parts before after (sharing world) (served (sharing world) tag selection by_uid items uids s)) (sym (none world stands)) (does_plain world stands);
      ready = ready_on told result old new reads parts ready;
      faults = reads.faults;
    }

  -- ---- messages are made seen, or are to be

  module _ (call : Result (Unit {0}) MailFault) (unseen : List ℕ) (old mid : Store D) (behaves : Behaves told call old mid) (ready : IsReady old parts)
      (makes : (world : World) → Stands in_row old.tables world → Makes told call old mid world (seeing selection.mailbox unseen) tt) where
    abbrev change : Change
    change = seeing selection.mailbox unseen

    abbrev as_refused : World → Option Refusal → Stepped
    as_refused world refusal = served (sharing world) tag selection by_uid items uids (seen_unless unseen refusal)

    seeing_some : (l : List ℕ) → (l ≡ [] → ⊥) → seeing_if selection.mailbox l ≡ Some (seeing selection.mailbox l)
    seeing_some [] some = absurd (some refl)
    seeing_some (u ∷ us) some = refl

    not_err : (fault : MailFault) → IsOk call → call ≡ Err fault → ⊥
    not_err fault ok is = false≢true (subst (λ (r : Result (Unit {0}) MailFault). IsOk r) is ok)

    -- it was made

    module _ (new : Store D) (ok : IsOk call) (some : unseen ≡ [] → ⊥) (reads : Reads told result mid new)
        (gone_is : (world : World) → Stands in_row old.tables world → gone ≡ some_gone world selection.mailbox uids)
        (tells : (world : World) → Stands in_row mid.tables world → TellsSeen world unseen) where
      does_seen : (world : World) → Stands in_row old.tables world → (refusal : Option Refusal) → MakesUnless told call old mid world (apply world change) tt refusal
          → Does told result old new parts before after (sharing world) (as_refused world refusal)
      unfolding applied
      does_seen world stands None its =
          let now : Stands in_row mid.tables (apply world change) = its.stands ok in
          let said = tells (apply world change) now (sharing world) in
          let steps : Option Change → Stepped = λ c. record {
            change = c;
            answer = fetched (changed world c) selection by_uid items unseen uids ++ fetch_line tag by_uid (some_gone world selection.mailbox uids);
            parts = parts;
            closes = false;
            next = AwaitsCommand;
          } in
          subst (λ (c : Option Change). Does told result old new parts before after (sharing world) (steps c)) (sym (seeing_some unseen some)) (record {
            stands = λ done. subst (λ (t : TableRows). Stands in_row t (apply world change)) (sym reads.tables) now;
            settled = λ done settled. settled_on told result mid new reads (its.settled ok);
            parts_are = λ done. refl;
            tells = record {
              answer = λ done. subst (λ (b : Bool). after ≡ before ++ (fetched (apply world change) selection by_uid items unseen uids ++ fetch_line tag by_uid b)) (gone_is world stands) (said.answer done);
              outcome = said.outcome;
            };
            leaves = λ since earlier left. left_on told mid.files new.files reads.alone since (apply world change ∷ world ∷ earlier) (its.since since earlier left);
          })
      does_seen world stands (Some refusal) its = absurd (not_err (fault_of refusal) ok its.answers)

      mid_ready : IsReady mid parts
      mid_ready = record {
        unspent = (behaves.done ok).2;
        none_placed = (behaves.done ok).1;
        live = subst (λ (t : TableRows). AreLive t parts) (sym (behaves.done ok).0) (live_stay old.tables behaves.after behaves.owners parts ready.live);
      }

      pub executes_seen : Executes told result old new parts parts before after (λ shared. served shared tag selection by_uid items uids (seen_unless unseen (refused shared.world change)))
      executes_seen = record {
        carries = λ world stands. does_seen world stands (refused world change) (makes world stands);
        ready = ready_on told result mid new reads parts mid_ready;
        faults = faults_more told old.files mid.files new.files (IsErrOf call MailFault.Failed) (IsErrOf result StoreFault.Failed) behaves.faults (λ e. not_err MailFault.Failed ok e) reads.faults;
      }

    -- it was refused

    refused_so : (IsOk call → ⊥) → (call ≡ Err MailFault.Failed → ⊥) → (call ≡ Err MailFault.NoMemory → ⊥) → Ended call → mid ≡ old
    refused_so not_made not_failed not_starved (Made ok) = absurd (not_made ok)
    refused_so not_made not_failed not_starved (Refused refusal is) = behaves.unchanged refusal is
    refused_so not_made not_failed not_starved (Failed is) = absurd (not_failed is)
    refused_so not_made not_failed not_starved (Starved is) = absurd (not_starved is)

    none_seen : (not_made : IsOk call → ⊥) (not_failed : call ≡ Err MailFault.Failed → ⊥) (not_starved : call ≡ Err MailFault.NoMemory → ⊥) (world : World) (refusal : Option Refusal)
        → MakesUnless told call old mid world (apply world change) tt refusal → Ended call → seen_unless unseen refusal ≡ []
    none_seen not_made not_failed not_starved world None its (Made ok) = absurd (not_made ok)
    none_seen not_made not_failed not_starved world None its (Refused refusal is) = absurd (no_outage refusal (subst (λ (r : Result (Unit {0}) MailFault). MatchResult r (λ given. given ≡ tt) IsOutage) is its.answers))
    none_seen not_made not_failed not_starved world None its (Failed is) = absurd (not_failed is)
    none_seen not_made not_failed not_starved world None its (Starved is) = absurd (not_starved is)
    none_seen not_made not_failed not_starved world (Some refusal) its end = refl

    pub executes_unseen : (new : Store D) → (IsOk call → ⊥) → (call ≡ Err MailFault.Failed → ⊥) → (call ≡ Err MailFault.NoMemory → ⊥) → Reads told result mid new
        → ((world : World) → Stands in_row old.tables world → gone ≡ some_gone world selection.mailbox uids)
        → ((world : World) → Stands in_row mid.tables world → TellsSeen world [])
        → Executes told result old new parts parts before after (λ shared. served shared tag selection by_uid items uids (seen_unless unseen (refused shared.world change)))
    executes_unseen new not_made not_failed not_starved reads gone_is tells =
        let same : mid ≡ old = refused_so not_made not_failed not_starved (ended call) in
        executes_plain old new (subst (λ (s : Store D). Reads told result s new) same reads) ready gone_is
        (subst (λ (s : Store D). (world : World) → Stands in_row s.tables world → TellsSeen world []) same tells)
        (λ world. seen_unless unseen (refused world change))
        (λ world stands. none_seen not_made not_failed not_starved world (refused world change) (makes world stands) (ended call))

    -- a disk failed, or memory was refused

    module _ (fault : StoreFault) (is : result ≡ Err fault) (failed_so : IsErrOf result StoreFault.Failed → IsErrOf call MailFault.Failed) (failed_then : IsErrOf call MailFault.Failed → IsErrOf result StoreFault.Failed) (some : unseen ≡ [] → ⊥) where
      left_failed : (world : World) (refusal : Option Refusal) → MakesUnless told call old mid world (apply world change) tt refusal
          → (since : LogMoments) (earlier : List World) → Left told old.files since (world ∷ earlier) → Left told mid.files since (worlds_after world (as_refused world refusal).change earlier)
      unfolding applied
      left_failed world None its since earlier left = subst (λ (c : Option Change). Left told mid.files since (worlds_after world c earlier)) (sym (seeing_some unseen some)) (its.since since earlier left)
      left_failed world (Some refusal) its since earlier left = subst (λ (s : Store D). Left told s.files since (world ∷ earlier)) (sym its.unchanged) left

      none : IsOk result → ⊥
      none done = not_ok result fault is done

      pub executes_failed : Executes told result old mid parts parts before after (λ shared. served shared tag selection by_uid items uids (seen_unless unseen (refused shared.world change)))
      executes_failed = record {
        carries = λ world stands. record {
          stands = λ done. absurd (none done);
          settled = λ done. absurd (none done);
          parts_are = λ done. absurd (none done);
          tells = record {
            answer = λ done. absurd (none done);
            outcome = subst (λ (r : Result Outcome StoreFault). IfOk r (λ outcome. (outcome.closes ≡ false) × (outcome.awaits ≡ AwaitsCommand))) (sym is) tt;
          };
          leaves = left_failed world (refused world change) (makes world stands);
        };
        ready = λ done. absurd (none done);
        faults = record {
          disks = behaves.faults.disks;
          failed = λ e. behaves.faults.failed (failed_so e);
          quiet = λ never. behaves.faults.quiet (λ e. never (failed_then e));
        };
      }

-- ---- the command

pub fetch_as : (shared : Shared) (tag : List ℕ) (selection : Selection) (by_uid : Bool) (ranges : List (Option ℕ × Option ℕ)) (items : List FetchItem) (uids : List ℕ) → uids ≡ resolved selection.view.uids ranges by_uid
    → fetch shared tag selection by_uid ranges items ≡ served shared tag selection by_uid items uids (newly_seen shared.world selection items uids)
unfolding fetch
fetch_as shared tag selection by_uid ranges items uids is =
    ap (λ (us : List ℕ). served shared tag selection by_uid items us (newly_seen shared.world selection items us)) (sym is)

module _ (world : World) (selection : Selection) (items : List FetchItem) (uids : List ℕ) where
  abbrev all_seen : List ℕ
  all_seen = seen_unless (unseen_among world selection.mailbox uids) (refused world (seeing selection.mailbox (unseen_among world selection.mailbox uids)))

  pub seen_by_none : (selection.read_write && list_any marks_seen items) ≡ false → newly_seen world selection items uids ≡ []
  seen_by_none is = ap (λ (b : Bool). cond b all_seen []) is

  pub seen_by_all : (selection.read_write && list_any marks_seen items) ≡ true → newly_seen world selection items uids ≡ all_seen
  seen_by_all is = ap (λ (b : Bool). cond b all_seen []) is

-- ---- how a fault of the change is told

pub no_failure : (m : MailFault) (call : Result (Unit {0}) MailFault) → call ≡ Err m → IsOk (refusal_in m) → call ≡ Err MailFault.Failed → ⊥
no_failure m call is told e = false≢true (subst (λ (f : MailFault). IsOk (refusal_in f)) (same_err m MailFault.Failed is e) told)
  where
    same_err : (a b : MailFault) → call ≡ Err a → call ≡ Err b → a ≡ b
    same_err a b e f = cc

pub no_starving : (m : MailFault) (call : Result (Unit {0}) MailFault) → call ≡ Err m → IsOk (refusal_in m) → call ≡ Err MailFault.NoMemory → ⊥
no_starving m call is told e = false≢true (subst (λ (f : MailFault). IsOk (refusal_in f)) (same_err m MailFault.NoMemory is e) told)
  where
    same_err : (a b : MailFault) → call ≡ Err a → call ≡ Err b → a ≡ b
    same_err a b e f = cc

pub none_long : (uids : List ℕ) → (length uids == 0) ≡ true → uids ≡ []
none_long [] e = refl
none_long (u ∷ uids) e = let h = eqb-true (length (u ∷ uids)) 0 e in absurd (omega arith)

pub some_long : (uids : List ℕ) → (length uids == 0) ≡ false → uids ≡ [] → ⊥
some_long uids e is = false≢true (sym e ∙ ap (λ (l : List ℕ). length l == 0) is)

pub unless_some : (uids : List ℕ) (refusal : Option Refusal) → uids ≡ [] → seen_unless uids refusal ≡ []
unless_some uids None e = e
unless_some uids (Some refusal) e = refl

-- a refused change left the store as it was
pub same_store : {D : Type 0} (told : Told D) (call : Result (Unit {0}) MailFault) (old mid : Store D) → Behaves told call old mid → (m : MailFault) → call ≡ Err m → IsOk (refusal_in m) → mid ≡ old
same_store told call old mid behaves m is fits = by (ended call)
  where
    by : Ended call → mid ≡ old
    by (Made ok) = absurd (false≢true (subst (λ (r : Result (Unit {0}) MailFault). IsOk r) is ok))
    by (Refused refusal e) = behaves.unchanged refusal e
    by (Failed e) = absurd (no_failure m call is fits e)
    by (Starved e) = absurd (no_starving m call is fits e)

pub fault_told : (m : MailFault) (f : StoreFault) → refusal_in m ≡ Err f → f ≡ StoreFault.Failed → m ≡ MailFault.Failed
fault_told fault.BadName f e t = cc
fault_told fault.Absent f e t = cc
fault_told fault.Exists f e t = cc
fault_told fault.InUse f e t = cc
fault_told fault.Full f e t = cc
fault_told fault.NoUid f e t = cc
fault_told fault.Failed f e t = refl
fault_told fault.NoMemory f e t = cc

pub fault_given : (m : MailFault) (f : StoreFault) → refusal_in m ≡ Err f → m ≡ MailFault.Failed → f ≡ StoreFault.Failed
fault_given fault.BadName f e t = cc
fault_given fault.Absent f e t = cc
fault_given fault.Exists f e t = cc
fault_given fault.InUse f e t = cc
fault_given fault.Full f e t = cc
fault_given fault.NoUid f e t = cc
fault_given fault.Failed f e t = cc
fault_given fault.NoMemory f e t = cc

-- a call that answered with a fault made nothing
pub not_made_so : (m : MailFault) (call : Result (Unit {0}) MailFault) → call ≡ Err m → IsOk call → ⊥
not_made_so m call is ok = false≢true (subst (λ (r : Result (Unit {0}) MailFault). IsOk r) is ok)

-- the same step where the tables stand for the world
pub executed_where : {D : Type 0} (told : Told D) (result : Result Outcome StoreFault) (old new : Store D) (parts parts' : List SessionPart) (before after : List ℕ) (steps others : Shared → Stepped)
    → ((world : World) → Stands in_row old.tables world → others (record { world = world; parts = parts }) ≡ steps (record { world = world; parts = parts }))
    → Executes told result old new parts parts' before after steps → Executes told result old new parts parts' before after others
executed_where told result old new parts parts' before after steps others same done = record {
  carries = λ world stands. subst (λ (s : Stepped). Does told result old new parts' before after (record { world = world; parts = parts }) s) (sym (same world stands)) (done.carries world stands);
  ready = done.ready;
  faults = done.faults;
}
