-- What a call does to a store, from what its commit does.
use Rattle.std.proofs.Common.{◌≡◌, ℕ, true, false, List, [], Option, Some, None, Result, Ok, Err, IsOk, IsErrOf, inl, inr, refl, sym, ap, subst, arith}
use Rattle.std.proofs.lemmas.Bool.{false≢true}
use Rattle.disk_model.specs.Told.{Told, SameTold}
use Rattle.disk_model.specs.declared.disk.Files.{Files}
use Rattle.row_tables.specs.TableRows.{TableRows}
use Rattle.row_store.specs.declared.faults.StoreFault.{StoreFault}
use Rattle.row_store.specs.declared.faults.StoreFault.TheVariants.{Failed, NoMemory}
use Rattle.row_store.specs.ThreeFiles.{TellsFaults}
use Rattle.row_store.specs.Holding.{stored, in_row}
use Rattle.row_store.specs.Crashes.{Commits, Stays}
use Rattle.row_store.specs.Kept.{Store}
use Rattle.mail_world.specs.Worlds.{World}
use Rattle.mail_world.specs.Changes.{Refusal, BadName, Absent, Exists, InUse, Full, NoUid}
use Rattle.mail_stands.specs.Stands.{Stands}
use Rattle.mail_stands.specs.Leading.{KeepsOwners}
use Rattle.mailbox_core.specs.declared.faults.MailFault.{MailFault}
use Rattle.mailbox_core.specs.Faults.{fault_in, fault_of, IsOutage}
use Rattle.mailbox_core.specs.Calls.{AnswersUnlessFailed, Behaves, BehavesBy, IsMade, MakesUnless}
use Rattle.mailbox_core.specs.Rooms.{AreTables}
use Rattle.mailbox_core.proofs.Leaving.{commits_nothing, is_made}
use Rattle.mailbox_core.proofs.Owners.{keeps_all}

abbrev pub error_of : (T : Type 0) → MailFault → Result T MailFault
error_of T fault = Err fault

abbrev pub ok_of : {T : Type 0} → T → Result T MailFault
ok_of answer = Ok answer

-- the answers of a commit
abbrev committed : Result (Unit {0}) StoreFault
committed = Ok tt

abbrev uncommitted : StoreFault → Result (Unit {0}) StoreFault
uncommitted fault = Err fault

-- no refusal tells of a disk's fault, nor of want of memory
pub not_failed : {T : Type 0} (refusal : Refusal) → error_of T MailFault.Failed ≡ error_of T (fault_of refusal) → ⊥
not_failed BadName e = cc
not_failed Absent e = cc
not_failed Exists e = cc
not_failed InUse e = cc
not_failed Full e = cc
not_failed NoUid e = cc

pub not_starved : {T : Type 0} (refusal : Refusal) → error_of T MailFault.NoMemory ≡ error_of T (fault_of refusal) → ⊥
not_starved BadName e = cc
not_starved Absent e = cc
not_starved Exists e = cc
not_starved InUse e = cc
not_starved Full e = cc
not_starved NoUid e = cc

-- ---- faults of disks

pub tells_as : {D : Type 0} (told : Told D) (old new : Files D) (tells other : Type 0) → (other → tells) → (tells → other) → TellsFaults told tells old new → TellsFaults told other old new
tells_as told old new tells other back forth faults = record {
  disks = faults.disks;
  failed = λ t. faults.failed (back t);
  quiet = λ never. faults.quiet (λ t. never (forth t));
}

same_told : (o : Option (List ℕ)) → SameTold o o
same_told None = tt
same_told (Some x) = tt

-- nothing was called
pub quiet_files : {D : Type 0} (told : Told D) (files : Files D) (tells : Type 0) → (tells → ⊥) → TellsFaults told tells files files
quiet_files told files tells never = record {
  disks = record {
    told0 = same_told (told.reading files.log0);
    told1 = same_told (told.reading files.log1);
    told_bodies = same_told (told.reading files.bodies);
    faults0 = omega arith;
    faults1 = omega arith;
    faults_bodies = omega arith;
  };
  failed = λ t. absurd (never t);
  quiet = λ n. (refl, refl, refl);
}

-- ---- a store that is left alone

module _ {D T : Type 0} (told : Told D) (result : Result T MailFault) (store : Store D) (stays : Stays told (Unit {0}) store.files store.files (stored store.tables)) (never : IsOk result → ⊥) where
  pub behaves_still : (Keeps : TableRows → TableRows → Type 0) → Keeps store.tables store.tables → (IsErrOf result MailFault.Failed → ⊥) → BehavesBy Keeps told result store store
  behaves_still Keeps kept sound = record {
    after = store.tables;
    owners = kept;
    crash = commits_nothing told (IsOk result) store.files (stored store.tables) (stored store.tables) never stays;
    done = λ ok. absurd (never ok);
    unchanged = λ refusal e. refl;
    untouched = λ e. refl;
    faults = quiet_files told store.files (IsErrOf result MailFault.Failed) sound;
  }

  pub behaves_alone : (IsErrOf result MailFault.Failed → ⊥) → Behaves told result store store
  behaves_alone sound = behaves_still KeepsOwners (keeps_all store.tables) sound

  -- want of memory before a commit
  pub made_alone : (world next : World) (after : TableRows) (answer : T) → result ≡ Err MailFault.NoMemory → Stands in_row store.tables world → Stands in_row after next → IsMade told result store store world next answer
  made_alone world next after answer starved before_stands after_stands =
      is_made told result store store after world next
      (commits_nothing told (IsOk result) store.files (stored store.tables) (stored after) never stays) before_stands after_stands
      answer (subst (λ (r : Result T MailFault). AnswersUnlessFailed r answer) (sym starved) (inr refl)) (λ ok. absurd (never ok))

-- ---- a commit

module _ {D T : Type 0} (told : Told D) (old new : Store D) (after : TableRows) where
  pub behaves_ok : (answer : T) → Commits told (true ≡ true) old.files new.files (stored old.tables) (stored after) → new.tables ≡ after → new.placed ≡ [] → new.spent ≡ false
      → TellsFaults told (IsErrOf committed StoreFault.Failed) old.files new.files → BehavesBy (AreTables after) told (Ok answer) old new
  behaves_ok answer crash tables placed spent faults = record {
    after = after;
    owners = refl;
    crash = crash;
    done = λ ok. (tables, placed, spent);
    unchanged = λ refusal e. cc;
    untouched = λ e. cc;
    faults = tells_as told old.files new.files (IsErrOf committed StoreFault.Failed) (ok_of answer ≡ error_of T MailFault.Failed) (λ e. cc) (λ e. cc) faults;
  }

  pub behaves_err : (fault : StoreFault) → Commits told (false ≡ true) old.files new.files (stored old.tables) (stored after)
      → (IsErrOf (uncommitted fault) StoreFault.NoMemory → new.files ≡ old.files) → TellsFaults told (IsErrOf (uncommitted fault) StoreFault.Failed) old.files new.files
      → BehavesBy (AreTables after) told (error_of T (fault_in fault)) old new
  behaves_err Failed crash untouched faults = record {
    after = after;
    owners = refl;
    crash = crash;
    done = λ ok. absurd (false≢true ok);
    unchanged = λ refusal e. absurd (not_failed refusal e);
    untouched = λ e. cc;
    faults = tells_as told old.files new.files (IsErrOf (uncommitted StoreFault.Failed) StoreFault.Failed) (error_of T MailFault.Failed ≡ error_of T MailFault.Failed) (λ e. refl) (λ e. refl) faults;
  }
  behaves_err NoMemory crash untouched faults = record {
    after = after;
    owners = refl;
    crash = crash;
    done = λ ok. absurd (false≢true ok);
    unchanged = λ refusal e. absurd (not_starved refusal e);
    untouched = λ e. untouched refl;
    faults = tells_as told old.files new.files (IsErrOf (uncommitted StoreFault.NoMemory) StoreFault.Failed) (error_of T MailFault.NoMemory ≡ error_of T MailFault.Failed) (λ e. cc) (λ e. cc) faults;
  }

-- what stays in the tables with a call's changes
pub behaves_kept : {D T : Type 0} (Keeps : TableRows → TableRows → Type 0) (told : Told D) (result : Result T MailFault) (old new : Store D) (after : TableRows)
    → Keeps old.tables after → BehavesBy (AreTables after) told result old new → BehavesBy Keeps told result old new
behaves_kept Keeps told result old new after kept its = record {
  after = its.after;
  owners = subst (λ (t : TableRows). Keeps old.tables t) (sym its.owners) kept;
  crash = its.crash;
  done = its.done;
  unchanged = its.unchanged;
  untouched = its.untouched;
  faults = its.faults;
}

-- the same fault, as another call answers it
module _ {D T : Type 0} (told : Told D) (old new : Store D) (fault : StoreFault) (given : MailFault) (is : given ≡ fault_in fault) where
  pub behaves_told : (Keeps : TableRows → TableRows → Type 0) → BehavesBy Keeps told (error_of T (fault_in fault)) old new → BehavesBy Keeps told (error_of T given) old new
  behaves_told Keeps behaves = subst (λ (f : MailFault). BehavesBy Keeps told (error_of T f) old new) (sym is) behaves

  pub made_told : (world next : World) (answer : T) → IsMade told (error_of T (fault_in fault)) old new world next answer → IsMade told (error_of T given) old new world next answer
  made_told world next answer made = subst (λ (f : MailFault). IsMade told (error_of T f) old new world next answer) (sym is) made

pub is_outage : (fault : StoreFault) (given : MailFault) → given ≡ fault_in fault → IsOutage given
is_outage Failed given is = inl is
is_outage NoMemory given is = inr is

-- ---- a refusal

-- the world's refusal is the one that is answered
pub refused_as : {D T : Type 0} (told : Told D) (fault : MailFault) (store : Store D) (world after : World) (answer : T) (refusal : Refusal) (of_world : Option Refusal) → of_world ≡ Some refusal → fault ≡ fault_of refusal
    → MakesUnless told (error_of T fault) store store world after answer of_world
refused_as {D} {T} told fault store world after answer refusal of_world is fault_is =
    subst (λ (r : Option Refusal). MakesUnless told (error_of T fault) store store world after answer r) (sym is)
    (record { answers = ap (λ (f : MailFault). error_of T f) fault_is; unchanged = refl })
