-- A call that finds nothing to change.
use Rattle.std.proofs.Common.{◌≡◌, false, List, [], ◌∷◌, length, IsOk, refl, sym, subst, arith}
use Rattle.disk_model.specs.Told.{Told}
use Rattle.row_tables.specs.TableRows.{TableRows}
use Rattle.row_tables.specs.Fits.{Runs}
use Rattle.row_tables.specs.declared.change.RowChange.{RowChange}
use Rattle.row_store.specs.Holding.{stored, in_row}
use Rattle.row_store.specs.Crashes.{Stays}
use Rattle.row_store.specs.Kept.{Store}
use Rattle.mail_world.specs.Worlds.{World}
use Rattle.mail_stands.specs.Stands.{Stands}
use Rattle.mail_stands.specs.Leading.{Leads}
use Rattle.mailbox_core.specs.declared.faults.MailFault.{MailFault}
use Rattle.mailbox_core.specs.Calls.{Behaves, IsMade}
use Rattle.mailbox_core.proofs.Behaving.{error_of, ok_of, quiet_files}
use Rattle.mailbox_core.proofs.Leaving.{commits_none, is_made}
use Rattle.mailbox_core.proofs.Owners.{keeps_all}

no_error : {T : Type 0} (answer : T) (fault : MailFault) → ok_of answer ≡ error_of T fault → ⊥
no_error answer fault e = cc

pub none_there : (changes : List RowChange) → length changes ≡ 0 → changes ≡ []
none_there [] e = refl
none_there (change ∷ changes) e = absurd (omega arith)

-- no change leads to other tables
same_tables : (t after : TableRows) (changes : List RowChange) → changes ≡ [] → Runs t changes after → t ≡ after
same_tables t after changes none runs = subst (λ (l : List RowChange). Runs t l after) none runs

module _ {D T : Type 0} (told : Told D) (store : Store D) (answer : T) (stays : Stays told (Unit {0}) store.files store.files (stored store.tables)) where
  pub behaves_unchanged : store.placed ≡ [] → store.spent ≡ false → Behaves told (ok_of answer) store store
  behaves_unchanged fresh usable = record {
    after = store.tables;
    owners = keeps_all store.tables;
    crash = commits_none told (IsOk (ok_of answer)) store.files (stored store.tables) stays;
    done = λ ok. (refl, fresh, usable);
    unchanged = λ refusal e. refl;
    untouched = λ e. refl;
    faults = quiet_files told store.files (ok_of answer ≡ error_of T MailFault.Failed) (no_error answer MailFault.Failed);
  }

  pub made_unchanged : (world next : World) (changes : List RowChange) → changes ≡ [] → Stands in_row store.tables world → Leads in_row store.tables changes next → IsMade told (ok_of answer) store store world next answer
  made_unchanged world next changes none stands leads =
      let same = same_tables store.tables leads.after changes none leads.runs in
      is_made told (ok_of answer) store store store.tables world next (commits_none told (IsOk (ok_of answer)) store.files (stored store.tables) stays) stands
      (subst (λ (t : TableRows). Stands in_row t next) (sym same) leads.stands) answer refl (λ ok. refl)
