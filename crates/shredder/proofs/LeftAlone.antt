-- A store that is left alone.
use Rattle.std.proofs.Common.{◌≡◌, ℕ, List, Option, Some, None, false, refl, sym, subst, arith}
use Rattle.disk_model.specs.Told.{Told, SameTold}
use Rattle.disk_model.specs.declared.disk.Files.{Files}
use Rattle.row_store.specs.ThreeFiles.{FaultRose, TellsFaults}
use Rattle.row_store.specs.Holding.{stored_by, in_row}
use Rattle.row_store.specs.Crashes.{Stays}
use Rattle.row_store.specs.Kept.{Store, KeepsState}
use Rattle.shredder.specs.Making.{IsSameStore}

same_told : (o : Option (List ℕ)) → SameTold o o
same_told None = tt
same_told (Some reading) = tt

faults_told : {D : Type 0} (told : Told D) (tells : Type 0) (files : Files D) → (tells → FaultRose told files files) → TellsFaults told tells files files
faults_told {D} told tells files failed = record {
  disks = record {
    told0 = same_told (told.reading files.log0);
    told1 = same_told (told.reading files.log1);
    told_bodies = same_told (told.reading files.bodies);
    faults0 = omega arith;
    faults1 = omega arith;
    faults_bodies = omega arith;
  };
  failed = failed;
  quiet = λ calm. (refl, refl, refl);
}

pub left_alone : {D : Type 0} (told : Told D) (done tells : Type 0) (old new : Store D) → IsSameStore old new → Stays told (Unit {0}) old.files old.files (stored_by in_row old.tables) → (tells → FaultRose told old.files new.files)
    → (done → new.spent ≡ false) → KeepsState told done tells old new
left_alone {D} told done tells old new same stays failed goes_on = record {
  tables = same.tables;
  crash = subst (λ (files : Files D). Stays told done old.files files (stored_by in_row old.tables)) (sym same.files) (record { settled = λ d. stays.settled tt; joint = stays.joint; within = stays.within; since = stays.since });
  faults = subst (λ (files : Files D). TellsFaults told tells old.files files) (sym same.files) (faults_told told tells old.files (λ h. subst (FaultRose told old.files) same.files (failed h)));
  goes_on = goes_on;
}
