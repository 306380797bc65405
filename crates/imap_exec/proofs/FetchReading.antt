-- Calls that read a store, one after another.
use Rattle.std.proofs.Common.{◌≡◌, ℕ, false, List, Option, Some, None, Result, Ok, IsErrOf, inl, inr, refl, subst, ◌∙◌, arith}
use Rattle.fault_counts.specs.Rose.{Rose}
use Rattle.disk_model.specs.Told.{Told, SameTold}
use Rattle.disk_model.specs.Calls.{LeavesAlone}
use Rattle.disk_model.specs.declared.disk.Files.{Files}
use Rattle.row_store.specs.ThreeFiles.{CountsNoFault, FaultRose, TellsFaults}
use Rattle.row_store.specs.Kept.{Store}
use Rattle.row_store.specs.declared.faults.StoreFault.{StoreFault}
use Rattle.imap_exec.specs.Fetching.{Reads}
use Rattle.imap_exec.proofs.Saying.{quiet_files}

abbrev pub Done : Result (Unit {0}) StoreFault
Done = Ok tt

not_failed : IsErrOf Done StoreFault.Failed → ⊥
not_failed e = cc

alone_same : {D : Type 0} (told : Told D) (d : D) → LeavesAlone told d d
alone_same told d = record { reading = refl; images = λ image. (λ x. x, λ x. x); moment = refl; left_since = λ since image. (λ x. x, λ x. x) }

alone_more : {D : Type 0} (told : Told D) (a b c : D) → LeavesAlone told a b → LeavesAlone told b c → LeavesAlone told a c
alone_more told a b c p q = record {
  reading = q.reading ∙ p.reading;
  images = λ image. (λ x. (p.images image).0 ((q.images image).0 x), λ x. (q.images image).1 ((p.images image).1 x));
  moment = q.moment ∙ p.moment;
  left_since = λ since image. (λ x. (p.left_since since image).0 ((q.left_since since image).0 x), λ x. (q.left_since since image).1 ((p.left_since since image).1 x));
}

same_more : (a b c : Option (List ℕ)) → SameTold a b → SameTold b c → SameTold a c
same_more None None None p q = tt
same_more None None (Some z) p q = absurd q
same_more None (Some y) c p q = absurd p
same_more (Some x) None c p q = absurd p
same_more (Some x) (Some y) None p q = absurd q
same_more (Some x) (Some y) (Some z) p q = tt

module _ {D : Type 0} (told : Told D) where
  pub reads_none : (store : Store D) → store.spent ≡ false → Reads told Done store store
  reads_none store usable = record {
    tables = refl;
    placed = refl;
    goes_on = λ ok. usable;
    alone = (alone_same told store.files.log0, alone_same told store.files.log1, alone_same told store.files.bodies);
    faults = quiet_files told store.files (IsErrOf Done StoreFault.Failed) not_failed;
  }

  rose : (a b c : Files D) → CountsNoFault told a b → FaultRose told b c → FaultRose told a c
  rose a b c n (inl r) = inl (subst (λ (k : ℕ). Rose k (told.faults c.log0)) n.0 r)
  rose a b c n (inr (inl r)) = inr (inl (subst (λ (k : ℕ). Rose k (told.faults c.log1)) n.1 r))
  rose a b c n (inr (inr r)) = inr (inr (subst (λ (k : ℕ). Rose k (told.faults c.bodies)) n.2 r))

  -- faults are told of two calls, the first of which had none
  pub faults_more : (a b c : Files D) (first second : Type 0) → TellsFaults told first a b → (first → ⊥) → TellsFaults told second b c → TellsFaults told second a c
  faults_more a b c first second p never q =
      let quiet = p.quiet never in
      record {
        disks = record {
          told0 = same_more _ _ _ p.disks.told0 q.disks.told0;
          told1 = same_more _ _ _ p.disks.told1 q.disks.told1;
          told_bodies = same_more _ _ _ p.disks.told_bodies q.disks.told_bodies;
          faults0 = omega (arith, p.disks.faults0, q.disks.faults0);
          faults1 = omega (arith, p.disks.faults1, q.disks.faults1);
          faults_bodies = omega (arith, p.disks.faults_bodies, q.disks.faults_bodies);
        };
        failed = λ t. rose a b c quiet (q.failed t);
        quiet = λ n. let n = q.quiet n in (n.0 ∙ quiet.0, n.1 ∙ quiet.1, n.2 ∙ quiet.2);
      }

  pub reads_more : {T : Type 0} (result : Result T StoreFault) (a b c : Store D) → Reads told Done a b → Reads told result b c → Reads told result a c
  reads_more result a b c p q = record {
    tables = q.tables ∙ p.tables;
    placed = q.placed ∙ p.placed;
    goes_on = q.goes_on;
    alone = (alone_more told _ _ _ p.alone.0 q.alone.0, alone_more told _ _ _ p.alone.1 q.alone.1, alone_more told _ _ _ p.alone.2 q.alone.2);
    faults = faults_more a.files b.files c.files (IsErrOf Done StoreFault.Failed) (IsErrOf result StoreFault.Failed) p.faults not_failed q.faults;
  }

  -- what was read stays so where nothing but memory fails afterwards
  pub reads_then : {T : Type 0} (result : Result T StoreFault) (a b : Store D) → Reads told Done a b → (IsErrOf result StoreFault.Failed → ⊥) → Reads told result a b
  reads_then result a b p never = record {
    tables = p.tables;
    placed = p.placed;
    goes_on = λ ok. p.goes_on refl;
    alone = p.alone;
    faults = record { disks = p.faults.disks; failed = λ t. absurd (never t); quiet = λ n. p.faults.quiet not_failed };
  }
