-- The files of a store, before and after they were made sure of, and what the words about them come to.
use Rattle.std.proofs.Common.{◌≡◌, ◌≤◌, ◌+◌, ℕ, List, [], ◌∷◌, refl, subst, sym, ◌∙◌, inl, inr, arith}
use Rattle.std.specs.Prelude.{◌⊎◌, Option, Some, None}
use Rattle.fault_counts.specs.Rose.{Rose}
use Rattle.disk_model.specs.Told.{Told, IfTold}
use Rattle.disk_model.specs.Images.{Torn}
use Rattle.disk_model.specs.declared.disk.Files.{Files}
use Rattle.row_tables.specs.TableRows.{TableRows}
use Rattle.admin_texts.specs.Listing.{listing_of}
use Rattle.row_store.specs.declared.faults.LoadFault.{LoadFault}
use Rattle.row_store.specs.declared.faults.LoadFault.TheVariants.{Failed as LoadFailed, NotAStore as LoadNotAStore, NoMemory as LoadNoMemory}
use Rattle.row_store.specs.declared.loading.Unloaded.{Unloaded}
use Rattle.row_store.specs.ThreeFiles.{FileBytes, IfRead, FaultRose, CountsNoFault, TellsFaults, KeepsDisks, ReadsNothing, MakesSure, MakesAllSure}
use Rattle.row_store.specs.OpenLog.{LeavesOthers}
use Rattle.row_store.specs.Holding.{Holds, HoldsNone, content_in, stored, nothing_stored}
use Rattle.row_store.specs.Crashes.{IsSettled, JointlyHolds}
use Rattle.row_store.specs.Loading.{IsNoStore, ReadsLogOnce}
use Rattle.mail_server.specs.declared.status.Status.{Status}
use Rattle.mail_server.specs.declared.status.Status.TheVariants.{Done, NoMemory, StoreFault, NotAStore, Refused}
use Rattle.mail_server.specs.Outside.{EndsWriting}
use Rattle.mail_server.specs.Stores.{HoldsTables, HoldsSome, TearsHead, MakesStore, InitEnds, ListsTables, TablesEnds, store_exists}

rose-later : (a b c : ℕ) → a ≤ b → Rose b c → Rose a c
rose-later a b c le rose = omega (arith, le, rose)

-- a fault after a call is one from before it
pub fault-later : {D : Type 0} (told : Told D) (old mid new : Files D) → KeepsDisks told old mid → FaultRose told mid new → FaultRose told old new
fault-later told old mid new keeps (inl rose) = inl (rose-later (told.faults old.log0) (told.faults mid.log0) (told.faults new.log0) keeps.faults0 rose)
fault-later told old mid new keeps (inr (inl rose)) = inr (inl (rose-later (told.faults old.log1) (told.faults mid.log1) (told.faults new.log1) keeps.faults1 rose))
fault-later told old mid new keeps (inr (inr rose)) = inr (inr (rose-later (told.faults old.bodies) (told.faults mid.bodies) (told.faults new.bodies) keeps.faults_bodies rose))

-- what is read of three disks
abbrev IfThree : Option (List ℕ) → Option (List ℕ) → Option (List ℕ) → (FileBytes → Type 0) → Type 0
IfThree x y z P = IfTold x (λ a. IfTold y (λ b. IfTold z (λ c. P (record { log0 = a; log1 = b; bodies = c }))))

moved : (x x' y y' z z' : Option (List ℕ)) (P : FileBytes → Type 0) → x ≡ x' → y ≡ y' → z ≡ z' → IfThree x y z P → IfThree x' y' z' P
moved x x' y y' z z' P e f g fact =
    subst (λ (w : Option (List ℕ)). IfThree x' y' w P) g (subst (λ (w : Option (List ℕ)). IfThree x' w z P) f (subst (λ (w : Option (List ℕ)). IfThree w y z P) e fact))

mapped : (x y z : Option (List ℕ)) (P Q : FileBytes → Type 0) → ((bytes : FileBytes) → P bytes → Q bytes) → IfThree x y z P → IfThree x y z Q
mapped None y z P Q more fact = tt
mapped (Some a) None z P Q more fact = tt
mapped (Some a) (Some b) None P Q more fact = tt
mapped (Some a) (Some b) (Some c) P Q more fact = more (record { log0 = a; log1 = b; bodies = c }) fact

-- what is read of files that were made sure of was read of them before
pub read-before : {D : Type 0} (told : Told D) (old new : Files D) (P Q : FileBytes → Type 0) → MakesAllSure told old new → ((bytes : FileBytes) → P bytes → Q bytes)
    → IfRead told new P → IfRead told old Q
read-before told old new P Q sure more fact =
    moved (told.reading new.log0) (told.reading old.log0) (told.reading new.log1) (told.reading old.log1) (told.reading new.bodies) (told.reading old.bodies) Q
    sure.0.reading sure.1.reading sure.2.reading (mapped (told.reading new.log0) (told.reading new.log1) (told.reading new.bodies) P Q more fact)

-- and what was read before is read of them
pub read-after : {D : Type 0} (told : Told D) (old new : Files D) (P Q : FileBytes → Type 0) → MakesAllSure told old new → ((bytes : FileBytes) → P bytes → Q bytes)
    → IfRead told old P → IfRead told new Q
read-after told old new P Q sure more fact =
    moved (told.reading old.log0) (told.reading new.log0) (told.reading old.log1) (told.reading new.log1) (told.reading old.bodies) (told.reading new.bodies) Q
    (sym sure.0.reading) (sym sure.1.reading) (sym sure.2.reading) (mapped (told.reading old.log0) (told.reading old.log1) (told.reading old.bodies) P Q more fact)

-- a fact about all bytes holds of those that are read
always : (x y z : Option (List ℕ)) (P : FileBytes → Type 0) → ((bytes : FileBytes) → P bytes) → IfThree x y z P
always None y z P fact = tt
always (Some a) None z P fact = tt
always (Some a) (Some b) None P fact = tt
always (Some a) (Some b) (Some c) P fact = fact (record { log0 = a; log1 = b; bodies = c })

pub always-read : {D : Type 0} (told : Told D) (files : Files D) (P : FileBytes → Type 0) → ((bytes : FileBytes) → P bytes) → IfRead told files P
always-read told files P fact = always (told.reading files.log0) (told.reading files.log1) (told.reading files.bodies) P fact

pub counts-both : {D : Type 0} (told : Told D) (old mid new : Files D) → CountsNoFault told old mid → CountsNoFault told mid new → CountsNoFault told old new
counts-both told old mid new first second = (second.0 ∙ first.0, second.1 ∙ first.1, second.2 ∙ first.2)

reads-once : {D : Type 0} (told : Told D) (old mid new : Files D) → ReadsLogOnce told old mid → ReadsNothing told mid new → ReadsLogOnce told old new
reads-once told old mid new once nothing = record {
  once = subst (λ (n : ℕ). IfTold (told.reading old.log0) (λ _. n ≤ told.reads old.log0 + 1)) (sym nothing.0) once.once;
  log1 = nothing.1 ∙ once.log1;
  bodies = nothing.2 ∙ once.bodies;
}

-- bytes of which none are torn
whole : (bytes : List ℕ) → Torn 0 18 bytes bytes
whole bytes = record { kept = λ place within outside. refl; no_shorter = omega arith; no_longer = omega arith }

-- a log that was only made sure of
sure-head : {D : Type 0} (told : Told D) (old new : D) → MakesSure told old new → TearsHead told old new
sure-head told old new sure = record {
  later = sure.leaves.later;
  each = λ image left. (image, sure.leaves.each image left, whole image);
  before = λ since image from left. elim (sure.leaves.before since image from left) [ inl was ↦ inl was | inr is ↦ inr (image, is, whole image) ];
}

-- and one that was written after that
torn-head : {D : Type 0} (told : Told D) (old mid new : D) → MakesSure told old mid → TearsHead told mid new → TearsHead told old new
torn-head told old mid new sure torn = record {
  later = omega (arith, sure.leaves.later, torn.later);
  each = λ image left. elim (torn.before (told.moment old) image sure.leaves.later left) [
    | inl was ↦ (image, sure.leaves.each image was, whole image)
    | inr is ↦ (is.0, sure.images is.0 is.1, is.2)
  ];
  before = λ since image from left. elim (torn.before since image (omega (arith, from, sure.leaves.later)) left) [
    | inl was ↦ elim (sure.leaves.before since image from was) [ inl had ↦ inl had | inr has ↦ inr (image, has, whole image) ]
    | inr is ↦ inr (is.0, sure.images is.0 is.1, is.2)
  ];
}

-- A store was loaded, so none is made.
pub refused : {K D : Type 0} (written : K → Option (List ℕ)) (faults : K → ℕ) (told : Told D) (old new : Files D) (tables : TableRows) (status : Status) (before after : K)
    → MakesAllSure told old new → ReadsLogOnce told old new → CountsNoFault told old new → IsSettled told new (stored tables)
    → EndsWriting written faults Refused store_exists status before after → MakesStore written faults told status before after old new
refused written faults told old new tables status before after sure reads quiet settled how = record {
  ends = elim how [
    | inl done ↦ subst (λ (s : Status). InitEnds written faults told s before after old new) (sym done.0) (some, sure, quiet, done.1)
    | inr stops ↦ subst (λ (s : Status). InitEnds written faults told s before after old new) (sym stops.0) (some, sure, quiet, stops.1)
  ];
  kept = always (told.reading old.log0) (told.reading old.log1) (told.reading old.bodies) (λ bytes. HoldsSome bytes → MakesAllSure told old new) (λ bytes some. sure);
  log0 = sure-head told old.log0 new.log0 sure.0;
  log1 = sure.1;
  bodies = sure.2;
  reads = reads;
}
  where
    some : IfRead told old HoldsSome
    some = read-before told old new (λ bytes. Holds bytes tables (content_in tables)) HoldsSome sure (λ bytes holds. (tables, (content_in tables, holds))) settled.holds

-- Files could not be loaded, and hold a store afterwards only where they held none.
pub made : {K D : Type 0} (written : K → Option (List ℕ)) (faults : K → ℕ) (told : Told D) (old new : Files D) (unloaded : Unloaded D) (status : Status) (sink : K)
    → MakesAllSure told old unloaded.files → ReadsLogOnce told old unloaded.files → TellsFaults told (unloaded.fault ≡ LoadFailed) old unloaded.files
    → (unloaded.fault ≡ LoadNotAStore → IsNoStore told unloaded.files)
    → (status ≡ Done → (unloaded.fault ≡ LoadNotAStore) × JointlyHolds told new (nothing_stored ∷ []) × CountsNoFault told unloaded.files new)
    → (status ≡ Done) ⊎ ((status ≡ NoMemory) ⊎ (status ≡ StoreFault))
    → (status ≡ NoMemory → (unloaded.fault ≡ LoadFailed → ⊥) × (new ≡ unloaded.files))
    → (status ≡ StoreFault → ((unloaded.fault ≡ LoadFailed) × (new ≡ unloaded.files)) ⊎ FaultRose told unloaded.files new)
    → ((unloaded.fault ≡ LoadNotAStore) × TearsHead told unloaded.files.log0 new.log0) ⊎ (new ≡ unloaded.files) → LeavesOthers unloaded.files new → ReadsNothing told unloaded.files new
    → MakesStore written faults told status sink sink old new
made {D = D} written faults told old new unloaded status sink sure reads tells none done how memory fault left others nothing = record {
  ends = elim how [
    | inl e ↦ subst Ends (sym e) (
      holds-none (done e).0,
      (done e).1,
      counts-both told old unloaded.files new (tells.quiet (λ f. cc (f, (done e).0))) (done e).2,
      refl,
    )
    | inr (inl e) ↦ subst Ends (sym e) (
      subst (λ (files : Files D). MakesAllSure told old files) (sym (memory e).1) sure,
      subst (λ (files : Files D). CountsNoFault told old files) (sym (memory e).1) (tells.quiet (memory e).0),
      refl,
    )
    | inr (inr e) ↦ subst Ends (sym e) (rose (fault e), refl)
  ];
  kept = elim left [
    | inl is ↦ read-before told old unloaded.files HoldsNone Kept sure (λ bytes no some. absurd (no some.0 some.1.0 some.1.1)) (none is.0).none
    | inr same ↦ always (told.reading old.log0) (told.reading old.log1) (told.reading old.bodies) Kept (λ bytes some. subst (λ (files : Files D). MakesAllSure told old files) (sym same) sure)
  ];
  log0 = elim left [
    | inl is ↦ torn-head told old.log0 unloaded.files.log0 new.log0 sure.0 is.1
    | inr same ↦ subst (λ (files : Files D). TearsHead told old.log0 files.log0) (sym same) (sure-head told old.log0 unloaded.files.log0 sure.0)
  ];
  log1 = subst (λ (disk : D). MakesSure told old.log1 disk) (sym others.0) sure.1;
  bodies = subst (λ (disk : D). MakesSure told old.bodies disk) (sym others.1) sure.2;
  reads = reads-once told old unloaded.files new reads nothing;
}
  where
    Ends : Status → Type 0
    Ends s = InitEnds written faults told s sink sink old new

    Kept : FileBytes → Type 0
    Kept bytes = HoldsSome bytes → MakesAllSure told old new

    holds-none : unloaded.fault ≡ LoadNotAStore → IfRead told old HoldsNone
    holds-none is = read-before told old unloaded.files HoldsNone HoldsNone sure (λ bytes no. no) (none is).none

    rose : ((unloaded.fault ≡ LoadFailed) × (new ≡ unloaded.files)) ⊎ FaultRose told unloaded.files new → FaultRose told old new
    rose (inl failed) = subst (λ (files : Files D). FaultRose told old files) (sym failed.1) (tells.failed failed.0)
    rose (inr rises) = fault-later told old unloaded.files new tells.disks rises

-- A store's listing was written, or a part of it.
pub listed : {K D : Type 0} (written : K → Option (List ℕ)) (faults : K → ℕ) (told : Told D) (old new : Files D) (tables : TableRows) (status : Status) (before after : K)
    → MakesAllSure told old new → ReadsLogOnce told old new → CountsNoFault told old new → IsSettled told new (stored tables)
    → ((status ≡ NoMemory) × (after ≡ before)) ⊎ EndsWriting written faults Done (listing_of tables) status before after
    → ListsTables written faults told status before after old new
listed written faults told old new tables status before after sure reads quiet settled how = record {
  ends = elim how [
    | inl none ↦ subst Ends (sym none.0) (quiet, none.1)
    | inr (inl done) ↦ subst Ends (sym done.0) (tables, holds, settled.rest, quiet, done.1)
    | inr (inr stops) ↦ subst Ends (sym stops.0) (tables, holds, quiet, stops.1)
  ];
  same = sure;
  reads = reads;
}
  where
    Ends : Status → Type 0
    Ends s = TablesEnds written faults told s before after old new

    holds : IfRead told old (λ bytes. HoldsTables bytes tables)
    holds = read-before told old new (λ bytes. Holds bytes tables (content_in tables)) (λ bytes. HoldsTables bytes tables) sure (λ bytes holds. (content_in tables, holds)) settled.holds

-- Files could not be loaded, so nothing is listed.
pub unlisted : {K D : Type 0} (written : K → Option (List ℕ)) (faults : K → ℕ) (told : Told D) (old new : Files D) (fault : LoadFault) (status : Status) (sink : K)
    → MakesAllSure told old new → ReadsLogOnce told old new → TellsFaults told (fault ≡ LoadFailed) old new → (fault ≡ LoadNotAStore → IsNoStore told new)
    → (fault ≡ LoadNotAStore → status ≡ NotAStore) → (fault ≡ LoadFailed → status ≡ StoreFault) → (fault ≡ LoadNoMemory → status ≡ NoMemory)
    → ListsTables written faults told status sink sink old new
unlisted written faults told old new fault status sink sure reads tells none not_a_store failed no_memory = record { ends = by-fault fault refl; same = sure; reads = reads }
  where
    Ends : Status → Type 0
    Ends s = TablesEnds written faults told s sink sink old new

    by-fault : (f : LoadFault) → fault ≡ f → Ends status
    by-fault LoadNotAStore is = subst Ends (sym (not_a_store is))
        (read-before told old new HoldsNone HoldsNone sure (λ bytes no. no) (none is).none, tells.quiet (λ e. cc (e, is)), refl)
    by-fault LoadFailed is = subst Ends (sym (failed is)) (tells.failed is, refl)
    by-fault LoadNoMemory is = subst Ends (sym (no_memory is)) (tells.quiet (λ e. cc (e, is)), refl)
