-- Files that hold no tables.
use Rattle.std.proofs.Common.{◌≡◌, ◌≢◌, ℕ, List, Option, Some, None, Result, Ok, Err, IfNone, refl, sym, ap, ◌∙◌, subst}
use Rattle.disk_model.specs.Told.{Told, IfTold}
use Rattle.disk_model.specs.Images.{Only}
use Rattle.disk_model.specs.Calls.{IsAtRest}
use Rattle.disk_model.specs.declared.disk.Files.{Files}
use Rattle.redo_log.specs.Text.{IsLog, EndsAt}
use Rattle.redo_log.specs.Kept.{Kept, HasLog}
use Rattle.redo_log.specs.declared.faults.LoadFault.{LoadFault as LogFault}
use Rattle.redo_log.specs.declared.faults.LoadFault.TheVariants.{Failed, NotALog, NoMemory}
use Rattle.row_tables.specs.TableRows.{TableRows, no_rows}
use Rattle.row_store.specs.declared.faults.LoadFault.{LoadFault}
use Rattle.row_store.specs.ThreeFiles.{FileBytes, IfRead}
use Rattle.row_store.specs.Holding.{Holds, HoldsNone, Replays}
use Rattle.row_store.specs.Loading.{IsNoStore}
use Rattle.row_store.specs.Refusals.{refusal_of, MakesNone}

told_weaker : {P Q : List ℕ → Type 0} (o : Option (List ℕ)) → ((file : List ℕ) → P file → Q file) → IfTold o P → IfTold o Q
told_weaker None step fact = tt
told_weaker (Some file) step fact = step file fact

pub from_none : {T : Type 0} {P : Type 0} (o : Option T) → o ≡ None → IfNone o P → P
from_none {T} {P} o is fact = subst (λ (x : Option T). IfNone x P) is fact

pub no_log_alone : (fault : LogFault) → refusal_of fault ≡ LoadFault.NotAStore → fault ≡ NotALog
no_log_alone Failed e = cc
no_log_alone NotALog e = refl
no_log_alone NoMemory e = cc

-- the text of a log says one thing
abbrev pub SaysOneThing : Type 0
SaysOneThing = (f g f2 g2 : ℕ) (payloads others : List (List ℕ)) (bytes : List ℕ) → IsLog f g payloads bytes → IsLog f2 g2 others bytes → (f ≡ f2) × (g ≡ g2) × (payloads ≡ others)

module _ {D : Type 0} (told : Told D) where
  abbrev pub HasNone : D → Type 0
  HasNone disk = IfTold (told.reading disk) (λ file. Only file (told.images disk) × MakesNone file)

  pub no_log : (disk : D) → IfTold (told.reading disk) (λ file. Only file (told.images disk) × ((format generation : ℕ) (payloads : List (List ℕ)) → IsLog format generation payloads file → ⊥)) → HasNone disk
  no_log disk fact = told_weaker (told.reading disk) (λ file both. (both.0, λ generation payloads tables log replay. both.1 0 generation payloads log)) fact

  pub other_format : SaysOneThing → (disk : D) (log : Kept) (payloads : List (List ℕ)) → HasLog told log payloads disk → (log.format ≡ 0 → ⊥) → HasNone disk
  other_format one disk log payloads has differs = told_weaker (told.reading disk)
      (λ file both. (both.0, λ generation others tables text replay. differs (one log.format log.generation 0 generation payloads others file both.1.text text).0)) has

  pub no_changes : SaysOneThing → (disk : D) (log : Kept) (payloads : List (List ℕ)) → HasLog told log payloads disk → ((after : TableRows) → Replays no_rows payloads after → ⊥) → HasNone disk
  no_changes one disk log payloads has none = told_weaker (told.reading disk)
      (λ file both. (
        both.0,
        λ generation others tables text replay.
            none tables (subst (λ l. Replays no_rows l tables) (sym (one log.format log.generation 0 generation payloads others file both.1.text text).2) replay),
      )) has

  rest_of : (disk : D) → HasNone disk → IsAtRest told disk
  rest_of disk has = told_weaker (told.reading disk) (λ file both. both.0) has

  holds_none : (bytes : FileBytes) → MakesNone bytes.log0 → HoldsNone bytes
  holds_none bytes none = λ tables contents holds. none holds.generation holds.payloads tables holds.log holds.replay

  if_read : (files : Files D) (o p q : Option (List ℕ)) → IfTold o (λ file. Only file (told.images files.log0) × MakesNone file)
      → IfTold o (λ log0. IfTold p (λ log1. IfTold q (λ bodies. HoldsNone (record { log0 = log0; log1 = log1; bodies = bodies }))))
  if_read files None p q fact = tt
  if_read files (Some x) None q fact = tt
  if_read files (Some x) (Some y) None fact = tt
  if_read files (Some x) (Some y) (Some z) fact = holds_none (record { log0 = x; log1 = y; bodies = z }) fact.1

  pub no_store : (files : Files D) → HasNone files.log0 → IsAtRest told files.log1 → IsAtRest told files.bodies → IsNoStore told files
  no_store files has rest1 rest_bodies = record {
    rest = (rest_of files.log0 has, rest1, rest_bodies);
    none = if_read files (told.reading files.log0) (told.reading files.log1) (told.reading files.bodies) has;
  }
