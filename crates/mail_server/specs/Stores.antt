-- What the words do about the files of a store: `init` and `tables`.
use Rattle.std.specs.Prelude.{ℕ, ◌≡◌, List, [], ◌∷◌, Option, codes}
use Rattle.disk_model.specs.Told.{Told}
use Rattle.disk_model.specs.Images.{Torn}
use Rattle.disk_model.specs.Calls.{LeavesOnly}
use Rattle.disk_model.specs.declared.disk.Files.{Files}
use Rattle.row_tables.specs.TableRows.{TableRows}
use Rattle.admin_texts.specs.Listing.{listing_of}
use Rattle.row_store.specs.ThreeFiles.{FileBytes, IfRead, AreAtRest, FaultRose, CountsNoFault, MakesSure, MakesAllSure}
use Rattle.row_store.specs.Holding.{Holds, HoldsNone, nothing_stored}
use Rattle.row_store.specs.Crashes.{JointlyHolds}
use Rattle.row_store.specs.Loading.{ReadsLogOnce}
use Rattle.mail_server.specs.declared.status.Status.{Status}
use Rattle.mail_server.specs.declared.status.Status.TheVariants.{Done, Usage, NoMemory, ReadFault, WriteFault, StoreFault, NotAStore, Refused, BadScript, ListenFault}
use Rattle.mail_server.specs.Outside.{WritesAll, StopsWriting}

-- the files hold these tables, with some content of each body
abbrev pub HoldsTables : FileBytes → TableRows → Type 0
HoldsTables files tables = (contents : ℕ → Option (List ℕ)) × Holds files tables contents

abbrev pub HoldsSome : FileBytes → Type 0
HoldsSome files = (tables : TableRows) × HoldsTables files tables

-- the line that says why no store is made
abbrev pub store_exists : List ℕ
store_exists = codes "refused: store exists\n"

-- Each image of the first log since the run began is one from before, of which no more than the first 18 bytes are torn.
abbrev pub TearsHead : {D : Type 0} → Told D → D → D → Type 0
TearsHead told old new = LeavesOnly told old new (λ image. (before : List ℕ) × told.images old before × Torn 0 18 before image)

-- How the word `init` ends: each status that it can end with, with its cause and what it leaves of the sink and the files. Only
-- where the files hold a store is the sink called. The files are changed only where the run is done or a disk failed.
abbrev pub InitEnds : {K D : Type 0} → (K → Option (List ℕ)) → (K → ℕ) → Told D → Status → K → K → Files D → Files D → Type 0
InitEnds written faults told Done old new files files' =
    IfRead told files HoldsNone × JointlyHolds told files' (nothing_stored ∷ []) × CountsNoFault told files files' × (new ≡ old)
InitEnds written faults told Refused old new files files' =
    IfRead told files HoldsSome × MakesAllSure told files files' × CountsNoFault told files files' × WritesAll written faults store_exists old new
InitEnds written faults told NoMemory old new files files' = MakesAllSure told files files' × CountsNoFault told files files' × (new ≡ old)
InitEnds written faults told WriteFault old new files files' =
    IfRead told files HoldsSome × MakesAllSure told files files' × CountsNoFault told files files' × StopsWriting written faults store_exists old new
InitEnds written faults told StoreFault old new files files' = FaultRose told files files' × (new ≡ old)
InitEnds written faults told Usage old new files files' = ⊥
InitEnds written faults told ReadFault old new files files' = ⊥
InitEnds written faults told NotAStore old new files files' = ⊥
InitEnds written faults told BadScript old new files files' = ⊥
InitEnds written faults told ListenFault old new files files' = ⊥

-- The word `init`: it makes an empty store in files that hold none.
pub record MakesStore {K D : Type 0} (written : K → Option (List ℕ)) (faults : K → ℕ) (told : Told D) (status : Status) (old new : K) (files files' : Files D) : Type 0 where
  pub ends : InitEnds written faults told status old new files files'
  -- However it ends, files that hold a store are left as they are, and nothing but the first 18 bytes of the first log is ever
  -- written.
  pub kept : IfRead told files (λ bytes. HoldsSome bytes → MakesAllSure told files files')
  pub log0 : TearsHead told files.log0 files'.log0
  pub log1 : MakesSure told files.log1 files'.log1
  pub bodies : MakesSure told files.bodies files'.bodies
  -- The log is read once at most.
  pub reads : ReadsLogOnce told files files'

-- How the word `tables` ends.
abbrev pub TablesEnds : {K D : Type 0} → (K → Option (List ℕ)) → (K → ℕ) → Told D → Status → K → K → Files D → Files D → Type 0
TablesEnds written faults told Done old new files files' = (tables : TableRows) × IfRead told files (λ bytes. HoldsTables bytes tables)
    × AreAtRest told files' × CountsNoFault told files files' × WritesAll written faults (listing_of tables) old new
TablesEnds written faults told NoMemory old new files files' = CountsNoFault told files files' × (new ≡ old)
TablesEnds written faults told WriteFault old new files files' = (tables : TableRows) × IfRead told files (λ bytes. HoldsTables bytes tables)
    × CountsNoFault told files files' × StopsWriting written faults (listing_of tables) old new
TablesEnds written faults told StoreFault old new files files' = FaultRose told files files' × (new ≡ old)
TablesEnds written faults told NotAStore old new files files' = IfRead told files HoldsNone × CountsNoFault told files files' × (new ≡ old)
TablesEnds written faults told Usage old new files files' = ⊥
TablesEnds written faults told ReadFault old new files files' = ⊥
TablesEnds written faults told Refused old new files files' = ⊥
TablesEnds written faults told BadScript old new files files' = ⊥
TablesEnds written faults told ListenFault old new files files' = ⊥

-- The word `tables`: it lists the rows that the files hold.
pub record ListsTables {K D : Type 0} (written : K → Option (List ℕ)) (faults : K → ℕ) (told : Told D) (status : Status) (old new : K) (files files' : Files D) : Type 0 where
  pub ends : TablesEnds written faults told status old new files files'
  -- However it ends, no file is changed, and the log is read once at most.
  pub same : MakesAllSure told files files'
  pub reads : ReadsLogOnce told files files'
