-- What it comes to that the sessions of links are served from a store that was loaded.
use Rattle.std.specs.Prelude.{ℕ, ◌≡◌, List, ◌∷◌, Result, Ok, Err}
use Rattle.fault_counts.specs.Rose.{Rose}
use Rattle.disk_model.specs.Told.{Told}
use Rattle.disk_model.specs.declared.disk.Files.{Files}
use Rattle.port_model.specs.declared.calls.PortCall.{PortCall}
use Rattle.imap_steps.specs.Stepping.{World}
use Rattle.row_store.specs.ThreeFiles.{FaultRose, CountsNoFault, LogMoments}
use Rattle.row_store.specs.Kept.{Store}
use Rattle.mailbox_core.specs.Left.{Left}
use Rattle.mail_model.specs.Machine.{after}
use Rattle.mail_model.specs.HandedOut.{SendsAnswered}
use Rattle.mail_rounds.specs.declared.rounds.RoundFault.{RoundFault}
use Rattle.mail_rounds.specs.declared.rounds.RoundFault.TheVariants.{StoreFault as RoundStoreFault, ListenFault as RoundListenFault, NoMemory as RoundNoMemory}
use Rattle.mail_rounds.specs.Crashes.{worlds_since}
use Rattle.mail_server.specs.declared.status.Status.{Status}
use Rattle.mail_server.specs.declared.status.Status.TheVariants.{Done, Usage, NoMemory, ReadFault, WriteFault, StoreFault, NotAStore, Refused, BadScript, ListenFault}
use Rattle.mail_server.specs.LinkHistories.{KeepsOnLinks, OnLinks}
use Rattle.mail_server.specs.Links.{RoundsTo}
use Rattle.mail_server.specs.WorldFiles.{IfStands}

-- how a run ends whose rounds ended so
abbrev pub end_of_rounds : {T : Type 0} → Result T RoundFault → Status
end_of_rounds (Ok done) = Done
end_of_rounds (Err RoundStoreFault) = StoreFault
end_of_rounds (Err RoundListenFault) = ListenFault
end_of_rounds (Err RoundNoMemory) = NoMemory

-- A crash now leaves one of these worlds of the files.
abbrev pub LeavesOfFiles : {D : Type 0} → Told D → Files D → List World → Type 0
LeavesOfFiles told files worlds = (now : LogMoments) × Left told files now worlds

-- What they came to, from the world that the store stands for.
pub record ServesFromStore {D : Type 0} (told : Told D) (first : World) (calls : List PortCall) (store : Store D) (files' : Files D) : Type 0 where
  pub front : SendsAnswered first calls calls
  pub kept : KeepsOnLinks first calls (LeavesOfFiles told files')
  pub leaves : (since : LogMoments) (earlier : List World) → Left told store.files since (first ∷ earlier) → Left told files' since (worlds_since first (after first calls).changes earlier)

-- How it ends,
abbrev pub StoreServeEnds : {P D : Type 0} → (P → ℕ) → Told D → Status → P → P → Store D → Files D → Type 0
StoreServeEnds listening told Done old new store files' = CountsNoFault told store.files files' × (listening new ≡ listening old)
StoreServeEnds listening told NoMemory old new store files' = CountsNoFault told store.files files' × (listening new ≡ listening old)
StoreServeEnds listening told StoreFault old new store files' = FaultRose told store.files files' × (listening new ≡ listening old)
StoreServeEnds listening told ListenFault old new store files' = Rose (listening old) (listening new) × CountsNoFault told store.files files'
StoreServeEnds listening told NotAStore old new store files' = ⊥
StoreServeEnds listening told Usage old new store files' = ⊥
StoreServeEnds listening told ReadFault old new store files' = ⊥
StoreServeEnds listening told WriteFault old new store files' = ⊥
StoreServeEnds listening told Refused old new store files' = ⊥
StoreServeEnds listening told BadScript old new store files' = ⊥

-- and the same of it.
pub record ServesLinksFrom {P D : Type 0} (history : P → List PortCall → Type 0) (listening : P → ℕ) (told : Told D) (rounds : ℕ) (status : Status) (old new : P) (store : Store D) (files' : Files D) : Type 0 where
  pub ends : StoreServeEnds listening told status old new store files'
  pub serves : OnLinks history old new (λ calls. IfStands told store (λ first. RoundsTo told status first rounds calls files' × ServesFromStore told first calls store files'))
