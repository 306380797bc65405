-- What the word `serve` does: the sessions of the links that come are served from the store that the files hold, in so many rounds.
use Rattle.std.specs.Prelude.{ℕ, ◌≡◌, List, [], ◌∷◌, Option, Some, None}
use Rattle.fault_counts.specs.Rose.{Rose}
use Rattle.disk_model.specs.Told.{Told}
use Rattle.disk_model.specs.declared.disk.Files.{Files}
use Rattle.port_model.specs.declared.calls.PortCall.{PortCall}
use Rattle.imap_steps.specs.Stepping.{World}
use Rattle.row_store.specs.ThreeFiles.{IfRead, FaultRose, CountsNoFault, LogMoments, MakesAllSure}
use Rattle.row_store.specs.Holding.{HoldsNone}
use Rattle.mailbox_core.specs.Left.{HoldsWorld, Left}
use Rattle.mail_model.specs.Machine.{after}
use Rattle.mail_model.specs.HandedOut.{SendsAnswered}
use Rattle.mail_rounds.specs.Crashes.{worlds_since}
use Rattle.mail_server.specs.declared.status.Status.{Status}
use Rattle.mail_server.specs.declared.status.Status.TheVariants.{Done, Usage, NoMemory, ReadFault, WriteFault, StoreFault, NotAStore, Refused, BadScript, ListenFault}
use Rattle.mail_server.specs.LinkHistories.{KeepsOnLinks, MakesRounds, OnLinks, StopsRounds}
use Rattle.mail_server.specs.Run.{code_of}
use Rattle.mail_server.specs.Stores.{HoldsSome}
use Rattle.mail_server.specs.Words.{Asked, OfText, Init, Tables, AddUser, Serve}
use Rattle.mail_server.specs.WorldFiles.{SettledFor}

-- What a crash leaves of the files stands for one of these worlds, where that of before stood for the first one.
abbrev pub LeavesOneOf : {D : Type 0} → Told D → Files D → Files D → World → List World → Type 0
LeavesOneOf told files files' first worlds = (since : LogMoments) → Left told files since (first ∷ []) → (now : LogMoments) × Left told files' now worlds

-- What the sessions of links came to whose history this is, from the world that the files stand for.
pub record ServesFrom {D : Type 0} (told : Told D) (first : World) (calls : List PortCall) (files files' : Files D) : Type 0 where
  -- Each was sent a front of what the machine answers it,
  pub front : SendsAnswered first calls calls
  -- a crash now keeps every change that was handed out,
  pub kept : KeepsOnLinks first calls (LeavesOneOf told files files' first)
  -- and of each moment since an earlier one a crash leaves the world after some of the changes, or, where a run began earlier, one of
  -- before.
  pub leaves : (since : LogMoments) (earlier : List World) → Left told files since (first ∷ earlier) → Left told files' since (worlds_since first (after first calls).changes earlier)

-- The rounds, by how the run ends: all of them, at the end of which the files are at rest and hold what stands for the world after all
-- changes; else fewer.
abbrev pub RoundsTo : {D : Type 0} → Told D → Status → World → ℕ → List PortCall → Files D → Type 0
RoundsTo told Done first rounds calls files' = MakesRounds first rounds calls × SettledFor told files' (after first calls).shared.world
RoundsTo told Usage first rounds calls files' = StopsRounds first rounds calls
RoundsTo told NoMemory first rounds calls files' = StopsRounds first rounds calls
RoundsTo told ReadFault first rounds calls files' = StopsRounds first rounds calls
RoundsTo told WriteFault first rounds calls files' = StopsRounds first rounds calls
RoundsTo told StoreFault first rounds calls files' = StopsRounds first rounds calls
RoundsTo told NotAStore first rounds calls files' = StopsRounds first rounds calls
RoundsTo told Refused first rounds calls files' = StopsRounds first rounds calls
RoundsTo told BadScript first rounds calls files' = StopsRounds first rounds calls
RoundsTo told ListenFault first rounds calls files' = StopsRounds first rounds calls

-- How the word ends: each status that it can end with, and its cause.
abbrev pub ServeEnds : {P D : Type 0} → (P → ℕ) → Told D → Status → P → P → Files D → Files D → Type 0
ServeEnds listening told Done old new files files' = IfRead told files HoldsSome × CountsNoFault told files files' × (listening new ≡ listening old)
ServeEnds listening told NoMemory old new files files' = CountsNoFault told files files' × (listening new ≡ listening old)
ServeEnds listening told StoreFault old new files files' = FaultRose told files files' × (listening new ≡ listening old)
ServeEnds listening told NotAStore old new files files' = IfRead told files HoldsNone × MakesAllSure told files files' × CountsNoFault told files files' × (new ≡ old)
ServeEnds listening told ListenFault old new files files' = IfRead told files HoldsSome × Rose (listening old) (listening new) × CountsNoFault told files files'
ServeEnds listening told Usage old new files files' = ⊥
ServeEnds listening told ReadFault old new files files' = ⊥
ServeEnds listening told WriteFault old new files files' = ⊥
ServeEnds listening told Refused old new files files' = ⊥
ServeEnds listening told BadScript old new files files' = ⊥

-- The word `serve`.
pub record ServesLinks {P D : Type 0} (history : P → List PortCall → Type 0) (listening : P → ℕ) (told : Told D) (rounds : ℕ) (status : Status) (old new : P) (files files' : Files D) : Type 0 where
  pub ends : ServeEnds listening told status old new files files'
  -- However it ends, the links were served in rounds, from the world that the files stand for.
  pub serves : OnLinks history old new (λ calls. IfRead told files (λ bytes. (first : World) → HoldsWorld bytes (first ∷ [])
      → RoundsTo told status first rounds calls files' × ServesFrom told first calls files files'))

-- What the words do to the links: only `serve` uses them.
abbrev pub UsesLinks : {P D : Type 0} → (P → List PortCall → Type 0) → (P → ℕ) → Told D → Option Asked → Status → P → P → Files D → Files D → Type 0
UsesLinks history listening told None status old new files files' = new ≡ old
UsesLinks history listening told (Some (OfText task)) status old new files files' = new ≡ old
UsesLinks history listening told (Some Init) status old new files files' = new ≡ old
UsesLinks history listening told (Some Tables) status old new files files' = new ≡ old
UsesLinks history listening told (Some (AddUser name password)) status old new files files' = new ≡ old
UsesLinks history listening told (Some (Serve rounds imap lmtp)) status old new files files' = ServesLinks history listening told rounds status old new files files'

-- The same with the number that the run ends with.
abbrev pub RunsLinks : {P D : Type 0} → (P → List PortCall → Type 0) → (P → ℕ) → Told D → Option Asked → ℕ → P → P → Files D → Files D → Type 0
RunsLinks history listening told asked code old new files files' = (status : Status) × (code ≡ code_of status) × UsesLinks history listening told asked status old new files files'
