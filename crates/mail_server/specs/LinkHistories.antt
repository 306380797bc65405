-- Histories of links that are served in rounds.
use Rattle.std.specs.Prelude.{ℕ, ◌≡◌, ◌<◌, ◌⊎◌, zero, suc, List, []}
use Rattle.std.specs.List.{AllByRecursion}
use Rattle.port_model.specs.declared.calls.PortCall.{PortCall}
use Rattle.imap_steps.specs.Stepping.{World}
use Rattle.mail_model.specs.HandedOut.{HasHandedOut}
use Rattle.mail_rounds.specs.Calls.{Rounds, RoundsPart}

-- A history is that of so many rounds.
abbrev pub MakesRounds : World → ℕ → List PortCall → Type 0
MakesRounds first zero calls = calls ≡ []
MakesRounds first (suc turns) calls = (before : List PortCall) × MakesRounds first turns before × Rounds first before calls

-- It is that of fewer rounds, and of a part of one more from its front where one was begun.
pub record StopsRounds (first : World) (rounds : ℕ) (calls : List PortCall) : Type 0 where
  pub turns : ℕ
  pub fewer : turns < rounds
  pub before : List PortCall
  pub made : MakesRounds first turns before
  pub part : (calls ≡ before) ⊎ RoundsPart first before calls

-- A crash leaves a world after a prefix of the changes of a history, and the prefix has every change that was handed out.
pub record KeepsOnLinks (first : World) (calls : List PortCall) (LeavesOne : List World → Type 0) : Type 0 where
  pub worlds : List World
  pub left : LeavesOne worlds
  pub each : AllByRecursion (HasHandedOut first calls) worlds

-- Links that may have had no history may have one of which this holds.
abbrev pub OnLinks : {P : Type 0} → (P → List PortCall → Type 0) → P → P → (List PortCall → Type 0) → Type 0
OnLinks history old new Served = history old [] → (calls : List PortCall) × history new calls × Served calls
