-- What the laws of changes that were handed out say.
use Rattle.std.specs.Prelude.{ℕ, ◌≡◌, ◌≤◌, List, [], ◌∷◌, ◌++◌, length}
use Rattle.port_model.specs.declared.calls.PortCall.{PortCall}
use Rattle.port_model.specs.History.{sent}
use Rattle.imap_steps.specs.Stepping.{World}
use Rattle.mail_model.specs.Machine.{Machine, Made, IsHandedOut, after}
use Rattle.mail_model.specs.Changes.{folded}

-- the answer of each of these changes stands behind all that its session was answered
abbrev pub AllBehind : (ℕ → List ℕ) → List Made → Type 0
AllBehind out [] = Unit {0}
AllBehind out (made ∷ older) = (length (out made.number) ≤ made.from) × AllBehind out older

-- A machine made changes more, on top of those of an earlier one, and their answers stand behind all that it had answered.
pub record ChangesOnTop (before later : Machine) : Type 0 where
  pub made : List Made
  pub changes_are : later.changes ≡ made ++ before.changes
  pub behind : AllBehind before.out made

-- All that was sent by the end of a history had been answered by the end of an earlier one.
abbrev pub SendsAnswered : World → List PortCall → List PortCall → Type 0
SendsAnswered first before later = (number : ℕ) → (rest : List ℕ) × ((after first before).out number ≡ sent later number ++ rest)

-- none of these changes was handed out
abbrev pub NoneHandedOut : List PortCall → List Made → Type 0
NoneHandedOut history [] = Unit {0}
NoneHandedOut history (made ∷ older) = (IsHandedOut history made → ⊥) × NoneHandedOut history older

-- A world is the first one after a prefix of the changes of a history, none skipped and none in part, and the prefix has every
-- change that was handed out: none of those behind it was.
pub record HasHandedOut (first : World) (history : List PortCall) (world : World) : Type 0 where
  pub missing : List Made
  pub prefix : List Made
  pub changes_are : (after first history).changes ≡ missing ++ prefix
  pub world_is : world ≡ folded first prefix
  pub none : NoneHandedOut history missing
