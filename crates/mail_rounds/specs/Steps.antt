-- What a core does of a step.
use Rattle.std.specs.Prelude.{ℕ, ◌≡◌, ◌++◌, Bool, List}
use Rattle.session_units.specs.declared.forms.Awaits.{Awaits}
use Rattle.imap_steps.specs.Stepping.{Shared, Stepped, stepped_to}
use Rattle.mail_rounds.specs.CoreSeen.{CoreSeen}

-- The core after a step, with answers that were before and after it: it stands for what is shared once the step was made,
-- and the answer of the step was added. A session that the step closes has yet to take leave.
pub record IsStep {C : Type 0} (seen : CoreSeen C) (core : C) (before later : List ℕ) (closes : Bool) (next : Awaits) (shared : Shared) (stepped : Stepped) : Type 0 where
  pub stands : seen.stands core (stepped_to shared stepped)
  pub answer : later ≡ before ++ stepped.answer
  pub closing : closes ≡ stepped.closes
  pub awaits : next ≡ stepped.next
