-- Parts of steps: what is said, and how a change is told of. These serve the contracts of private functions alone.
use Rattle.std.specs.Prelude.{◌≡◌, ℕ, List, None, Result, Ok, Err, IsOk, IsErrOf}
use Rattle.row_store.specs.declared.faults.StoreFault.{StoreFault}
use Rattle.imap_grammar.specs.declared.commands.Bad.{Bad}
use Rattle.imap_grammar.specs.declared.commands.Bad.TheVariants.{WithTag, NoTag}
use Rattle.imap_writer.specs.declared.refusals.Refusal.{Refusal}
use Rattle.imap_writer.specs.declared.refusals.Refusal.TheVariants as line
use Rattle.session_view.specs.declared.sessions.SessionPart.{SessionPart}
use Rattle.mail_world.specs.Changes as changes
use Rattle.mailbox_core.specs.declared.faults.MailFault.{MailFault}
use Rattle.mailbox_core.specs.declared.faults.MailFault.TheVariants as fault
use Rattle.mailbox_core.specs.Faults.{fault_of}
use Rattle.imap_steps.specs.declared.outcome.Outcome.{Outcome}
use Rattle.imap_steps.specs.Stepping.{Shared, Stepped, completed, refused_with, refused_untagged, told_as}
use Rattle.imap_exec.specs.Does.{Tells}

-- A step that changes nothing but these own parts of sessions was told. It fails for want of memory alone.
pub record Says (result : Result Outcome StoreFault) (parts : List SessionPart) (before after : List ℕ) (stepped : Stepped) : Type 0 where
  pub unchanged : stepped.change ≡ None
  pub parts_are : IsOk result → parts ≡ stepped.parts
  pub tells : Tells result before after stepped
  pub memory : IsErrOf result StoreFault.Failed → ⊥

-- what is no command is refused with its tag, or with `*` where it has none
abbrev pub refused_bad : Shared → Bad → Refusal → Stepped
refused_bad shared (WithTag tag) refusal = refused_with shared tag refusal
refused_bad shared NoTag refusal = refused_untagged shared

-- how a call's answer is told, where it isn't the store's fault
abbrev pub refusal_in : MailFault → Result Refusal StoreFault
refusal_in fault.BadName = Ok line.BadName
refusal_in fault.Absent = Ok line.Absent
refusal_in fault.Exists = Ok line.Exists
refusal_in fault.InUse = Ok line.InUse
refusal_in fault.Full = Ok line.Full
refusal_in fault.NoUid = Ok line.NoUid
refusal_in fault.Failed = Err StoreFault.Failed
refusal_in fault.NoMemory = Err StoreFault.NoMemory

-- A call that changes a store was told of: as the completed command, or as its refusal. A fault of the store is answered as such.
pub record TellsMade {T : Type 0} (made : Result T MailFault) (result : Result Outcome StoreFault) (before after tag name : List ℕ) : Type 0 where
  pub completes : IsOk made → (shared : Shared) → Says result shared.parts before after (completed shared tag name)
  pub refuses : (refusal : changes.Refusal) → made ≡ Err (fault_of refusal) → (shared : Shared) → Says result shared.parts before after (refused_with shared tag (told_as refusal))
  pub failed : made ≡ Err MailFault.Failed → result ≡ Err StoreFault.Failed
  pub memory : made ≡ Err MailFault.NoMemory → result ≡ Err StoreFault.NoMemory
