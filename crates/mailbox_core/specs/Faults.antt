-- What a call answers where it makes no change.
use Rattle.std.specs.Prelude.{◌≡◌, ◌⊎◌, List, [], ◌∷◌, Result, Ok, Err, IfErr}
use Rattle.row_store.specs.declared.faults.StoreFault.{StoreFault}
use Rattle.row_store.specs.declared.faults.StoreFault.TheVariants.{Failed, NoMemory}
use Rattle.mail_world.specs.Changes.{Refusal, BadName, Absent, Exists, InUse, Full, NoUid}
use Rattle.mailbox_core.specs.declared.faults.MailFault.{MailFault}

-- the answer that tells of a refusal
abbrev pub fault_of : Refusal → MailFault
fault_of BadName = MailFault.BadName
fault_of Absent = MailFault.Absent
fault_of Exists = MailFault.Exists
fault_of InUse = MailFault.InUse
fault_of Full = MailFault.Full
fault_of NoUid = MailFault.NoUid

-- the answer that tells of a store's fault
abbrev pub fault_in : StoreFault → MailFault
fault_in Failed = MailFault.Failed
fault_in NoMemory = MailFault.NoMemory

-- the answer of a call that refuses nothing, among those of calls that do
abbrev pub answer_of : {T : Type 0} → Result T StoreFault → Result T MailFault
answer_of (Ok answer) = Ok answer
answer_of (Err fault) = Err (fault_in fault)

-- one of these refusals
abbrev pub IsRefusal : List Refusal → MailFault → Type 0
IsRefusal [] fault = ⊥
IsRefusal (refusal ∷ refusals) fault = (fault ≡ fault_of refusal) ⊎ IsRefusal refusals fault

-- a disk's fault, or want of memory
abbrev pub IsOutage : MailFault → Type 0
IsOutage fault = (fault ≡ MailFault.Failed) ⊎ (fault ≡ MailFault.NoMemory)

-- A call refuses what it is asked for these reasons alone.
abbrev pub RefusesFor : {T : Type 0} → List Refusal → Result T MailFault → Type 0
RefusesFor refusals result = IfErr result (λ fault. IsRefusal refusals fault ⊎ IsOutage fault)
