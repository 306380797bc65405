-- What is planned, from what there is room for.
use Rattle.std.proofs.Common.{◌≡◌, Option, Some, None, Result, Ok, Err, inl, inr, refl}
use Rattle.mail_world.specs.Changes.{Refusal}
use Rattle.mailbox_core.specs.declared.faults.MailFault.{MailFault}
use Rattle.mailbox_core.specs.Rooms.{AnswersWhere, PlansNone}

abbrev error_of : (T : Type 0) → MailFault → Result T MailFault
error_of T fault = Err fault

abbrev ok_of : {T : Type 0} → T → Result T MailFault
ok_of answer = Ok answer

pub none_of : {T : Type 0} (free : Type 0) (fault : MailFault) (answer : T) (refusal : Option Refusal) → AnswersWhere free (error_of T fault) answer refusal → PlansNone free fault refusal
none_of {T} free fault answer None h = inr (λ holds. let e : error_of T fault ≡ ok_of answer = h holds in cc)
none_of free fault answer (Some refusal) h = cc

pub starved_of : {T : Type 0} (free : Type 0) (id answer : T) (refusal : Option Refusal) → AnswersWhere free (ok_of id) answer refusal → PlansNone free MailFault.NoMemory refusal
starved_of free id answer None h = inl refl
starved_of free id answer (Some refusal) h = cc

pub not_refused : {T : Type 0} (free : Type 0) (id answer : T) (refusal : Option Refusal) → AnswersWhere free (ok_of id) answer refusal → refusal ≡ None
not_refused free id answer None h = refl
not_refused free id answer (Some refusal) h = cc
