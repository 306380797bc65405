-- What is made of a plan, or of none.
use Rattle.std.proofs.Common.{◌≡◌, ◌⊎◌, List, [], ◌∷◌, Option, Some, None, Result, Ok, Err, IfErr, inl, inr, refl, sym, ap, subst, ◌∙◌}
use Rattle.std.proofs.lemmas.Bool.{false≢true}
use Rattle.disk_model.specs.Told.{Told}
use Rattle.row_tables.specs.declared.change.RowChange.{RowChange}
use Rattle.row_store.specs.Holding.{stored, in_row}
use Rattle.row_store.specs.Crashes.{Stays}
use Rattle.row_store.specs.Kept.{Store}
use Rattle.mail_world.specs.Worlds.{World}
use Rattle.mail_world.specs.Changes.{Refusal}
use Rattle.mail_stands.specs.Stands.{Stands}
use Rattle.mail_stands.specs.Leading.{Leads}
use Rattle.mailbox_core.specs.declared.faults.MailFault.{MailFault}
use Rattle.mailbox_core.specs.Faults.{IsOutage, IsRefusal, RefusesFor}
use Rattle.mailbox_core.specs.Calls.{IsMade, MakesUnless}
use Rattle.mailbox_core.specs.Rooms.{PlansNone, RefusesPlan}
use Rattle.mailbox_core.proofs.Behaving.{error_of, made_alone, not_failed}

-- A refusal is one of the world; where there is none, memory was lacking, since the ids of a world are free.
pub planned_none : {D T : Type 0} (told : Told D) (store : Store D) (world next : World) (answer : T) (free : Type 0) (changes : List RowChange) (fault : MailFault) (of_tables of_world : Option Refusal)
    → Stays told (Unit {0}) store.files store.files (stored store.tables) → of_tables ≡ of_world → PlansNone free fault of_tables → Stands in_row store.tables world
    → (of_tables ≡ None → free × Leads in_row store.tables changes next) → MakesUnless told (error_of T fault) store store world next answer of_world
planned_none {D} {T} told store world next answer free changes fault of_tables of_world stays same none stands leads =
    subst (λ (r : Option Refusal). MakesUnless told (error_of T fault) store store world next answer r) same (by_case of_tables none leads)
  where
    by_case : (r : Option Refusal) → PlansNone free fault r → (r ≡ None → free × Leads in_row store.tables changes next) → MakesUnless told (error_of T fault) store store world next answer r
    by_case None (inl starved) leads =
        made_alone told (error_of T fault) store stays (λ ok. false≢true ok) world next (leads refl).1.after answer (ap (λ (f : MailFault). error_of T f) starved) stands (leads refl).1.stands
    by_case None (inr taken) leads = absurd (taken (leads refl).0)
    by_case (Some refusal) is leads = record { answers = ap (λ (f : MailFault). error_of T f) is; unchanged = refl }

-- What is committed is the world's change.
pub planned_made : {D T : Type 0} (told : Told D) (result : Result T MailFault) (old new : Store D) (world next : World) (given answer : T) (of_tables of_world : Option Refusal)
    → of_tables ≡ of_world → of_tables ≡ None → given ≡ answer → IsMade told result old new world next given → MakesUnless told result old new world next answer of_world
planned_made {D} {T} told result old new world next given answer of_tables of_world same none is made =
    subst (λ (r : Option Refusal). MakesUnless told result old new world next answer r) (sym none ∙ same) (subst (λ (a : T). IsMade told result old new world next a) is made)

-- a plan fails for no disk
pub no_fault : {T : Type 0} (refusals : List Refusal) (fault : MailFault) → RefusesPlan refusals fault → error_of T fault ≡ error_of T MailFault.Failed → ⊥
no_fault refusals fault (inl starved) e = cc
no_fault [] fault (inr none) e = none
no_fault {T} (refusal ∷ refusals) fault (inr (inl is)) e = not_failed refusal (sym e ∙ ap (λ (f : MailFault). error_of T f) is)
no_fault (refusal ∷ refusals) fault (inr (inr more)) e = no_fault refusals fault (inr more) e

pub refuses_plan : (refusals : List Refusal) (fault : MailFault) → RefusesPlan refusals fault → IsRefusal refusals fault ⊎ IsOutage fault
refuses_plan refusals fault (inl starved) = inr (inr starved)
refuses_plan refusals fault (inr is) = inl is

pub refuses_none : {T : Type 0} (refusals : List Refusal) (result : Result T MailFault) → IfErr result IsOutage → RefusesFor refusals result
refuses_none refusals (Ok answer) outage = outage
refuses_none refusals (Err fault) outage = inr outage
