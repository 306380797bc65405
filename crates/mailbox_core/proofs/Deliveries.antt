-- What a delivery answers, from what its commit does.
use Rattle.std.proofs.Common.{◌≡◌, ℕ, List, [], ◌∷◌, ◌++◌, Result, Ok, Err, IsErrOf, IfErr, inl, inr, refl, sym, ap, ◌∙◌, subst}
use Rattle.std.specs.List.{flat_map}
use Rattle.disk_model.specs.Told.{Told}
use Rattle.date_grammar.specs.declared.parts.Stamp.{Stamp}
use Rattle.row_tables.specs.TableRows.{TableRows}
use Rattle.row_tables.specs.declared.contents.BodyPart.{BodyPart}
use Rattle.row_tables.specs.declared.heads.Mailbox.{Mailbox as Head}
use Rattle.row_tables.specs.declared.change.RowChange.{RowChange}
use Rattle.row_store.specs.declared.faults.StoreFault.{StoreFault}
use Rattle.row_store.specs.declared.faults.StoreFault.TheVariants.{Failed, NoMemory}
use Rattle.row_store.specs.Bodies.{ArePlaced}
use Rattle.row_store.specs.Kept.{Store}
use Rattle.mail_world.specs.Worlds.{World}
use Rattle.mail_world.specs.Changes.{Refusal}
use Rattle.mail_stands.specs.Delivering.{arrival_of, deliver_changes}
use Rattle.mailbox_core.specs.declared.faults.MailFault.{MailFault}
use Rattle.mailbox_core.specs.Faults.{IsOutage, answer_of, fault_in, fault_of}
use Rattle.mailbox_core.specs.Calls.{Behaves, IsMade}
use Rattle.mailbox_core.proofs.Behaving.{error_of, ok_of, tells_as}

-- a call that refuses nothing fails by an outage alone
pub outage_of : {T : Type 0} (result : Result T StoreFault) → IfErr (answer_of result) IsOutage
outage_of (Ok answer) = tt
outage_of (Err Failed) = inl refl
outage_of (Err NoMemory) = inr refl

-- the fault of an answer
abbrev fault_or : {T : Type 0} → Result T MailFault → MailFault
fault_or (Ok answer) = MailFault.NoMemory
fault_or (Err fault) = fault

-- ---- the same with another answer

module _ {D S T : Type 0} (told : Told D) (old new : Store D) where
  pub behaves_with : (made : S) (answer : T) → Behaves told (ok_of made) old new → Behaves told (ok_of answer) old new
  behaves_with made answer b = record {
    after = b.after;
    owners = b.owners;
    crash = b.crash;
    done = b.done;
    unchanged = λ refusal e. cc;
    untouched = λ e. cc;
    faults = tells_as told old.files new.files (ok_of made ≡ error_of S MailFault.Failed) (ok_of answer ≡ error_of T MailFault.Failed) (λ e. cc) (λ e. cc) b.faults;
  }

  pub made_with : (made : S) (answer : T) (world next : World) → IsMade told (ok_of made) old new world next made → IsMade told (ok_of answer) old new world next answer
  made_with made answer world next m = record { answers = refl; stands = m.stands; settled = m.settled; within = m.within; since = m.since }

  pub behaves_fault : (fault : MailFault) → Behaves told (error_of S fault) old new → Behaves told (error_of T fault) old new
  behaves_fault fault b = record {
    after = b.after;
    owners = b.owners;
    crash = b.crash;
    done = b.done;
    unchanged = λ refusal e. b.unchanged refusal (ap (λ (f : MailFault). error_of S f) (same fault (fault_of refusal) e));
    untouched = λ e. b.untouched (ap (λ (f : MailFault). error_of S f) (same fault MailFault.NoMemory e));
    faults = tells_as told old.files new.files (error_of S fault ≡ error_of S MailFault.Failed) (error_of T fault ≡ error_of T MailFault.Failed)
        (λ e. ap (λ (f : MailFault). error_of S f) (same fault MailFault.Failed e)) (λ e. ap (λ (f : MailFault). error_of T f) (back fault MailFault.Failed e)) b.faults;
  }
    where
      same : (f g : MailFault) → error_of T f ≡ error_of T g → f ≡ g
      same f g e = ap fault_or e

      back : (f g : MailFault) → error_of S f ≡ error_of S g → f ≡ g
      back f g e = ap fault_or e

  pub made_fault : (fault : MailFault) (made : S) (answer : T) (world next : World) → IsMade told (error_of S fault) old new world next made → IsMade told (error_of T fault) old new world next answer
  made_fault fault made answer world next m = record { answers = m.answers; stands = m.stands; settled = m.settled; within = m.within; since = m.since }

-- ---- the changes place what the mail places

pub deliver_placed : ((placed : List BodyPart) (changes others : List RowChange) → ArePlaced placed changes → ArePlaced placed others → ArePlaced placed (changes ++ others))
    → (placed : List BodyPart) (mail : List RowChange) (rows : List Head) (message : ℕ) (date : Stamp) (taken : List ℕ) → ArePlaced placed mail → ArePlaced placed (deliver_changes mail rows message date taken)
deliver_placed both placed mail rows message date taken are = both placed mail (flat_map (arrival_of message date taken) rows) are (each rows)
  where
    each : (more : List Head) → ArePlaced placed (flat_map (arrival_of message date taken) more)
    each [] = tt
    each (row ∷ more) = (tt, (tt, each more))
