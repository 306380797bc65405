use Rattle.std.proofs.Common.{◌≡◌, ◌<◌, ℕ, true, false, length, nat_le, List, Option, inr, refl, sym, ◌∙◌, subst, arith}
use Rattle.std.specs.List.{list_any}
use Rattle.mail_world.specs.Changes.{Refusal}
use Rattle.mail_world.specs.Limits.{last_modseq}
use Rattle.mail_stands.specs.Storing.{is_there}
use Rattle.mailbox_core.specs.declared.faults.MailFault.{MailFault}
use Rattle.mailbox_core.specs.Rooms.{PlansNone}
use Rattle.mailbox_core.specs.Expunging.{CanGo}
use Rattle.mailbox_core.proofs.Expunges.{none_gone, refused_as, some_gone}
use Rattle.mailbox_core.proofs.StoredCalls.{long_name}
use Rattle.mailbox_core.proofs.expunging.row_to_lessen.Goals as goal

pub returns-then-not-any_there-clause-found : goal.returns-then-not-any_there-clause-found
returns-then-not-any_there-clause-found c =
    let t = c.args.tables.now in
    let id : ℕ = c.args.mailbox in
    let uids : List ℕ = c.args.uids.now in
    let none : list_any (is_there t id) uids ≡ false = sym c.any_there.ensures ∙ c.if-not-any_there.true in
    record { none = none; room = refused_as t id uids c.in-Some.row.now false _ (sym c.in-Some.ensures) none refl }

pub returns-then-row-ge-LAST_MODSEQ-clause-none : goal.returns-then-row-ge-LAST_MODSEQ-clause-none
returns-then-row-ge-LAST_MODSEQ-clause-none c =
    let t = c.args.tables.now in
    let id : ℕ = c.args.mailbox in
    let uids : List ℕ = c.args.uids.now in
    let row = c.in-Some.row.now in
    let some : list_any (is_there t id) uids ≡ true = sym c.any_there.ensures ∙ c.if-not-any_there.false in
    let high : nat_le last_modseq row.highest ≡ true = grind (arith, c.if-row-ge-LAST_MODSEQ.true) in
    subst (λ (r : Option Refusal). PlansNone (CanGo t id uids) MailFault.Full r) (sym (refused_as t id uids row true true (sym c.in-Some.ensures) some high)) refl

pub returns-then-len-clause-none : goal.returns-then-len-clause-none
returns-then-len-clause-none c =
    let t = c.args.tables.now in
    let id : ℕ = c.args.mailbox in
    let uids : List ℕ = c.args.uids.now in
    let row = c.in-Some.row.now in
    let some : list_any (is_there t id) uids ≡ true = sym c.any_there.ensures ∙ c.if-not-any_there.false in
    let high : nat_le last_modseq row.highest ≡ false = grind (arith, c.if-row-ge-LAST_MODSEQ.false) in
    let long : 4294967295 < length row.name = omega (arith, c.if-len.true, c.len.ensures) in
    subst (λ (r : Option Refusal). PlansNone (CanGo t id uids) MailFault.Full r) (sym (refused_as t id uids row true false (sym c.in-Some.ensures) some high))
    (inr (λ can. long_name t id row (sym c.in-Some.ensures) long can.text))

pub returns-then-any_gone-clause-none : goal.returns-then-any_gone-clause-none
returns-then-any_gone-clause-none c =
    let t = c.args.tables.now in
    let id : ℕ = c.args.mailbox in
    let uids : List ℕ = c.args.uids.now in
    let row = c.in-Some.row.now in
    let some : list_any (is_there t id) uids ≡ true = sym c.any_there.ensures ∙ c.if-not-any_there.false in
    let high : nat_le last_modseq row.highest ≡ false = grind (arith, c.if-row-ge-LAST_MODSEQ.false) in
    subst (λ (r : Option Refusal). PlansNone (CanGo t id uids) MailFault.Full r) (sym (refused_as t id uids row true false (sym c.in-Some.ensures) some high))
    (inr (λ can. some_gone t id uids (sym c.any_gone.ensures ∙ c.if-any_gone.true) can.apart))

pub returns-clause-found : goal.returns-clause-found
returns-clause-found c =
    let t = c.args.tables.now in
    let id : ℕ = c.args.mailbox in
    let uids : List ℕ = c.args.uids.now in
    let row = c.in-Some.row.now in
    let some : list_any (is_there t id) uids ≡ true = sym c.any_there.ensures ∙ c.if-not-any_there.false in
    let high : nat_le last_modseq row.highest ≡ false = grind (arith, c.if-row-ge-LAST_MODSEQ.false) in
    record {
      found = sym c.in-Some.ensures;
      text = omega (arith, c.if-len.false, c.len.ensures);
      some = some;
      room = refused_as t id uids row true false (sym c.in-Some.ensures) some high;
      modseq = c.if-row-ge-LAST_MODSEQ.false;
      apart = none_gone t id uids (sym c.any_gone.ensures ∙ c.if-any_gone.false);
    }
