use Rattle.std.proofs.Common.{◌≡◌, ◌<◌, ℕ, true, false, length, nat_le, List, Option, inr, refl, sym, ◌∙◌, subst, arith}
use Rattle.std.specs.List.{list_any}
use Rattle.imap_grammar.specs.declared.flags.Flag.{Flag}
use Rattle.mail_world.specs.Changes.{Refusal}
use Rattle.mail_world.specs.Limits.{last_modseq}
use Rattle.mail_stands.specs.Storing.{has_too_many, is_changed}
use Rattle.mailbox_core.specs.declared.faults.MailFault.{MailFault}
use Rattle.mailbox_core.specs.Rooms.{PlansNone}
use Rattle.mailbox_core.specs.Storing.{HasTextName}
use Rattle.mailbox_core.proofs.StoredCalls.{long_name}
use Rattle.mailbox_core.proofs.StoredPlans.{refused_as}
use Rattle.mailbox_core.proofs.storing.row_to_change.Goals as goal

pub returns-then-any_has_too_many-clause-none : goal.returns-then-any_has_too_many-clause-none
returns-then-any_has_too_many-clause-none c =
    let t = c.args.tables.now in
    let id : ℕ = c.args.mailbox in
    let uids : List ℕ = c.args.uids.now in
    let flags : List Flag = c.args.flags.now in
    let row = c.in-Some.row.now in
    subst (λ (r : Option Refusal). PlansNone (HasTextName t id) MailFault.Full r)
    (sym (refused_as t id uids c.args.how flags row true _ _ (sym c.in-Some.ensures) (sym c.any_has_too_many.ensures ∙ c.if-any_has_too_many.true) refl refl)) refl

pub returns-then-not-any_changed-clause-found : goal.returns-then-not-any_changed-clause-found
returns-then-not-any_changed-clause-found c =
    let t = c.args.tables.now in
    let id : ℕ = c.args.mailbox in
    let uids : List ℕ = c.args.uids.now in
    let flags : List Flag = c.args.flags.now in
    let row = c.in-Some.row.now in
    let few : list_any (has_too_many t id c.args.how flags) uids ≡ false = sym c.any_has_too_many.ensures ∙ c.if-any_has_too_many.false in
    let none : list_any (is_changed t id c.args.how flags) uids ≡ false = sym c.any_changed.ensures ∙ c.if-not-any_changed.true in
    record { none = none; room = refused_as t id uids c.args.how flags row false false _ (sym c.in-Some.ensures) few none refl }

pub returns-then-row-ge-LAST_MODSEQ-clause-none : goal.returns-then-row-ge-LAST_MODSEQ-clause-none
returns-then-row-ge-LAST_MODSEQ-clause-none c =
    let t = c.args.tables.now in
    let id : ℕ = c.args.mailbox in
    let uids : List ℕ = c.args.uids.now in
    let flags : List Flag = c.args.flags.now in
    let row = c.in-Some.row.now in
    let few : list_any (has_too_many t id c.args.how flags) uids ≡ false = sym c.any_has_too_many.ensures ∙ c.if-any_has_too_many.false in
    let some : list_any (is_changed t id c.args.how flags) uids ≡ true = sym c.any_changed.ensures ∙ c.if-not-any_changed.false in
    let high : nat_le last_modseq row.highest ≡ true = grind (arith, c.if-row-ge-LAST_MODSEQ.true) in
    subst (λ (r : Option Refusal). PlansNone (HasTextName t id) MailFault.Full r) (sym (refused_as t id uids c.args.how flags row false true true (sym c.in-Some.ensures) few some high)) refl

pub returns-then-len-clause-none : goal.returns-then-len-clause-none
returns-then-len-clause-none c =
    let t = c.args.tables.now in
    let id : ℕ = c.args.mailbox in
    let uids : List ℕ = c.args.uids.now in
    let flags : List Flag = c.args.flags.now in
    let row = c.in-Some.row.now in
    let few : list_any (has_too_many t id c.args.how flags) uids ≡ false = sym c.any_has_too_many.ensures ∙ c.if-any_has_too_many.false in
    let some : list_any (is_changed t id c.args.how flags) uids ≡ true = sym c.any_changed.ensures ∙ c.if-not-any_changed.false in
    let high : nat_le last_modseq row.highest ≡ false = grind (arith, c.if-row-ge-LAST_MODSEQ.false) in
    let long : 4294967295 < length row.name = omega (arith, c.if-len.true, c.len.ensures) in
    subst (λ (r : Option Refusal). PlansNone (HasTextName t id) MailFault.Full r) (sym (refused_as t id uids c.args.how flags row false true false (sym c.in-Some.ensures) few some high))
    (inr (λ texts. long_name t id row (sym c.in-Some.ensures) long texts))

pub returns-clause-found : goal.returns-clause-found
returns-clause-found c =
    let t = c.args.tables.now in
    let id : ℕ = c.args.mailbox in
    let uids : List ℕ = c.args.uids.now in
    let flags : List Flag = c.args.flags.now in
    let row = c.in-Some.row.now in
    let few : list_any (has_too_many t id c.args.how flags) uids ≡ false = sym c.any_has_too_many.ensures ∙ c.if-any_has_too_many.false in
    let some : list_any (is_changed t id c.args.how flags) uids ≡ true = sym c.any_changed.ensures ∙ c.if-not-any_changed.false in
    let high : nat_le last_modseq row.highest ≡ false = grind (arith, c.if-row-ge-LAST_MODSEQ.false) in
    record {
      found = sym c.in-Some.ensures;
      text = omega (arith, c.if-len.false, c.len.ensures);
      some = some;
      room = refused_as t id uids c.args.how flags row false true false (sym c.in-Some.ensures) few some high;
      modseq = c.if-row-ge-LAST_MODSEQ.false;
    }
