use Rattle.std.proofs.Common.{◌≡◌, ℕ, true, false, List, Option, inr, sym, ◌∙◌, subst}
use Rattle.row_tables.specs.declared.marks.MailboxMessage.{MailboxMessage}
use Rattle.mail_world.specs.Changes.{Refusal}
use Rattle.mailbox_core.specs.declared.faults.MailFault.{MailFault}
use Rattle.mailbox_core.specs.MovingInbox.{IsMovable, MayMove}
use Rattle.mailbox_core.specs.Rooms.{PlansNone}
use Rattle.mailbox_core.proofs.MovedInbox.{any_gone_of, can_move, cannot_move}
use Rattle.mailbox_core.proofs.inbox_renaming.plan_moving.Goals as goal

pub returns-then-any_gone-clause-none : goal.returns-then-any_gone-clause-none
returns-then-any_gone-clause-none c =
    let t = c.args.tables.now in
    let owner : ℕ = c.args.owner in
    let to = c.args.to.now in
    let row = c.in_ok-inbox.inbox.now in
    let rows : List MailboxMessage = c.as_slice.result.now in
    let may : MayMove t owner to row = c.in_ok-inbox.ensures.found in
    let some : any_gone_of t rows ≡ true = sym c.any_gone.ensures ∙ c.if-any_gone.true in
    subst (λ (r : Option Refusal). PlansNone (IsMovable t owner to) MailFault.Full r) (sym may.room)
    (inr (λ (movable : IsMovable t owner to). cannot_move t to row rows (c.as_slice.ensures.value ∙ c.in_ok-rows.ensures) some (movable row may.found)))

pub returns-clause-plan : goal.returns-clause-plan
returns-clause-plan c =
    let t = c.args.tables.now in
    let owner : ℕ = c.args.owner in
    let to = c.args.to.now in
    let row = c.in_ok-inbox.inbox.now in
    let rows : List MailboxMessage = c.as_slice.result.now in
    let may : MayMove t owner to row = c.in_ok-inbox.ensures.found in
    let none : any_gone_of t rows ≡ false = sym c.any_gone.ensures ∙ c.if-any_gone.false in
    record { row = row; may = may; can = can_move t owner to row rows may (c.as_slice.ensures.value ∙ c.in_ok-rows.ensures) none; are = c.in_ok-changes.ensures }
