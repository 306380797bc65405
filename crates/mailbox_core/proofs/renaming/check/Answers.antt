use Rattle.std.proofs.Common.{◌≡◌, ◌<◌, ◌||◌, ℕ, Bool, Bor, List, Option, Some, ap, sym, subst, ◌∙◌}
use Rattle.std.specs.Option.{option_copied}
use Rattle.row_tables.specs.declared.heads.Mailbox.{Mailbox}
use Rattle.mailbox_core.specs.Renaming.{IsNextUnder}
use Rattle.mailbox_core.proofs.Renames.{IsChecked, checked_first, checked_more}
use Rattle.mailbox_core.proofs.FollowedNames.{fewer_left, left_of}
use Rattle.mailbox_core.proofs.renaming.check.Goals as goal
use Rattle.mailbox_core.proofs.renaming.check.Goals.{then-are_taken, else-are_taken}

pub rows-init : goal.rows-init
rows-init c = checked_first c.args.tables.now c.args.owner c.args.from.now c.args.to.now c.args.first.now c.requires.first

pub rows-smaller : goal.rows-smaller
rows-smaller c =
    let t = c.args.tables.now in
    let row = c.in-Some.row.now in
    let next = option_copied c.next_under-next.result in
    let comes : IsNextUnder c.args.owner c.args.from.now row.name t.heads.mailboxes next = subst (λ (n : List ℕ). IsNextUnder c.args.owner c.args.from.now n t.heads.mailboxes next) c.as_slice.ensures c.next_under-next.ensures in
    subst (λ (o : Option (Bor Mailbox)). left_of t c.args.owner next < left_of t c.args.owner (option_copied o)) (sym c.in-Some.is) (fewer_left t c.args.owner c.args.from.now row next comes)

pub rows-preserved : goal.rows-preserved
rows-preserved c =
    let t = c.args.tables.now in
    let row = c.in-Some.row.now in
    let next = option_copied c.next_under-next.result in
    let comes : IsNextUnder c.args.owner c.args.from.now row.name t.heads.mailboxes next = subst (λ (n : List ℕ). IsNextUnder c.args.owner c.args.from.now n t.heads.mailboxes next) c.as_slice.ensures c.next_under-next.ensures in
    let was : IsChecked t c.args.owner c.args.from.now c.args.to.now c.rows.are_taken (Some row) = subst (λ (o : Option (Bor Mailbox)). IsChecked t c.args.owner c.args.from.now c.args.to.now c.rows.are_taken (option_copied o)) c.in-Some.is c.rows.invariant in
    let either : (c.rows.are_taken || c.in_ok-is_taken.is_taken) ≡ c.if-are_taken.are_taken =
    elim c.if-are_taken.branch [ then-are_taken w ↦ ap (λ (b : Bool). b || c.in_ok-is_taken.is_taken) w.if-are_taken.true ∙ (sym w.if-are_taken.true ∙ sym w.are_taken-is) | else-are_taken w ↦ ap (λ (b : Bool). b || c.in_ok-is_taken.is_taken) w.if-are_taken.false ∙ sym w.are_taken-is ] in
    subst (λ (b : Bool). IsChecked t c.args.owner c.args.from.now c.args.to.now b next) either
    (checked_more t c.args.owner c.args.from.now c.args.to.now c.rows.are_taken c.in_ok-is_taken.is_taken row next c.in_ok-is_taken.ensures comes was)
