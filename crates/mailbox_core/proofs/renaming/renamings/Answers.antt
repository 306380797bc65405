use Rattle.std.proofs.Common.{◌<◌, ℕ, Bor, List, Option, Some, sym, subst}
use Rattle.std.specs.Option.{option_copied}
use Rattle.row_tables.specs.declared.heads.Mailbox.{Mailbox}
use Rattle.mailbox_core.specs.Renaming.{IsNextUnder}
use Rattle.mailbox_core.proofs.Renames.{Gathers, gathers_first, gathers_more}
use Rattle.mailbox_core.proofs.FollowedNames.{fewer_left, left_of}
use Rattle.mailbox_core.proofs.renaming.renamings.Goals as goal

pub rows-init : goal.rows-init
rows-init c = gathers_first c.args.tables.now c.args.owner c.args.from.now c.args.to.now c.new-changes.result.items c.args.first.now c.new-changes.ensures.items c.requires

pub rows-smaller : goal.rows-smaller
rows-smaller c =
    let t = c.args.tables.now in
    let row = c.in-Some.row.now in
    let next = option_copied c.next_under-next.result in
    let comes : IsNextUnder c.args.owner c.args.from.now row.name t.heads.mailboxes next = subst (λ (n : List ℕ). IsNextUnder c.args.owner c.args.from.now n t.heads.mailboxes next) c.as_slice.ensures c.next_under-next.ensures in
    subst (λ (o : Option (Bor Mailbox)). left_of t c.args.owner next < left_of t c.args.owner (option_copied o)) (sym c.in-Some.is) (fewer_left t c.args.owner c.args.from.now row next comes)

pub rows-preserved : goal.rows-preserved
rows-preserved c =
    let t = c.args.tables.now in
    let row = c.in-Some.row.now in
    let next = option_copied c.next_under-next.result in
    let comes : IsNextUnder c.args.owner c.args.from.now row.name t.heads.mailboxes next = subst (λ (n : List ℕ). IsNextUnder c.args.owner c.args.from.now n t.heads.mailboxes next) c.as_slice.ensures c.next_under-next.ensures in
    let was : Gathers t c.args.owner c.args.from.now c.args.to.now c.rows.changes.items (Some row) = subst (λ (o : Option (Bor Mailbox)). Gathers t c.args.owner c.args.from.now c.args.to.now c.rows.changes.items (option_copied o)) c.in-Some.is c.rows.invariant in
    gathers_more t c.args.owner c.args.from.now c.args.to.now c.rows.changes.items c.push_renaming.new.changes.items row next c.in_ok-push_renaming.ensures comes was
