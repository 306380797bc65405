use Rattle.std.proofs.Common.{ℕ, List, false, subst, sym}
use Rattle.mailbox_core.specs.Listing.{IsNextName, names_in}
use Rattle.mailbox_core.proofs.NameRows.{none_next, some_next}
use Rattle.mailbox_core.proofs.listing.mailbox_after.Goals as goal

pub returns-in-Some : goal.returns-in-Some
returns-in-Some c =
    subst (λ (next : List ℕ). IsNextName c.args.name.now next (names_in false c.args.user c.args.tables.now)) (sym c.as_slice.ensures)
    (some_next c.args.user c.args.name.now c.args.tables.now.heads.mailboxes c.in-Some.row.now c.in-Some.ensures)

pub returns-in-None : goal.returns-in-None
returns-in-None c = none_next c.args.user c.args.name.now c.args.tables.now.heads.mailboxes c.in-None.ensures
