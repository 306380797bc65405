use Rattle.std.proofs.Common.{◌≡◌, ℕ, List, Some, sym, subst}
use Rattle.row_tables.specs.Names.{mailbox_named}
use Rattle.mail_world.specs.Names.{mailbox_name}
use Rattle.mailbox_core.proofs.Found.{owned_row}
use Rattle.mailbox_core.proofs.look_ups.mailbox_named.Goals as goal

pub returns-in-Some-clause-owned : goal.returns-in-Some-clause-owned
returns-in-Some-clause-owned c =
    let rows = c.args.tables.now.heads.mailboxes in
    let found : mailbox_named c.args.user (mailbox_name c.args.name.now) rows ≡ Some c.in-Some.mailbox.now =
    subst (λ (name : List ℕ). mailbox_named c.args.user name rows ≡ Some c.in-Some.mailbox.now) c.canonical_name.ensures (sym c.in-Some.ensures) in
    owned_row c.insertion.ensures rows c.args.user (mailbox_name c.args.name.now) c.in-Some.mailbox.now c.are_whole.ensures.ordered.mailboxes found
