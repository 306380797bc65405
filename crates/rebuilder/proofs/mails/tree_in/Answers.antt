use Rattle.std.proofs.Common.{◌≡◌, [], IfOk, Some, None, sym, ap, ◌∙◌}
use Rattle.std.specs.Option.{option_copied}
use Rattle.row_store.specs.Holding.{stored_by, in_row}
use Rattle.shredder.specs.MessageRows.{part_at}
use Rattle.rebuilder.proofs.OneMail.{nowhere}
use Rattle.rebuilder.proofs.Children.{at_row}
use Rattle.rebuilder.proofs.mails.tree_in.Goals as goal

pub returns-in-Some : goal.returns-in-Some
returns-in-Some c mail h =
    let there : part_at c.args.tables.now c.args.id [] ≡ Some c.in-Some.part.now = sym c.in-Some.ensures in
    at_row c.args.tables.now c.args.id 100 (λ tree. IfOk c.node_in.result (λ message. message ≡ tree)) [] mail.message c.in-Some.part.now c.node_in.ensures there h.rows.tree_rows h.few_levels

pub returns-in-None : goal.returns-in-None
returns-in-None c mail h =
    let none : part_at c.args.tables.now c.args.id [] ≡ None = sym c.part_numbers_row.ensures ∙ ap option_copied c.in-None.is in
    absurd (nowhere (stored_by in_row c.args.tables.now) c.args.id [] mail.message h.rows.tree_rows none)
