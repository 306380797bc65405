use Rattle.std.proofs.Common.{◌≡◌, IfOk, ap, subst, ◌∙◌}
use Rattle.std.proofs.lemmas.Result.{IfOk-weaker}
use Rattle.row_tables.specs.TableRows.{TableRows}
use Rattle.row_store.specs.Holding.{in_row}
use Rattle.mailbox_names.specs.Listing.{listed}
use Rattle.mailbox_core.specs.Listing.{names_in}
use Rattle.mailbox_core.proofs.NameRows.{names_stand}
use Rattle.mailbox_core.proofs.listing.list.Goals as goal

pub returns-clause-world : goal.returns-clause-world
returns-clause-world g c w stands =
    let t = c.args.store.now.tables in
    let rows : IfOk c.list_rows.result (λ all. all.items ≡ listed c.args.pattern.now (names_in c.args.subscribed c.args.user t)) =
    subst (λ (u : TableRows). IfOk c.list_rows.result (λ all. all.items ≡ listed c.args.pattern.now (names_in c.args.subscribed c.args.user u))) c.tables.ensures c.list_rows.ensures in
    IfOk-weaker c.list_rows.result _ _ (λ all is. is ∙ ap (listed c.args.pattern.now) (names_stand in_row t w c.args.subscribed c.args.user stands)) rows
