use Rattle.std.proofs.Common.{ap, ◌∙◌}
use Rattle.std.specs.List.{find}
use Rattle.ordered_rows.specs.RowKey.{RowKey}
use Rattle.ordered_rows.specs.Listed.{is_from}
use Rattle.row_tables.specs.Keys.{subscription_key}
use Rattle.row_tables.specs.Names.{subscription_is_after}
use Rattle.row_tables.specs.TableRows.{HeadRows, TableRows}
use Rattle.row_tables.proofs.Following.{next_subscription}
use Rattle.row_tables.proofs.tables.Tables.subscription_after.Goals as goal

pub returns-clause-row : goal.returns-clause-row
returns-clause-row c =
    let rows_are = ap (λ (h : HeadRows). h.subscriptions) c.heads.view_is ∙ ap (λ (t : TableRows). t.heads.subscriptions) c.self.view_is in
    c.numbered_from.ensures ∙ ap (λ (k : RowKey). find (is_from subscription_key k) c.heads.inside.subscriptions) c.after.ensures
    ∙ next_subscription c.args.owner c.args.name.now c.heads.inside.subscriptions ∙ ap (find (subscription_is_after c.args.owner c.args.name.now)) rows_are
