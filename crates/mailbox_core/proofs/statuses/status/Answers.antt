use Rattle.std.proofs.Common.{ℕ, Option, ap, subst, ◌∙◌}
use Rattle.std.specs.Option.{option_map}
use Rattle.row_tables.specs.TableRows.{TableRows}
use Rattle.row_store.specs.Holding.{in_row}
use Rattle.mail_world.specs.Worlds.{Mailbox}
use Rattle.mail_stands.specs.Stands.{AreWhole}
use Rattle.mailbox_core.specs.Statuses.{IsRowStatus}
use Rattle.mailbox_core.proofs.StatusTold.{status_told}
use Rattle.mailbox_core.proofs.statuses.status.Goals as goal

pub returns : goal.returns
returns g c w stands m at =
    let t = c.args.store.now.tables in
    let id : ℕ = c.args.mailbox in
    let there : AreWhole c.tables-tables.result.now = record { ordered = c.are_whole.ensures.ordered; closed = c.are_whole.ensures.closed; distinct = c.are_whole.ensures.distinct } in
    let whole : AreWhole t = subst AreWhole c.tables-tables.ensures there in
    let are : IsRowStatus t id c.args.with_unseen c.status_in.result = subst (λ (u : TableRows). IsRowStatus u id c.args.with_unseen c.status_in.result) c.tables-tables.ensures c.status_in.ensures in
    status_told c.keys.ensures.same c.insertion.ensures in_row t w id m whole stands at (c.rows_at_keys.ensures t.marks.flags whole.ordered.flags)
    (c.message_uids.ensures in_row t w id m whole stands at)
    (c.mailbox_rows.ensures.at in_row t w id stands ∙ ap (λ (o : Option Mailbox). option_map (λ (x : Mailbox). x.head) o) at)
    c.args.with_unseen c.status_in.result are
