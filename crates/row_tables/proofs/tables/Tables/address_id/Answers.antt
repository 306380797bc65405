use Rattle.std.proofs.Common.{◌∙◌, ap}
use Rattle.row_tables.specs.Indexes.{address_id}
use Rattle.row_tables.specs.TableRows.{SharedRows, TableRows}
use Rattle.row_tables.proofs.tables.Tables.address_id.Goals as goal

pub returns : goal.returns
returns c =
    c.id_of_content.ensures ∙ c.shared.invariant.1.each (c.args.name.now, c.args.local.now, c.args.domain.now)
    ∙ ap (λ (s : SharedRows). address_id c.args.name.now c.args.local.now c.args.domain.now s.addresses) c.shared.view_is
    ∙ ap (λ (t : TableRows). address_id c.args.name.now c.args.local.now c.args.domain.now t.shared.addresses) c.self.view_is
