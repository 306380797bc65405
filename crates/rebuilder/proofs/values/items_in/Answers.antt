use Rattle.std.proofs.Common.{◌≡◌, ◌∷◌, ◌++◌, [], sym, subst}
use Rattle.shredder.specs.MessageRows.{IsItemRow, AreItemRows}
use Rattle.rebuilder.proofs.Walks.{item_by_item, begun, gone_on, ended}
use Rattle.rebuilder.proofs.values.items_in.Goals as goal

pub rows-init : goal.rows-init
rows-init c items h =
    let addresses = c.args.tables.now.shared.addresses in
    rw c.new-items.ensures.items (rw c.address_fields_at-rows.ensures (begun (IsItemRow addresses) (AreItemRows addresses) (item_by_item addresses) items _ h))

pub rows-preserved : goal.rows-preserved
rows-preserved c items h =
    let addresses = c.args.tables.now.shared.addresses in
    let read = c.in_ok-item_in.field-0 in
    let pushed : c.push.new.self.items ≡ c.rows.items.items ++ read ∷ [] = c.in_ok-push.ensures.items in
    rw pushed
    (gone_on (IsItemRow addresses) (AreItemRows addresses) (item_by_item addresses) items _ _ c.in-Some.row.now _ read
    (λ i is. c.in_ok-item_in.ensures i (subst (λ n. IsItemRow addresses n i c.in-Some.row.now) (sym is.at) is))
    c.in-Some.ensures.steps (c.rows.invariant items h))

pub returns : goal.returns
returns c items h =
    let addresses = c.args.tables.now.shared.addresses in
    rw c.from_vec.ensures (ended (IsItemRow addresses) (AreItemRows addresses) (item_by_item addresses) items _ _ c.in_default.ensures.steps.0 (c.rows.invariant items h))
