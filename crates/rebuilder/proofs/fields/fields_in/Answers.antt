use Rattle.std.proofs.Common.{◌≡◌, ◌∷◌, ◌++◌, [], sym, subst}
use Rattle.shredder.specs.MessageRows.{IsFieldRow, AreFieldRows}
use Rattle.rebuilder.proofs.Walks.{field_by_field, begun, gone_on, ended}
use Rattle.rebuilder.proofs.fields.fields_in.Goals as goal

pub rows-init : goal.rows-init
rows-init c fields h =
    let t = c.args.tables.now in
    let m = c.args.message in
    let p = c.args.path.now in
    rw c.new-fields.ensures.items (rw c.header_fields_at-rows.ensures (begun (IsFieldRow t m p) (AreFieldRows t m p) (field_by_field t m p) fields _ h.rows))

pub rows-preserved : goal.rows-preserved
rows-preserved c fields h =
    let t = c.args.tables.now in
    let m = c.args.message in
    let p = c.args.path.now in
    let read = c.in_ok-field_in.field-0 in
    let pushed : c.push.new.self.items ≡ c.rows.fields.items ++ read ∷ [] = c.in_ok-push.ensures.items in
    rw pushed
    (gone_on (IsFieldRow t m p) (AreFieldRows t m p) (field_by_field t m p) fields _ _ c.in-Some.row.now _ read
    (λ f is. c.in_ok-field_in.ensures f (subst (λ n. IsFieldRow t m p n f c.in-Some.row.now) (sym is.at) is))
    c.in-Some.ensures.steps (c.rows.invariant fields h))

pub returns : goal.returns
returns c fields h =
    let t = c.args.tables.now in
    let m = c.args.message in
    let p = c.args.path.now in
    ended (IsFieldRow t m p) (AreFieldRows t m p) (field_by_field t m p) fields _ _ c.in_default.ensures.steps.0 (c.rows.invariant fields h)
