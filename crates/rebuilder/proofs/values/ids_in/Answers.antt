use Rattle.std.proofs.Common.{◌≡◌, ◌∷◌, ◌++◌, []}
use Rattle.rebuilder.proofs.Walks.{IsIdRow, AreIdRows, id_by_id, id_read, begun, gone_on, ended}
use Rattle.rebuilder.proofs.values.ids_in.Goals as goal

pub rows-init : goal.rows-init
rows-init c ids h =
    let m = c.args.message in
    let p = c.args.path.now in
    let at = c.args.place in
    rw c.new-ids.ensures.items (rw c.message_ids_at-rows.ensures (begun (IsIdRow m p at) (AreIdRows m p at) (id_by_id m p at) ids _ h))

pub rows-preserved : goal.rows-preserved
rows-preserved c ids h =
    let m = c.args.message in
    let p = c.args.path.now in
    let at = c.args.place in
    let read = c.in_ok-copied.field-0 in
    let pushed : c.push.new.self.items ≡ c.rows.ids.items ++ read ∷ [] = c.in_ok-push.ensures.items in
    rw pushed
    (gone_on (IsIdRow m p at) (AreIdRows m p at) (id_by_id m p at) ids _ _ c.in-Some.row.now _ read
    (id_read m p at _ read c.in-Some.row.now c.in_ok-copied.ensures) c.in-Some.ensures.steps (c.rows.invariant ids h))

pub returns : goal.returns
returns c ids h =
    let m = c.args.message in
    let p = c.args.path.now in
    let at = c.args.place in
    rw c.from_vec.ensures (ended (IsIdRow m p at) (AreIdRows m p at) (id_by_id m p at) ids _ _ c.in_default.ensures.steps.0 (c.rows.invariant ids h))
