use Rattle.std.proofs.Common.{◌≡◌, refl, drop}
use Rattle.std.specs.Ordering.{nat_cmp}
use Rattle.std.specs.BTreeSet.{contains}
use Rattle.port_model.specs.Player.{left_of}
use Rattle.port_model.proofs.Left.{left-close}
use Rattle.port_model.proofs.player.Player.close.Goals as goal

pub returns-clause-plays : goal.returns-clause-plays
returns-clause-plays c =
    let old = c.self.inside in
    let closed = contains nat_cmp c.insert.new.self in
    let skipped : left_of closed c.skip-next.result.1 (drop c.skip-next.result.0 old.events.items) ≡ left_of closed old.offset (drop old.next old.events.items) = rw c.deref.ensures.value at c.skip-next.ensures.left in
    let without = left-close (contains nat_cmp old.closed) closed c.args.number c.in_ok-insert.ensures.updates.0 old.offset (drop old.next old.events.items) in
    rw (← c.self.view_is) (record { answered = tt; left = rw (skipped, without) refl; plan = refl })
