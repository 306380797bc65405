use Rattle.std.proofs.Common.{◌≡◌, ℕ, false, refl, arith}
use Rattle.std.specs.Ordering.{nat_cmp}
use Rattle.std.specs.BTreeSet.{contains}
use Rattle.port_model.proofs.Left.{happens-first, more-fresh, left-open}
use Rattle.port_model.proofs.player.Player.new.Goals as goal

pub invariant_of-result : goal.invariant_of-result
invariant_of-result c =
    let open_ : (n : ℕ) → contains nat_cmp c.new.result n ≡ false = λ n. rw c.new.ensures.empty refl in
    (happens-first (contains nat_cmp c.new.result) open_ c.args.events.items, more-fresh c.args.events.items c.requires, c.requires, omega arith, omega arith)

pub returns : goal.returns
returns c =
    let open_ : (n : ℕ) → contains nat_cmp c.new.result n ≡ false = λ n. rw c.new.ensures.empty refl in
    rw (left-open (contains nat_cmp c.new.result) open_ c.args.events.items) refl
