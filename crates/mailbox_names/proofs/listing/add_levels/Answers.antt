use Rattle.std.proofs.Common.{ℕ, List, Bor, map}
use Rattle.mailbox_names.proofs.Levels.{next_level}
use Rattle.mailbox_names.proofs.listing.add_levels.Goals as goal

pub levels-preserved : goal.levels-preserved
levels-preserved c = λ pattern found are.
    next_level pattern c.args.name.now c.args.fronts.now c.args.finds_inbox c.levels.i found are c.levels-test.true
    (map (λ (n : Bor (List ℕ)). n.now) c.args.found.now.keys) (map (λ (n : Bor (List ℕ)). n.now) c.levels.found.keys) (map (λ (n : Bor (List ℕ)). n.now) c.add_level.new.found.keys)
    c.in_ok-add_level.ensures (c.levels.invariant pattern found are)
