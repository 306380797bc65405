use Rattle.std.proofs.Common.{◌≡◌, take}
use Rattle.row_store.specs.Bodies.{greatest_id}
use Rattle.row_store.proofs.bodies.greatest_placed.Given as goal

abbrev pub invariant-loop-body : goal.invariant-loop-body
invariant-loop-body l = l.greatest ≡ greatest_id (take l.body-index l.placed)
