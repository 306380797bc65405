use Rattle.std.proofs.Common.{take}
use Rattle.std.specs.List.{All}
use Rattle.row_store.specs.Holding.{in_row}
use Rattle.row_store.specs.Bodies.{HasBytes}
use Rattle.row_store.proofs.bodies.find_placed.Given as goal

-- none of those so far has the bytes
abbrev pub invariant-loop-body : goal.invariant-loop-body
invariant-loop-body l = All (λ b. HasBytes in_row b l.bytes → ⊥) (take l.body-index l.placed)
