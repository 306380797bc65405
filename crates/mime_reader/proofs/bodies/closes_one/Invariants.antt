use Rattle.std.proofs.Common.{◌≡◌, drop}
use Rattle.std.specs.List.{list_any}
use Rattle.std.specs.Str.{bytes_eq}
use Rattle.mime_reader.specs.Bodies.{closing, delimiter}
use Rattle.mime_reader.proofs.bodies.closes_one.Given as goal

abbrev pub invariant-loop-outer : goal.invariant-loop-outer
invariant-loop-outer l =
    list_any (λ outer. bytes_eq (closing l.boundary) (delimiter outer)) (drop l.outer-index l.enclosing)
    ≡ list_any (λ outer. bytes_eq (closing l.boundary) (delimiter outer)) l.enclosing
