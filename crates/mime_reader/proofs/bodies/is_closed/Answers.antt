use Rattle.std.proofs.Common.{sym, ◌∙◌}
use Rattle.mime_reader.proofs.KindLemmas.{closed_none, closed_some}
use Rattle.mime_reader.proofs.bodies.is_closed.Goals as goal

pub returns-in-Some : goal.returns-in-Some
returns-in-Some c =
    let found = c.in-Some.ensures.cases in
    c.eq.ensures ∙ closed_some c.args.text.now c.args.boundary.now c.in-Some.front.now found.0 found.1

pub returns-in-None : goal.returns-in-None
returns-in-None c =
    let found = c.in-None.ensures.cases in
    sym (closed_none c.args.text.now c.args.boundary.now found)
