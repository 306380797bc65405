use Rattle.shredder.proofs.PartSteps.{inner_step}
use Rattle.shredder.proofs.parts.add_inner.Goals as goal

pub returns : goal.returns
returns c t now added b none =
    inner_step c.row_laws.ensures c.args.message t c.args.path.now c.args.kind c.requires.path now added c.args.changes.now.items c.push_part.new.changes.items c.requires.inner b none c.in_ok-push_part.ensures
