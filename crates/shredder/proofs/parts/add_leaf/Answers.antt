use Rattle.shredder.specs.Making.{holding}
use Rattle.shredder.proofs.PartSteps.{leaf_step}
use Rattle.shredder.proofs.parts.add_leaf.Goals as goal

pub returns-clause-rows : goal.returns-clause-rows
returns-clause-rows g c t now added e b none =
    leaf_step c.row_laws.ensures c.args.message t c.args.path.now c.args.kind c.requires.path now (holding added c.args.store.now.placed) (holding added c.add_body.new.store.placed) c.args.changes.now.items c.add_body.new.changes.items c.push_part.new.changes.items
    c.in_ok-body.body c.args.bytes.now b none (c.in_ok-body.ensures.rows c.args.message t now added e b) c.in_ok-push_part.ensures
