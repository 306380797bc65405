use Rattle.std.proofs.Common.{rules}
use Rattle.row_tables.specs.Fits.{Fits}
use Rattle.row_store.proofs.Payloads.{one_more, stuck}
use Rattle.row_store.proofs.replaying.run.Goals as goal

pub loop-change-preserved : goal.loop-change-preserved
loop-change-preserved c =
    let i = c.loop-change.invariant in
    let fits : Fits c.loop-change.tables c.in-Some.change = search rules in
    one_more c.args.tables.now c.loop-change.tables c.apply.new.self c.args.changes.items c.loop-change.yielded c.loop-change.change-iterator.rest.items c.next.new.self.rest.items c.in-Some.change i.0 i.1 c.in-Some.ensures.steps.0 fits c.in_ok-apply.ensures.ok

pub returns-then-not-fits-clause-not_all : goal.returns-then-not-fits-clause-not_all
returns-then-not-fits-clause-not_all c e =
    let i = c.loop-change.invariant in
    let none : Fits c.loop-change.tables c.in-Some.change → ⊥ = search rules in
    stuck c.args.tables.now c.loop-change.tables c.args.changes.items c.loop-change.yielded c.loop-change.change-iterator.rest.items c.next.new.self.rest.items c.in-Some.change i.0 i.1 c.in-Some.ensures.steps.0 none
