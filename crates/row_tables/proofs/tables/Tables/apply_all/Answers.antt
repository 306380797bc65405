use Rattle.row_tables.specs.Fits.{RunsPart}
use Rattle.row_tables.proofs.Running.{next_fits, one_more, stopped, on_err}
use Rattle.row_tables.proofs.tables.Tables.apply_all.Goals as goal

pub apply-requires : goal.apply-requires
apply-requires c = next_fits c.loop-change.self c.loop-change.change-iterator.rest.items c.next.new.self.rest.items c.in-Some.change c.loop-change.invariant.2 c.in-Some.ensures.steps.0

pub loop-change-preserved : goal.loop-change-preserved
loop-change-preserved c =
    let i = c.loop-change.invariant in
    one_more c.args.self.now c.loop-change.self c.apply.new.self c.args.changes.items c.loop-change.yielded c.loop-change.change-iterator.rest.items c.next.new.self.rest.items c.in-Some.change i.0 i.1 i.2 c.in-Some.ensures.steps.0 c.in_ok-apply.ensures.ok

pub returns-in_err-apply-clause-err : goal.returns-in_err-apply-clause-err
returns-in_err-apply-clause-err c =
    let i = c.loop-change.invariant in
    on_err c.from_residual.result (RunsPart c.args.self.now c.args.changes.items c.apply.new.self)
    (stopped c.args.self.now c.loop-change.self c.apply.new.self c.args.changes.items c.loop-change.yielded c.loop-change.change-iterator.rest.items i.0 i.1 c.in_err-apply.ensures.err)
