use Rattle.std.proofs.Common.{rules}
use Rattle.std.specs.Result.{IsOk}
use Rattle.row_store.specs.Holding.{stored}
use Rattle.row_store.proofs.AfterCrash.{commits_nothing}
use Rattle.row_store.proofs.committing.make.Goals as goal

pub returns-in_err-payload-clause-crash : goal.returns-in_err-payload-clause-crash
returns-in_err-payload-clause-crash g c after runs =
    let failed : IsOk c.from_residual.result → ⊥ = search rules in
    commits_nothing g.D.Disk.told c.args.log.now c.args.files.now c.args.tables.now c.requires.kept (stored after) (IsOk c.from_residual.result) failed

pub returns-in_err-apply_all-clause-crash : goal.returns-in_err-apply_all-clause-crash
returns-in_err-apply_all-clause-crash g c after runs =
    let failed : IsOk c.from_residual-in_err-apply_all.result → ⊥ = search rules in
    commits_nothing g.D.Disk.told c.args.log.now c.args.files.now c.args.tables.now c.requires.kept (stored after) (IsOk c.from_residual-in_err-apply_all.result) failed
