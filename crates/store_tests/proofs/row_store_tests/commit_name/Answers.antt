use Rattle.std.proofs.Common.{rules}
use Rattle.row_tables.specs.Fits.{Fits}
use Rattle.row_tables.specs.declared.change.RowChange.{RowChange}
use Rattle.row_tables.specs.declared.change.RowChange.TheVariants.{InsertFlagName}
use Rattle.store_tests.proofs.Alone.{alone, runs_alone}
use Rattle.store_tests.proofs.row_store_tests.commit_name.Goals as goal

pub commit-requires-clause-fit : goal.commit-requires-clause-fit
commit-requires-clause-fit c =
    let change : RowChange = InsertFlagName (record { id = 1; name = c.new-name.result }) in
    let one = alone c.push.new.self.items c.new-changes.result.items change c.new-changes.ensures.items c.in_ok-push.ensures.items in
    let fits : Fits c.args.store.now.tables change = search rules in
    runs_alone c.args.store.now.tables change c.push.new.self.items one fits
