use Rattle.std.proofs.Common.{◌≡◌, Some, rules}
use Rattle.row_tables.specs.Fits.{Fits}
use Rattle.store_tests.proofs.Alone.{alone, runs_alone, placed_alone}
use Rattle.store_tests.proofs.row_store_tests.keep.Goals as goal

pub commit-requires-clause-fit : goal.commit-requires-clause-fit
commit-requires-clause-fit c =
    let one = alone c.push.new.self.items c.new-changes.result.items c.in-Some.change c.new-changes.ensures.items c.in_ok-push.ensures.items in
    let fits : Fits c.place_body.new.self.tables c.in-Some.change = search rules in
    runs_alone c.place_body.new.self.tables c.in-Some.change c.push.new.self.items one fits

pub commit-requires-clause-placed : goal.commit-requires-clause-placed
commit-requires-clause-placed c =
    let one = alone c.push.new.self.items c.new-changes.result.items c.in-Some.change c.new-changes.ensures.items c.in_ok-push.ensures.items in
    let some : c.in_ok-id.field-0.change ≡ Some c.in-Some.change = cc in
    placed_alone c.args.store.now.tables.shared.bodyparts c.args.store.now.placed c.place_body.new.self.placed c.args.bytes.now c.in_ok-id.field-0.id c.in_ok-id.field-0.change c.in-Some.change c.push.new.self.items some c.in_ok-id.ensures.places one
