use Rattle.std.proofs.Common.{sym, ap, ◌∙◌, ◌++◌, map}
use Rattle.std.proofs.lemmas.List.{append-nil}
use Rattle.fetch_writer.specs.Told.{item_told}
use Rattle.fetch_writer.proofs.AskedLemmas.{distinct_none, distinct_next}
use Rattle.fetch_writer.proofs.asked.push_distinct.Goals as goal

pub loop-at-init : goal.loop-at-init
loop-at-init c = let told = map item_told c.args.told.now.items in sym (ap (λ l. told ++ l) distinct_none ∙ append-nil told)

pub loop-at-preserved : goal.loop-at-preserved
loop-at-preserved c =
    c.in_ok-push_new.ensures
    ∙ distinct_next c.args.items.now (map item_told c.loop-at.told.items) (map item_told c.args.told.now.items) c.loop-at.at c.index-items-at.result
    c.loop-at-test.true c.index-items-at.is c.loop-at.invariant
