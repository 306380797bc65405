use Rattle.std.proofs.Common.{arith}
use Rattle.mailbox_core.proofs.Tallied.{kept_within, one_more_from}
use Rattle.mailbox_core.proofs.statuses.count_from.Goals as goal

pub overflow_add-count : goal.overflow_add-count
overflow_add-count c =
    let more = one_more_from c.args.first c.in-Some.uid c.left.left c.next.new.self c.in-Some.ensures.steps c.if-first-uid.true in
    let most = kept_within c.args.tables.now c.args.mailbox c.args.first in
    omega (arith, more, most, c.left.invariant, c.entry_count.ensures, c.entry_count.type_inv)
