use Rattle.std.proofs.Common.{get_or, refl}
use Rattle.session_view.proofs.Rising.{rising_more, rising_stops}
use Rattle.session_view.proofs.uids.rising_len.Goals as goal

pub loop-place-preserved : goal.loop-place-preserved
loop-place-preserved c =
    rising_more c.args.numbers.now c.loop-place.place c.loop-place.last (get_or c.args.numbers.now c.loop-place.place 0) c.loop-place-test.true refl c.if-number-last.false c.loop-place.invariant

pub returns-then-number-last : goal.returns-then-number-last
returns-then-number-last c =
    rising_stops c.args.numbers.now c.loop-place.place c.loop-place.last (get_or c.args.numbers.now c.loop-place.place 0) c.loop-place-test.true refl c.if-number-last.true c.loop-place.invariant
