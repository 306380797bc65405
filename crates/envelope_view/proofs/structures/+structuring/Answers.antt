use Rattle.std.proofs.Common.{arith}
use Rattle.envelope_view.proofs.PartLemmas.{part_smaller}
use Rattle.envelope_view.proofs.structures.+structuring.Goals as goal

pub push_parts-push_part-requires : goal.push_parts-push_part-requires
push_parts-push_part-requires t c = (omega (arith, part_smaller c.args.parts.now c.loop-part.part-index c.part-item.result c.loop-part-test.true c.part-item.is), tt)
