use Rattle.std.proofs.Common.{arith}
use Rattle.canon_writer.proofs.PartLemmas.{part_smaller}
use Rattle.canon_writer.proofs.printing.+writing.Goals as goal

pub append_parts-append_message-requires : goal.append_parts-append_message-requires
append_parts-append_message-requires t c = (omega (arith, part_smaller c.args.parts.now c.loop-part.part-index c.part-item.result c.loop-part-test.true c.part-item.is), tt)
