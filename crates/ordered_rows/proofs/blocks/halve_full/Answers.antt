use Rattle.std.proofs.Common.{◌≤◌, ◌<◌, length, subst, arith}
use Rattle.ordered_rows.proofs.Edits.{halved}
use Rattle.ordered_rows.proofs.blocks.halve_full.Goals as goal

pub returns-in-Ok-clause-filled : goal.returns-in-Ok-clause-filled
returns-in-Ok-clause-filled g c =
    let within : c.args.n < length c.args.blocks.now.items = subst (λ m. c.args.n < m) c.args.blocks.now.ok.0 c.requires.within in
    let long : 64 ≤ length c.index.result.now.items = omega (arith, c.if-len-lt-FULL.false, c.len.ensures, c.index.result.now.ok.0) in
    (halved c.args.blocks.now.items c.insert.new.self.items c.args.n c.new.result c.split_off.new.self c.in-Ok.tail c.index.result.now c.index_mut-block.result.now within c.requires.filled c.index.ensures long c.in_ok-insert.ensures.items c.index_mut-block.ensures.value c.in-Ok.ensures.items c.in-Ok.ensures.tail).filled

pub returns-in-Ok-clause-rows : goal.returns-in-Ok-clause-rows
returns-in-Ok-clause-rows g c =
    let within : c.args.n < length c.args.blocks.now.items = subst (λ m. c.args.n < m) c.args.blocks.now.ok.0 c.requires.within in
    let long : 64 ≤ length c.index.result.now.items = omega (arith, c.if-len-lt-FULL.false, c.len.ensures, c.index.result.now.ok.0) in
    (halved c.args.blocks.now.items c.insert.new.self.items c.args.n c.new.result c.split_off.new.self c.in-Ok.tail c.index.result.now c.index_mut-block.result.now within c.requires.filled c.index.ensures long c.in_ok-insert.ensures.items c.index_mut-block.ensures.value c.in-Ok.ensures.items c.in-Ok.ensures.tail).rows
