use Rattle.std.proofs.Common.{◌-◌, arith}
use Rattle.envelope_view.proofs.PartLemmas.{numbered_zero, numbered_found, numbered_past}
use Rattle.envelope_view.proofs.parts.numbered.Goals as goal

pub returns-then-n-eq0 : goal.returns-then-n-eq0
returns-then-n-eq0 c = numbered_zero c.args.parts.now c.args.n c.if-n-eq0.true

pub returns-then-at-parts : goal.returns-then-at-parts
returns-then-at-parts c = numbered_found c.args.parts.now c.args.n (c.args.n - 1) c.index-parts-at.result (omega arith) c.if-at-parts.true c.index-parts-at.is

pub returns : goal.returns
returns c = numbered_past c.args.parts.now c.args.n (c.args.n - 1) (omega arith) c.if-at-parts.false
