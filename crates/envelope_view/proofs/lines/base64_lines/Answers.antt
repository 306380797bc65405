use Rattle.std.proofs.Common.{arith}
use Rattle.std.proofs.Math.Facts.{Fits-lt-pow}
use Rattle.envelope_view.proofs.LineLemmas.{base64-lines, base64-ended}
use Rattle.envelope_view.proofs.lines.base64_lines.Goals as goal

pub returns-clause-lines : goal.returns-clause-lines
returns-clause-lines c = omega (arith, base64-lines c.law_lines.ensures c.law_base64.ensures c.args.bytes.now (λ i. Fits-lt-pow (c.type_inv.bytes i)))

pub returns-clause-ended : goal.returns-clause-ended
returns-clause-ended c = omega (arith, base64-ended c.law_lines.ensures c.law_base64.ensures c.args.bytes.now (λ i. Fits-lt-pow (c.type_inv.bytes i)))
