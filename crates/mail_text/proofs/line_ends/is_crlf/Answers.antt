use Rattle.std.proofs.Common.{arith}
use Rattle.mail_text.proofs.LineLemmas.{crlf_first, not_crlf}
use Rattle.mail_text.proofs.line_ends.is_crlf.Goals as goal

pub returns-then-rest-behind : goal.returns-then-rest-behind
returns-then-rest-behind c =
    let short = not_crlf c.loop-line.rest.now c.in-Some.line.now c.in-Some.behind.now c.in-Some.ensures (omega (arith, c.if-rest-behind.true)) in
    ((λ h. absurd (cc)), (λ h. absurd (short (c.loop-line.invariant.1 h))))

pub loop-line-preserved : goal.loop-line-preserved
loop-line-preserved c =
    let same = crlf_first c.loop-line.rest.now c.in-Some.line.now c.in-Some.behind.now c.in-Some.ensures (omega (arith, c.if-rest-behind.false)) in
    ((λ h. c.loop-line.invariant.0 (same.1 h)), (λ h. same.0 (c.loop-line.invariant.1 h)))
