use Rattle.std.proofs.Common.{◌++◌, ◌∷◌, [], refl, sym, ◌∙◌, ap, append_assoc}
use Rattle.std.proofs.lemmas.Slice.{pushed}
use Rattle.mail_text.specs.Lines.{joined, lines}
use Rattle.mail_text.proofs.LineLemmas.{joined_first}
use Rattle.mail_text.proofs.line_ends.crlf.Goals as goal

pub loop-line-preserved : goal.loop-line-preserved
loop-line-preserved c =
    let out = c.loop-line.out.items in
    let line = c.in-Some.line.now in
    let left = joined (lines c.in-Some.behind.now) in
    let with_line = pushed line refl c.in_ok-extend_from_slice.was c.extend_from_slice.ensures.items in
    let with_end = pushed (13 ∷ 10 ∷ []) with_line c.in_ok-extend_from_slice-2.was c.extend_from_slice-in-Some.ensures.items in
    ap (λ z. z ++ left) with_end ∙ append_assoc (out ++ line) (13 ∷ 10 ∷ []) left ∙ append_assoc out line (13 ∷ 10 ∷ left)
    ∙ ap (λ z. out ++ z) (sym (joined_first c.loop-line.rest.now line c.in-Some.behind.now c.in-Some.ensures)) ∙ c.loop-line.invariant
