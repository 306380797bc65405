use Rattle.std.proofs.Common.{◌++◌, ◌∷◌, [], sym, ◌∙◌, ap, append_assoc}
use Rattle.mail_text.specs.Lines.{pieces}
use Rattle.transfer_codec.specs.Quoted.{line_text, lines_text}
use Rattle.transfer_codec.proofs.QuotedLemmas.{text_more}
use Rattle.transfer_codec.proofs.quoted_bodies.decode_quoted.Goals as goal

pub loop-line-preserved : goal.loop-line-preserved
loop-line-preserved c =
    let out = c.loop-line.out.items in
    let line = c.in-Some.line.now in
    let behind = c.in-Some.behind.now in
    let left = lines_text (pieces behind) in
    ap (λ z. z ++ left) c.in_ok-push_line.ensures ∙ append_assoc out (line_text line (13 ∷ 10 ∷ [])) left
    ∙ ap (λ z. out ++ z) (sym (text_more c.loop-line.rest.now line behind c.in-Some.ensures)) ∙ c.loop-line.invariant
