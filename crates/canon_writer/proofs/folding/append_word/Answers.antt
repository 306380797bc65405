use Rattle.std.proofs.Common.{◌++◌, ◌∷◌, [], ◌∙◌, ap, ◌-◌, length}
use Rattle.canon_writer.specs.Folding.{folded}
use Rattle.canon_writer.specs.Printing.{ended}
use Rattle.canon_writer.proofs.FoldLemmas.{word_stays, word_breaks}
use Rattle.canon_writer.proofs.folding.append_word.Goals as goal

pub returns-then-word-room : goal.returns-then-word-room
returns-then-word-room c = λ ws.
    let old = c.args.out.now.items in
    let word = c.args.word.now in
    ap (λ z. z ++ ended (folded c.saturating_sub.result ws)) (c.in_ok-extend_from_slice-2.ensures.items ∙ ap (λ z. z ++ word) c.in_ok-extend_from_slice.ensures.items)
    ∙ ap (λ r. ((old ++ 13 ∷ 10 ∷ []) ++ word) ++ ended (folded r ws)) c.saturating_sub.ensures ∙ word_breaks old word c.args.room ws c.if-word-room.true

pub returns : goal.returns
returns c = λ ws.
    ap (λ z. z ++ ended (folded (c.args.room - length c.args.word.now) ws)) c.in_ok-extend_from_slice-3.ensures.items
    ∙ word_stays c.args.out.now.items c.args.word.now c.args.room ws c.if-word-room.false
