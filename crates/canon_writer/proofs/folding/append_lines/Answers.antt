use Rattle.std.proofs.Common.{◌≡◌, ◌++◌, ◌∷◌, [], ◌-◌, length, sym, ◌∙◌, ap}
use Rattle.canon_writer.specs.Folding.{words, words_behind, line_width}
use Rattle.canon_writer.specs.Printing.{ended}
use Rattle.canon_writer.proofs.FoldLemmas.{some_value, some_of}
use Rattle.canon_writer.proofs.folding.append_lines.Goals as goal

pub returns : goal.returns
returns c =
    let old = c.args.out.now.items in
    let name = c.args.name.now in
    let value = c.args.value.now in
    let room : c.saturating_sub-room.result ≡ line_width - length name - 2 = c.saturating_sub-room.ensures ∙ ap (λ n. n - 2) c.saturating_sub.ensures in
    let begun = c.in_ok-push-2.ensures.items ∙ ap (λ z. z ++ 32 ∷ []) (c.in_ok-push.ensures.items ∙ ap (λ z. z ++ 58 ∷ []) c.in_ok-extend_from_slice.ensures.items) in
    c.in_ok-extend_from_slice-2.ensures.items ∙ c.in_ok-append_words.ensures
    ∙ ap (λ z. z ++ ended (words_behind c.saturating_sub-room.result (words value))) begun
    ∙ ap (λ r. (((old ++ name) ++ 58 ∷ []) ++ 32 ∷ []) ++ ended (words_behind r (words value))) room
    ∙ some_value old name value (some_of value (sym c.is_empty.ensures ∙ c.if-is_empty.false))
