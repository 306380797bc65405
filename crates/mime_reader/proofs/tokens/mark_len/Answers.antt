use Rattle.std.proofs.Common.{◌≡◌, ◌<◌, drop, length, get_or, sym, ◌∙◌, ap, subst, eq-eqb}
use Rattle.std.proofs.lemmas.List.{take_rest}
use Rattle.mail_text.specs.Texts.{behind, is_blank}
use Rattle.mime_reader.proofs.TypeLemmas.{IsMarked, marked, marked_at, not_empty}
use Rattle.mime_reader.proofs.tokens.mark_len.Goals as goal
use Rattle.mime_reader.proofs.tokens.mark_len.Goals.{After-trim_start-rest}

found : (c : After-trim_start-rest) → IsMarked c.args.mark c.args.text.now c.trim_start-rest.result.now
found c =
    let text = c.args.text.now in
    let after = c.trim_start-after.result.now in
    let blank : after ≡ behind is_blank text = c.trim_start-after.ensures in
    let some : 0 < length (behind is_blank text) = subst (λ z. 0 < length z) blank (not_empty (length after) (sym c.if-is_empty.false ∙ c.is_empty.ensures)) in
    let is = eq-eqb (get_or (behind is_blank text) 0 0) c.args.mark (subst (λ z. get_or z 0 0 ≡ c.args.mark) blank c.if-after-mark.false) in
    subst (IsMarked c.args.mark text) (sym (c.trim_start-rest.ensures ∙ ap (behind is_blank) (take_rest after 1) ∙ ap (λ z. behind is_blank (drop 1 z)) blank))
    (marked c.args.mark text some is)

pub overflow_sub-result : goal.overflow_sub-result
overflow_sub-result c = (found c).is_end.within

pub returns : goal.returns
returns c = marked_at c.args.mark c.args.text.now c.trim_start-rest.result.now (found c)
