use Rattle.std.proofs.Common.{eqb, length, ◌∙◌, ap}
use Rattle.word_codec.proofs.CutLemmas.{blanks-behind}
use Rattle.word_codec.proofs.values.are_blanks.Goals as goal

pub returns : goal.returns
returns c = c.is_empty.ensures ∙ ap (λ z. eqb (length z) 0) c.trim_start.ensures ∙ blanks-behind c.args.bytes.now
