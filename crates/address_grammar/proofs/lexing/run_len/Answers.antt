use Rattle.std.proofs.Common.{◌∙◌, ap, take}
use Rattle.address_grammar.specs.declared.pieces.Piece.TheVariants.{Run}
use Rattle.mail_text.specs.Texts.{behind}
use Rattle.address_grammar.specs.Pieces.{is_plain, before, pieces}
use Rattle.address_grammar.proofs.LexLemmas.{run_front}
use Rattle.address_grammar.proofs.lexing.run_len.Goals as goal

pub returns-clause-is : goal.returns-clause-is
returns-clause-is c =
    let rest = c.args.rest.now in
    run_front rest ∙ ap (λ text. before (Run text) (pieces (behind is_plain rest))) c.front_len.ensures.taken
    ∙ ap (λ left. before (Run (take c.front_len.result rest)) (pieces left)) c.front_len.ensures.left
