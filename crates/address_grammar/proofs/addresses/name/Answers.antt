use Rattle.address_grammar.proofs.NameLemmas.{name_word}
use Rattle.address_grammar.proofs.addresses.name.Goals as goal

pub loop-piece-preserved : goal.loop-piece-preserved
loop-piece-preserved c =
    name_word c.args.pieces.now c.loop-piece.piece-index _ c.loop-piece.begun c.loop-piece.apart _ _ c.in-Some.text.now c.loop-piece-test.true c.piece-item.is
    c.in-Some.ensures.wordlike c.in-Some.ensures.is c.in_ok-append_word.ensures c.loop-piece.invariant
