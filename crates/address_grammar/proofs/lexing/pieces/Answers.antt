use Rattle.address_grammar.proofs.MoreLemmas.{pieces_all}
use Rattle.address_grammar.proofs.lexing.pieces.Goals as goal

pub returns : goal.returns
returns c = pieces_all c.args.value.now c.loop-at.at c.loop-at.out.items c.loop-at.invariant.left c.loop-at-test.false
