use Rattle.std.proofs.Common.{eqb, get_or}
use Rattle.std.proofs.lemmas.Bool.{eq-eqb, ne_eqb, or_left, or_right, or_from}
use Rattle.address_grammar.proofs.LexLemmas.{literal_ends, literal_next, literal_bad, literal_open}
use Rattle.address_grammar.proofs.lexing.literal_len.Goals as goal
use Rattle.address_grammar.proofs.lexing.literal_len.Goals.{then-rest-at-eq91-via-then-rest-at-eq91, then-rest-at-eq91-via-else-rest-at-eq91+then-rest-at-eq92}

pub returns-then-rest-at-eq93 : goal.returns-then-rest-at-eq93
returns-then-rest-at-eq93 c = literal_ends _ _ c.loop-at.invariant c.loop-at-test.true c.if-rest-at-eq93.true

pub returns-then-rest-at-eq91 : goal.returns-then-rest-at-eq91
returns-then-rest-at-eq91 c =
    let b = get_or c.args.rest.now c.loop-at.at 0 in
    literal_bad _ _ c.loop-at.invariant c.loop-at-test.true c.if-rest-at-eq93.false
    (elim c.then-rest-at-eq91.branch [
      | then-rest-at-eq91-via-then-rest-at-eq91 w ↦ or_left (eqb b 91) (eqb b 92) (eq-eqb b 91 w.if-rest-at-eq91.true)
      | then-rest-at-eq91-via-else-rest-at-eq91+then-rest-at-eq92 w ↦ or_right (eqb b 91) (eqb b 92) (eq-eqb b 92 w.if-rest-at-eq92.true)
    ])

pub loop-at-preserved : goal.loop-at-preserved
loop-at-preserved c =
    let b = get_or c.args.rest.now c.loop-at.at 0 in
    literal_next _ _ c.loop-at.invariant c.loop-at-test.true c.if-rest-at-eq93.false
    (or_from (eqb b 91) (eqb b 92) (ne_eqb b 91 c.if-rest-at-eq91.false) (ne_eqb b 92 c.if-rest-at-eq92.false))

pub returns : goal.returns
returns c = literal_open _ _ c.loop-at.invariant c.loop-at-test.false
