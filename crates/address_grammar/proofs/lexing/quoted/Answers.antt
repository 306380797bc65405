use Rattle.address_grammar.proofs.LexLemmas.{quotes_ends, quotes_next, quotes_taken, quotes_cut, quotes_open}
use Rattle.address_grammar.proofs.lexing.quoted.Goals as goal

pub returns-then-b-eq34 : goal.returns-then-b-eq34
returns-then-b-eq34 c = rw c.new.ensures (quotes_ends _ _ _ c.loop-at.invariant c.loop-at-test.true c.if-b-eq34.true)

pub returns-then-at-rest : goal.returns-then-at-rest
returns-then-at-rest c = quotes_cut _ _ _ c.loop-at.invariant c.loop-at-test.true c.if-at-rest.true c.if-b-eq34.false c.if-b-eq92.true

pub loop-at-preserved-then-b-eq92 : goal.loop-at-preserved-then-b-eq92
loop-at-preserved-then-b-eq92 c =
    rw c.in_ok-push.ensures.items (quotes_taken _ _ _ c.loop-at.invariant c.if-at-rest.false c.if-b-eq34.false c.if-b-eq92.true)

pub loop-at-preserved : goal.loop-at-preserved
loop-at-preserved c =
    rw c.in_ok-push-2.ensures.items (quotes_next _ _ _ c.loop-at.invariant c.loop-at-test.true c.if-b-eq34.false c.if-b-eq92.false)

pub returns : goal.returns
returns c = quotes_open _ _ _ c.loop-at.invariant c.loop-at-test.false
