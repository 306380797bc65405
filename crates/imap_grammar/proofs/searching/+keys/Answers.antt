use Rattle.std.proofs.Common.{◌≡◌, ap, rules, arith}
use Rattle.std.proofs.lemmas.Grind.{common_steps}
use Rattle.imap_grammar.specs.Readings.{after}
use Rattle.imap_grammar.specs.Lists.{separated_from}
use Rattle.imap_grammar.specs.Searching.{within}
use Rattle.imap_grammar.proofs.Turns.{one_more, no_more, deeper}
use Rattle.imap_grammar.proofs.searching.+keys.Goals as goal

pub key-returns-then-levels-eq0 : goal.key-returns-then-levels-eq0
unfolding within
key-returns-then-levels-eq0 t c = let none : c.args.levels ≡ 0 = omega arith in ap (λ n. within n c.args.reader.now) none

pub key-returns : goal.key-returns
unfolding within
key-returns t c = rw (deeper (λ n. within n c.args.reader.now) c.args.levels (omega arith)) c.level.ensures

pub row-returns-in_err-key : goal.row-returns-in_err-key
unfolding separated_from after
row-returns-in_err-key t c =
    let e = one_more (λ n. separated_from 32 (within c.args.levels) n c.loop-turn.found c.loop-turn.reader) _ c.loop-turn._turn c.loop-turn-test.true c.loop-turn.invariant in
    first_of (search rules, grind (arith, common_steps))

pub row-returns-then-not-eat : goal.row-returns-then-not-eat
unfolding separated_from after
row-returns-then-not-eat t c =
    let e = one_more (λ n. separated_from 32 (within c.args.levels) n c.loop-turn.found c.loop-turn.reader) _ c.loop-turn._turn c.loop-turn-test.true c.loop-turn.invariant in
    first_of (search rules, grind (arith, common_steps))

pub row-loop-turn-preserved : goal.row-loop-turn-preserved
unfolding separated_from after
row-loop-turn-preserved t c =
    let e = one_more (λ n. separated_from 32 (within c.args.levels) n c.loop-turn.found c.loop-turn.reader) _ c.loop-turn._turn c.loop-turn-test.true c.loop-turn.invariant in
    first_of (search rules, grind (arith, common_steps))

pub row-returns : goal.row-returns
unfolding separated_from after
row-returns t c =
    let e = no_more (λ n. separated_from 32 (within c.args.levels) n c.loop-turn.found c.loop-turn.reader) _ c.loop-turn._turn c.loop-turn-test.false c.loop-turn.invariant in
    first_of (search rules, grind (arith, common_steps))
