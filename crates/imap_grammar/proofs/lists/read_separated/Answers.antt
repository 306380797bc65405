use Rattle.std.proofs.Common.{rules, arith}
use Rattle.std.proofs.lemmas.Grind.{common_steps}
use Rattle.imap_grammar.specs.Lists.{separated_from}
use Rattle.imap_grammar.specs.Readings.{after}
use Rattle.imap_grammar.proofs.Turns.{one_more, no_more}
use Rattle.imap_grammar.proofs.lists.read_separated.Goals as goal

pub returns-in_err-read : goal.returns-in_err-read
unfolding separated_from after
returns-in_err-read g c =
    let e = one_more (λ n. separated_from c.args.between (g.R.Rule.reading c.args.rule.now) n c.loop-turn.found c.loop-turn.reader) _ c.loop-turn._turn c.loop-turn-test.true c.loop-turn.invariant in
    first_of (search rules, grind (arith, common_steps))

pub returns-then-not-eat : goal.returns-then-not-eat
unfolding separated_from after
returns-then-not-eat g c =
    let e = one_more (λ n. separated_from c.args.between (g.R.Rule.reading c.args.rule.now) n c.loop-turn.found c.loop-turn.reader) _ c.loop-turn._turn c.loop-turn-test.true c.loop-turn.invariant in
    first_of (search rules, grind (arith, common_steps))

pub loop-turn-preserved : goal.loop-turn-preserved
unfolding separated_from after
loop-turn-preserved g c =
    let e = one_more (λ n. separated_from c.args.between (g.R.Rule.reading c.args.rule.now) n c.loop-turn.found c.loop-turn.reader) _ c.loop-turn._turn c.loop-turn-test.true c.loop-turn.invariant in
    first_of (search rules, grind (arith, common_steps))

pub returns : goal.returns
unfolding separated_from after
returns g c =
    let e = no_more (λ n. separated_from c.args.between (g.R.Rule.reading c.args.rule.now) n c.loop-turn.found c.loop-turn.reader) _ c.loop-turn._turn c.loop-turn-test.false c.loop-turn.invariant in
    first_of (search rules, grind (arith, common_steps))
