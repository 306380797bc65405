use Rattle.std.proofs.Common.{rules, arith}
use Rattle.std.proofs.lemmas.Grind.{common_steps}
use Rattle.imap_grammar.specs.Fetching.{numbered_from}
use Rattle.imap_grammar.proofs.Turns.{one_more, no_more}
use Rattle.imap_grammar.proofs.fetching.numbered.Goals as goal

pub returns-in_err-number32 : goal.returns-in_err-number32
unfolding numbered_from
returns-in_err-number32 c =
    let e = one_more (λ n. numbered_from n c.loop-turn.path c.loop-turn.reader) _ c.loop-turn._turn c.loop-turn-test.true c.loop-turn.invariant in
    first_of (search rules, grind (arith, common_steps))

pub returns-then-not-sees : goal.returns-then-not-sees
unfolding numbered_from
returns-then-not-sees c =
    let e = one_more (λ n. numbered_from n c.loop-turn.path c.loop-turn.reader) _ c.loop-turn._turn c.loop-turn-test.true c.loop-turn.invariant in
    first_of (search rules, grind (arith, common_steps))

pub returns-in_err-byte : goal.returns-in_err-byte
unfolding numbered_from
returns-in_err-byte c =
    let e = one_more (λ n. numbered_from n c.loop-turn.path c.loop-turn.reader) _ c.loop-turn._turn c.loop-turn-test.true c.loop-turn.invariant in
    first_of (search rules, grind (arith, common_steps))

pub returns-then-not-begins : goal.returns-then-not-begins
unfolding numbered_from
returns-then-not-begins c =
    let e = one_more (λ n. numbered_from n c.loop-turn.path c.loop-turn.reader) _ c.loop-turn._turn c.loop-turn-test.true c.loop-turn.invariant in
    first_of (search rules, grind (arith, common_steps))

pub loop-turn-preserved : goal.loop-turn-preserved
unfolding numbered_from
loop-turn-preserved c =
    let e = one_more (λ n. numbered_from n c.loop-turn.path c.loop-turn.reader) _ c.loop-turn._turn c.loop-turn-test.true c.loop-turn.invariant in
    first_of (search rules, grind (arith, common_steps))

pub returns : goal.returns
unfolding numbered_from
returns c =
    let e = no_more (λ n. numbered_from n c.loop-turn.path c.loop-turn.reader) _ c.loop-turn._turn c.loop-turn-test.false c.loop-turn.invariant in
    first_of (search rules, grind (arith, common_steps))
