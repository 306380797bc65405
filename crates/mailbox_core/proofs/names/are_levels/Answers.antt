use Rattle.std.proofs.Common.{◌≡◌, ℕ, List, drop, get_or, length, ◌≤◌, ◌<◌, sym, ap, ◌∙◌, arith, drop-cons, drop_of_length-le}
use Rattle.mailbox_core.proofs.Splitting.{closed_at, levels_are_full, levels_go_on}
use Rattle.mailbox_core.proofs.names.are_levels.Goals as goal

pub returns-else-is_open : goal.returns-else-is_open
returns-else-is_open c =
    let name = c.args.name.now in
    let i : ℕ = c.loop-b.b-index in
    let within : i < length name = omega arith in
    let is : get_or name i 0 ≡ 47 = omega arith in
    sym (levels_are_full name ∙ (c.loop-b.invariant ∙ closed_at (drop i name) _ (get_or name i 0) c.loop-b.is_open (drop-cons name i 0 within) is c.if-is_open.false))

pub returns : goal.returns
returns c =
    let name = c.args.name.now in
    let past : length name ≤ c.loop-b.b-index = omega arith in
    sym (levels_are_full name ∙ (c.loop-b.invariant ∙ ap (λ (l : List ℕ). levels_go_on c.loop-b.is_open l) (drop_of_length-le name past)))
