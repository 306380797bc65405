use Rattle.std.proofs.Common.{drop, ◌+◌, ◌∙◌, List, Bool, subst, sym}
use Rattle.mailbox_names.proofs.Matching.{Says, says_first, says_at, says_all, says_dead}
use Rattle.mailbox_names.proofs.fronts.steps.Goals as goal

pub pattern-init : goal.pattern-init
pattern-init c = subst (λ (l : List Bool). Says c.args.pattern.now c.args.pattern.now c.args.name.now l) (sym c.requires) (says_first c.args.pattern.now c.args.name.now)

pub pattern-preserved : goal.pattern-preserved
pattern-preserved c = says_at c.args.pattern.now c.args.name.now c.pattern.p-index c.pattern.row c.step.new.row c.pattern-test.true c.step.ensures c.pattern.invariant

pub returns : goal.returns
returns c = says_all c.args.pattern.now c.args.name.now c.pattern.p-index c.pattern.row c.pattern-test.false c.pattern.invariant

pub returns-then-not-is_live : goal.returns-then-not-is_live
returns-then-not-is_live c =
    says_dead c.args.pattern.now (drop (c.pattern.p-index + 1) c.args.pattern.now) c.args.name.now c.step.new.row (sym c.is_live.ensures ∙ c.if-not-is_live.true)
    (says_at c.args.pattern.now c.args.name.now c.pattern.p-index c.pattern.row c.step.new.row c.pattern-test.true c.step.ensures c.pattern.invariant)
