use Rattle.std.proofs.Common.{ℕ, List, ◌∙◌, subst}
use Rattle.imap_steps.specs.Stepping.{answered}
use Rattle.imap_exec.specs.Answers.{Says}
use Rattle.imap_exec.proofs.lines.complete.Goals as goal

pub returns : goal.returns
returns c shared =
    subst (λ (line : List ℕ). Says c.say.result shared.parts c.args.answer.now.items c.say.new.answer.items (answered shared line)) (c.deref.ensures.value ∙ c.in_ok-line.ensures) (c.say.ensures shared)
