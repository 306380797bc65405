use Rattle.std.proofs.Common.{ℕ, List, subst}
use Rattle.imap_steps.specs.Stepping.{refused_with}
use Rattle.imap_exec.specs.Answers.{Says}
use Rattle.imap_exec.proofs.lines.refuse_tag.Goals as goal

pub returns : goal.returns
returns c shared =
    subst (λ (tag : List ℕ). Says c.refuse.result shared.parts c.args.answer.now.items c.refuse.new.answer.items (refused_with shared tag c.args.refusal)) c.as_slice.ensures (c.refuse.ensures shared)
