use Rattle.std.proofs.Common.{ℕ, List, [], codes, subst}
use Rattle.imap_writer.specs.Tagged.{ok_line}
use Rattle.imap_steps.specs.Stepping.{completed}
use Rattle.imap_steps.specs.Executing.{capabilities}
use Rattle.imap_exec.specs.Answers.{Says}
use Rattle.imap_exec.proofs.Saying.{said_behind}
use Rattle.imap_exec.proofs.simple.capability.Goals as goal

pub returns : goal.returns
returns c shared =
    said_behind c.complete.result c.args.answer.now.items capabilities (ok_line c.args.tag.now [] (codes "CAPABILITY")) c.complete.new.answer.items shared
    (subst (λ (l : List ℕ). Says c.complete.result shared.parts l c.complete.new.answer.items (completed shared c.args.tag.now (codes "CAPABILITY"))) c.in_ok-extend_from_slice.ensures.items (c.complete.ensures shared))
