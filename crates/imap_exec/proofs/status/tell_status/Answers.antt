use Rattle.std.proofs.Common.{ℕ, List, [], map, codes, subst}
use Rattle.imap_writer.specs.Statuses.{status_line}
use Rattle.imap_writer.specs.Tagged.{ok_line}
use Rattle.mail_world.specs.Names.{mailbox_name}
use Rattle.imap_steps.specs.Stepping.{completed}
use Rattle.imap_exec.specs.Answers.{Says}
use Rattle.imap_exec.specs.Numbers.{data_in}
use Rattle.imap_exec.proofs.Saying.{said_behind}
use Rattle.imap_exec.proofs.status.tell_status.Goals as goal

pub returns : goal.returns
returns c shared =
    let line = status_line (mailbox_name c.args.name.now) (map (data_in c.args.its.now) c.args.items.now) in
    said_behind c.complete.result c.args.answer.now.items line (ok_line c.args.tag.now [] (codes "STATUS")) c.complete.new.answer.items shared
    (subst (λ (l : List ℕ). Says c.complete.result shared.parts l c.complete.new.answer.items (completed shared c.args.tag.now (codes "STATUS"))) c.in_ok-tell_numbers.ensures (c.complete.ensures shared))
