use Rattle.std.proofs.Common.{sym, ◌∙◌}
use Rattle.imap_exec.proofs.Making.{tells_refused}
use Rattle.imap_exec.proofs.lines.tell_made.Goals as goal

pub returns-in_ok-refusal-in-Err : goal.returns-in_ok-refusal-in-Err
returns-in_ok-refusal-in-Err g c =
    tells_refused c.args.made c.in-Err.fault c.in_ok-refusal-in-Err.refusal c.refuse.result c.args.answer.now.items c.refuse.new.answer.items c.args.tag.now c.args.name.now
    c.in-Err.is (sym c.refusal_of.ensures ∙ c.in_ok-refusal-in-Err.was) c.refuse.ensures
