use Rattle.std.proofs.Common.{Bool, false, codes, ap, ◌∙◌}
use Rattle.imap_writer.specs.declared.refusals.Refusal.TheVariants.{ExpungeIssued}
use Rattle.imap_steps.specs.Stepping.{answered, completed, refused_with}
use Rattle.imap_steps.specs.Fetching.{fetch_line}
use Rattle.imap_exec.proofs.Saying.{said_as}
use Rattle.imap_exec.proofs.FetchLines.{line_by_uid}
use Rattle.imap_exec.proofs.fetch_lines.tell_end.Goals as goal

pub returns-then-by_uid : goal.returns-then-by_uid
returns-then-by_uid c shared =
    let tag = c.args.tag.now in
    said_as c.complete.result shared.parts c.args.answer.now.items c.complete.new.answer.items (completed shared tag (codes "UID FETCH")) (answered shared (fetch_line tag c.args.by_uid c.args.gone))
    (ap (λ (b : Bool). answered shared (fetch_line tag b c.args.gone)) c.if-by_uid.true ∙ ap (λ l. answered shared l) (line_by_uid tag c.args.gone)) (c.complete.ensures shared)

pub returns-then-gone : goal.returns-then-gone
returns-then-gone c shared =
    let tag = c.args.tag.now in
    said_as c.refuse.result shared.parts c.args.answer.now.items c.refuse.new.answer.items (refused_with shared tag ExpungeIssued) (answered shared (fetch_line tag c.args.by_uid c.args.gone))
    (ap (λ (b : Bool). answered shared (fetch_line tag b c.args.gone)) c.if-by_uid.false ∙ ap (λ (b : Bool). answered shared (fetch_line tag false b)) c.if-gone.true) (c.refuse.ensures shared)

pub returns-else-gone : goal.returns-else-gone
returns-else-gone c shared =
    let tag = c.args.tag.now in
    said_as c.complete-else-gone.result shared.parts c.args.answer.now.items c.complete-else-gone.new.answer.items (completed shared tag (codes "FETCH")) (answered shared (fetch_line tag c.args.by_uid c.args.gone))
    (ap (λ (b : Bool). answered shared (fetch_line tag b c.args.gone)) c.if-by_uid.false ∙ ap (λ (b : Bool). answered shared (fetch_line tag false b)) c.if-gone.false) (c.complete-else-gone.ensures shared)
