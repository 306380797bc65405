use Rattle.std.proofs.Common.{ℕ, List, [], codes, subst, ◌∙◌}
use Rattle.imap_writer.specs.Tagged.{ok_line}
use Rattle.imap_steps.specs.Stepping.{answered_last, bye}
use Rattle.imap_exec.specs.Answers.{Says}
use Rattle.imap_exec.proofs.Saying.{said_last_behind}
use Rattle.imap_exec.proofs.simple.logout.Goals as goal

pub returns : goal.returns
returns c shared =
    let line = ok_line c.args.tag.now [] (codes "LOGOUT") in
    let said = subst (λ (l : List ℕ). Says c.say_last.result shared.parts c.extend_from_slice.new.self.items c.say_last.new.answer.items (answered_last shared l)) (c.deref.ensures.value ∙ c.in_ok-line.ensures) (c.say_last.ensures shared) in
    said_last_behind c.say_last.result c.args.answer.now.items (bye (codes "logging out")) line c.say_last.new.answer.items shared
    (subst (λ (l : List ℕ). Says c.say_last.result shared.parts l c.say_last.new.answer.items (answered_last shared line)) c.in_ok-extend_from_slice.ensures.items said)
