use Rattle.std.proofs.Common.{◌++◌, [], ◌∷◌, true, false, codes, sym, ◌∙◌}
use Rattle.session_view.specs.declared.sessions.State.TheVariants.{Fresh}
use Rattle.imap_steps.specs.Stepping.{bye, crlf}
use Rattle.imap_steps.specs.Step.{greeted, greeting}
use Rattle.imap_exec.proofs.Welcoming.{served, turned_away, unserved_kind, goes_on, ends}
use Rattle.imap_exec.proofs.Saying.{said_as}
use Rattle.imap_exec.proofs.greeting.welcome.Goals as goal

pub returns-then-is_served : goal.returns-then-is_served
returns-then-is_served c shared number =
    let text = codes "* OK IMAP4rev1 ready" ++ crlf in
    said_as c.say.result (shared.parts ++ record { number = number; state = Fresh } ∷ []) c.args.answer.now.items c.say.new.answer.items (greeted shared number text false) (greeting shared number c.args.kind c.args.others)
    (served shared number c.args.others c.args.kind c.in-Imap.is (sym c.is_served.ensures ∙ c.if-is_served.true))
    (goes_on shared number c.args.others c.say.result c.args.answer.now.items c.say.new.answer.items text (c.say.ensures shared))

pub returns-else-is_served : goal.returns-else-is_served
returns-else-is_served c shared number =
    let text = bye (codes "too many sessions") in
    said_as c.say_last.result (shared.parts ++ record { number = number; state = Fresh } ∷ []) c.args.answer.now.items c.say_last.new.answer.items (greeted shared number text true) (greeting shared number c.args.kind c.args.others)
    (turned_away shared number c.args.others c.args.kind c.in-Imap.is (sym c.is_served.ensures ∙ c.if-is_served.false))
    (ends shared number c.args.others c.say_last.result c.args.answer.now.items c.say_last.new.answer.items text (c.say_last.ensures shared))

pub returns-in-Lmtp : goal.returns-in-Lmtp
returns-in-Lmtp c shared number =
    let text = codes "421 4.3.2 LMTP is not served" ++ crlf in
    said_as c.say_last-in-Lmtp.result (shared.parts ++ record { number = number; state = Fresh } ∷ []) c.args.answer.now.items c.say_last-in-Lmtp.new.answer.items (greeted shared number text true) (greeting shared number c.args.kind c.args.others)
    (unserved_kind shared number c.args.others c.args.kind c.in-Lmtp.is)
    (ends shared number c.args.others c.say_last-in-Lmtp.result c.args.answer.now.items c.say_last-in-Lmtp.new.answer.items text (c.say_last-in-Lmtp.ensures shared))
