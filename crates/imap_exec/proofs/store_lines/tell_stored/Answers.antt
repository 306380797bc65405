use Rattle.std.proofs.Common.{◌++◌, ℕ, Bool, List, [], cond, ap, subst}
use Rattle.mail_world.specs.Worlds.{no_world}
use Rattle.imap_steps.specs.Stepping.{answered}
use Rattle.imap_steps.specs.Storing.{store_line, told}
use Rattle.imap_exec.specs.Answers.{Says}
use Rattle.imap_exec.specs.Storing.{stored_text}
use Rattle.imap_exec.proofs.Saying.{said_as, said_behind}
use Rattle.imap_exec.proofs.store_lines.tell_stored.Goals as goal

pub returns-then-silent-clause-told : goal.returns-then-silent-clause-told
returns-then-silent-clause-told c content w stands shared =
    let line = store_line c.args.tag.now c.args.by_uid c.args.gone in
    let lines = told w c.args.selection.now c.args.by_uid c.args.uids.now in
    said_as c.tell_end.result shared.parts c.args.answer.now.items c.tell_end.new.answer.items (answered shared line) (answered shared (stored_text w c.args.tag.now c.args.selection.now c.args.by_uid c.args.uids.now c.args.silent c.args.gone))
    (ap (λ (b : Bool). answered shared (cond b [] lines ++ line)) c.if-silent.true) (c.tell_end.ensures shared)

pub returns-then-silent-clause-memory : goal.returns-then-silent-clause-memory
returns-then-silent-clause-memory c = (c.tell_end.ensures (record { world = no_world; parts = [] })).memory

pub returns-in_ok-tell_messages-clause-told : goal.returns-in_ok-tell_messages-clause-told
returns-in_ok-tell_messages-clause-told c content w stands shared =
    let line = store_line c.args.tag.now c.args.by_uid c.args.gone in
    let lines = told w c.args.selection.now c.args.by_uid c.args.uids.now in
    let before = c.args.answer.now.items in
    let call = c.tell_end-else-silent in
    said_as call.result shared.parts before call.new.answer.items (answered shared (lines ++ line)) (answered shared (stored_text w c.args.tag.now c.args.selection.now c.args.by_uid c.args.uids.now c.args.silent c.args.gone))
    (ap (λ (b : Bool). answered shared (cond b [] lines ++ line)) c.if-silent.false)
    (said_behind call.result before lines line call.new.answer.items shared
    (subst (λ (l : List ℕ). Says call.result shared.parts l call.new.answer.items (answered shared line)) (c.in_ok-tell_messages.ensures content w stands) (call.ensures shared)))

pub returns-in_ok-tell_messages-clause-memory : goal.returns-in_ok-tell_messages-clause-memory
returns-in_ok-tell_messages-clause-memory c = (c.tell_end-else-silent.ensures (record { world = no_world; parts = [] })).memory
