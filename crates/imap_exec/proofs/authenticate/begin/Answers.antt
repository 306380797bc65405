use Rattle.std.proofs.Common.{sym, ◌∙◌}
use Rattle.imap_writer.specs.declared.refusals.Refusal.TheVariants.{Mechanism}
use Rattle.imap_steps.specs.Stepping.{Shared, refused_with}
use Rattle.imap_steps.specs.LoggingIn.{asked, authenticate}
use Rattle.imap_exec.proofs.Guarding.{when_plain, unless_plain}
use Rattle.imap_exec.proofs.Saying.{said_as}
use Rattle.imap_exec.proofs.authenticate.begin.Goals as goal

pub returns-then-is_plain : goal.returns-then-is_plain
returns-then-is_plain c world =
    let shared : Shared = record { world = world; parts = c.args.sessions.now } in
    said_as c.ask.result c.ask.new.sessions c.args.answer.now.items c.ask.new.answer.items (asked shared c.args.number c.args.tag.now) (authenticate shared c.args.number c.args.tag.now c.args.mechanism.now)
    (when_plain shared c.args.number c.args.tag.now c.args.mechanism.now (sym c.is_plain.ensures ∙ c.if-is_plain.true)) (c.ask.ensures world)

pub returns-else-is_plain : goal.returns-else-is_plain
returns-else-is_plain c world =
    let shared : Shared = record { world = world; parts = c.args.sessions.now } in
    said_as c.refuse.result c.args.sessions.now c.args.answer.now.items c.refuse.new.answer.items (refused_with shared c.args.tag.now Mechanism) (authenticate shared c.args.number c.args.tag.now c.args.mechanism.now)
    (unless_plain shared c.args.number c.args.tag.now c.args.mechanism.now (sym c.is_plain.ensures ∙ c.if-is_plain.false)) (c.refuse.ensures shared)
