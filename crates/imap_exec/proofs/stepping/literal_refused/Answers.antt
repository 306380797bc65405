use Rattle.std.proofs.Common.{ap, ◌∙◌}
use Rattle.imap_writer.specs.declared.refusals.Refusal.TheVariants.{LiteralTooLong}
use Rattle.imap_grammar.specs.Commands.{meaning}
use Rattle.imap_steps.specs.Stepping.{refused_with}
use Rattle.imap_steps.specs.Executing.{literal_refused}
use Rattle.imap_exec.specs.Answers.{refused_bad}
use Rattle.imap_exec.proofs.Guarding.{long_bad, long_unchanged, told_bad}
use Rattle.imap_exec.proofs.Saying.{said_as, says_starved}
use Rattle.imap_exec.proofs.stepping.literal_refused.Goals as goal

pub returns-in-Ok : goal.returns-in-Ok
returns-in-Ok c shared =
    said_as c.refuse_tag.result shared.parts c.args.answer.now.items c.refuse_tag.new.answer.items (refused_with shared c.in-Ok.tagged.tag LiteralTooLong) (literal_refused shared (meaning c.args.unit.now))
    (ap (literal_refused shared) c.in-Ok.ensures) (c.refuse_tag.ensures shared)

pub returns-in-Bad : goal.returns-in-Bad
returns-in-Bad c shared =
    said_as c.refuse_bad.result shared.parts c.args.answer.now.items c.refuse_bad.new.answer.items (refused_bad shared c.in-Bad.bad LiteralTooLong) (literal_refused shared (meaning c.args.unit.now))
    (ap (literal_refused shared) (told_bad (meaning c.args.unit.now) c.in-Err.fault c.in-Bad.bad c.in-Bad.is c.in-Err.ensures) ∙ long_bad shared 0 0 c.in-Bad.bad) (c.refuse_bad.ensures shared)

pub returns-in-NoMemory : goal.returns-in-NoMemory
returns-in-NoMemory c shared =
    says_starved shared.parts c.args.answer.now.items c.args.answer.now.items (literal_refused shared (meaning c.args.unit.now)) (long_unchanged shared (meaning c.args.unit.now))
