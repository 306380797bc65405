use Rattle.std.proofs.Common.{sym, subst}
use Rattle.imap_grammar.specs.declared.commands.Bad.{Bad}
use Rattle.imap_exec.specs.Answers.{Says, refused_bad}
use Rattle.imap_exec.proofs.lines.refuse_bad.Goals as goal

pub returns-in-WithTag : goal.returns-in-WithTag
returns-in-WithTag c shared =
    subst (λ (bad : Bad). Says c.refuse_tag.result shared.parts c.args.answer.now.items c.refuse_tag.new.answer.items (refused_bad shared bad c.args.refusal)) (sym c.in-WithTag.is) (c.refuse_tag.ensures shared)

pub returns-in-NoTag : goal.returns-in-NoTag
returns-in-NoTag c shared =
    subst (λ (bad : Bad). Says c.refuse.result shared.parts c.args.answer.now.items c.refuse.new.answer.items (refused_bad shared bad c.args.refusal)) (sym c.in-NoTag.is) (c.refuse.ensures shared)
