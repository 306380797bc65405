use Rattle.std.proofs.Common.{◌≡◌, List, map, ap, ◌∙◌}
use Rattle.imap_grammar.specs.declared.flags.Flag.{Flag}
use Rattle.mail_world.specs.Flags.{distinct}
use Rattle.mailbox_core.proofs.Named.{plans_flags}
use Rattle.mailbox_core.proofs.StoredPlans.{names_given}
use Rattle.mailbox_core.proofs.storing.plan_given.Goals as goal

pub returns : goal.returns
returns c =
    let t = c.args.tables.now in
    let flags : List Flag = c.args.flags.now in
    let found : List Flag = map (λ flag. flag.now) c.as_slice.result.now in
    let same : found ≡ distinct flags = ap (λ l. map (λ flag. flag.now) l) c.as_slice.ensures.value ∙ c.in_ok-flags.ensures in
    let planned = c.in_ok-plan.ensures in
    names_given t flags c.in_ok-plan.plan.ids.items c.in_ok-plan.plan.names.items c.requires.once
    (plans_flags c.names_grow.ensures.named t flags found planned.0 c.in_ok-plan.plan.ids.items c.in_ok-plan.plan.names.items c.are_whole.ensures.ordered.flag_names
    (λ key le. c.names_grow.ensures.free t.marks.flag_names planned.0 key planned.1 le) (c.names_grow.ensures.differ flags c.requires.flags.flags_are) c.requires.flags.texts same planned.2 planned.3)
