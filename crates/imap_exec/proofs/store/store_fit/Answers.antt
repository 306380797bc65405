use Rattle.std.proofs.Common.{sym, ◌∙◌}
use Rattle.imap_writer.specs.declared.refusals.Refusal.TheVariants.{ReadOnly, Syntax}
use Rattle.session_view.specs.Resolving.{resolved}
use Rattle.mail_world.specs.Worlds.{World}
use Rattle.imap_steps.specs.Stepping.{refused_with}
use Rattle.imap_steps.specs.Storing.{store, stored}
use Rattle.imap_exec.proofs.Choosing.{store_examined, store_selected, store_unfit}
use Rattle.imap_exec.proofs.Saying.{executed_as, said_always}
use Rattle.imap_exec.proofs.store.store_fit.Goals as goal

pub returns-then-not-are_fit_flags : goal.returns-then-not-are_fit_flags
returns-then-not-are_fit_flags g c parts ready =
    let tag = c.args.tag.now in
    let chosen = c.args.selection.now in
    let ranges = c.args.set.now.ranges in
    let flags = c.args.flags.now in
    executed_as g.D.Disk.told c.refuse.result c.args.store.now c.args.store.now parts parts c.args.answer.now.items c.refuse.new.answer.items
    (λ shared. refused_with shared tag Syntax) (λ shared. store shared tag chosen c.args.by_uid ranges c.args.how c.args.silent flags)
    (λ (world : World). store_unfit (record { world = world; parts = parts }) tag chosen c.args.by_uid ranges c.args.how c.args.silent flags (sym c.are_fit_flags.ensures ∙ c.if-not-are_fit_flags.true))
    (said_always g.D.Disk.told c.refuse.result c.args.store.now parts c.args.answer.now.items c.refuse.new.answer.items (λ shared. refused_with shared tag Syntax) ready c.refuse.ensures)

pub returns-then-not-selection : goal.returns-then-not-selection
returns-then-not-selection g c parts ready =
    let tag = c.args.tag.now in
    let chosen = c.args.selection.now in
    let ranges = c.args.set.now.ranges in
    let flags = c.args.flags.now in
    executed_as g.D.Disk.told c.refuse-then-not-selection.result c.args.store.now c.args.store.now parts parts c.args.answer.now.items c.refuse-then-not-selection.new.answer.items
    (λ shared. refused_with shared tag ReadOnly) (λ shared. store shared tag chosen c.args.by_uid ranges c.args.how c.args.silent flags)
    (λ (world : World). store_examined (record { world = world; parts = parts }) tag chosen c.args.by_uid ranges c.args.how c.args.silent flags (sym c.are_fit_flags.ensures ∙ c.if-not-are_fit_flags.false) c.if-not-selection.true)
    (said_always g.D.Disk.told c.refuse-then-not-selection.result c.args.store.now parts c.args.answer.now.items c.refuse-then-not-selection.new.answer.items (λ shared. refused_with shared tag ReadOnly) ready c.refuse-then-not-selection.ensures)

pub returns-else-not-selection : goal.returns-else-not-selection
returns-else-not-selection g c parts ready =
    let tag = c.args.tag.now in
    let chosen = c.args.selection.now in
    let ranges = c.args.set.now.ranges in
    let flags = c.args.flags.now in
    executed_as g.D.Disk.told c.store_in.result c.args.store.now c.store_in.new.store parts parts c.args.answer.now.items c.store_in.new.answer.items
    (λ shared. stored shared tag chosen c.args.by_uid (resolved chosen.view.uids ranges c.args.by_uid) c.args.how c.args.silent flags) (λ shared. store shared tag chosen c.args.by_uid ranges c.args.how c.args.silent flags)
    (λ (world : World). store_selected (record { world = world; parts = parts }) tag chosen c.args.by_uid ranges c.args.how c.args.silent flags (sym c.are_fit_flags.ensures ∙ c.if-not-are_fit_flags.false) c.if-not-selection.false)
    (c.store_in.ensures parts ready)
