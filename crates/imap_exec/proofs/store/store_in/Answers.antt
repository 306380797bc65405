use Rattle.std.proofs.Common.{◌≡◌, ℕ, List, Result, Err, true, rules, sym, ap, subst, ◌∙◌}
use Rattle.row_store.specs.declared.faults.StoreFault.{StoreFault}
use Rattle.imap_grammar.specs.declared.flags.Flag.{Flag}
use Rattle.session_view.specs.Order.{Ascend}
use Rattle.session_view.specs.Resolving.{resolved}
use Rattle.mail_world.specs.Worlds.{World}
use Rattle.mail_world.specs.Flags.{are_distinct, distinct}
use Rattle.mail_world.specs.Changes.{StoreFlags}
use Rattle.mail_world.specs.Applying.{refused}
use Rattle.mailbox_core.specs.Messages.{AreProper}
use Rattle.imap_steps.specs.declared.outcome.Outcome.{Outcome}
use Rattle.imap_steps.specs.Stepping.{Shared, Stepped}
use Rattle.imap_steps.specs.Storing.{stored, stored_unless}
use Rattle.imap_exec.specs.Does.{Executes}
use Rattle.imap_exec.proofs.NamedOnce.{named_once, named_properly}
use Rattle.imap_exec.proofs.Saying.{executed_as, starves}
use Rattle.imap_exec.proofs.store.store_in.Goals as goal

pub store_for-requires-clause-uids : goal.store_for-requires-clause-uids
store_for-requires-clause-uids g c = subst Ascend (sym c.as_slice-uids.ensures.value) c.in_ok-uids.ensures.ascend

pub store_for-requires-clause-flags : goal.store_for-requires-clause-flags
store_for-requires-clause-flags g c = subst AreProper (sym (c.as_slice-named.ensures.value ∙ c.in_ok-named.ensures)) (named_properly c.args.flags.now c.requires.fit)

pub store_for-requires-clause-once : goal.store_for-requires-clause-once
store_for-requires-clause-once g c = subst (λ (l : List Flag). are_distinct l ≡ true) (sym (c.as_slice-named.ensures.value ∙ c.in_ok-named.ensures)) (named_once c.args.flags.now)

pub returns-in_err-uids : goal.returns-in_err-uids
returns-in_err-uids g c parts ready =
    let store = c.args.store.now in
    let before = c.args.answer.now.items in
    let chosen = c.args.selection.now in
    let steps : Shared → Stepped = λ shared. stored shared c.args.tag.now chosen c.args.by_uid (resolved chosen.view.uids c.args.set.now.ranges c.args.by_uid) c.args.how c.args.silent c.args.flags.now in
    let failed : c.from_residual.result ≡ Err StoreFault.NoMemory = search rules in
    subst (λ (r : Result Outcome StoreFault). Executes g.D.Disk.told r store store parts parts before before steps) (sym failed) (starves g.D.Disk.told store parts parts before before steps)

pub returns-in_err-named : goal.returns-in_err-named
returns-in_err-named g c parts ready =
    let store = c.args.store.now in
    let before = c.args.answer.now.items in
    let chosen = c.args.selection.now in
    let steps : Shared → Stepped = λ shared. stored shared c.args.tag.now chosen c.args.by_uid (resolved chosen.view.uids c.args.set.now.ranges c.args.by_uid) c.args.how c.args.silent c.args.flags.now in
    let failed : c.from_residual-in_err-named.result ≡ Err StoreFault.NoMemory = search rules in
    subst (λ (r : Result Outcome StoreFault). Executes g.D.Disk.told r store store parts parts before before steps) (sym failed) (starves g.D.Disk.told store parts parts before before steps)

pub returns : goal.returns
returns g c parts ready =
    let tag = c.args.tag.now in
    let chosen = c.args.selection.now in
    let by_uid = c.args.by_uid in
    let flags = c.args.flags.now in
    let uids = c.as_slice-uids.result.now in
    let named = c.as_slice-named.result.now in
    let selected = resolved chosen.view.uids c.args.set.now.ranges by_uid in
    let step : Shared → List ℕ → List Flag → Stepped = λ shared us fs. stored_unless shared tag chosen by_uid us c.args.silent (StoreFlags chosen.mailbox us c.args.how fs) (refused shared.world (StoreFlags chosen.mailbox us c.args.how fs)) in
    executed_as g.D.Disk.told c.store_for.result c.args.store.now c.store_for.new.store parts parts c.args.answer.now.items c.store_for.new.answer.items
    (λ shared. step shared uids named) (λ shared. stored shared tag chosen by_uid selected c.args.how c.args.silent flags)
    (λ (world : World). let shared : Shared = record { world = world; parts = parts } in
    ap (λ (us : List ℕ). step shared us (distinct flags)) (sym (c.as_slice-uids.ensures.value ∙ c.in_ok-uids.ensures.value))
    ∙ ap (λ (fs : List Flag). step shared uids fs) (sym (c.as_slice-named.ensures.value ∙ c.in_ok-named.ensures)))
    (c.store_for.ensures parts ready)
