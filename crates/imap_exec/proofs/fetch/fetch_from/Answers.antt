use Rattle.std.proofs.Common.{◌≡◌, Result, Err, rules, sym, subst, ◌∙◌}
use Rattle.row_store.specs.declared.faults.StoreFault.{StoreFault}
use Rattle.session_view.specs.Order.{Ascend}
use Rattle.mail_world.specs.Worlds.{World}
use Rattle.imap_steps.specs.declared.outcome.Outcome.{Outcome}
use Rattle.imap_steps.specs.Stepping.{Shared, Stepped}
use Rattle.imap_steps.specs.Fetching.{fetch, newly_seen, served}
use Rattle.imap_exec.specs.Does.{Executes}
use Rattle.imap_exec.proofs.FetchServed.{fetch_as}
use Rattle.imap_exec.proofs.Saying.{executed_as, starves}
use Rattle.imap_exec.proofs.fetch.fetch_from.Goals as goal

pub serve-requires-clause-uids : goal.serve-requires-clause-uids
serve-requires-clause-uids g c = subst Ascend (sym c.as_slice.ensures.value) c.in_ok-uids.ensures.ascend

pub returns-in_err-uids : goal.returns-in_err-uids
returns-in_err-uids g c parts ready =
    let store = c.args.store.now in
    let before = c.args.answer.now.items in
    let steps : Shared → Stepped = λ shared. fetch shared c.args.tag.now c.args.selection.now c.args.by_uid c.args.set.now.ranges c.args.items.now in
    let failed : c.from_residual.result ≡ Err StoreFault.NoMemory = search rules in
    subst (λ (r : Result Outcome StoreFault). Executes g.D.Disk.told r store store parts parts before before steps) (sym failed) (starves g.D.Disk.told store parts parts before before steps)

pub returns : goal.returns
returns g c parts ready =
    let tag = c.args.tag.now in
    let chosen = c.args.selection.now in
    let by_uid = c.args.by_uid in
    let items = c.args.items.now in
    let uids = c.as_slice.result.now in
    executed_as g.D.Disk.told c.serve.result c.args.store.now c.serve.new.store parts parts c.args.answer.now.items c.serve.new.answer.items
    (λ shared. served shared tag chosen by_uid items uids (newly_seen shared.world chosen items uids)) (λ shared. fetch shared tag chosen by_uid c.args.set.now.ranges items)
    (λ (world : World). fetch_as (record { world = world; parts = parts }) tag chosen by_uid c.args.set.now.ranges items uids (c.as_slice.ensures.value ∙ c.in_ok-uids.ensures.value))
    (c.serve.ensures parts ready)
