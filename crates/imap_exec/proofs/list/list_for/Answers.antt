use Rattle.std.proofs.Common.{◌≡◌, ℕ, ◌++◌, List, Result, Err, rules, sym, ap, subst, ◌∙◌}
use Rattle.row_store.specs.Holding.{in_row}
use Rattle.row_store.specs.declared.faults.StoreFault.{StoreFault}
use Rattle.mail_world.specs.Worlds.{World, no_world}
use Rattle.mail_world.specs.Listing.{names_of}
use Rattle.mail_stands.specs.Stands.{Stands}
use Rattle.imap_steps.specs.declared.outcome.Outcome.{Outcome}
use Rattle.imap_steps.specs.Stepping.{Shared, Stepped, completed}
use Rattle.imap_steps.specs.Listing.{list, list_lines, told_names}
use Rattle.imap_exec.specs.Does.{Executes}
use Rattle.imap_exec.specs.Answers.{Says}
use Rattle.imap_exec.proofs.Saying.{said, starves}
use Rattle.imap_exec.proofs.Listing.{says_list}
use Rattle.imap_exec.proofs.list.list_for.Goals as goal

pub returns-in_err-tell_names : goal.returns-in_err-tell_names
returns-in_err-tell_names g c =
    let parts = c.args.sessions.now in
    let steps : Shared → Stepped = λ shared. list shared c.args.user c.args.tag.now c.args.reference.now c.args.name.now c.args.subscribed in
    let failed : c.from_residual.result ≡ Err StoreFault.NoMemory = search rules in
    subst (λ (r : Result Outcome StoreFault). Executes g.D.Disk.told r c.args.store.now c.args.store.now parts parts c.args.answer.now.items c.tell_names.new.answer.items steps) (sym failed)
    (starves g.D.Disk.told c.args.store.now parts parts c.args.answer.now.items c.tell_names.new.answer.items steps)

pub returns : goal.returns
returns g c =
    let store = c.args.store.now in
    let parts = c.args.sessions.now in
    let before = c.args.answer.now.items in
    let between = c.tell_names.new.answer.items in
    let after = c.complete.new.answer.items in
    let tag = c.args.tag.now in
    let reference = c.args.reference.now in
    let name = c.args.name.now in
    let subscribed = c.args.subscribed in
    let user = c.args.user in
    let steps : Shared → Stepped = λ shared. list shared user tag reference name subscribed in
    let completes : (shared : Shared) → Says c.complete.result shared.parts between after (completed shared tag c.list_name.result.now) = c.complete.ensures in
    said g.D.Disk.told c.complete.result store parts parts before after steps c.requires.ready (λ ok. c.requires.ready.live) (completes (record { world = no_world; parts = parts })).memory
    (λ (world : World) (stands : Stands in_row store.tables world). let shared : Shared = record { world = world; parts = parts } in
    let names = names_of subscribed user world in
    let lines : List ℕ → List ℕ → List ℕ = λ (r n : List ℕ). before ++ list_lines subscribed (told_names r n names) in
    let asked : lines c.as_slice.result.now c.as_slice-2.result.now ≡ lines reference c.as_slice-2.result.now = ap (λ (r : List ℕ). lines r c.as_slice-2.result.now) c.as_slice.ensures in
    let named : lines reference c.as_slice-2.result.now ≡ lines reference name = ap (λ (n : List ℕ). lines reference n) c.as_slice-2.ensures in
    let told : between ≡ lines reference name = c.in_ok-tell_names.ensures world stands ∙ (asked ∙ named) in
    says_list c.complete.result before between after shared user tag reference name subscribed told
    (subst (λ (n : List ℕ). Says c.complete.result shared.parts between after (completed shared tag n)) c.list_name.ensures (completes shared)))
