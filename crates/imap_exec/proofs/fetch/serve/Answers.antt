use Rattle.std.proofs.Common.{◌≡◌, ◌&&◌, ℕ, List, Result, Err, Bool, true, false, rules, refl, sym, ap, subst, ◌∙◌}
use Rattle.std.specs.List.{list_any}
use Rattle.std.specs.List.Sorted.{IsStrictlySortedBy}
use Rattle.row_tables.specs.TableRows.{TableRows}
use Rattle.row_store.specs.Holding.{in_row}
use Rattle.row_store.specs.declared.faults.StoreFault.{StoreFault}
use Rattle.fetch_writer.specs.Asked.{marks_seen}
use Rattle.mail_world.specs.Applying.{refused}
use Rattle.mail_stands.specs.Stands.{Stands}
use Rattle.imap_steps.specs.declared.outcome.Outcome.{Outcome}
use Rattle.imap_steps.specs.Stepping.{Shared, Stepped}
use Rattle.imap_steps.specs.Fetching.{newly_seen, seeing, seen_unless, served}
use Rattle.imap_exec.specs.Does.{Executes}
use Rattle.imap_exec.proofs.FetchServed.{executes_plain, executed_where, seen_by_all, seen_by_none}
use Rattle.imap_exec.proofs.Saying.{starves}
use Rattle.imap_exec.proofs.fetch.serve.Goals as goal
use Rattle.imap_exec.proofs.fetch.serve.Goals.{then-not-selection-via-then-not-selection, then-not-selection-via-else-not-selection+then-not-marks_seen}

pub tell_fetched-requires-clause-seen : goal.tell_fetched-requires-clause-seen
unfolding IsStrictlySortedBy
tell_fetched-requires-clause-seen g c = tt

none_where : (reads marks : Bool) → reads ≡ false → (reads && marks) ≡ false
none_where reads marks e = ap (λ (b : Bool). b && marks) e

none_asked : (reads marks : Bool) → marks ≡ false → (reads && marks) ≡ false
none_asked true marks e = e
none_asked false marks e = refl

all_where : (reads marks : Bool) → reads ≡ true → marks ≡ true → (reads && marks) ≡ true
all_where reads marks e f = ap (λ (b : Bool). b && marks) e ∙ f

pub returns-then-not-selection : goal.returns-then-not-selection
returns-then-not-selection g c parts ready =
    let selection = c.args.selection.now in
    let items = c.args.items.now in
    let uids = c.args.uids.now in
    executes_plain g.D.Disk.told c.tell_fetched.result c.args.answer.now.items c.tell_fetched.new.answer.items c.args.tag.now selection c.args.by_uid items uids c.some_gone-gone.result parts
    c.args.store.now c.tell_fetched.new.store c.tell_fetched.ensures.reads ready
    (λ world stands. c.some_gone-gone.ensures in_row world (subst (λ (t : TableRows). Stands in_row t world) (sym c.tables.ensures) stands))
    c.tell_fetched.ensures.told
    (λ world. newly_seen world selection items uids)
    (λ world stands. seen_by_none world selection items uids unmarked)
  where
    unmarked : (c.args.selection.now.read_write && list_any marks_seen c.args.items.now) ≡ false
    unmarked = elim c.then-not-selection.branch [
      | then-not-selection-via-then-not-selection w ↦ none_where c.args.selection.now.read_write (list_any marks_seen c.args.items.now) w.if-not-selection.true
      | then-not-selection-via-else-not-selection+then-not-marks_seen w ↦ none_asked c.args.selection.now.read_write (list_any marks_seen c.args.items.now) (sym w.marks_seen.ensures ∙ w.if-not-marks_seen.true)
    ]

pub returns-in_err-unseen : goal.returns-in_err-unseen
returns-in_err-unseen g c parts ready =
    let store = c.args.store.now in
    let before = c.args.answer.now.items in
    let steps : Shared → Stepped = λ shared. served shared c.args.tag.now c.args.selection.now c.args.by_uid c.args.items.now c.args.uids.now (newly_seen shared.world c.args.selection.now c.args.items.now c.args.uids.now) in
    let failed : c.from_residual.result ≡ Err StoreFault.NoMemory = search rules in
    subst (λ (r : Result Outcome StoreFault). Executes g.D.Disk.told r store store parts parts before before steps) (sym failed) (starves g.D.Disk.told store parts parts before before steps)

pub returns : goal.returns
returns g c parts ready =
    let store = c.args.store.now in
    let before = c.args.answer.now.items in
    let selection = c.args.selection.now in
    let items = c.args.items.now in
    let uids = c.args.uids.now in
    let marked = all_where selection.read_write (list_any marks_seen items) c.if-not-selection.false (sym c.marks_seen.ensures ∙ c.if-not-marks_seen.false) in
    let steps : List ℕ → Shared → Stepped = λ unseen shared. served shared c.args.tag.now selection c.args.by_uid items uids (seen_unless unseen (refused shared.world (seeing selection.mailbox unseen))) in
    executed_where g.D.Disk.told c.serve_seen.result store c.serve_seen.new.store parts parts before c.serve_seen.new.answer.items
    (steps c.as_slice.result.now)
    (λ shared. served shared c.args.tag.now selection c.args.by_uid items uids (newly_seen shared.world selection items uids))
    (λ world stands. ap (λ (seen : List ℕ). served (record { world = world; parts = parts }) c.args.tag.now selection c.args.by_uid items uids seen)
    (seen_by_all world selection items uids marked
    ∙ ap (λ (unseen : List ℕ). seen_unless unseen (refused world (seeing selection.mailbox unseen))) (sym (c.as_slice.ensures.value ∙ c.in_ok-unseen.ensures.value in_row world (subst (λ (t : TableRows). Stands in_row t world) (sym c.tables-2.ensures) stands)))))
    (c.serve_seen.ensures parts ready (λ world stands. c.some_gone-gone.ensures in_row world (subst (λ (t : TableRows). Stands in_row t world) (sym c.tables.ensures) stands)))
