use Rattle.std.proofs.Common.{codes, sym, subst, ◌∙◌}
use Rattle.std.proofs.lemmas.Bool.{false≢true}
use Rattle.row_store.specs.Holding.{in_row}
use Rattle.row_tables.specs.TableRows.{TableRows}
use Rattle.mail_world.specs.Changes.{StoreFlags}
use Rattle.mail_stands.specs.Stands.{Stands}
use Rattle.imap_exec.proofs.Stored.{executes_stored, executes_unstored}
use Rattle.imap_exec.proofs.store.store_for.Goals as goal

pub returns-then-is_ok : goal.returns-then-is_ok
returns-then-is_ok g c parts ready =
    let chosen = c.args.selection.now in
    let change = StoreFlags chosen.mailbox c.args.uids.now c.args.how c.args.flags.now in
    executes_stored g.D.Disk.told c.store_flags-made.result c.tell_stored.result c.args.store.now c.store_flags-made.new.store parts c.args.answer.now.items c.tell_stored.new.answer.items c.args.tag.now chosen c.args.by_uid c.args.uids.now c.args.silent change
    c.store_flags-made.ensures.behaves ready c.store_flags-made.ensures.makes c.some_gone-gone.result (sym c.is_ok.ensures.value ∙ c.if-is_ok.true)
    (λ world stands. c.some_gone-gone.ensures in_row world (subst (λ (t : TableRows). Stands in_row t world) (sym c.tables.ensures) stands)) c.tell_stored.ensures.memory
    (λ world stands. c.tell_stored.ensures.told in_row world (subst (λ (t : TableRows). Stands in_row t world) (sym c.tables-tables.ensures) stands))

pub returns-else-is_ok : goal.returns-else-is_ok
returns-else-is_ok g c parts ready =
    let chosen = c.args.selection.now in
    let change = StoreFlags chosen.mailbox c.args.uids.now c.args.how c.args.flags.now in
    executes_unstored g.D.Disk.told c.store_flags-made.result c.tell_made.result c.args.store.now c.store_flags-made.new.store parts c.args.answer.now.items c.tell_made.new.answer.items c.args.tag.now chosen c.args.by_uid c.args.uids.now c.args.silent change
    c.store_flags-made.ensures.behaves ready c.store_flags-made.ensures.makes (codes "STORE") c.tell_made.ensures (λ ok. false≢true (sym c.if-is_ok.false ∙ (c.is_ok.ensures.value ∙ ok)))
