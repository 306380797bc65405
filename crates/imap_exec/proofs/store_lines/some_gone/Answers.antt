use Rattle.std.proofs.Common.{◌∙◌}
use Rattle.row_store.specs.Holding.{stored_by}
use Rattle.imap_exec.proofs.StoreLines.{gone_alike}
use Rattle.imap_exec.proofs.store_lines.some_gone.Goals as goal

pub returns : goal.returns
returns c content w stands =
    let t = c.args.tables.now in
    c.lacks_any.ensures ∙ gone_alike (stored_by content t) t.marks.mailbox_messages w c.args.mailbox c.args.uids.now (λ uid. c.entry_rows.ensures content t w c.args.mailbox uid stands)
