use Rattle.std.proofs.Common.{◌≡◌, Some, map, sym, subst, ◌∙◌}
use Rattle.std.specs.Option.{option_map}
use Rattle.std.proofs.lemmas.Bool.{false≢true}
use Rattle.ordered_rows.specs.Listed.{row_at}
use Rattle.row_tables.specs.Keys.{mailbox_message_key, uid_key}
use Rattle.row_tables.specs.TableRows.{TableRows}
use Rattle.row_store.specs.Holding.{in_row, stored_by}
use Rattle.fetch_writer.specs.Told.{item_told}
use Rattle.mail_stands.specs.Stands.{Stands}
use Rattle.imap_steps.specs.Storing.{entry_of}
use Rattle.imap_exec.proofs.FetchLines.{date_printed, entry_print, line_none, line_some}
use Rattle.imap_exec.proofs.fetch_lines.tell_message.Goals as goal

pub returns-in_default-clause-line : goal.returns-in_default-clause-line
returns-in_default-clause-line g c w by_uid asked changed stands told =
    let there = subst (λ (t : TableRows). Stands in_row t w) (sym c.tables.ensures) stands in
    line_none by_uid c.args.selection.now.view asked changed (entry_of w c.args.selection.now.mailbox c.args.uid) c.args.answer.now.items
    (sym c.in_default.is ∙ c.in_ok-facts.ensures in_row w there)

pub returns-then-not-has_print-clause-line : goal.returns-then-not-has_print-clause-line
returns-then-not-has_print-clause-line g c w by_uid asked changed stands told =
    let there = subst (λ (t : TableRows). Stands in_row t w) (sym c.tables.ensures) stands in
    let so = date_printed c.args.selection.now.view c.in-Some.facts (entry_of w c.args.selection.now.mailbox c.args.uid) (sym c.in-Some.is ∙ c.in_ok-facts.ensures in_row w there)
    (λ entry found. entry_print w stands.legal c.args.selection.now.mailbox c.args.uid entry found) in
    absurd (false≢true (sym c.if-not-has_print.true ∙ c.has_print.ensures ∙ so))

pub returns-clause-line : goal.returns-clause-line
returns-clause-line g c w by_uid asked changed stands told =
    let t = c.args.store.now.tables in
    let mailbox = c.args.selection.now.mailbox in
    let uid = c.args.uid in
    let there = subst (λ (t : TableRows). Stands in_row t w) (sym c.tables.ensures) stands in
    line_some c.tell_facts.result (stored_by in_row t) by_uid c.args.selection.now.view asked changed (map item_told c.args.items.now) c.in-Some.facts c.in-Some-mail_at.id
    (row_at mailbox_message_key (uid_key mailbox uid) t.marks.mailbox_messages) (entry_of w mailbox uid) c.args.answer.now.items c.tell_facts.new.answer.items
    c.law_kept_mails_are_rebuilt.ensures (c.entry_rows.ensures in_row t w mailbox uid stands)
    (subst (λ (u : TableRows). Some c.in-Some-mail_at.id ≡ option_map (λ row. row.message) (row_at mailbox_message_key (uid_key mailbox uid) u.marks.mailbox_messages)) c.tables-2.ensures c.in-Some-mail_at.ensures)
    (sym c.in-Some.is ∙ c.in_ok-facts.ensures in_row w there) told.items
    (λ its has. c.tell_facts.ensures.line its by_uid asked changed has told)
