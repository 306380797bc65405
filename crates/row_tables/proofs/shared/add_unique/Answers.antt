use Rattle.std.proofs.Common.{sym, subst}
use Rattle.ordered_rows.specs.Listed.{with_row}
use Rattle.row_tables.specs.Indexes.{AreIndexed}
use Rattle.row_tables.specs.Keys.{content_entry_key}
use Rattle.row_tables.proofs.Entries.{Finds, Keeps, indexed_with}
use Rattle.row_tables.proofs.shared.add_unique.Goals as goal

pub returns-in-Ok-clause-indexed : goal.returns-in-Ok-clause-indexed
returns-in-Ok-clause-indexed g c =
    let key = g.R.Keyed.key_of in
    let contents = g.R.Unique.contents in
    let finds : Finds key = record { same = c.found_after_insert.ensures.same; other = c.found_after_insert.ensures.other } in
    let keeps : Keeps content_entry_key = record { same = c.row_after_insert.ensures.same; other = c.row_after_insert.ensures.other } in
    let goal_at = indexed_with key contents c.args.entries.now c.args.rows.now c.in_ok-entry.entry c.args.row finds keeps c.requires.indexed c.in_ok-entry.ensures.key c.in_ok-entry.ensures.id c.requires.new_content c.insert.ensures.order in
    subst (λ l. AreIndexed contents l c.insert.new.self) (sym c.in-Ok.ensures.ok) (subst (λ l. AreIndexed contents (with_row content_entry_key c.in_ok-entry.entry c.args.entries.now) l) (sym c.in_ok-insert.ensures.ok) goal_at)
