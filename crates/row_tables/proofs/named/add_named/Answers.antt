use Rattle.std.proofs.Common.{sym, subst}
use Rattle.ordered_rows.specs.Listed.{with_row}
use Rattle.row_tables.specs.Names.{AreNamed, name_entry_key}
use Rattle.row_tables.proofs.Entries.{Numbers}
use Rattle.row_tables.proofs.NameEntries.{IsEntry, name_is_new, named_with}
use Rattle.row_tables.proofs.named.add_named.Goals as goal

pub insert-requires-2 : goal.insert-requires-2
insert-requires-2 g c =
    name_is_new g.R.Named.names g.R.Keyed.key_of g.met.R.Named.keyed c.args.entries.now c.args.rows.now c.in_ok-entry.entry c.args.row c.requires.named
    (record { number = c.in_ok-entry.ensures.number; name = c.in_ok-entry.ensures.name; id = c.in_ok-entry.ensures.id }) c.requires.new_id

pub returns-in-Ok-clause-named : goal.returns-in-Ok-clause-named
returns-in-Ok-clause-named g c =
    let key = g.R.Keyed.key_of in
    let names = g.R.Named.names in
    let laws : Numbers key = record { same = c.numbers_after_insert.ensures.same; other = c.numbers_after_insert.ensures.other } in
    let entry_laws : Numbers name_entry_key = record { same = c.numbers_after_insert-2.ensures.same; other = c.numbers_after_insert-2.ensures.other } in
    let is : IsEntry names c.in_ok-entry.entry c.args.row = record { number = c.in_ok-entry.ensures.number; name = c.in_ok-entry.ensures.name; id = c.in_ok-entry.ensures.id } in
    let goal_at = named_with names key g.met.R.Named.keyed c.args.entries.now c.args.rows.now c.in_ok-entry.entry c.args.row laws entry_laws c.keys.ensures.numbers c.requires.named is c.insert-2.ensures.order c.insert.ensures.order in
    subst (λ l. AreNamed names l c.insert.new.self) (sym c.in-Ok.ensures.ok) (subst (λ l. AreNamed names (with_row name_entry_key c.in_ok-entry.entry c.args.entries.now) l) (sym c.in_ok-insert.ensures.ok) goal_at)
