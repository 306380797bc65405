use Rattle.std.proofs.Common.{◌≡◌, MatchOption, refl, sym, ap, subst, ◌∙◌}
use Rattle.std.specs.Bool.{⊤}
use Rattle.ordered_rows.specs.RowKey.{RowKey, row_key}
use Rattle.ordered_rows.specs.Listed.{row_at, with_row, with_replaced, without}
use Rattle.row_tables.specs.Names.{AreNamed, name_key, name_entry_key}
use Rattle.row_tables.proofs.Entries.{Numbers}
use Rattle.row_tables.proofs.NameEntries.{IsEntry}
use Rattle.row_tables.proofs.NameChanges.{at_number, entry_key_is, id_stays, moved_is_new, named_kept, named_moved}
use Rattle.row_tables.proofs.named.replace_named.Goals as goal

pub replace-requires : goal.replace-requires
replace-requires g c =
    let key = g.R.Keyed.key_of in
    let names = g.R.Named.names in
    let owner = g.R.Owned.owner_of in
    let there = sym (c.in-Some.ensures ∙ ap (λ (k : RowKey). row_at key k c.args.rows.now) c.key.ensures) in
    let same = at_number names (names.place c.args.row) c.in-Some.old.now (sym c.has_name_of.ensures ∙ c.if-has_name_of.true) in
    subst (λ o. MatchOption o ⊤ (λ old. owner old ≡ owner c.args.row)) (sym there) (g.met.R.Named.owned c.in-Some.old.now ∙ same ∙ sym (g.met.R.Named.owned c.args.row))

pub returns-then-has_name_of-clause-named : goal.returns-then-has_name_of-clause-named
returns-then-has_name_of-clause-named g c =
    let key = g.R.Keyed.key_of in
    let names = g.R.Named.names in
    let there = sym (c.in-Some.ensures ∙ ap (λ (k : RowKey). row_at key k c.args.rows.now) c.key.ensures) in
    subst (λ l. AreNamed names c.args.entries.now l) (sym c.replace.ensures)
    (named_kept names c.keys.ensures.same key g.met.R.Named.keyed c.args.rows.now (c.rows_at_keys.ensures c.args.rows.now c.rows.ensures.order) c.args.row c.in-Some.old.now there c.args.entries.now (sym c.has_name_of.ensures ∙ c.if-has_name_of.true) c.requires.named)

pub insert-requires : goal.insert-requires
insert-requires g c =
    let key = g.R.Keyed.key_of in
    let names = g.R.Named.names in
    let there = sym (c.in-Some.ensures ∙ ap (λ (k : RowKey). row_at key k c.args.rows.now) c.key.ensures) in
    let is : IsEntry names c.in_ok-entry.entry c.args.row = record { number = c.in_ok-entry.ensures.number; name = c.in_ok-entry.ensures.name; id = c.in_ok-entry.ensures.id } in
    moved_is_new names c.keys.ensures.same key g.met.R.Named.keyed c.args.rows.now (c.rows_at_keys.ensures c.args.rows.now c.rows.ensures.order) c.args.row c.in-Some.old.now there c.args.entries.now c.in_ok-entry.entry is (sym c.has_name_of.ensures ∙ c.if-has_name_of.false) c.requires.named
    c.row_after_remove.ensures.same c.row_after_remove-2.ensures.other

pub returns-in-Ok-clause-named : goal.returns-in-Ok-clause-named
returns-in-Ok-clause-named g c =
    let key = g.R.Keyed.key_of in
    let names = g.R.Named.names in
    let row = c.args.row in
    let old = c.in-Some.old.now in
    let rows = c.args.rows.now in
    let there = sym (c.in-Some.ensures ∙ ap (λ (k : RowKey). row_at key k rows) c.key.ensures) in
    let each = c.rows_at_keys.ensures rows c.rows.ensures.order in
    let is : IsEntry names c.in_ok-entry.entry row = record { number = c.in_ok-entry.ensures.number; name = c.in_ok-entry.ensures.name; id = c.in_ok-entry.ensures.id } in
    let was : IsEntry names c.in_ok-gone.gone old = record { number = c.in_ok-gone.ensures.number; name = c.in_ok-gone.ensures.name; id = c.in_ok-gone.ensures.id } in
    let laws : Numbers key = record { same = c.numbers_after_insert.ensures.same; other = c.numbers_after_insert.ensures.other } in
    let entry_laws : Numbers name_entry_key = record { same = c.numbers_after_insert-2.ensures.same; other = c.numbers_after_insert-2.ensures.other } in
    let replaced = c.replacement.ensures row rows c.rows.ensures.order c.requires.there in
    let goal_at = named_moved names c.keys.ensures.same key g.met.R.Named.keyed rows each row old there c.args.entries.now c.in_ok-entry.entry is (sym c.has_name_of.ensures ∙ c.if-has_name_of.false) c.requires.named
    laws entry_laws c.keys.ensures.numbers c.insertion.ensures.passing replaced c.insert.ensures.order c.rows.ensures.order in
    let gone = c.key-in-Ok.ensures ∙ entry_key_is names c.in_ok-gone.gone old (names.id row) was (id_stays names c.keys.ensures.same key g.met.R.Named.keyed rows each row old there) in
    let entries_are = c.remove.ensures.rows ∙ ap (without name_entry_key (row_key c.key-in-Ok.result)) c.in_ok-insert.ensures.ok
    ∙ ap (λ (k : RowKey). without name_entry_key k (with_row name_entry_key c.in_ok-entry.entry c.args.entries.now)) gone in
    subst (λ l. AreNamed names c.remove.new.self l) (sym c.in-Ok.ensures.ok) (subst (λ l. AreNamed names l (with_replaced key row rows)) (sym entries_are) goal_at)

pub returns-clause-named : goal.returns-clause-named
returns-clause-named g c =
    let key = g.R.Keyed.key_of in
    let names = g.R.Named.names in
    let row = c.args.row in
    let old = c.in-Some.old.now in
    let rows = c.args.rows.now in
    let there = sym (c.in-Some.ensures ∙ ap (λ (k : RowKey). row_at key k rows) c.key.ensures) in
    let is : IsEntry names c.in_ok-entry.entry row = record { number = c.in_ok-entry.ensures.number; name = c.in_ok-entry.ensures.name; id = c.in_ok-entry.ensures.id } in
    let new = moved_is_new names c.keys.ensures.same key g.met.R.Named.keyed rows (c.rows_at_keys.ensures rows c.rows.ensures.order) row old there c.args.entries.now c.in_ok-entry.entry is (sym c.has_name_of.ensures ∙ c.if-has_name_of.false) c.requires.named
    c.row_after_remove.ensures.same c.row_after_remove-2.ensures.other in
    let key_is = c.entry_key.ensures ∙ ap (λ r. name_key (names.number (names.place r)) (names.name (names.place r)) c.id.result) c.in-Err.ensures.back
    ∙ ap (λ i. name_key (names.number (names.place row)) (names.name (names.place row)) i) (c.id.ensures.id ∙ ap names.id c.in-Err.ensures.back) ∙ sym (entry_key_is names c.in_ok-entry.entry row (names.id row) is refl) in
    let entries_are = c.remove-in-Err.ensures.rows ∙ ap (without name_entry_key (row_key c.entry_key.result)) c.in_ok-insert.ensures.ok
    ∙ ap (λ (k : RowKey). without name_entry_key k (with_row name_entry_key c.in_ok-entry.entry c.args.entries.now)) key_is ∙ c.insert_undone.ensures c.in_ok-entry.entry c.args.entries.now c.insert.ensures.order new in
    subst (λ l. AreNamed names c.remove-in-Err.new.self l) (sym c.in-Err.ensures.err) (subst (λ l. AreNamed names l rows) (sym entries_are) c.requires.named)
