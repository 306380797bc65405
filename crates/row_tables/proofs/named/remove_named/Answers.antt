use Rattle.std.proofs.Common.{sym, ap, subst, ◌∙◌}
use Rattle.ordered_rows.specs.RowKey.{RowKey, number_key}
use Rattle.ordered_rows.specs.Listed.{row_at, without}
use Rattle.row_tables.specs.Names.{AreNamed, name_entry_key}
use Rattle.row_tables.proofs.NameChanges.{named_without, without_none}
use Rattle.row_tables.proofs.named.remove_named.Goals as goal

pub returns-in-Some-clause-named : goal.returns-in-Some-clause-named
returns-in-Some-clause-named g c =
    let key = g.R.Keyed.key_of in
    let names = g.R.Named.names in
    let there = sym (sym c.in-Some.is ∙ c.remove.ensures.row ∙ ap (λ (k : RowKey). row_at key k c.args.rows.now) c.of_number.ensures) in
    let goal_at = named_without names c.keys.ensures.same key g.met.R.Named.keyed c.args.rows.now (c.rows_at_keys.ensures c.args.rows.now c.rows.ensures.order) c.args.entries.now c.in-Some.row c.args.id there c.requires in
    subst (λ l. AreNamed names c.remove-in-Some.new.self l) (sym (c.remove.ensures.rows ∙ ap (λ (k : RowKey). without key k c.args.rows.now) c.of_number.ensures))
    (subst (λ l. AreNamed names l (without key (number_key c.args.id) c.args.rows.now)) (sym (c.remove-in-Some.ensures.rows ∙ ap (λ (k : RowKey). without name_entry_key k c.args.entries.now) c.entry_key.ensures)) goal_at)

pub returns-in_default-clause-named : goal.returns-in_default-clause-named
returns-in_default-clause-named g c =
    subst (λ l. AreNamed g.R.Named.names c.args.entries.now l)
    (sym (c.remove.ensures.rows ∙ without_none g.R.Keyed.key_of _ c.args.rows.now (sym (sym c.in_default.is ∙ c.remove.ensures.row)))) c.requires
