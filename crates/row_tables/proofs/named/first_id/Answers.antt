use Rattle.std.proofs.Common.{List, ℕ, map, sym, ap, ◌∙◌}
use Rattle.std.specs.List.{filter}
use Rattle.ordered_rows.specs.RowKey.{RowKey}
use Rattle.ordered_rows.specs.Listed.{is_in_group}
use Rattle.row_tables.specs.Names.{name_entry_key}
use Rattle.row_tables.specs.declared.indexes.NameEntry.{NameEntry}
use Rattle.row_tables.proofs.named.first_id.Goals as goal

pub returns-in-Some : goal.returns-in-Some
returns-in-Some c =
    let ids : List NameEntry → List ℕ = map (λ (e : NameEntry). e.id) in
    (ids c.next.new.self, ap ids (sym (c.group.ensures ∙ ap (λ (k : RowKey). filter (is_in_group name_entry_key k) c.args.entries.now) c.owned.ensures) ∙ c.in-Some.ensures.steps))
