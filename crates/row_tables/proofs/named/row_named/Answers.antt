use Rattle.std.proofs.Common.{◌≡◌, ℕ, List, ◌∷◌, [], map, sym, ap, ◌∙◌}
use Rattle.std.specs.List.{filter}
use Rattle.ordered_rows.specs.RowKey.{RowKey}
use Rattle.ordered_rows.specs.Listed.{is_in_group, row_at}
use Rattle.row_tables.specs.Names.{name_key, name_entry_key}
use Rattle.row_tables.specs.declared.indexes.NameEntry.{NameEntry}
use Rattle.row_tables.proofs.NameEntries.{found_none, found_some}
use Rattle.row_tables.proofs.named.row_named.Goals as goal

abbrev ids : List NameEntry → ℕ → List ℕ → List ℕ
ids entries number name = map (λ (e : NameEntry). e.id) (filter (is_in_group name_entry_key (name_key number name 0)) entries)

moved : (entries : List NameEntry) (n m : ℕ) (s t : List ℕ) (found : List ℕ) → n ≡ m → s ≡ t → ids entries m t ≡ found → ids entries n s ≡ found
moved entries n m s t found number name e = ap (λ k. ids entries k s) number ∙ ap (λ l. ids entries m l) name ∙ e

pub returns-in-Some : goal.returns-in-Some
returns-in-Some g c p number name =
    let names = g.R.Named.names in
    let key = g.R.Keyed.key_of in
    let rest = c.in-Some.ensures in
    c.get.ensures ∙ ap (λ (k : RowKey). row_at key k c.args.rows.now) c.of_number.ensures
    ∙ found_some names key g.met.R.Named.keyed c.args.entries.now c.args.rows.now p c.in-Some.id rest.0 c.requires (λ t row e. c.insertion.ensures.at_key t row c.args.rows.now c.rows.ensures.order e)
    (moved c.args.entries.now (names.number p) c.args.number (names.name p) c.args.name.now (c.in-Some.id ∷ rest.0) number name rest.1)

pub returns-in-None : goal.returns-in-None
returns-in-None g c p number name =
    let names = g.R.Named.names in
    sym (found_none names g.R.Keyed.key_of g.met.R.Named.keyed c.args.entries.now c.args.rows.now p c.requires
    (moved c.args.entries.now (names.number p) c.args.number (names.name p) c.args.name.now [] number name c.in-None.ensures))
