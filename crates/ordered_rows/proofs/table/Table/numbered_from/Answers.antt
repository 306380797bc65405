use Rattle.std.proofs.Common.{rules, ◌≡◌, None, sym, ap, ◌∙◌}
use borrow.Author.Tests.{eq-eqb}
use Rattle.std.specs.List.{find}
use Rattle.ordered_rows.specs.RowKey.{RowKey, row_key}
use Rattle.ordered_rows.specs.Listed.{is_from}
use Rattle.ordered_rows.proofs.Firsts.{other_number}
use Rattle.ordered_rows.proofs.Following.{from_none, from_other, from_some}
use Rattle.ordered_rows.proofs.table.Table.numbered_from.Goals as goal

pub returns-in_err-row : goal.returns-in_err-row
returns-in_err-row g c =
    let key = g.R.Keyed.key_of in
    let k = row_key c.args.key in
    let none : None ≡ find (is_from key k) c.args.self.now = sym (from_none key k c.args.self.now (sym c.rows_from.ensures.rows ∙ c.in_err-row.ensures.steps.0)) in
    search (rules, none, c.from_residual.ensures)

pub returns-then-key : goal.returns-then-key
returns-then-key g c =
    let key = g.R.Keyed.key_of in
    let k = row_key c.args.key in
    let row = c.in_ok-row.row.now in
    let same = eq-eqb (key row).number k.number (sym (ap (λ (k : RowKey). k.number) c.key.ensures) ∙ c.if-key.true) in
    sym (from_some key k c.args.self.now row c.next.new.self (sym c.rows_from.ensures.rows ∙ c.in_ok-row.ensures.steps) same)

pub returns-else-key : goal.returns-else-key
returns-else-key g c =
    let key = g.R.Keyed.key_of in
    let k = row_key c.args.key in
    let row = c.in_ok-row.row.now in
    let differs = other_number (key row).number k.number (λ e. c.if-key.false (ap (λ (k : RowKey). k.number) c.key.ensures ∙ e)) in
    sym (from_other key k c.args.self.now row c.next.new.self c.rows_from.ensures.order (sym c.rows_from.ensures.rows ∙ c.in_ok-row.ensures.steps) differs)
