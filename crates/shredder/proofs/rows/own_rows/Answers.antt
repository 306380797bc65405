use Rattle.std.proofs.Common.{◌≡◌, ℕ, List, [], ◌∷◌, ◌++◌, length, ap, ◌∙◌}
use Rattle.canon_writer.specs.Printing.{print}
use Rattle.row_tables.specs.declared.change.RowChange.{RowChange}
use Rattle.row_tables.specs.declared.change.RowChange.TheVariants.{InsertMessageRow}
use Rattle.shredder.specs.Making.{reason_changes}
use Rattle.shredder.proofs.rows.own_rows.Goals as goal

pub returns-clause-rows : goal.returns-clause-rows
returns-clause-rows c =
    let mail = c.args.mail.now in
    let id : ℕ = c.new_message_id-id.result in
    let size : c.in_ok-size.size ≡ length (print mail.message) = c.in_ok-size.ensures in
    let first : c.push.new.self.items ≡ InsertMessageRow (record { id = id; size = length (print mail.message) }) ∷ [] =
    c.in_ok-push.ensures.items ∙ ap (λ (l : List RowChange). l ++ InsertMessageRow (record { id = id; size = c.in_ok-size.size }) ∷ []) c.new-changes.ensures.items ∙ ap (λ (n : ℕ). InsertMessageRow (record { id = id; size = n }) ∷ []) size in
    c.in_ok-push_reason.ensures ∙ ap (λ (l : List RowChange). l ++ reason_changes id mail.reason) first
