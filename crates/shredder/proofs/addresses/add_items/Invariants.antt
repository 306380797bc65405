use Rattle.std.proofs.Common.{◌≡◌, ℕ, length, take, List}
use Rattle.row_tables.specs.TableRows.{TableRows}
use Rattle.row_tables.specs.declared.contents.BodyPart.{BodyPart}
use Rattle.shredder.specs.Making.{AreAddressIds, Between, Leads, Nowhere, holding}
use Rattle.shredder.proofs.addresses.add_items.Given as goal

abbrev pub invariant-loop-item : goal.invariant-loop-item
invariant-loop-item l =
    (length l.ids.items ≡ l.item-index)
    × ((message : ℕ) (now : TableRows) (bodies : List BodyPart) → Between message l.tables (holding l.fn.shared.added bodies) now
    → Leads message l.tables now (holding l.fn.shared.added bodies) l.fn.changes.items Nowhere (λ after. AreAddressIds after.shared.addresses (take l.item-index l.items) l.ids.items) (holding l.shared.added bodies) l.changes.items)
