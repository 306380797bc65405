use Rattle.std.proofs.Common.{◌≡◌, [], take, List}
use Rattle.row_tables.specs.References.{HasPart, fields_at}
use Rattle.row_tables.specs.TableRows.{TableRows}
use Rattle.row_tables.specs.declared.contents.BodyPart.{BodyPart}
use Rattle.shredder.specs.Making.{Between, Here, Leads, holding}
use Rattle.shredder.proofs.FieldSteps.{HasSome}
use Rattle.shredder.proofs.headers.add_fields.Given as goal

abbrev pub invariant-loop-place : goal.invariant-loop-place
invariant-loop-place l =
    (now : TableRows) (bodies : List BodyPart) → Between l.message l.tables (holding l.fn.shared.added bodies) now → HasPart now l.message l.path → fields_at l.message l.path now.mails.header_fields ≡ []
    → Leads l.message l.tables now (holding l.fn.shared.added bodies) l.fn.changes.items (Here l.path) (λ after. HasSome after l.message l.path (take l.place l.fields)) (holding l.shared.added bodies) l.changes.items
