-- Tables that no message has rows in are left alone.
use Rattle.std.proofs.Common.{◌≡◌, ℕ, List, refl, ap, ◌∙◌}
use Rattle.row_tables.specs.TableRows.{TableRows}
use Rattle.row_tables.specs.References.{AreOrdered}
use Rattle.row_tables.specs.Fits.{applied}
use Rattle.row_tables.specs.declared.change.RowChange.{RowChange}
use Rattle.row_tables.specs.declared.change.RowChange.TheVariants.{InsertMessageRow, InsertBodyPart, InsertPartNumber, InsertFieldName, InsertHeaderField, InsertAddressRow, InsertAddressField, InsertDateField, InsertMessageId, InsertUnparsedMessage}
use Rattle.shredder.specs.Making.{RowLaws, Suits, Makes}
use Rattle.shredder.proofs.Frames.{along, any_all}

-- both groups that have no rows of messages are the same
pub record IsApart (t after : TableRows) : Type 0 where
  pub heads : after.heads ≡ t.heads
  pub marks : after.marks ≡ t.marks

apart_step : (message : ℕ) (t : TableRows) (change : RowChange) → Suits message t change → IsApart t (applied t change)
apart_step message t (InsertMessageRow r) suits = record { heads = refl; marks = refl }
apart_step message t (InsertBodyPart r) suits = record { heads = refl; marks = refl }
apart_step message t (InsertPartNumber r) suits = record { heads = refl; marks = refl }
apart_step message t (InsertFieldName r) suits = record { heads = refl; marks = refl }
apart_step message t (InsertHeaderField r) suits = record { heads = refl; marks = refl }
apart_step message t (InsertAddressRow r) suits = record { heads = refl; marks = refl }
apart_step message t (InsertAddressField r) suits = record { heads = refl; marks = refl }
apart_step message t (InsertDateField r) suits = record { heads = refl; marks = refl }
apart_step message t (InsertMessageId r) suits = record { heads = refl; marks = refl }
apart_step message t (InsertUnparsedMessage r) suits = record { heads = refl; marks = refl }
apart_step message t _ suits = absurd suits

pub apart_along : (laws : RowLaws) (message : ℕ) (t : TableRows) (changes : List RowChange) (after : TableRows) → AreOrdered t → Makes message t changes after → IsApart t after
apart_along laws message t changes after ordered made =
    along laws message IsApart (λ u. record { heads = refl; marks = refl }) (λ u v w a b. record { heads = b.heads ∙ a.heads; marks = b.marks ∙ a.marks }) (λ change. Unit {0})
    (λ u change o fits suits m. apart_step message u change suits) t changes after ordered (any_all changes) made

-- the tables are those from before but for the rows of messages
pub regrouped : (t after : TableRows) → IsApart t after → after ≡ record t { mails = after.mails; shared = after.shared }
regrouped t after apart =
    ap (λ heads. record after { heads = heads }) apart.heads ∙ ap (λ marks. record after { heads = t.heads; marks = marks }) apart.marks
