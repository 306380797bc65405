-- What changes that add a message make of the tables.
use Rattle.std.specs.Prelude.{◌≡◌, ◌≢◌, ℕ, List}
use Rattle.mime_tree.specs.declared.reasons.Mail.{Mail}
use Rattle.ordered_rows.specs.RowKey.{number_key}
use Rattle.ordered_rows.specs.Listed.{row_at}
use Rattle.row_tables.specs.Keys.{field_key, message_key, date_field_key, unparsed_message_key}
use Rattle.row_tables.specs.TableRows.{TableRows}
use Rattle.row_tables.specs.References.{fields_at, addresses_at, ids_at}
use Rattle.row_tables.specs.Fits.{Runs}
use Rattle.row_tables.specs.declared.change.RowChange.{RowChange}
use Rattle.row_tables.specs.declared.contents.BodyPart.{BodyPart}
use Rattle.row_store.specs.Holding.{stored_by}
use Rattle.shredder.specs.MessageRows.{HasRows, part_at}
use Rattle.shredder.specs.Distinct.{AreDistinct, Keeps}

-- The message has the same rows at the path in both.
pub record SameAt (message : ℕ) (path : List ℕ) (t after : TableRows) : Type 0 where
  pub part : part_at after message path ≡ part_at t message path
  pub fields : fields_at message path after.mails.header_fields ≡ fields_at message path t.mails.header_fields
  pub addresses : (place : ℕ) → addresses_at message path place after.mails.address_fields ≡ addresses_at message path place t.mails.address_fields
  pub dates : (place : ℕ) → row_at date_field_key (field_key message path place) after.mails.date_fields ≡ row_at date_field_key (field_key message path place) t.mails.date_fields
  pub ids : (place : ℕ) → ids_at message path place after.mails.message_ids ≡ ids_at message path place t.mails.message_ids

-- The message has the same rows in both.
pub record SameMessage (message : ℕ) (t after : TableRows) : Type 0 where
  pub size : row_at message_key (number_key message) after.mails.messages ≡ row_at message_key (number_key message) t.mails.messages
  pub reason : row_at unparsed_message_key (number_key message) after.mails.unparsed_messages ≡ row_at unparsed_message_key (number_key message) t.mails.unparsed_messages
  pub rows : (path : List ℕ) → SameAt message path t after

-- The changes fit in turn, and add the mail as this message and nothing else: other messages keep their rows, what messages share
-- keeps its ids, and the tables that no message has rows in are left alone. Shared rows stay distinct where they were.
-- `content` gives the content of a row of a body.
pub record Shreds (content : BodyPart → List ℕ) (t : TableRows) (message : ℕ) (mail : Mail) (changes : List RowChange) : Type 0 where
  pub after : TableRows
  pub runs : Runs t changes after
  pub rows : HasRows (stored_by content after) message mail
  pub others : (other : ℕ) → other ≢ message → SameMessage other t after
  pub shared : Keeps (stored_by content t) (stored_by content after)
  pub distinct : AreDistinct (stored_by content t) → AreDistinct (stored_by content after)
  pub apart : after ≡ record t { mails = after.mails; shared = after.shared }
