-- The row of a message is that of its entry in the world that the tables stand for.
use Rattle.std.proofs.Common.{ℕ, ◌≡◌, List, length, Option, Some, None, is_some, refl, sym, ap, subst, ◌∙◌}
use Rattle.std.specs.Option.{option_map, option_and_then}
use Rattle.canon_writer.specs.Printing.{print}
use Rattle.ordered_rows.specs.RowKey.{number_key}
use Rattle.ordered_rows.specs.Listed.{row_at}
use Rattle.row_tables.specs.Keys.{message_key}
use Rattle.row_tables.specs.TableRows.{TableRows}
use Rattle.row_tables.specs.declared.contents.BodyPart.{BodyPart}
use Rattle.row_tables.specs.declared.mails.MessageRow.{MessageRow}
use Rattle.row_tables.specs.declared.marks.MailboxMessage.{MailboxMessage}
use Rattle.row_store.specs.Holding.{stored_by}
use Rattle.mail_world.specs.Worlds.{Entry}
use Rattle.mail_stands.specs.Facts.{IsEntryRow, Tied}

module _ (content : BodyPart → List ℕ) (t : TableRows) where
  pub there_alike : (row : Option MailboxMessage) (entry : Option Entry) → Tied (IsEntryRow (stored_by content t)) row entry → is_some row ≡ is_some entry
  there_alike None None tied = refl
  there_alike None (Some entry) tied = absurd tied.tie
  there_alike (Some row) None tied = absurd tied.tie
  there_alike (Some row) (Some entry) tied = refl

  pub none_tied : (entry : Option Entry) → Tied (IsEntryRow (stored_by content t)) None entry → None ≡ option_map (λ e. length (print e.message.mail.message)) entry
  none_tied None tied = refl
  none_tied (Some entry) tied = absurd tied.tie

  pub size_tied : (row : MailboxMessage) (entry : Option Entry) → Tied (IsEntryRow (stored_by content t)) (Some row) entry
      → option_map (λ (m : MessageRow). m.size) (row_at message_key (number_key row.message) t.mails.messages) ≡ option_map (λ e. length (print e.message.mail.message)) entry
  size_tied row None tied = absurd tied.tie
  size_tied row (Some entry) tied = ap (λ (o : Option MessageRow). option_map (λ (m : MessageRow). m.size) o) tied.tie.rows.size
