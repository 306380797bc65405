-- What tables stand for.
use Rattle.std.specs.Prelude.{◌≡◌, ℕ, true, List, map}
use Rattle.std.specs.List.{AllByRecursion}
use Rattle.row_tables.specs.TableRows.{TableRows}
use Rattle.row_tables.specs.References.{AreOrdered, AreClosed, AreDistinct as HaveDistinctNames}
use Rattle.row_tables.specs.declared.contents.BodyPart.{BodyPart}
use Rattle.shredder.specs.Distinct.{AreDistinct}
use Rattle.mail_world.specs.Names.{is_mailbox_name}
use Rattle.mail_world.specs.Worlds.{World}
use Rattle.mail_world.specs.Legal.{IsLegal}
use Rattle.mail_stands.specs.Facts.{mails_in, AreEntries, AreGone}
use Rattle.mail_stands.specs.Flagging.{AreFlagged}

-- The tables stand for the world, which is legal: users, mailboxes, subscriptions and the next id are the world's, and so are the
-- messages, the gone ones and the flags; each message has exactly its rows, and what messages share is there once. Rows of messages
-- that no mailbox has, and shared rows that none uses, may be there too. Mailboxes have names that mailboxes may have. `content`
-- gives the content of a row of a body.
pub record Stands (content : BodyPart → List ℕ) (t : TableRows) (world : World) : Type 0 where
  pub legal : IsLegal world
  pub users : t.heads.users ≡ world.users
  pub mailboxes : t.heads.mailboxes ≡ map (λ mailbox. mailbox.head) world.mailboxes
  pub names : AllByRecursion (λ row. is_mailbox_name row.name ≡ true) t.heads.mailboxes
  pub subscriptions : t.heads.subscriptions ≡ world.subscriptions
  pub next : t.heads.counters.next ≡ world.next
  pub entries : AreEntries (mails_in content t) t.marks.mailbox_messages world.mailboxes
  pub gone : AreGone t.marks.deleted_messages world.mailboxes
  pub flags : AreFlagged t.marks.flag_names t.marks.flags world.mailboxes
  pub distinct : AreDistinct (mails_in content t)

-- What holds of all tables, whatever they stand for.
pub record AreWhole (t : TableRows) : Type 0 where
  pub ordered : AreOrdered t
  pub closed : AreClosed t
  pub distinct : HaveDistinctNames t
