-- What tables stand for, but for whether the world is legal; so that changes can be told one by one.
use Rattle.std.proofs.Common.{ℕ, ◌≡◌, true, List, map}
use Rattle.std.specs.List.{AllByRecursion}
use Rattle.row_tables.specs.TableRows.{TableRows}
use Rattle.row_tables.specs.declared.contents.BodyPart.{BodyPart}
use Rattle.shredder.specs.Distinct.{AreDistinct}
use Rattle.mail_world.specs.Names.{is_mailbox_name}
use Rattle.mail_world.specs.Worlds.{World}
use Rattle.mail_world.specs.Legal.{IsLegal}
use Rattle.mail_stands.specs.Facts.{mails_in, AreEntries, AreGone}
use Rattle.mail_stands.specs.Flagging.{AreFlagged}
use Rattle.mail_stands.specs.Stands.{Stands}

pub record Shows (content : BodyPart → List ℕ) (t : TableRows) (world : World) : Type 0 where
  pub users : t.heads.users ≡ world.users
  pub mailboxes : t.heads.mailboxes ≡ map (λ mailbox. mailbox.head) world.mailboxes
  pub names : AllByRecursion (λ row. is_mailbox_name row.name ≡ true) t.heads.mailboxes
  pub subscriptions : t.heads.subscriptions ≡ world.subscriptions
  pub next : t.heads.counters.next ≡ world.next
  pub entries : AreEntries (mails_in content t) t.marks.mailbox_messages world.mailboxes
  pub gone : AreGone t.marks.deleted_messages world.mailboxes
  pub flags : AreFlagged t.marks.flag_names t.marks.flags world.mailboxes
  pub distinct : AreDistinct (mails_in content t)

pub shown : (content : BodyPart → List ℕ) (t : TableRows) (world : World) → Stands content t world → Shows content t world
shown content t world s = record {
  users = s.users;
  mailboxes = s.mailboxes;
  names = s.names;
  subscriptions = s.subscriptions;
  next = s.next;
  entries = s.entries;
  gone = s.gone;
  flags = s.flags;
  distinct = s.distinct;
}

pub standing : (content : BodyPart → List ℕ) (t : TableRows) (world : World) → IsLegal world → Shows content t world → Stands content t world
standing content t world legal s = record {
  legal = legal;
  users = s.users;
  mailboxes = s.mailboxes;
  names = s.names;
  subscriptions = s.subscriptions;
  next = s.next;
  entries = s.entries;
  gone = s.gone;
  flags = s.flags;
  distinct = s.distinct;
}
