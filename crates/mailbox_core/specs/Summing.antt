-- What is told of a mailbox as a whole (RFC 3501 §6.3.1).
use Rattle.std.specs.Prelude.{◌≡◌}
use Rattle.mail_world.specs.Worlds.{Mailbox}
use Rattle.mail_world.specs.Summaries.{uids_of, recent_of, first_unseen, keywords_of}
use Rattle.mailbox_core.specs.declared.summing.Summary.{Summary}

pub record IsSummary (its : Summary) (mailbox : Mailbox) : Type 0 where
  pub uids : its.uids ≡ uids_of mailbox.entries
  pub recent : its.recent ≡ recent_of mailbox
  pub first_unseen : its.first_unseen ≡ first_unseen mailbox.entries
  pub keywords : its.keywords ≡ keywords_of mailbox.entries
  pub uidnext : its.uidnext ≡ mailbox.head.uidnext
  pub first_recent : its.first_recent ≡ mailbox.head.first_recent
