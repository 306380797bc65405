-- The numbers of a mailbox, whether it is selected or not (RFC 3501 §6.3.10).
use Rattle.std.specs.Prelude.{ℕ, Bool, true, false, List, [], ◌++◌, map, count_by, length, Option, Some, None, codes}
use Rattle.imap_grammar.specs.declared.items.StatusItem.{StatusItem}
use Rattle.imap_grammar.specs.declared.items.StatusItem.TheVariants.{Messages, Recent, Uidnext, Uidvalidity, Unseen, Highest}
use Rattle.imap_writer.specs.declared.refusals.Refusal.TheVariants.{Absent}
use Rattle.imap_writer.specs.declared.statuses.StatusData.{StatusData}
use Rattle.imap_writer.specs.Tagged.{ok_line}
use Rattle.imap_writer.specs.Statuses.{status_line}
use Rattle.mail_world.specs.Names.{mailbox_name}
use Rattle.mail_world.specs.Worlds.{Mailbox, mailbox_named}
use Rattle.mail_world.specs.Summaries.{recent_of, is_unseen}
use Rattle.imap_steps.specs.Stepping.{Shared, Stepped, answered, refused_with}

-- what an item asks for
abbrev pub number_of : Mailbox → StatusItem → ℕ
number_of mailbox Messages = length mailbox.entries
number_of mailbox Recent = length (recent_of mailbox)
number_of mailbox Uidnext = mailbox.head.uidnext
number_of mailbox Uidvalidity = mailbox.head.id
number_of mailbox Unseen = count_by is_unseen mailbox.entries
number_of mailbox Highest = mailbox.head.highest

abbrev pub data_of : Mailbox → StatusItem → StatusData
data_of mailbox item = record { item = item; number = number_of mailbox item }

-- The items are answered as they are asked, one that is asked twice twice.
abbrev pub status_of : Shared → List ℕ → List ℕ → List StatusItem → Option Mailbox → Stepped
status_of shared tag name items None = refused_with shared tag Absent
status_of shared tag name items (Some mailbox) =
    answered shared (status_line (mailbox_name name) (map (data_of mailbox) items) ++ ok_line tag [] (codes "STATUS"))

unfoldable pub status : Shared → ℕ → List ℕ → List ℕ → List StatusItem → Stepped
status shared user tag name items = status_of shared tag name items (mailbox_named user (mailbox_name name) shared.world.mailboxes)

-- whether an item comes with CONDSTORE (RFC 4551 §3.6)
abbrev pub is_highest : StatusItem → Bool
is_highest Messages = false
is_highest Recent = false
is_highest Uidnext = false
is_highest Uidvalidity = false
is_highest Unseen = false
is_highest Highest = true
