-- The numbers that STATUS tells, from those that a store gives (RFC 3501 §6.3.10). These serve the contracts of private functions
-- alone.
use Rattle.std.specs.Prelude.{ℕ, Bool, true, false}
use Rattle.imap_grammar.specs.declared.items.StatusItem.{StatusItem}
use Rattle.imap_grammar.specs.declared.items.StatusItem.TheVariants.{Messages, Recent, Uidnext, Uidvalidity, Unseen, Highest}
use Rattle.imap_writer.specs.declared.statuses.StatusData.{StatusData}
use Rattle.mailbox_core.specs.declared.numbers.Status.{Status}

abbrev pub number_in : Status → StatusItem → ℕ
number_in its Messages = its.messages
number_in its Recent = its.recent
number_in its Uidnext = its.uidnext
number_in its Uidvalidity = its.uidvalidity
number_in its Unseen = its.unseen
number_in its Highest = its.highest

abbrev pub data_in : Status → StatusItem → StatusData
data_in its item = record { item = item; number = number_in its item }

-- whether an item needs the unseen messages to be counted
abbrev pub counts_unseen : StatusItem → Bool
counts_unseen Messages = false
counts_unseen Recent = false
counts_unseen Uidnext = false
counts_unseen Uidvalidity = false
counts_unseen Unseen = true
counts_unseen Highest = false
