-- Commands of mailboxes (RFC 3501 §6.3.3 to §6.3.10).
use Rattle.std.specs.Prelude.{ℕ, Bool, List, [], ◌∷◌, codes}
use Rattle.imap_grammar.specs.declared.commands.Command.{Command}
use Rattle.imap_grammar.specs.declared.commands.Command.TheVariants.{Rename, Status}
use Rattle.imap_grammar.specs.declared.commands.Command.TheVariants as commands
use Rattle.imap_grammar.specs.declared.items.StatusItem.{StatusItem}
use Rattle.imap_grammar.specs.declared.items.StatusItem.TheVariants.{Messages, Recent, Uidnext, Uidvalidity, Unseen, Highest}
use Rattle.imap_grammar.specs.Readings.{Reading, ◌>>=◌, ◌>>◌, pure, space, end}
use Rattle.imap_grammar.specs.Strings.{astring, pattern}
use Rattle.imap_grammar.specs.Words.{keyword}
use Rattle.imap_grammar.specs.Lists.{listed}

-- the name of a mailbox, and the end
unfoldable pub one_name : Reading (List ℕ)
one_name = do
  space
  name ← astring
  end
  pure name

-- a command with the name of a mailbox alone
abbrev pub named_mailbox : (List ℕ → Command) → Reading Command
named_mailbox command = do
  name ← one_name
  pure (command name)

unfoldable pub rename : Reading Command
rename = do
  space
  from ← astring
  space
  to ← astring
  end
  pure (Rename from to)

-- LIST, and LSUB for the names that are subscribed
unfoldable pub listing : Bool → Reading Command
listing subscribed = do
  space
  reference ← astring
  space
  name ← pattern
  end
  pure (commands.List reference name subscribed)

abbrev pub status_items : List (List ℕ × StatusItem)
status_items =
    (codes "MESSAGES", Messages)
    ∷ (codes "RECENT", Recent)
    ∷ (codes "UIDNEXT", Uidnext)
    ∷ (codes "UIDVALIDITY", Uidvalidity)
    ∷ (codes "UNSEEN", Unseen)
    ∷ (codes "HIGHESTMODSEQ", Highest)
    ∷ []

unfoldable pub status : Reading Command
status = do
  space
  name ← astring
  space
  items ← listed (keyword status_items)
  end
  pure (Status name items)
