-- What a unit is: a command with its tag, or none, with a tag or without.
use Rattle.std.specs.Prelude.{◌≡◌, ℕ, true, false, List, Some, None, Result, Ok, Err}
use Rattle.imap_grammar.specs.declared.commands.Command.{Command}
use Rattle.imap_grammar.specs.declared.commands.Command.TheVariants.{Capability, Noop, Logout, Check, Close, Expunge, Create, Delete, Subscribe, Unsubscribe}
use Rattle.imap_grammar.specs.declared.commands.Tagged.{Tagged}
use Rattle.imap_grammar.specs.declared.commands.Bad.{Bad}
use Rattle.imap_grammar.specs.declared.commands.Bad.TheVariants.{WithTag, NoTag}
use Rattle.imap_grammar.specs.declared.commands.ParseFault.{ParseFault}
use Rattle.imap_grammar.specs.declared.commands.ParseFault.TheVariants as faults
use Rattle.imap_grammar.specs.declared.classes.Class.TheVariants.{Tag}
use Rattle.imap_grammar.specs.declared.verbs.Verb.{Verb}
use Rattle.imap_grammar.specs.declared.verbs.Verb.TheVariants as verb
use Rattle.imap_grammar.specs.declared.verbs.UidVerb.{UidVerb}
use Rattle.imap_grammar.specs.declared.verbs.UidVerb.TheVariants as uid
use Rattle.imap_grammar.specs.Readings.{Reading, Outcome, ◌>>=◌, ◌>>◌, pure, space}
use Rattle.imap_grammar.specs.Strings.{some}
use Rattle.imap_grammar.specs.Words.{keyword}
use Rattle.imap_grammar.specs.Verbs.{verbs, uid_verbs}
use Rattle.imap_grammar.specs.Session.{alone, login, authenticate, enable}
use Rattle.imap_grammar.specs.Mailboxes.{named_mailbox, rename, listing, status}
use Rattle.imap_grammar.specs.Selecting.{select}
use Rattle.imap_grammar.specs.Fetching.{fetch}
use Rattle.imap_grammar.specs.Finding.{search, sort, thread}
use Rattle.imap_grammar.specs.Messages.{append, store, copy, uid_expunge}

-- what stands behind a name behind UID
abbrev pub uid_arguments : UidVerb → Reading Command
uid_arguments uid.Fetch = fetch true
uid_arguments uid.Search = search true
uid_arguments uid.Sort = sort true
uid_arguments uid.Thread = thread true
uid_arguments uid.Store = store true
uid_arguments uid.Copy = copy true
uid_arguments uid.Expunge = uid_expunge

unfoldable pub by_uids : Reading Command
by_uids = do
  space
  name ← keyword uid_verbs
  uid_arguments name

-- What stands behind the name of a command, up to its end.
abbrev pub arguments : Verb → Reading Command
arguments verb.Capability = alone Capability
arguments verb.Noop = alone Noop
arguments verb.Logout = alone Logout
arguments verb.Check = alone Check
arguments verb.Close = alone Close
arguments verb.Expunge = alone Expunge
arguments verb.Login = login
arguments verb.Authenticate = authenticate
arguments verb.Create = named_mailbox Create
arguments verb.Delete = named_mailbox Delete
arguments verb.Subscribe = named_mailbox Subscribe
arguments verb.Unsubscribe = named_mailbox Unsubscribe
arguments verb.Rename = rename
arguments verb.List = listing false
arguments verb.Lsub = listing true
arguments verb.Status = status
arguments verb.Append = append
arguments verb.Select = select false
arguments verb.Examine = select true
arguments verb.Store = store false
arguments verb.Copy = copy false
arguments verb.Fetch = fetch false
arguments verb.Search = search false
arguments verb.Sort = sort false
arguments verb.Thread = thread false
arguments verb.Enable = enable
arguments verb.Uid = by_uids

-- A command without its tag.
unfoldable pub command : Reading Command
command = do
  name ← keyword verbs
  arguments name

-- A tag, and the space behind it.
unfoldable pub tag : Reading (List ℕ)
tag = do
  name ← some Tag
  space
  pure name

-- what a unit with this tag is
abbrev pub tagged : List ℕ → Outcome Command → Result Tagged Bad
tagged name None = Err (WithTag name)
tagged name (Some read) = Ok (record { tag = name; command = read.0 })

-- what a unit is by what it begins with
abbrev pub begun_with : Outcome (List ℕ) → Result Tagged Bad
begun_with None = Err NoTag
begun_with (Some read) = tagged read.0 (command read.1)

-- What a unit is.
unfoldable pub meaning : List ℕ → Result Tagged Bad
meaning unit = begun_with (tag unit)

-- An answer tells what a unit is, unless memory ran out.
abbrev pub Tells : Result Tagged Bad → Result Tagged ParseFault → Type 0
Tells meaning (Ok command) = meaning ≡ Ok command
Tells meaning (Err (faults.Bad bad)) = meaning ≡ Err bad
Tells meaning (Err faults.NoMemory) = Unit {0}
