-- What a command does (RFC 3501 §6).
use Rattle.std.specs.Prelude.{ℕ, not, ◌&&◌, Bool, true, false, List, [], ◌++◌, Option, Some, None, Result, Ok, Err, codes, if◌then◌else◌}
use Rattle.std.specs.List.{list_any}
use Rattle.imap_grammar.specs.declared.flags.Flag.{Flag}
use Rattle.imap_grammar.specs.declared.flags.FlagChange.{FlagChange}
use Rattle.imap_grammar.specs.declared.commands.Command.{Command}
use Rattle.imap_grammar.specs.declared.commands.Command.TheVariants.{Capability, Noop, Logout, Check, Login, Authenticate, Create, List as ListNames, Append, Select, Delete, Subscribe, Unsubscribe, Status, Rename, Store, Fetch}
use Rattle.imap_grammar.specs.declared.commands.Tagged.{Tagged}
use Rattle.imap_grammar.specs.declared.commands.Bad.{Bad}
use Rattle.imap_grammar.specs.declared.commands.Bad.TheVariants.{WithTag, NoTag}
use Rattle.imap_grammar.specs.declared.items.FetchItem.{FetchItem}
use Rattle.imap_grammar.specs.declared.items.FetchItem.TheVariants.{Modseq}
use Rattle.imap_grammar.specs.declared.items.StatusItem.{StatusItem}
use Rattle.imap_grammar.specs.declared.selecting.Resync.{Resync}
use Rattle.imap_writer.specs.declared.refusals.Refusal.TheVariants.{LiteralTooLong, Syntax, State as WrongState}
use Rattle.imap_writer.specs.Tagged.{ok_line}
use Rattle.session_view.specs.declared.sessions.Selection.{Selection}
use Rattle.session_view.specs.declared.sessions.State.{State}
use Rattle.session_view.specs.declared.sessions.State.TheVariants.{Fresh, Asked, Known, Selected}
use Rattle.session_view.specs.Parts.{state_of}
use Rattle.imap_steps.specs.Stepping.{Shared, Stepped, answered, answered_last, bye, completed, refused_with, refused_untagged}
use Rattle.imap_steps.specs.LoggingIn.{login, authenticate}
use Rattle.imap_steps.specs.Selecting.{select}
use Rattle.imap_steps.specs.Appending.{create, append}
use Rattle.imap_steps.specs.Listing.{list}
use Rattle.imap_steps.specs.Managing.{delete, subscribe, unsubscribe}
use Rattle.imap_steps.specs.Status.{status, is_highest}
use Rattle.imap_steps.specs.Renaming.{rename}
use Rattle.imap_steps.specs.Storing.{store}
use Rattle.imap_steps.specs.Fetching.{fetch}

-- ---- when a command may be given

-- before the session is authenticated
abbrev pub before_login : Shared → List ℕ → State → Stepped → Stepped
before_login shared tag Fresh done = done
before_login shared tag (Asked asked) done = refused_with shared tag WrongState
before_login shared tag (Known user) done = refused_with shared tag WrongState
before_login shared tag (Selected user selection) done = refused_with shared tag WrongState

-- once it is, with or without a mailbox selected
abbrev pub of_user : Shared → List ℕ → State → (ℕ → Stepped) → Stepped
of_user shared tag Fresh done = refused_with shared tag WrongState
of_user shared tag (Asked asked) done = refused_with shared tag WrongState
of_user shared tag (Known user) done = done user
of_user shared tag (Selected user selection) done = done user

-- while a mailbox is selected
abbrev pub while_selected : Shared → List ℕ → State → Stepped → Stepped
while_selected shared tag Fresh done = refused_with shared tag WrongState
while_selected shared tag (Asked asked) done = refused_with shared tag WrongState
while_selected shared tag (Known user) done = refused_with shared tag WrongState
while_selected shared tag (Selected user selection) done = done

-- the same, of what is selected
abbrev pub of_selection : Shared → List ℕ → State → (Selection → Stepped) → Stepped
of_selection shared tag Fresh done = refused_with shared tag WrongState
of_selection shared tag (Asked asked) done = refused_with shared tag WrongState
of_selection shared tag (Known user) done = refused_with shared tag WrongState
of_selection shared tag (Selected user selection) done = done selection

-- ---- what it does

-- what the server can do (RFC 3501 §7.2.1)
abbrev pub capabilities : List ℕ
capabilities = codes "* CAPABILITY IMAP4rev1 AUTH=PLAIN\r\n"

unfoldable pub capability : Shared → List ℕ → Stepped
capability shared tag = answered shared (capabilities ++ ok_line tag [] (codes "CAPABILITY"))

unfoldable pub logout : Shared → List ℕ → Stepped
logout shared tag = answered_last shared (bye (codes "logging out") ++ ok_line tag [] (codes "LOGOUT"))

-- a command that isn't served yet
abbrev pub unserved : Shared → List ℕ → Stepped
unserved shared tag = refused_with shared tag Syntax

-- SELECT without what CONDSTORE and QRESYNC bring, which isn't served yet (RFC 4551 §3.7, RFC 5162 §3.1)
abbrev pub select_plainly : Shared → ℕ → List ℕ → State → List ℕ → Bool → Bool → Option Resync → Stepped
select_plainly shared number tag state name examine false None = of_user shared tag state (λ user. select shared number user tag name (not examine))
select_plainly shared number tag state name examine false (Some resync) = unserved shared tag
select_plainly shared number tag state name examine true resync = unserved shared tag

-- STATUS without what CONDSTORE brings, which isn't served yet (RFC 4551 §3.6)
abbrev pub status_plainly : Shared → List ℕ → State → List ℕ → List StatusItem → Stepped
status_plainly shared tag state name items =
    if list_any is_highest items then unserved shared tag else of_user shared tag state (λ user. status shared user tag name items)

-- STORE without what CONDSTORE brings, which isn't served yet (RFC 4551 §3.2)
abbrev pub store_plainly : Shared → List ℕ → State → Bool → List (Option ℕ × Option ℕ) → Option ℕ → FlagChange → Bool → List Flag → Stepped
store_plainly shared tag state by_uid ranges None how silent flags = of_selection shared tag state (λ selection. store shared tag selection by_uid ranges how silent flags)
store_plainly shared tag state by_uid ranges (Some modseq) how silent flags = unserved shared tag

abbrev pub is_modseq : FetchItem → Bool
is_modseq Modseq = true
is_modseq item = false

-- whether FETCH asks for nothing that CONDSTORE or QRESYNC brings (RFC 4551 §3.3, RFC 5162 §3.2)
abbrev pub is_plain_fetch : List FetchItem → Option ℕ → Bool → Bool
is_plain_fetch items None vanished = not vanished && not (list_any is_modseq items)
is_plain_fetch items (Some modseq) vanished = false

-- FETCH without these, which aren't served yet
abbrev pub fetch_plainly : Shared → List ℕ → State → Bool → List (Option ℕ × Option ℕ) → List FetchItem → Option ℕ → Bool → Stepped
fetch_plainly shared tag state by_uid ranges items since vanished =
    if is_plain_fetch items since vanished then of_selection shared tag state (λ selection. fetch shared tag selection by_uid ranges items) else unserved shared tag

-- What a command with its tag does in a session of a state.
abbrev pub commanded : Shared → ℕ → State → List ℕ → Command → ℕ → Stepped
commanded shared number state tag Capability now = capability shared tag
commanded shared number state tag Noop now = completed shared tag (codes "NOOP")
commanded shared number state tag Logout now = logout shared tag
commanded shared number state tag (Login name password) now = before_login shared tag state (login shared number tag name password)
commanded shared number state tag (Authenticate mechanism) now = before_login shared tag state (authenticate shared number tag mechanism)
commanded shared number state tag (Create name) now = of_user shared tag state (λ user. create shared user tag name)
commanded shared number state tag (ListNames reference name subscribed) now = of_user shared tag state (λ user. list shared user tag reference name subscribed)
commanded shared number state tag (Delete name) now = of_user shared tag state (λ user. delete shared user tag name)
commanded shared number state tag (Subscribe name) now = of_user shared tag state (λ user. subscribe shared user tag name)
commanded shared number state tag (Unsubscribe name) now = of_user shared tag state (λ user. unsubscribe shared user tag name)
commanded shared number state tag (Status name items) now = status_plainly shared tag state name items
commanded shared number state tag (Rename from to) now = of_user shared tag state (λ user. rename shared user tag from to)
commanded shared number state tag (Select name examine condstore resync) now = select_plainly shared number tag state name examine condstore resync
commanded shared number state tag (Append name flags date text) now = of_user shared tag state (λ user. append shared user tag name flags date text now)
commanded shared number state tag Check now = while_selected shared tag state (completed shared tag (codes "CHECK"))
commanded shared number state tag (Store by_uid set unchanged how silent flags) now = store_plainly shared tag state by_uid set.ranges unchanged how silent flags
commanded shared number state tag (Fetch by_uid set items since vanished) now = fetch_plainly shared tag state by_uid set.ranges items since vanished
commanded shared number state tag command now = unserved shared tag

-- what a unit does that is a command, or none
abbrev pub executed : Shared → ℕ → Result Tagged Bad → ℕ → Stepped
executed shared number (Ok tagged) now = commanded shared number (state_of number shared.parts) tagged.tag tagged.command now
executed shared number (Err (WithTag tag)) now = refused_with shared tag Syntax
executed shared number (Err NoTag) now = refused_untagged shared

-- The line of a command that announces literals of more bytes than they may have together: it is done no further. Where it
-- has no tag, it is no command.
abbrev pub literal_refused : Shared → Result Tagged Bad → Stepped
literal_refused shared (Ok tagged) = refused_with shared tagged.tag LiteralTooLong
literal_refused shared (Err (WithTag tag)) = refused_with shared tag LiteralTooLong
literal_refused shared (Err NoTag) = refused_untagged shared
