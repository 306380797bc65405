-- Flags that are stored for messages of the mailbox that a session has selected (RFC 3501 §6.4.6, §6.4.8).
use Rattle.std.specs.Prelude.{ℕ, ◌&&◌, not, Bool, true, false, List, [], ◌∷◌, ◌++◌, Option, Some, None, codes, decimal, map, filter, flat_map, is_some, if◌then◌else◌}
use Rattle.std.specs.List.{list_all, list_any}
use Rattle.std.specs.Option.{option_and_then, unwrap_or}
use Rattle.session_units.specs.declared.forms.Awaits.TheVariants.{Command as AwaitsCommand}
use Rattle.imap_grammar.specs.declared.flags.Flag.{Flag}
use Rattle.imap_grammar.specs.declared.flags.Flag.TheVariants.{Answered, Flagged, Deleted, Seen, Draft, Keyword}
use Rattle.imap_grammar.specs.declared.flags.FlagChange.{FlagChange}
use Rattle.imap_writer.specs.declared.refusals.Refusal.TheVariants.{ExpungeIssued, ReadOnly, Syntax}
use Rattle.imap_writer.specs.Tagged.{ok_line, no_line}
use Rattle.imap_writer.specs.Flags.{flag_list_of}
use Rattle.imap_writer.specs.Fetches.{message_line}
use Rattle.session_view.specs.declared.sessions.Selection.{Selection}
use Rattle.session_view.specs.declared.view.View.{View}
use Rattle.session_view.specs.Numbers.{number_of}
use Rattle.session_view.specs.Resolving.{resolved}
use Rattle.mail_world.specs.Flags.{distinct, has_flag}
use Rattle.mail_world.specs.Summaries.{with_keywords}
use Rattle.mail_world.specs.Worlds.{Entry, entry_at, is_among, mailbox_at}
use Rattle.mail_world.specs.Changes as changes
use Rattle.mail_world.specs.Applying.{refused}
use Rattle.imap_steps.specs.Stepping.{Change, Shared, Stepped, World, applied, refused_with, told_as}
use Rattle.imap_steps.specs.Appending.{is_fit_flag}

-- ---- a message that was served, as its line tells of it

-- the flags of a message as they are told: those of the standard in this order, then the keywords by bytes
abbrev pub flags_told : List Flag → List Flag
flags_told flags = filter (λ flag. has_flag flag flags) (Answered ∷ Flagged ∷ Deleted ∷ Seen ∷ Draft ∷ []) ++ map Keyword (with_keywords flags [])

-- the flags, with `\Recent` where the message is recent to the session
abbrev pub flags_item : View → Entry → List ℕ
flags_item view entry = codes "FLAGS " ++ flag_list_of (flags_told entry.message.flags) (is_among entry.uid view.recent)

-- before them the UID, where the messages were named by it
abbrev pub items : Bool → View → Entry → List (List ℕ)
items true view entry = (codes "UID " ++ decimal entry.uid) ∷ flags_item view entry ∷ []
items false view entry = flags_item view entry ∷ []

-- the line of a message of the view, by its number there; none where it is gone
abbrev pub told_if : Bool → View → Option Entry → List ℕ
told_if by_uid view None = []
told_if by_uid view (Some entry) = message_line (unwrap_or (number_of entry.uid view.uids) 0) (items by_uid view entry)

-- a message of a mailbox
abbrev pub entry_of : World → ℕ → ℕ → Option Entry
entry_of world mailbox uid = option_and_then (λ m. entry_at uid m.entries) (mailbox_at mailbox world.mailboxes)

-- the lines of the messages of UIDs, one after another
unfoldable pub told : World → Selection → Bool → List ℕ → List ℕ
told world selection by_uid uids = flat_map (λ uid. told_if by_uid selection.view (entry_of world selection.mailbox uid)) uids

-- ---- the command

abbrev pub store_name : Bool → List ℕ
store_name true = codes "UID STORE"
store_name false = codes "STORE"

-- whether some of the messages are gone
abbrev pub some_gone : World → ℕ → List ℕ → Bool
some_gone world mailbox uids = list_any (λ uid. not (is_some (entry_of world mailbox uid))) uids

-- The last line. A message that is gone is passed over where messages are named by UID, and told of where they are by number.
abbrev pub store_line : List ℕ → Bool → Bool → List ℕ
store_line tag by_uid gone = if gone && not by_uid then no_line tag ExpungeIssued else ok_line tag [] (store_name by_uid)

-- The messages are served, in one change, or none is. The silent form tells no flags.
abbrev pub stored_unless : Shared → List ℕ → Selection → Bool → List ℕ → Bool → Change → Option changes.Refusal → Stepped
stored_unless shared tag selection by_uid uids silent change (Some refusal) = refused_with shared tag (told_as refusal)
stored_unless shared tag selection by_uid uids silent change None =
    record {
      change = Some change;
      answer = (if silent then [] else told (applied shared.world change) selection by_uid uids) ++ store_line tag by_uid (some_gone shared.world selection.mailbox uids);
      parts = shared.parts;
      closes = false;
      next = AwaitsCommand;
    }

-- Flags are stored for the messages of these UIDs. A flag that is named twice counts once.
abbrev pub stored : Shared → List ℕ → Selection → Bool → List ℕ → FlagChange → Bool → List Flag → Stepped
stored shared tag selection by_uid uids how silent flags =
    let change = changes.StoreFlags selection.mailbox uids how (distinct flags) in
    stored_unless shared tag selection by_uid uids silent change (refused shared.world change)

-- STORE or UID STORE of the messages of the view that a set selects. A unit names no flag but a fit one: so the step is one for any
-- command. A mailbox that EXAMINE selected isn't changed.
unfoldable pub store : Shared → List ℕ → Selection → Bool → List (Option ℕ × Option ℕ) → FlagChange → Bool → List Flag → Stepped
store shared tag selection by_uid ranges how silent flags =
    if not (list_all is_fit_flag flags) then refused_with shared tag Syntax
    else (if not selection.read_write then refused_with shared tag ReadOnly
    else stored shared tag selection by_uid (resolved selection.view.uids ranges by_uid) how silent flags)
