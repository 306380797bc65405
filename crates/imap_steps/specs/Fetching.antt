-- What FETCH tells of messages of the mailbox that a session has selected (RFC 3501 §6.4.5, §6.4.8).
use Rattle.std.specs.Prelude.{ℕ, ◌&&◌, not, Bool, true, false, List, [], ◌∷◌, ◌++◌, Option, Some, None, codes, length, filter, flat_map, if◌then◌else◌}
use Rattle.std.specs.List.{list_any}
use Rattle.std.specs.Option.{unwrap_or}
use Rattle.canon_writer.specs.Printing.{print}
use Rattle.session_units.specs.declared.forms.Awaits.TheVariants.{Command as AwaitsCommand}
use Rattle.imap_grammar.specs.declared.flags.Flag.TheVariants.{Seen}
use Rattle.imap_grammar.specs.declared.flags.FlagChange.TheVariants.{Add}
use Rattle.imap_grammar.specs.declared.items.FetchItem.{FetchItem}
use Rattle.imap_writer.specs.declared.refusals.Refusal.TheVariants.{ExpungeIssued}
use Rattle.imap_writer.specs.Tagged.{ok_line, no_line}
use Rattle.fetch_writer.specs.declared.facts.MessageFacts.{MessageFacts}
use Rattle.fetch_writer.specs.Asked.{told_items, marks_seen}
use Rattle.fetch_writer.specs.Items.{items_line}
use Rattle.session_view.specs.declared.sessions.Selection.{Selection}
use Rattle.session_view.specs.declared.view.View.{View}
use Rattle.session_view.specs.Numbers.{number_of}
use Rattle.session_view.specs.Resolving.{resolved}
use Rattle.mail_world.specs.Summaries.{is_unseen}
use Rattle.mail_world.specs.Worlds.{Entry, is_among}
use Rattle.mail_world.specs.Changes as changes
use Rattle.mail_world.specs.Applying.{refused}
use Rattle.imap_steps.specs.Stepping.{Change, Shared, Stepped, World, changed}
use Rattle.imap_steps.specs.Storing.{entry_of, flags_told, some_gone}

-- ---- a message, as its line tells of it

-- what is told of a message beside what stands in it; its size is that of its canonical text
abbrev pub facts_of : View → Entry → MessageFacts
facts_of view entry = record {
  uid = entry.uid;
  modseq = entry.modseq;
  flags = flags_told entry.message.flags;
  recent = is_among entry.uid view.recent;
  size = length (print entry.message.mail.message);
  date = entry.message.date;
}

-- The line of a message of the view, by its number there; none where it is gone. `seen` are the messages that the command makes seen.
abbrev pub fetched_if : Bool → View → List FetchItem → List ℕ → Option Entry → List ℕ
fetched_if by_uid view items seen None = []
fetched_if by_uid view items seen (Some entry) =
    items_line (unwrap_or (number_of entry.uid view.uids) 0) (facts_of view entry) entry.message.mail.message (told_items by_uid items (is_among entry.uid seen))

-- the lines of the messages of UIDs, one after another
unfoldable pub fetched : World → Selection → Bool → List FetchItem → List ℕ → List ℕ → List ℕ
fetched world selection by_uid items seen uids = flat_map (λ uid. fetched_if by_uid selection.view items seen (entry_of world selection.mailbox uid)) uids

-- ---- the messages that are seen thereby

-- whether a message is there, without `\Seen`
abbrev pub is_unseen_if : Option Entry → Bool
is_unseen_if None = false
is_unseen_if (Some entry) = is_unseen entry

abbrev pub unseen_among : World → ℕ → List ℕ → List ℕ
unseen_among world mailbox uids = filter (λ uid. is_unseen_if (entry_of world mailbox uid)) uids

-- `\Seen` for messages of a mailbox
abbrev pub seeing : ℕ → List ℕ → Change
seeing mailbox uids = changes.StoreFlags mailbox uids Add (Seen ∷ [])

-- the same, where there are such messages
abbrev pub seeing_if : ℕ → List ℕ → Option Change
seeing_if mailbox [] = None
seeing_if mailbox (uid ∷ uids) = Some (seeing mailbox (uid ∷ uids))

abbrev pub seen_unless : List ℕ → Option changes.Refusal → List ℕ
seen_unless uids None = uids
seen_unless uids (Some refusal) = []

-- The messages that the command makes seen, in one change: all of those that weren't, where it asks for what marks them, in a mailbox
-- that SELECT selected. Where that change is refused, it is made for none, and all is told nevertheless.
abbrev pub newly_seen : World → Selection → List FetchItem → List ℕ → List ℕ
newly_seen world selection items uids =
    if selection.read_write && list_any marks_seen items
    then seen_unless (unseen_among world selection.mailbox uids) (refused world (seeing selection.mailbox (unseen_among world selection.mailbox uids)))
    else []

-- ---- the command

abbrev pub fetch_name : Bool → List ℕ
fetch_name true = codes "UID FETCH"
fetch_name false = codes "FETCH"

-- The last line. A message that is gone is passed over where messages are named by UID, and told of where they are by number.
abbrev pub fetch_line : List ℕ → Bool → Bool → List ℕ
fetch_line tag by_uid gone = if gone && not by_uid then no_line tag ExpungeIssued else ok_line tag [] (fetch_name by_uid)

-- The messages of some UIDs are told of, once some of them are made seen.
abbrev pub served : Shared → List ℕ → Selection → Bool → List FetchItem → List ℕ → List ℕ → Stepped
served shared tag selection by_uid items uids seen = record {
  change = seeing_if selection.mailbox seen;
  answer = fetched (changed shared.world (seeing_if selection.mailbox seen)) selection by_uid items seen uids ++ fetch_line tag by_uid (some_gone shared.world selection.mailbox uids);
  parts = shared.parts;
  closes = false;
  next = AwaitsCommand;
}

-- FETCH or UID FETCH of the messages of the view that a set selects.
unfoldable pub fetch : Shared → List ℕ → Selection → Bool → List (Option ℕ × Option ℕ) → List FetchItem → Stepped
fetch shared tag selection by_uid ranges items =
    let uids = resolved selection.view.uids ranges by_uid in
    served shared tag selection by_uid items uids (newly_seen shared.world selection items uids)
