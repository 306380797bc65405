-- Worked examples: what FETCH is answered in a mailbox of two messages.
use Rattle.std.specs.Fmt.{digits}
use Rattle.std.specs.Prelude.{ℕ, ◌≡◌, pos, Bool, false, true, List, [], ◌∷◌, Option, Some, None, codes, refl}
use Rattle.mime_tree.specs.declared.reasons.Mail.{Mail}
use Rattle.mime_tree.specs.declared.trees.Encoding.TheVariants.{Plain}
use Rattle.mime_tree.specs.Trees.Tree.{node}
use Rattle.mime_tree.specs.Trees.Content.{leaf}
use Rattle.mime_reader.specs.Wrapping.{text_field}
use Rattle.mime_reader.specs.Arrival.{day_in_years}
use Rattle.imap_grammar.specs.Classes.{is_atom_byte}
use Rattle.imap_grammar.specs.declared.flags.Flag.{Flag}
use Rattle.imap_grammar.specs.declared.flags.Flag.TheVariants.{Flagged, Seen, Keyword}
use Rattle.imap_grammar.specs.declared.flags.FlagChange.TheVariants.{Add}
use Rattle.imap_grammar.specs.declared.items.FetchItem.{FetchItem}
use Rattle.imap_grammar.specs.declared.items.FetchItem.TheVariants as item
use Rattle.imap_grammar.specs.declared.items.SectionPart.{SectionPart}
use Rattle.imap_grammar.specs.declared.items.SectionPart.TheVariants as part
use Rattle.imap_writer.specs.Tagged.{ok_line, no_line}
use Rattle.imap_writer.specs.Texts.{text_of}
use Rattle.imap_writer.specs.Flags.{flag_list_of}
use Rattle.envelope_view.specs.Sections.{section_of}
use Rattle.fetch_writer.specs.Names.{field_name, item_name}
use Rattle.fetch_writer.specs.Asked.{distinct_items, told_items}
use Rattle.fetch_writer.specs.InternalDates.{day_of, internal_text}
use Rattle.fetch_writer.specs.Items.{item_text, items_line}
use Rattle.session_view.specs.declared.sessions.Selection.{Selection}
use Rattle.mail_world.specs.Names.{inbox}
use Rattle.mail_world.specs.Worlds.{Entry}
use Rattle.mail_world.specs.Changes.{StoreFlags}
use Rattle.mail_world.specs.Applying.{apply, refused}
use Rattle.imap_steps.specs.Stepping.{Shared, Stepped, applied}
use Rattle.imap_steps.specs.Fetching.{fetch, fetched}

-- a message of a field and a body
abbrev mail : Mail
mail = record { message = node (text_field (codes "A") (codes "b") ∷ []) (leaf Plain (codes "c")); reason = None }

abbrev entry_of : ℕ → List Flag → Entry
entry_of uid flags = record { uid = uid; modseq = uid; message = record { flags = flags; date = record { seconds = pos 1_057_049_557; zone = pos 120 }; mail = mail } }

-- an INBOX with the messages of UIDs 3 and 5, whose highest mod-sequence is this
abbrev shared_at : ℕ → Shared
shared_at highest = record {
  world = record {
    users = [];
    mailboxes = record {
      head = record { id = 1; owner = 1; name = inbox; uidnext = 6; first_recent = 6; highest = highest };
      entries = entry_of 3 (Seen ∷ []) ∷ entry_of 5 (Keyword (codes "later") ∷ Flagged ∷ []) ∷ [];
      gone = [];
    } ∷ [];
    subscriptions = [];
    next = 2;
  };
  parts = [];
}

-- a session that holds the message of UID 5 as recent, and was told of that of UID 4, which is gone
abbrev selection_of : Bool → Selection
selection_of read_write = record { mailbox = 1; read_write = read_write; view = record { uids = 3 ∷ 4 ∷ 5 ∷ []; recent = 5 ∷ [] } }

abbrev asked : Bool → Bool → ℕ → ℕ → List FetchItem → Stepped
asked read_write by_uid low high items = fetch (shared_at 7) (codes "a") (selection_of read_write) by_uid ((Some low, Some high) ∷ []) items

abbrev bytes_of : List ℕ → SectionPart → Bool → Option (ℕ × ℕ) → FetchItem
bytes_of path part peek bounds = item.Part (record { path = path; part = part }) peek bounds

-- BODY.PEEK[]<0.3>
peeked : ((asked true false 3 3 (bytes_of [] part.Whole true (Some (0, 3)) ∷ [])).answer ≡ codes "* 3 FETCH (BODY[]<0> {3}\r\nA: )\r\na OK FETCH completed\r\n")
    × ((asked true false 3 3 (bytes_of [] part.Whole true (Some (0, 3)) ∷ [])).change ≡ None)
unfolding fetch fetched items_line told_items distinct_items item_text item_name section_of ok_line digits
peeked = (refl, refl)

-- The UID stands first in UID FETCH, and once in any case.
by_uid : ((asked true true 4 9 (item.Rfc822Size ∷ [])).answer ≡ codes "* 3 FETCH (UID 5 RFC822.SIZE 9)\r\na OK UID FETCH completed\r\n")
    × ((asked true true 3 3 (item.Flags ∷ item.Uid ∷ item.Flags ∷ item.Uid ∷ [])).answer ≡ codes "* 1 FETCH (FLAGS (\\Seen) UID 3)\r\na OK UID FETCH completed\r\n")
unfolding fetch fetched items_line told_items distinct_items item_text item_name flag_list_of ok_line digits
by_uid = (refl, refl)

-- RFC822.TEXT marks a message as seen. The flags follow where they changed.
marked : ((asked true false 1 1 (item.Rfc822Text ∷ [])).answer ≡ codes "* 1 FETCH (RFC822.TEXT {1}\r\nc)\r\na OK FETCH completed\r\n")
    × ((asked true false 1 1 (item.Rfc822Text ∷ [])).change ≡ None)
    × ((asked true true 1 9 (item.Rfc822Text ∷ [])).answer
    ≡ codes "* 1 FETCH (UID 3 RFC822.TEXT {1}\r\nc)\r\n* 3 FETCH (UID 5 RFC822.TEXT {1}\r\nc FLAGS (\\Flagged \\Seen later \\Recent))\r\na OK UID FETCH completed\r\n")
    × ((asked true true 1 9 (item.Rfc822Text ∷ [])).change ≡ Some (StoreFlags 1 (5 ∷ []) Add (Seen ∷ [])))
unfolding fetch fetched applied apply refused items_line told_items distinct_items item_text item_name section_of flag_list_of ok_line digits
marked = (refl, refl, refl, refl)

-- Where they were asked for they stand in their place, with the new ones among them.
in_place : (asked true false 3 3 (item.Flags ∷ item.Rfc822Text ∷ [])).answer
    ≡ codes "* 3 FETCH (FLAGS (\\Flagged \\Seen later \\Recent) RFC822.TEXT {1}\r\nc)\r\na OK FETCH completed\r\n"
unfolding fetch fetched applied apply refused items_line told_items distinct_items item_text item_name section_of flag_list_of ok_line digits
in_place = refl

-- EXAMINE marks nothing. By number a message that is gone is told of, and the others are served.
examined : ((asked false false 2 3 (item.Rfc822Text ∷ [])).answer ≡ codes "* 3 FETCH (RFC822.TEXT {1}\r\nc)\r\na NO [EXPUNGEISSUED] some messages are gone\r\n")
    × ((asked false false 2 3 (item.Rfc822Text ∷ [])).change ≡ None)
unfolding fetch fetched items_line told_items distinct_items item_text item_name section_of no_line digits
examined = (refl, refl)

-- Bytes that are read and bytes that are peeked at are two items.
two_items : (asked false false 1 1 (bytes_of (1 ∷ []) part.Whole false None ∷ bytes_of (1 ∷ []) part.Whole true None ∷ [])).answer
    ≡ codes "* 1 FETCH (BODY[1] {1}\r\nc BODY[1] {1}\r\nc)\r\na OK FETCH completed\r\n"
unfolding fetch fetched items_line told_items distinct_items item_text item_name section_of ok_line digits
two_items = refl

-- Where no mod-sequence is left nothing is marked, and all is told nevertheless.
full : ((fetch (shared_at 18_446_744_073_709_551_614) (codes "a") (selection_of true) false ((Some 3, Some 3) ∷ []) (item.Rfc822Text ∷ [])).answer
    ≡ codes "* 3 FETCH (RFC822.TEXT {1}\r\nc)\r\na OK FETCH completed\r\n")
    × ((fetch (shared_at 18_446_744_073_709_551_614) (codes "a") (selection_of true) false ((Some 3, Some 3) ∷ []) (item.Rfc822Text ∷ [])).change ≡ None)
unfolding fetch fetched applied apply refused items_line told_items distinct_items item_text item_name section_of ok_line digits
full = (refl, refl)

-- The fields of a section by their names, one of which is no atom; a part that there isn't; the internal date.
named : (asked true false 1 1 (bytes_of [] (part.Fields (codes "a" ∷ codes "x y" ∷ []) false) true None ∷ bytes_of (2 ∷ []) part.Mime true None ∷ item.InternalDate ∷ [])).answer
    ≡ codes "* 1 FETCH (BODY[HEADER.FIELDS (a \"x y\")] {8}\r\nA: b\r\n\r\n BODY[2.MIME] NIL INTERNALDATE \"01-Jul-2003 10:52:37 +0200\")\r\na OK FETCH completed\r\n"
unfolding fetch fetched items_line told_items distinct_items item_text item_name field_name is_atom_byte text_of section_of day_of day_in_years internal_text ok_line digits
named = refl
