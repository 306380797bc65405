-- Flags that are stored, messages that are expunged, and recent ones that a session takes (RFC 3501 §6.4.6, §6.4.3, §6.3.1).
use Rattle.std.specs.Prelude.{ℕ, ◌+◌, ◌&&◌, ◌||◌, Bool, not, nat_le, nat_lt, if◌then◌else◌, List, [], ◌∷◌, ◌++◌, length, map, filter, Option, None}
use Rattle.std.specs.List.{list_any}
use Rattle.imap_grammar.specs.declared.flags.Flag.{Flag}
use Rattle.imap_grammar.specs.declared.flags.FlagChange.{FlagChange}
use Rattle.mail_world.specs.Flags.{same_flags, stored_flags}
use Rattle.mail_world.specs.Worlds.{World, Mailbox, Entry, Gone, is_among, has_id}
use Rattle.mail_world.specs.Limits.{most_flags, last_modseq}
use Rattle.mail_world.specs.Changes.{Refusal, Full, first_refusal}
use Rattle.mail_world.specs.Arrivals.{with_changed, refused_by}

-- a mailbox in which something changed
abbrev pub with_next_modseq : Mailbox → Mailbox
with_next_modseq mailbox = record mailbox { head = record mailbox.head { highest = mailbox.head.highest + 1 } }

abbrev pub new_flags : FlagChange → List Flag → Entry → List Flag
new_flags how named entry = stored_flags how named entry.message.flags

-- whether a message is one of those of the UIDs, and its flags change
abbrev pub is_changed : List ℕ → FlagChange → List Flag → Entry → Bool
is_changed uids how named entry = is_among entry.uid uids && not (same_flags entry.message.flags (new_flags how named entry))

-- such a message, with its new flags
abbrev pub with_flags : FlagChange → List Flag → ℕ → Entry → Entry
with_flags how named modseq entry = record { uid = entry.uid; modseq = modseq; message = record entry.message { flags = new_flags how named entry } }

-- Only messages whose flags change take the new mod-sequence.
abbrev pub with_stored : List ℕ → FlagChange → List Flag → Mailbox → Mailbox
with_stored uids how named mailbox =
    if list_any (is_changed uids how named) mailbox.entries
    then record (with_next_modseq mailbox) {
      entries = map (λ entry. if is_changed uids how named entry then with_flags how named (mailbox.head.highest + 1) entry else entry) mailbox.entries;
    }
    else mailbox

abbrev pub has_too_many : List ℕ → FlagChange → List Flag → Entry → Bool
has_too_many uids how named entry = is_among entry.uid uids && nat_lt most_flags (length (new_flags how named entry))

abbrev pub store_refused : World → ℕ → List ℕ → FlagChange → List Flag → Option Refusal
store_refused world id uids how named =
    refused_by world id (λ mailbox.
    first_refusal ((
      list_any (has_too_many uids how named) mailbox.entries
          || (list_any (is_changed uids how named) mailbox.entries && nat_le last_modseq mailbox.head.highest),
      Full,
    ) ∷ []))

abbrev pub stored : World → ℕ → List ℕ → FlagChange → List Flag → World
stored world id uids how named = with_changed (has_id id) (with_stored uids how named) world

-- a gone message at its place among others
abbrev pub with_gone : Gone → List Gone → List Gone
with_gone pair gone = filter (λ other. nat_lt other.uid pair.uid) gone ++ pair ∷ filter (λ other. not (nat_lt other.uid pair.uid)) gone

-- messages as gone ones, with the mod-sequence of that
abbrev pub with_all_gone : ℕ → List Entry → List Gone → List Gone
with_all_gone modseq [] gone = gone
with_all_gone modseq (entry ∷ entries) gone = with_gone (record { uid = entry.uid; modseq = modseq }) (with_all_gone modseq entries gone)

-- A mailbox without the messages of some UIDs, which are kept as gone ones for as long as the mailbox lives (RFC 5162 §3.2).
abbrev pub without_messages : (ℕ → Bool) → Mailbox → Mailbox
without_messages which mailbox =
    if list_any (λ entry. which entry.uid) mailbox.entries
    then record (with_next_modseq mailbox) {
      entries = filter (λ entry. not (which entry.uid)) mailbox.entries;
      gone = with_all_gone (mailbox.head.highest + 1) (filter (λ entry. which entry.uid) mailbox.entries) mailbox.gone;
    }
    else mailbox

abbrev pub expunge_refused : World → ℕ → List ℕ → Option Refusal
expunge_refused world id uids =
    refused_by world id (λ mailbox.
    first_refusal ((list_any (λ entry. is_among entry.uid uids) mailbox.entries && nat_le last_modseq mailbox.head.highest, Full) ∷ []))

abbrev pub expunged : World → ℕ → List ℕ → World
expunged world id uids = with_changed (has_id id) (without_messages (λ uid. is_among uid uids)) world

-- No later session is told of the messages of now as recent (RFC 3501 §2.3.2).
abbrev pub without_recents : Mailbox → Mailbox
without_recents mailbox = record mailbox { head = record mailbox.head { first_recent = mailbox.head.uidnext } }

abbrev pub recents_refused : World → ℕ → Option Refusal
recents_refused world id = refused_by world id (λ mailbox. None)

abbrev pub recents_taken : World → ℕ → World
recents_taken world id = with_changed (has_id id) without_recents world
