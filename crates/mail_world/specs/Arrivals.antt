-- Messages that come into mailboxes: appended, delivered, copied (RFC 3501 §6.3.11, §6.4.7; RFC 2033).
use Rattle.std.specs.Prelude.{ℕ, ◌+◌, ◌==◌, ◌&&◌, ◌||◌, Bool, not, nat_le, nat_lt, if◌then◌else◌, List, [], ◌∷◌, ◌++◌, length, map, filter, Option, Some, None}
use Rattle.date_grammar.specs.declared.parts.Stamp.{Stamp}
use Rattle.imap_grammar.specs.declared.flags.Flag.{Flag}
use Rattle.mime_tree.specs.declared.reasons.Mail.{Mail}
use Rattle.mail_world.specs.Names.{inbox, same_name}
use Rattle.mail_world.specs.Flags.{distinct}
use Rattle.mail_world.specs.Worlds.{World, Mailbox, Entry, Message, mailbox_at, is_among, has_id}
use Rattle.mail_world.specs.Limits.{most_messages, most_flags, last_uid, last_modseq}
use Rattle.mail_world.specs.Changes.{Refusal, Absent, Full, NoUid, first_refusal}

-- the store with some mailboxes changed
abbrev pub with_changed : (Mailbox → Bool) → (Mailbox → Mailbox) → World → World
with_changed which change world = record world { mailboxes = map (λ mailbox. if which mailbox then change mailbox else mailbox) world.mailboxes }

-- what a mailbox refuses, where there is one
abbrev pub unless_absent : Option Mailbox → (Mailbox → Option Refusal) → Option Refusal
unless_absent None reason = Some Absent
unless_absent (Some mailbox) reason = reason mailbox

abbrev pub refused_by : World → ℕ → (Mailbox → Option Refusal) → Option Refusal
refused_by world id reason = unless_absent (mailbox_at id world.mailboxes) reason

-- messages as entries with one mod-sequence, the UIDs from one on
abbrev pub numbered : ℕ → ℕ → List Message → List Entry
numbered uid modseq [] = []
numbered uid modseq (message ∷ messages) = record { uid = uid; modseq = modseq; message = message } ∷ numbered (uid + 1) modseq messages

-- A mailbox with messages that came, in one change. They are recent; where a session has the mailbox selected read-write they are
-- so to this session, and to no later one (RFC 3501 §2.3.2).
abbrev pub with_messages : Bool → List Message → Mailbox → Mailbox
with_messages taken [] mailbox = mailbox
with_messages taken (message ∷ messages) mailbox =
    let uidnext = mailbox.head.uidnext + length (message ∷ messages) in
    let highest = mailbox.head.highest + 1 in
    record {
      head = record mailbox.head { uidnext = uidnext; first_recent = if taken then uidnext else mailbox.head.first_recent; highest = highest };
      entries = mailbox.entries ++ numbered mailbox.head.uidnext highest (message ∷ messages);
      gone = mailbox.gone;
    }

-- whether a mailbox has no room for so many messages
abbrev pub has_no_room : ℕ → Mailbox → Bool
has_no_room count mailbox = nat_lt most_messages (length mailbox.entries + count) || nat_le last_modseq mailbox.head.highest

-- whether a mailbox has fewer UIDs left
abbrev pub has_no_uids : ℕ → Mailbox → Bool
has_no_uids count mailbox = nat_lt (last_uid + 1) (mailbox.head.uidnext + count)

abbrev pub append_refused : World → ℕ → List Flag → Option Refusal
append_refused world id flags =
    refused_by world id (λ mailbox.
    first_refusal ((nat_lt most_flags (length (distinct flags)) || has_no_room 1 mailbox, Full)
    ∷ (has_no_uids 1 mailbox, NoUid) ∷ []))

-- A flag that is named twice counts once.
abbrev pub appended : World → ℕ → List Flag → Stamp → Mail → Bool → World
appended world id flags date mail taken =
    with_changed (has_id id) (with_messages taken (record { flags = distinct flags; date = date; mail = mail } ∷ [])) world

-- A mail comes into the INBOX of each of the users that has room for it, with no flags; a user who is named twice gets it once.
abbrev pub takes_mail : List ℕ → Mailbox → Bool
takes_mail users mailbox = same_name mailbox.head.name inbox && is_among mailbox.head.owner users && not (has_no_room 1 mailbox) && not (has_no_uids 1 mailbox)

abbrev pub delivered : World → List ℕ → Mail → Stamp → List ℕ → World
delivered world users mail date taken =
    with_changed (takes_mail users)
    (λ mailbox. with_messages (is_among mailbox.head.id taken) (record { flags = []; date = date; mail = mail } ∷ []) mailbox) world

-- the messages of a mailbox with some UIDs
abbrev pub messages_at : List ℕ → Mailbox → List Message
messages_at uids mailbox = map (λ entry. entry.message) (filter (λ entry. is_among entry.uid uids) mailbox.entries)

-- the same, none where there is no mailbox
abbrev pub messages_in : List ℕ → Option Mailbox → List Message
messages_in uids None = []
messages_in uids (Some mailbox) = messages_at uids mailbox

abbrev pub copied : World → ℕ → List ℕ → List Message
copied world id uids = messages_in uids (mailbox_at id world.mailboxes)

-- No message can be copied into any mailbox.
abbrev pub copy_refused : World → ℕ → List ℕ → ℕ → Option Refusal
copy_refused world id uids target =
    refused_by world id (λ source. refused_by world target (λ mailbox.
    let count = length (messages_at uids source) in
    first_refusal ((not (count == 0) && has_no_room count mailbox, Full)
    ∷ (not (count == 0) && has_no_uids count mailbox, NoUid) ∷ [])))

-- Flags and internal dates go along.
abbrev pub with_copies : World → ℕ → List ℕ → ℕ → Bool → World
with_copies world id uids target taken = with_changed (has_id target) (with_messages taken (copied world id uids)) world
