-- A mailbox that is selected (RFC 3501 §6.3.1, §6.3.2).
use Rattle.std.specs.Prelude.{ℕ, ◌+◌, ◌==◌, Bool, true, false, List, [], ◌++◌, Option, Some, None, codes, length, if◌then◌else◌}
use Rattle.session_units.specs.declared.forms.Awaits.TheVariants.{Command as AwaitsCommand}
use Rattle.imap_writer.specs.declared.refusals.Refusal.TheVariants.{Absent}
use Rattle.imap_writer.specs.Tagged.{ok_line, no_line}
use Rattle.imap_writer.specs.Lines.{exists_line, recent_line, flags_line, unseen_line, permanent_line, uidnext_line, uidvalidity_line}
use Rattle.session_view.specs.declared.sessions.Selection.{Selection}
use Rattle.session_view.specs.declared.sessions.State.TheVariants.{Known, Selected}
use Rattle.session_view.specs.Parts.{with_state}
use Rattle.mail_world.specs.Names.{mailbox_name}
use Rattle.mail_world.specs.Worlds.{Mailbox, mailbox_named}
use Rattle.mail_world.specs.Summaries.{uids_of, recent_of, first_unseen, flags_in}
use Rattle.mail_world.specs.Changes.{Change, TakeRecents}
use Rattle.imap_steps.specs.Stepping.{Shared, Stepped, turned}

abbrev pub unseen_told : Option ℕ → List ℕ
unseen_told None = []
unseen_told (Some place) = unseen_line (place + 1)

-- The lines that tell of a mailbox before it is selected for reading and writing, or for reading alone.
unfoldable pub mailbox_told : Bool → Mailbox → List ℕ
mailbox_told read_write mailbox =
    exists_line (length mailbox.entries)
    ++ (recent_line (length (recent_of mailbox))
    ++ (flags_line (flags_in mailbox.entries)
    ++ (unseen_told (first_unseen mailbox.entries)
    ++ (permanent_line (flags_in mailbox.entries) read_write
    ++ (uidnext_line mailbox.head.uidnext
    ++ uidvalidity_line mailbox.head.id)))))

abbrev pub access_code : Bool → List ℕ
access_code true = codes "READ-WRITE"
access_code false = codes "READ-ONLY"

abbrev pub select_name : Bool → List ℕ
select_name true = codes "SELECT"
select_name false = codes "EXAMINE"

abbrev pub selection_of : Bool → Mailbox → Selection
selection_of read_write mailbox =
    record { mailbox = mailbox.head.id; read_write = read_write; view = record { uids = uids_of mailbox.entries; recent = recent_of mailbox } }

-- A session that selects a mailbox for reading and writing takes its recent messages: no later one is told of them as recent. Where
-- no UID was given since they were last taken, nothing changes.
abbrev pub recents_change : Bool → Mailbox → Option Change
recents_change false mailbox = None
recents_change true mailbox = if mailbox.head.first_recent == mailbox.head.uidnext then None else Some (TakeRecents mailbox.head.id)

-- Where no mailbox has the name, none is selected any more.
abbrev pub selected_if : Shared → ℕ → ℕ → List ℕ → Bool → Option Mailbox → Stepped
selected_if shared number user tag read_write None = turned shared number (Known user) (no_line tag Absent)
selected_if shared number user tag read_write (Some mailbox) =
    record {
      change = recents_change read_write mailbox;
      answer = mailbox_told read_write mailbox ++ ok_line tag (access_code read_write) (select_name read_write);
      parts = with_state number (Selected user (selection_of read_write mailbox)) shared.parts;
      closes = false;
      next = AwaitsCommand;
    }

-- SELECT, or EXAMINE, of a user's mailbox
unfoldable pub select : Shared → ℕ → ℕ → List ℕ → List ℕ → Bool → Stepped
select shared number user tag name read_write =
    selected_if shared number user tag read_write (mailbox_named user (mailbox_name name) shared.world.mailboxes)
