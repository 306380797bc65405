-- Worked examples: what commands are answered in a store of one user.
use Rattle.std.specs.Fmt.{digits}
use Rattle.std.specs.Prelude.{ℕ, ◌≡◌, pos, List, [], ◌∷◌, Some, None, Ok, false, true, codes, refl}
use Rattle.mime_tree.specs.declared.reasons.Mail.{Mail}
use Rattle.imap_grammar.specs.Classes.{is_atom_byte}
use Rattle.imap_grammar.specs.declared.flags.Flag.{Flag}
use Rattle.imap_grammar.specs.declared.flags.Flag.TheVariants.{Flagged, Seen, Keyword}
use Rattle.imap_grammar.specs.declared.commands.Command.{Command}
use Rattle.imap_grammar.specs.declared.commands.Command.TheVariants.{Check, Close, Login, Select, Create, List as ListNames, Append, Noop, Delete, Subscribe, Unsubscribe, Status, Rename}
use Rattle.imap_writer.specs.Tagged.{ok_line, no_line}
use Rattle.imap_writer.specs.Flags.{flag_list_of}
use Rattle.imap_writer.specs.Texts.{text_of}
use Rattle.imap_writer.specs.Lines.{list_line, exists_line, recent_line, flags_line, unseen_line, permanent_line, uidnext_line, uidvalidity_line}
use Rattle.imap_grammar.specs.declared.items.StatusItem.TheVariants.{Messages, Recent, Uidnext, Uidvalidity, Unseen, Highest}
use Rattle.imap_writer.specs.Statuses.{status_line}
use Rattle.transfer_codec.specs.Base64.{decoded, letters, bits}
use Rattle.session_view.specs.declared.sessions.State.{State}
use Rattle.session_view.specs.declared.sessions.State.TheVariants.{Fresh, Known, Selected}
use Rattle.session_view.specs.Parts.{state_of}
use Rattle.mailbox_names.specs.Patterns.{matches}
use Rattle.mailbox_names.specs.Listing.{listed}
use Rattle.mail_world.specs.Names.{inbox, is_mailbox_name, created_name}
use Rattle.mail_world.specs.Worlds.{Mailbox, Entry}
use Rattle.mail_world.specs.Users.{new_mailbox}
use Rattle.mail_world.specs.Changes.{Create as Creates, Delete as Deletes, Subscribe as Subscribes, Unsubscribe as Unsubscribes, TakeRecents, Rename as Renames}
use Rattle.mail_world.specs.Applying.{refused}
use Rattle.imap_steps.specs.Stepping.{Shared, Stepped}
use Rattle.imap_steps.specs.LoggingIn.{credentials}
use Rattle.imap_steps.specs.Selecting.{select, mailbox_told}
use Rattle.imap_steps.specs.Appending.{create, append, unfit}
use Rattle.imap_steps.specs.Listing.{list}
use Rattle.imap_steps.specs.Managing.{delete, subscribe, unsubscribe}
use Rattle.imap_steps.specs.Status.{status}
use Rattle.imap_steps.specs.Renaming.{rename}
use Rattle.imap_steps.specs.Executing.{executed}

-- alice, whose id is 1, with this INBOX, and one session of a state
abbrev store_of : List ℕ → Mailbox → State → Shared
store_of verifier mailbox state = record {
  world = record { users = record { id = 1; name = codes "alice"; verifier = verifier } ∷ []; mailboxes = mailbox ∷ []; subscriptions = []; next = 2 };
  parts = record { number = 1; state = state } ∷ [];
}

abbrev empty_inbox : Mailbox
empty_inbox = new_mailbox 1 1 inbox

abbrev asked : Shared → Command → Stepped
asked shared command = executed shared 1 (Ok (record { tag = codes "a"; command = command })) 0

abbrev selects : List ℕ → Command
selects name = Select name false false None

-- INBOX is named in any case. Nothing is recent, so nothing changes.
selected : (verifier : List ℕ)
    → ((asked (store_of verifier empty_inbox (Known 1)) (selects (codes "inbox"))).answer
    ≡ codes "* 0 EXISTS\r\n* 0 RECENT\r\n* FLAGS (\\Answered \\Flagged \\Deleted \\Seen \\Draft)\r\n* OK [PERMANENTFLAGS (\\Answered \\Flagged \\Deleted \\Seen \\Draft \\*)] kept\r\n* OK [UIDNEXT 1] next\r\n* OK [UIDVALIDITY 1] valid\r\na OK [READ-WRITE] SELECT completed\r\n")
    × ((asked (store_of verifier empty_inbox (Known 1)) (selects (codes "inbox"))).change ≡ None)
unfolding select mailbox_told exists_line recent_line flags_line flag_list_of permanent_line uidnext_line uidvalidity_line ok_line digits
selected verifier = (refl, refl)

abbrev entry_of : ℕ → List Flag → Mail → Entry
entry_of uid flags mail = record { uid = uid; modseq = uid; message = record { flags = flags; date = record { seconds = pos 0; zone = pos 0 }; mail = mail } }

-- two messages, of which one is seen and the other is recent
abbrev full_inbox : Mail → Mailbox
full_inbox mail = record {
  head = record { id = 1; owner = 1; name = inbox; uidnext = 6; first_recent = 5; highest = 7 };
  entries = entry_of 3 (Seen ∷ Keyword (codes "work") ∷ []) mail ∷ entry_of 5 (Keyword (codes "later") ∷ Flagged ∷ Keyword (codes "work") ∷ []) mail ∷ [];
  gone = [];
}

examined : (verifier : List ℕ) (mail : Mail)
    → ((asked (store_of verifier (full_inbox mail) (Known 1)) (Select (codes "INBOX") true false None)).answer
    ≡ codes "* 2 EXISTS\r\n* 1 RECENT\r\n* FLAGS (\\Answered \\Flagged \\Deleted \\Seen \\Draft later work)\r\n* OK [UNSEEN 2] first unseen\r\n* OK [PERMANENTFLAGS ()] kept\r\n* OK [UIDNEXT 6] next\r\n* OK [UIDVALIDITY 1] valid\r\na OK [READ-ONLY] EXAMINE completed\r\n")
    × ((asked (store_of verifier (full_inbox mail) (Known 1)) (Select (codes "INBOX") true false None)).change ≡ None)
unfolding select mailbox_told exists_line recent_line flags_line flag_list_of unseen_line permanent_line uidnext_line uidvalidity_line ok_line digits
examined verifier mail = (refl, refl)

-- Who selects for reading and writing takes what is recent, and holds it in view.
taken : (verifier : List ℕ) (mail : Mail)
    → ((asked (store_of verifier (full_inbox mail) (Known 1)) (selects inbox)).change ≡ Some (TakeRecents 1))
    × (state_of 1 (asked (store_of verifier (full_inbox mail) (Known 1)) (selects inbox)).parts
    ≡ Selected 1 (record { mailbox = 1; read_write = true; view = record { uids = 3 ∷ 5 ∷ []; recent = 5 ∷ [] } }))
unfolding select
taken verifier mail = (refl, refl)

-- A mailbox that isn't there leaves none selected.
none_selected : (verifier : List ℕ) (selection : _)
    → ((asked (store_of verifier empty_inbox (Selected 1 selection)) (selects (codes "none"))).answer ≡ codes "a NO [NONEXISTENT] no such mailbox\r\n")
    × (state_of 1 (asked (store_of verifier empty_inbox (Selected 1 selection)) (selects (codes "none"))).parts ≡ Known 1)
unfolding select no_line
none_selected verifier selection = (refl, refl)

states : (verifier : List ℕ)
    → ((asked (store_of verifier empty_inbox Fresh) (selects inbox)).answer ≡ codes "a BAD state\r\n")
    × ((asked (store_of verifier empty_inbox (Known 1)) (Login (codes "alice") (codes "pw"))).answer ≡ codes "a BAD state\r\n")
    × ((asked (store_of verifier empty_inbox (Known 1)) Check).answer ≡ codes "a BAD state\r\n")
    × ((asked (store_of verifier empty_inbox (Known 1)) Close).answer ≡ codes "a BAD syntax\r\n")
    × ((asked (store_of verifier empty_inbox Fresh) Noop).answer ≡ codes "a OK NOOP completed\r\n")
unfolding no_line ok_line
states verifier = (refl, refl, refl, refl, refl)

created : (verifier : List ℕ)
    → ((asked (store_of verifier empty_inbox (Known 1)) (Create (codes "inbox"))).answer ≡ codes "a NO [ALREADYEXISTS] mailbox exists\r\n")
    × ((asked (store_of verifier empty_inbox (Known 1)) (Create (codes "a//b"))).answer ≡ codes "a NO [CANNOT] bad name\r\n")
    × ((asked (store_of verifier empty_inbox (Known 1)) (Create (codes "work/"))).answer ≡ codes "a OK CREATE completed\r\n")
    × ((asked (store_of verifier empty_inbox (Known 1)) (Create (codes "work/"))).change ≡ Some (Creates 1 (codes "work/")))
unfolding create refused created_name is_mailbox_name no_line ok_line
created verifier = (refl, refl, refl, refl)

-- alice, who has INBOX and `a/b`, and is subscribed to `b/c` and `inbox/d`, whose mailboxes are gone
abbrev of_names : List ℕ → Shared
of_names verifier = record {
  world = record {
    users = record { id = 1; name = codes "alice"; verifier = verifier } ∷ [];
    mailboxes = empty_inbox ∷ new_mailbox 2 1 (codes "a/b") ∷ [];
    subscriptions = record { owner = 1; name = codes "b/c" } ∷ record { owner = 1; name = codes "inbox/d" } ∷ [];
    next = 3;
  };
  parts = record { number = 1; state = Known 1 } ∷ [];
}

-- An empty name asks for the separator, whatever the reference.
listed_names : (verifier : List ℕ)
    → ((asked (of_names verifier) (ListNames [] (codes "%") false)).answer ≡ codes "* LIST () \"/\" \"INBOX\"\r\n* LIST (\\Noselect) \"/\" \"a\"\r\na OK LIST completed\r\n")
    × ((asked (of_names verifier) (ListNames [] (codes "*") false)).answer ≡ codes "* LIST () \"/\" \"INBOX\"\r\n* LIST () \"/\" \"a/b\"\r\na OK LIST completed\r\n")
    × ((asked (of_names verifier) (ListNames (codes "a/") (codes "%") false)).answer ≡ codes "* LIST () \"/\" \"a/b\"\r\na OK LIST completed\r\n")
    × ((asked (of_names verifier) (ListNames (codes "a") [] false)).answer ≡ codes "* LIST (\\Noselect) \"/\" \"\"\r\na OK LIST completed\r\n")
    × ((asked (of_names verifier) (ListNames [] (codes "%") true)).answer ≡ codes "* LSUB (\\Noselect) \"/\" \"INBOX\"\r\n* LSUB (\\Noselect) \"/\" \"b\"\r\na OK LSUB completed\r\n")
    × ((asked (of_names verifier) (ListNames (codes "b") (codes "*") true)).answer ≡ codes "* LSUB () \"/\" \"b/c\"\r\na OK LSUB completed\r\n")
unfolding list listed matches list_line text_of ok_line
listed_names verifier = (refl, refl, refl, refl, refl, refl)

-- alice with INBOX and `work`, which she subscribes, and two sessions, of which the second has a state
abbrev two_mailboxes : List ℕ → State → Shared
two_mailboxes verifier state = record {
  world = record {
    users = record { id = 1; name = codes "alice"; verifier = verifier } ∷ [];
    mailboxes = empty_inbox ∷ new_mailbox 2 1 (codes "work") ∷ [];
    subscriptions = record { owner = 1; name = codes "work" } ∷ [];
    next = 3;
  };
  parts = record { number = 1; state = Known 1 } ∷ record { number = 2; state = state } ∷ [];
}

abbrev has_selected : ℕ → State
has_selected mailbox = Selected 1 (record { mailbox = mailbox; read_write = false; view = record { uids = []; recent = [] } })

-- A mailbox that a session has selected isn't deleted, and INBOX never is. Where a session has another one selected, it is.
deleted : (verifier : List ℕ)
    → ((asked (two_mailboxes verifier (has_selected 2)) (Delete (codes "work"))).answer ≡ codes "a NO [INUSE] mailbox in use\r\n")
    × ((asked (two_mailboxes verifier (has_selected 2)) (Delete (codes "work"))).change ≡ None)
    × ((asked (two_mailboxes verifier (has_selected 1)) (Delete (codes "work"))).answer ≡ codes "a OK DELETE completed\r\n")
    × ((asked (two_mailboxes verifier (has_selected 1)) (Delete (codes "work"))).change ≡ Some (Deletes 1 (codes "work") (1 ∷ [])))
    × ((asked (two_mailboxes verifier Fresh) (Delete (codes "inbox"))).answer ≡ codes "a NO [CANNOT] bad name\r\n")
    × ((asked (two_mailboxes verifier Fresh) (Delete (codes "play"))).answer ≡ codes "a NO [NONEXISTENT] no such mailbox\r\n")
unfolding delete refused is_mailbox_name no_line ok_line
deleted verifier = (refl, refl, refl, refl, refl, refl)

-- Only a mailbox is subscribed, and only what is subscribed is unsubscribed.
subscribed : (verifier : List ℕ)
    → ((asked (two_mailboxes verifier Fresh) (Subscribe (codes "play"))).answer ≡ codes "a NO [NONEXISTENT] no such mailbox\r\n")
    × ((asked (two_mailboxes verifier Fresh) (Subscribe (codes "Inbox"))).change ≡ Some (Subscribes 1 (codes "Inbox")))
    × ((asked (two_mailboxes verifier Fresh) (Subscribe (codes "work"))).answer ≡ codes "a OK SUBSCRIBE completed\r\n")
    × ((asked (two_mailboxes verifier Fresh) (Unsubscribe inbox)).answer ≡ codes "a NO [NONEXISTENT] no such mailbox\r\n")
    × ((asked (two_mailboxes verifier Fresh) (Unsubscribe (codes "work"))).change ≡ Some (Unsubscribes 1 (codes "work")))
    × ((asked (two_mailboxes verifier Fresh) (Unsubscribe (codes "work/"))).answer ≡ codes "a NO [CANNOT] bad name\r\n")
unfolding subscribe unsubscribe refused is_mailbox_name no_line ok_line
subscribed verifier = (refl, refl, refl, refl, refl, refl)

-- The items are told as they were asked. Nothing is taken.
told : (verifier : List ℕ) (mail : Mail)
    → ((asked (store_of verifier (full_inbox mail) (Known 1)) (Status (codes "inbox") (Unseen ∷ Messages ∷ Recent ∷ Uidvalidity ∷ Uidnext ∷ Messages ∷ []))).answer
    ≡ codes "* STATUS \"INBOX\" (UNSEEN 1 MESSAGES 2 RECENT 1 UIDVALIDITY 1 UIDNEXT 6 MESSAGES 2)\r\na OK STATUS completed\r\n")
    × ((asked (store_of verifier (full_inbox mail) (Known 1)) (Status (codes "inbox") (Recent ∷ []))).change ≡ None)
    × ((asked (store_of verifier (full_inbox mail) (Known 1)) (Status (codes "work") (Messages ∷ []))).answer ≡ codes "a NO [NONEXISTENT] no such mailbox\r\n")
    × ((asked (store_of verifier (full_inbox mail) (Known 1)) (Status inbox (Messages ∷ Highest ∷ []))).answer ≡ codes "a BAD syntax\r\n")
unfolding status status_line text_of ok_line no_line digits
told verifier mail = (refl, refl, refl, refl)

-- The new name is looked at first. INBOX is written in any case, and hands its messages to a new mailbox.
renamed : (verifier : List ℕ)
    → ((asked (store_of verifier empty_inbox (Known 1)) (Rename (codes "none") (codes "a//b"))).answer ≡ codes "a NO [CANNOT] bad name\r\n")
    × ((asked (store_of verifier empty_inbox (Known 1)) (Rename (codes "none") (codes "work"))).answer ≡ codes "a NO [NONEXISTENT] no such mailbox\r\n")
    × ((asked (store_of verifier empty_inbox Fresh) (Rename (codes "none") (codes "work"))).answer ≡ codes "a BAD state\r\n")
    × ((asked (store_of verifier empty_inbox (Known 1)) (Rename (codes "Inbox") (codes "work"))).answer ≡ codes "a OK RENAME completed\r\n")
    × ((asked (store_of verifier empty_inbox (Known 1)) (Rename (codes "Inbox") (codes "work"))).change ≡ Some (Renames 1 (codes "Inbox") (codes "work")))
    × ((asked (store_of verifier empty_inbox (Known 1)) (Rename inbox (codes "Inbox"))).answer ≡ codes "a NO [ALREADYEXISTS] mailbox exists\r\n")
    × ((asked (store_of verifier (new_mailbox 1 1 (codes "work")) (Known 1)) (Rename (codes "work") (codes "work"))).answer ≡ codes "a NO [ALREADYEXISTS] mailbox exists\r\n")
    × ((asked (store_of verifier (new_mailbox 1 1 (codes "work")) (Known 1)) (Rename (codes "work") (codes "play"))).answer ≡ codes "a OK RENAME completed\r\n")
    × ((asked (store_of verifier (new_mailbox 1 1 (codes "work")) (Known 1)) (Rename (codes "work") (codes "play"))).change ≡ Some (Renames 1 (codes "work") (codes "play")))
unfolding rename refused is_mailbox_name no_line ok_line
renamed verifier = (refl, refl, refl, refl, refl, refl, refl, refl, refl)

absent : (verifier : List ℕ)
    → (asked (store_of verifier empty_inbox (Known 1)) (Append (codes "work") (Keyword (codes "later") ∷ Seen ∷ []) None (codes "hi"))).answer
    ≡ codes "a NO [TRYCREATE] no such mailbox\r\n"
unfolding append unfit is_atom_byte no_line
absent verifier = refl

-- No message has a flag with a space in it, or a date without a print, in whichever mailbox.
unfit_appended : (verifier : List ℕ)
    → ((asked (store_of verifier empty_inbox (Known 1)) (Append (codes "work") (Keyword (codes "to do") ∷ []) None (codes "hi"))).answer ≡ codes "a BAD syntax\r\n")
    × ((asked (store_of verifier empty_inbox (Known 1)) (Append inbox [] (Some (record { seconds = pos 0; zone = pos 1440 })) (codes "hi"))).answer ≡ codes "a BAD syntax\r\n")
    × ((asked (store_of verifier empty_inbox (Known 1)) (Append inbox [] (Some (record { seconds = pos 253_402_300_800; zone = pos 0 })) (codes "hi"))).answer ≡ codes "a BAD syntax\r\n")
unfolding append unfit is_atom_byte no_line
unfit_appended verifier = (refl, refl, refl)

-- NUL alice NUL pw; alice NUL alice NUL pw; bob NUL alice NUL pw, which is as somebody else; a cancelled line
plain_lines : (credentials (codes "AGFsaWNlAHB3\r\n") ≡ Some (record { identity = []; name = codes "alice"; password = codes "pw" }))
    × (credentials (codes "YWxpY2UAYWxpY2UAcHc=\r\n") ≡ Some (record { identity = codes "alice"; name = codes "alice"; password = codes "pw" }))
    × (credentials (codes "Ym9iAGFsaWNlAHB3\r\n") ≡ None) × (credentials (codes "*\r\n") ≡ None) × (credentials (codes "\r\n") ≡ None)
unfolding credentials decoded letters bits
plain_lines = (refl, refl, refl, refl, refl)
