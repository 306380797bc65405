-- Worked examples: what STORE is answered in a mailbox of two messages.
use Rattle.std.specs.Fmt.{digits}
use Rattle.std.specs.Prelude.{ℕ, ◌≡◌, pos, Bool, false, true, List, [], ◌∷◌, Some, None, codes, refl}
use Rattle.mime_tree.specs.declared.reasons.Mail.{Mail}
use Rattle.imap_grammar.specs.Classes.{is_atom_byte}
use Rattle.imap_grammar.specs.declared.flags.Flag.{Flag}
use Rattle.imap_grammar.specs.declared.flags.Flag.TheVariants.{Flagged, Seen, Keyword}
use Rattle.imap_grammar.specs.declared.flags.FlagChange.{FlagChange}
use Rattle.imap_grammar.specs.declared.flags.FlagChange.TheVariants.{Set, Add, Remove}
use Rattle.imap_writer.specs.Tagged.{ok_line, no_line}
use Rattle.imap_writer.specs.Flags.{flag_list_of}
use Rattle.session_view.specs.declared.sessions.Selection.{Selection}
use Rattle.mail_world.specs.Names.{inbox}
use Rattle.mail_world.specs.Worlds.{Entry}
use Rattle.mail_world.specs.Changes.{StoreFlags}
use Rattle.mail_world.specs.Applying.{apply, refused}
use Rattle.imap_steps.specs.Stepping.{Shared, Stepped, applied}
use Rattle.imap_steps.specs.Storing.{store, told}

abbrev entry_of : ℕ → List Flag → Mail → Entry
entry_of uid flags mail = record { uid = uid; modseq = uid; message = record { flags = flags; date = record { seconds = pos 0; zone = pos 0 }; mail = mail } }

-- an INBOX with the messages of UIDs 3 and 5
abbrev shared_of : Mail → Shared
shared_of mail = record {
  world = record {
    users = [];
    mailboxes = record {
      head = record { id = 1; owner = 1; name = inbox; uidnext = 6; first_recent = 6; highest = 7 };
      entries = entry_of 3 (Seen ∷ Keyword (codes "work") ∷ []) mail ∷ entry_of 5 (Keyword (codes "later") ∷ Flagged ∷ Keyword (codes "work") ∷ []) mail ∷ [];
      gone = [];
    } ∷ [];
    subscriptions = [];
    next = 2;
  };
  parts = [];
}

-- a session that holds the message of UID 5 as recent, and was told of that of UID 4, which is gone
abbrev selection_of : Bool → Selection
selection_of read_write = record { mailbox = 1; read_write = read_write; view = record { uids = 3 ∷ 4 ∷ 5 ∷ []; recent = 5 ∷ [] } }

abbrev asked : Mail → Bool → ℕ → ℕ → FlagChange → Bool → List Flag → Stepped
asked mail by_uid low high how silent flags = store (shared_of mail) (codes "a") (selection_of true) by_uid ((Some low, Some high) ∷ []) how silent flags

set : (mail : Mail)
    → ((asked mail false 1 1 Set false (Seen ∷ Keyword (codes "late") ∷ Seen ∷ [])).answer ≡ codes "* 1 FETCH (FLAGS (\\Seen late))\r\na OK STORE completed\r\n")
    × ((asked mail false 1 1 Set false (Seen ∷ Keyword (codes "late") ∷ Seen ∷ [])).change ≡ Some (StoreFlags 1 (3 ∷ []) Set (Seen ∷ Keyword (codes "late") ∷ [])))
unfolding store told applied apply refused is_atom_byte flag_list_of ok_line digits
set mail = (refl, refl)

-- Where messages are named by UID, it stands first, and one that is gone is passed over.
by_uid : (mail : Mail)
    → ((asked mail true 4 9 Remove false (Keyword (codes "later") ∷ [])).answer ≡ codes "* 3 FETCH (UID 5 FLAGS (\\Flagged work \\Recent))\r\na OK UID STORE completed\r\n")
    × ((asked mail true 4 9 Add true (Seen ∷ [])).answer ≡ codes "a OK UID STORE completed\r\n")
unfolding store told applied apply refused is_atom_byte flag_list_of ok_line digits
by_uid mail = (refl, refl)

-- By number the others are served.
gone : (mail : Mail)
    → (asked mail false 2 3 Add false (Seen ∷ [])).answer ≡ codes "* 3 FETCH (FLAGS (\\Flagged \\Seen later work \\Recent))\r\na NO [EXPUNGEISSUED] some messages are gone\r\n"
unfolding store told applied apply refused is_atom_byte flag_list_of no_line digits
gone mail = refl

examined : (mail : Mail)
    → ((store (shared_of mail) (codes "a") (selection_of false) false ((Some 1, None) ∷ []) Add false (Seen ∷ [])).answer ≡ codes "a NO read only\r\n")
    × ((store (shared_of mail) (codes "a") (selection_of false) false ((Some 1, None) ∷ []) Add false (Seen ∷ [])).change ≡ None)
unfolding store is_atom_byte no_line
examined mail = (refl, refl)
