-- What STORE is made of (RFC 3501 §6.4.6). These serve the contracts of private functions alone.
use Rattle.std.specs.Prelude.{ℕ, Bool, List, [], ◌∷◌, ◌++◌, codes, decimal, if◌then◌else◌}
use Rattle.std.specs.Option.{unwrap_or}
use Rattle.imap_grammar.specs.declared.flags.Flag.{Flag}
use Rattle.imap_writer.specs.Flags.{flag_list_of}
use Rattle.imap_writer.specs.Fetches.{message_line}
use Rattle.session_view.specs.declared.sessions.Selection.{Selection}
use Rattle.session_view.specs.declared.view.View.{View}
use Rattle.session_view.specs.Numbers.{number_of}
use Rattle.mail_world.specs.Worlds.{is_among}
use Rattle.imap_steps.specs.Stepping.{World}
use Rattle.imap_steps.specs.Storing.{store_line, told}

abbrev pub flags_text : View → ℕ → List Flag → List ℕ
flags_text view uid flags = codes "FLAGS " ++ flag_list_of flags (is_among uid view.recent)

-- the line that tells of the flags of a message of a view
abbrev pub flags_line : Bool → View → ℕ → List Flag → List ℕ
flags_line by_uid view uid flags =
    message_line (unwrap_or (number_of uid view.uids) 0)
    (if by_uid then (codes "UID " ++ decimal uid) ∷ flags_text view uid flags ∷ [] else flags_text view uid flags ∷ [])

-- what is told once flags are stored
abbrev pub stored_text : World → List ℕ → Selection → Bool → List ℕ → Bool → Bool → List ℕ
stored_text world tag selection by_uid uids silent gone = (if silent then [] else told world selection by_uid uids) ++ store_line tag by_uid gone
