-- Lines of the answers to SELECT and LIST, and of notices (RFC 3501 §7.1 to §7.4, RFC 4551 §3.1, RFC 5162 §3.6, §3.7).
use Rattle.std.specs.Prelude.{ℕ, Bool, false, List, [], ◌∷◌, ◌++◌, map, codes, decimal, if◌then◌else◌}
use Rattle.imap_grammar.specs.declared.flags.Flag.{Flag}
use Rattle.imap_grammar.specs.Flags.{flag_text}
use Rattle.imap_writer.specs.Spaced.{spaced}
use Rattle.imap_writer.specs.Texts.{text_of}
use Rattle.imap_writer.specs.Sets.{set_text}
use Rattle.imap_writer.specs.Flags.{flag_list_of}

-- a number and what it counts
abbrev pub counted : ℕ → List ℕ → List ℕ
counted n what = codes "* " ++ decimal n ++ codes " " ++ what ++ codes "\r\n"

unfoldable pub exists_line : ℕ → List ℕ
exists_line n = counted n (codes "EXISTS")

unfoldable pub recent_line : ℕ → List ℕ
recent_line n = counted n (codes "RECENT")

unfoldable pub expunge_line : ℕ → List ℕ
expunge_line n = counted n (codes "EXPUNGE")

-- a code with its number, and a remark
abbrev pub remarked : List ℕ → ℕ → List ℕ → List ℕ
remarked code n remark = codes "* OK [" ++ code ++ codes " " ++ decimal n ++ codes "] " ++ remark ++ codes "\r\n"

unfoldable pub unseen_line : ℕ → List ℕ
unseen_line n = remarked (codes "UNSEEN") n (codes "first unseen")

unfoldable pub uidnext_line : ℕ → List ℕ
uidnext_line n = remarked (codes "UIDNEXT") n (codes "next")

unfoldable pub uidvalidity_line : ℕ → List ℕ
uidvalidity_line n = remarked (codes "UIDVALIDITY") n (codes "valid")

unfoldable pub highest_line : ℕ → List ℕ
highest_line n = remarked (codes "HIGHESTMODSEQ") n (codes "highest")

-- The mailbox that was selected before is so no more (RFC 5162 §3.7).
unfoldable pub closed_line : List ℕ
closed_line = codes "* OK [CLOSED] closed\r\n"

-- The flags that messages of the mailbox have.
unfoldable pub flags_line : List Flag → List ℕ
flags_line flags = codes "* FLAGS " ++ flag_list_of flags false ++ codes "\r\n"

-- The flags that the client can change for good: these and any other, or none.
abbrev pub changeable : List Flag → Bool → List ℕ
changeable flags writable = if writable then spaced (map flag_text flags ++ codes "\\*" ∷ []) else []

unfoldable pub permanent_line : List Flag → Bool → List ℕ
permanent_line flags writable = codes "* OK [PERMANENTFLAGS (" ++ changeable flags writable ++ codes ")] kept\r\n"

-- A mailbox or a level of names, of all or of those that are subscribed.
unfoldable pub list_line : Bool → Bool → List ℕ → List ℕ
list_line subscribed selectable name =
    (if subscribed then codes "* LSUB (" else codes "* LIST (") ++ (if selectable then [] else codes "\\Noselect") ++ codes ") \"/\" " ++ text_of name ++ codes "\r\n"

-- UIDs that are gone, now or since the client last looked.
unfoldable pub vanished_line : Bool → List ℕ → List ℕ
vanished_line earlier uids = codes "* VANISHED " ++ (if earlier then codes "(EARLIER) " else []) ++ set_text uids ++ codes "\r\n"
