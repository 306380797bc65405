-- Lists of flags (RFC 3501 §9, flag-list).
use Rattle.std.specs.Prelude.{ℕ, Bool, List, [], ◌∷◌, ◌++◌, map, codes, if◌then◌else◌}
use Rattle.imap_grammar.specs.declared.flags.Flag.{Flag}
use Rattle.imap_grammar.specs.Flags.{flag_text}
use Rattle.imap_writer.specs.Spaced.{spaced}

-- The flag of a message that is recent.
abbrev pub recent_flag : Bool → List (List ℕ)
recent_flag recent = if recent then codes "\\Recent" ∷ [] else []

-- The flags of a message in parentheses, with `\Recent` last where it is recent.
unfoldable pub flag_list_of : List Flag → Bool → List ℕ
flag_list_of flags recent = codes "(" ++ spaced (map flag_text flags ++ recent_flag recent) ++ codes ")"
