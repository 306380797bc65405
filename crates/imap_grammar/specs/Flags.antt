-- Flags as they are written (RFC 3501 §9, flag).
use Rattle.std.specs.Prelude.{ℕ, List, [], ◌∷◌, map, codes}
use Rattle.std.specs.Char.{to_ascii_lowercase}
use Rattle.imap_grammar.specs.declared.flags.Flag.{Flag}
use Rattle.imap_grammar.specs.declared.flags.Flag.TheVariants.{Answered, Flagged, Deleted, Seen, Draft, Keyword}
use Rattle.imap_grammar.specs.declared.classes.Class.TheVariants.{Atom}
use Rattle.imap_grammar.specs.Readings.{Reading, ◌>>=◌, ◌>>◌, byte, begun, pure}
use Rattle.imap_grammar.specs.Words.{keyword}
use Rattle.imap_grammar.specs.Strings.{some}
use Rattle.imap_grammar.specs.Lists.{separated}

abbrev pub flag_text : Flag → List ℕ
flag_text Answered = codes "\\Answered"
flag_text Flagged = codes "\\Flagged"
flag_text Deleted = codes "\\Deleted"
flag_text Seen = codes "\\Seen"
flag_text Draft = codes "\\Draft"
flag_text (Keyword name) = name

-- The flags that have a meaning of their own, which a `\` stands before.
abbrev pub system_flags : List (List ℕ × Flag)
system_flags =
    (codes "Answered", Answered) ∷ (codes "Flagged", Flagged) ∷ (codes "Deleted", Deleted) ∷ (codes "Seen", Seen) ∷ (codes "Draft", Draft) ∷ []

-- A keyword: an atom, whose capitals are small letters.
unfoldable pub keyword_flag : Reading Flag
keyword_flag = do
  name ← some Atom
  pure (Keyword (map to_ascii_lowercase name))

unfoldable pub flag : Reading Flag
flag = begun 92
    (do
      byte 92
      keyword system_flags)
    keyword_flag

-- Flags in parentheses, or none.
unfoldable pub flag_list : Reading (List Flag)
flag_list = do
  byte 40
  begun 41
      (do
        byte 41
        pure [])
      (do
        flags ← separated 32 flag
        byte 41
        pure flags)

-- Flags in parentheses, or one or more without these.
unfoldable pub flags : Reading (List Flag)
flags = begun 40 flag_list (separated 32 flag)
