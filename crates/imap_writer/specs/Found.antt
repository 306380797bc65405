-- The answers to SEARCH and SORT (RFC 3501 §7.2.5, RFC 5256 §4, RFC 4551 §3.4).
use Rattle.std.specs.Prelude.{ℕ, List, [], ◌++◌, Option, Some, None, map, flat_map, codes, decimal}
use Rattle.imap_writer.specs.Spaced.{behind_space}

-- the greatest mod-sequence of the messages that were found, where it is told
abbrev pub greatest_text : Option ℕ → List ℕ
greatest_text None = []
greatest_text (Some modseq) = codes " (MODSEQ " ++ decimal modseq ++ codes ")"

-- a word, and behind it the numbers of the messages that were found. None leave the bare word.
abbrev pub found : List ℕ → List ℕ → Option ℕ → List ℕ
found word numbers greatest = codes "* " ++ word ++ flat_map behind_space (map decimal numbers) ++ greatest_text greatest ++ codes "\r\n"

unfoldable pub search_line : List ℕ → Option ℕ → List ℕ
search_line numbers greatest = found (codes "SEARCH") numbers greatest

unfoldable pub sort_line : List ℕ → Option ℕ → List ℕ
sort_line numbers greatest = found (codes "SORT") numbers greatest
