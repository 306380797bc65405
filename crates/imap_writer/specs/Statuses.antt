-- The answer to STATUS (RFC 3501 §7.2.4).
use Rattle.std.specs.Prelude.{ℕ, List, ◌++◌, map, codes, decimal}
use Rattle.imap_grammar.specs.StatusItems.{status_text}
use Rattle.imap_writer.specs.declared.statuses.StatusData.{StatusData}
use Rattle.imap_writer.specs.Texts.{text_of}
use Rattle.imap_writer.specs.Spaced.{spaced}

-- an item and its number
abbrev pub status_data_text : StatusData → List ℕ
status_data_text status = status_text status.item ++ codes " " ++ decimal status.number

unfoldable pub status_line : List ℕ → List StatusData → List ℕ
status_line name all = codes "* STATUS " ++ text_of name ++ codes " (" ++ spaced (map status_data_text all) ++ codes ")\r\n"
