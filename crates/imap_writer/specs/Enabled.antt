-- The answer to ENABLE (RFC 5161 §3.2).
use Rattle.std.specs.Prelude.{ℕ, List, ◌++◌, map, flat_map, codes}
use Rattle.imap_writer.specs.declared.enabled.Extension.{Extension}
use Rattle.imap_writer.specs.declared.enabled.Extension.TheVariants.{Condstore, Qresync}
use Rattle.imap_writer.specs.Spaced.{behind_space}

abbrev pub extension_text : Extension → List ℕ
extension_text Condstore = codes "CONDSTORE"
extension_text Qresync = codes "QRESYNC"

-- Extensions that are on from now, in the order given. None leave the bare word.
unfoldable pub enabled_line : List Extension → List ℕ
enabled_line extensions = codes "* ENABLED" ++ flat_map behind_space (map extension_text extensions) ++ codes "\r\n"
