-- The last line of an answer, with the command's tag (RFC 3501 §7.1).
use Rattle.std.specs.Prelude.{ℕ, List, [], ◌∷◌, ◌++◌, codes}
use Rattle.imap_writer.specs.declared.refusals.Refusal.{Refusal}
use Rattle.imap_writer.specs.Refusals.{reason_of}

-- A code of an answer, before what it stands with. An empty one is none.
abbrev pub coded : List ℕ → List ℕ
coded [] = []
coded (c ∷ cs) = codes "[" ++ (c ∷ cs) ++ codes "] "

-- The line that tells of a command that was carried out.
unfoldable pub ok_line : List ℕ → List ℕ → List ℕ → List ℕ
ok_line tag code name = tag ++ codes " OK " ++ coded code ++ name ++ codes " completed\r\n"

-- The line that tells of a command that was not.
unfoldable pub no_line : List ℕ → Refusal → List ℕ
no_line tag refusal = tag ++ codes " " ++ reason_of refusal ++ codes "\r\n"
