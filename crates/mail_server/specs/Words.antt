-- What the words of a run ask for.
use Rattle.std.specs.Prelude.{ℕ, ◌==◌, List, [], ◌∷◌, Option, Some, None, option_and_then, codes, bytes_eq, if◌then◌else◌}
use Rattle.port_model.specs.Script.{number_up_to}
use Rattle.mail_server.specs.declared.words.Task.{Task}
use Rattle.mail_server.specs.declared.words.Task.TheVariants.{Script, Canon}

-- What is asked for.
pub data Asked : Type 0 where
  -- to read a text from the source, and to write what it gives
  OfText : Task → Asked
  Init : Asked
  Tables : Asked
  -- a name and a password
  AddUser : List ℕ → List ℕ → Asked
  -- how many rounds, and on which port IMAP is spoken, and on which LMTP
  Serve : ℕ → ℕ → ℕ → Asked

abbrev pub asked_by_word : List ℕ → Option Asked
asked_by_word word =
    if bytes_eq word (codes "script") then Some (OfText Script)
    else (if bytes_eq word (codes "canon") then Some (OfText Canon)
    else (if bytes_eq word (codes "init") then Some Init
    else (if bytes_eq word (codes "tables") then Some Tables else None)))

abbrev pub asked_by_three : List ℕ → List ℕ → List ℕ → Option Asked
asked_by_three word name password = if bytes_eq word (codes "adduser") then Some (AddUser name password) else None

-- the number that digits are, if it is from 1 to a greatest one
abbrev pub from_one : ℕ → Option ℕ
from_one number = if number == 0 then None else Some number

abbrev pub number_from_one : ℕ → List ℕ → Option ℕ
number_from_one most digits = option_and_then from_one (number_up_to most digits)

abbrev pub serve_with : Option ℕ → Option ℕ → Option ℕ → Option Asked
serve_with (Some rounds) (Some imap) (Some lmtp) = Some (Serve rounds imap lmtp)
serve_with rounds imap lmtp = None

abbrev pub asked_by_four : List ℕ → List ℕ → List ℕ → List ℕ → Option Asked
asked_by_four word rounds imap lmtp =
    if bytes_eq word (codes "serve") then serve_with (number_from_one 1000000000000 rounds) (number_from_one 65535 imap) (number_from_one 65535 lmtp) else None

-- The words that are understood: one of these alone, `adduser` with a name and a password, or `serve` with a number of rounds and two
-- of ports.
abbrev pub asked_by : List (List ℕ) → Option Asked
asked_by [] = None
asked_by (word ∷ []) = asked_by_word word
asked_by (word ∷ name ∷ []) = None
asked_by (word ∷ name ∷ password ∷ []) = asked_by_three word name password
asked_by (word ∷ rounds ∷ imap ∷ lmtp ∷ []) = asked_by_four word rounds imap lmtp
asked_by (word ∷ rounds ∷ imap ∷ lmtp ∷ next ∷ words) = None
