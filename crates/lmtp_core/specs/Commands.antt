-- The commands of LMTP, as lines are read (RFC 2033 §4.1, RFC 5321 §4.1.1). Words and parameters are in any case.
use Rattle.std.specs.Prelude.{ℕ, ◌-◌, ◌==◌, Bool, true, false, ◌&&◌, ◌||◌, not, List, [], ◌∷◌, Option, Some, None, codes, drop, length, map, nat_lt, take, if◌then◌else◌}
use Rattle.std.specs.Char.{to_ascii_lowercase}
use Rattle.mail_text.specs.Case.{is_same}
use Rattle.mail_text.specs.Lines.{has}
use Rattle.mail_text.specs.Texts.{begins, behind, front, is_blank}
use Rattle.lmtp_core.specs.declared.commands.Command.{Command}
use Rattle.lmtp_core.specs.declared.commands.Command.TheVariants.{Lhlo, Mail, Rcpt, Data, Rset, Noop, Vrfy, Quit, OtherForm, Unknown}

-- a line without its CRLF
abbrev pub without_end : List ℕ → List ℕ
without_end line = take (length line - 2) line

abbrev pub isnt_space : ℕ → Bool
isnt_space byte = not (byte == 32)

-- the word of a line: what stands before its first space
abbrev pub word_of : List ℕ → List ℕ
word_of line = front isnt_space (without_end line)

-- its first space and what stands behind that, if it has one
abbrev pub tail_of : List ℕ → List ℕ
tail_of line = behind isnt_space (without_end line)

-- The words that are known.
abbrev pub words : List (List ℕ × Command)
words =
    (codes "LHLO", Lhlo)
    ∷ (codes "MAIL", Mail)
    ∷ (codes "RCPT", Rcpt)
    ∷ (codes "DATA", Data)
    ∷ (codes "RSET", Rset)
    ∷ (codes "NOOP", Noop)
    ∷ (codes "VRFY", Vrfy)
    ∷ (codes "QUIT", Quit)
    ∷ []

-- the entry of a table that has the name, in any case
abbrev pub named : List (List ℕ × Command) → List ℕ → Command
named [] word = Unknown
named (entry ∷ entries) word = if is_same word entry.0 then entry.1 else named entries word

-- Whether a text begins with these letters, in any case.
abbrev pub begins_with : List ℕ → List ℕ → Bool
begins_with letters text = is_same (take (length letters) text) letters

-- A byte of a recipient's domain, and of a local part: no `<`, `>` and blank, and in a local part no `@`.
abbrev pub is_domain_byte : ℕ → Bool
is_domain_byte byte = not (byte == 60 || byte == 62 || is_blank byte)

abbrev pub is_local_byte : ℕ → Bool
is_local_byte byte = is_domain_byte byte && not (byte == 64)

-- whether a text is `>` alone
abbrev pub closes : List ℕ → Bool
closes [] = false
closes (byte ∷ []) = byte == 62
closes (byte ∷ next ∷ more) = false

-- whether a text is `>`, or `@`, a domain and `>`
abbrev pub ends_path : List ℕ → Bool
ends_path [] = false
ends_path (byte ∷ text) = if byte == 64 then closes (behind is_domain_byte text) else closes (byte ∷ text)

-- Whether a text is a recipient behind its `<`: a local part of one byte or more, a domain or none, and `>`.
abbrev pub is_path : List ℕ → Bool
is_path text = begins is_local_byte text && ends_path (behind is_local_byte text)

-- how a sender and a recipient begin, behind their words
abbrev pub from_letters : List ℕ
from_letters = codes " FROM:<"

abbrev pub to_letters : List ℕ
to_letters = codes " TO:<"

-- Whether the tail is what its word asks for. What stands behind the first `>` of a sender isn't looked at.
abbrev pub is_form : Command → List ℕ → Bool
is_form Lhlo tail = nat_lt 1 (length tail)
is_form Mail tail = begins_with from_letters tail && has 62 (drop (length from_letters) tail)
is_form Rcpt tail = begins_with to_letters tail && is_path (drop (length to_letters) tail)
is_form Data tail = nat_lt (length tail) 1
is_form Rset tail = nat_lt (length tail) 1
is_form Noop tail = nat_lt (length tail) 1
is_form Vrfy tail = nat_lt 1 (length tail)
is_form Quit tail = nat_lt (length tail) 1
is_form OtherForm tail = true
is_form Unknown tail = true

-- The command that a line is.
unfoldable pub command : List ℕ → Command
command line = let word = named words (word_of line) in if is_form word (tail_of line) then word else OtherForm

-- the local part of a recipient, its letters small
abbrev pub local_part : List ℕ → List ℕ
local_part tail = map to_ascii_lowercase (front is_local_byte (drop (length to_letters) tail))

abbrev pub asked_by : Command → List ℕ → Option (List ℕ)
asked_by Lhlo tail = None
asked_by Mail tail = None
asked_by Rcpt tail = Some (local_part tail)
asked_by Data tail = None
asked_by Rset tail = None
asked_by Noop tail = None
asked_by Vrfy tail = None
asked_by Quit tail = None
asked_by OtherForm tail = None
asked_by Unknown tail = None

-- The local part of the recipient that a line names, if it is RCPT.
abbrev pub asked : List ℕ → Option (List ℕ)
asked line = asked_by (command line) (tail_of line)
