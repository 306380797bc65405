-- What can be wrong with a header.
use Rattle.std.specs.Prelude.{◌≡◌, ℕ, ◌+◌, Bool, true, false, ◌&&◌, ◌||◌, not, nat_lt, if◌then◌else◌, List, [], ◌∷◌, length, Option, Some, None}
use Rattle.mail_text.specs.Texts.{begins, is_blank}
use Rattle.mail_text.specs.Lines.{has}
use Rattle.mime_tree.specs.declared.reasons.Reason.{Reason}
use Rattle.mime_tree.specs.declared.reasons.Reason.TheVariants.{LoneReturn, NoField, LongHeader}
use Rattle.header_reader.specs.declared.faults.HeaderFault.{HeaderFault}
use Rattle.header_reader.specs.declared.faults.HeaderFault.TheVariants.{LoneCr, BadLine, NoMemory}
use Rattle.header_reader.specs.declared.faults.HeaderFault.TheVariants.{LongHeader as LongHeaderFault}
use Rattle.header_reader.specs.Fields.{is_field_line}

-- Whether a line has a CR.
abbrev pub have_cr : List (List ℕ) → Bool
have_cr [] = false
have_cr (l ∷ ls) = has 13 l || have_cr ls

-- Whether each line is a field's, or continues the line before it.
abbrev pub go_on : List (List ℕ) → Bool
go_on [] = true
go_on (l ∷ ls) = (is_field_line l || begins is_blank l) && go_on ls

-- Whether the lines are fields: the first line is a field's, as nothing stands before it.
abbrev pub are_fields : List (List ℕ) → Bool
are_fields [] = true
are_fields (l ∷ ls) = is_field_line l && go_on ls

-- How long a header is, each line with a CRLF.
abbrev pub header_size : List (List ℕ) → ℕ
header_size [] = 0
header_size (l ∷ ls) = length l + 2 + header_size ls

-- How long a header may be, in bytes.
abbrev pub longest_header : ℕ
longest_header = 262144

-- Why a header can't be read: the first of these that holds.
abbrev pub fault_of : List (List ℕ) → Option Reason
fault_of ls =
    if have_cr ls then Some LoneReturn
    else (if not (are_fields ls) then Some NoField
    else (if nat_lt longest_header (header_size ls) then Some LongHeader else None))

-- The answer that tells of it. Memory is wanted only for a header that can be read.
abbrev pub IsFault : HeaderFault → Option Reason → Type 0
IsFault LoneCr reason = reason ≡ Some LoneReturn
IsFault BadLine reason = reason ≡ Some NoField
IsFault LongHeaderFault reason = reason ≡ Some LongHeader
IsFault NoMemory reason = reason ≡ None
