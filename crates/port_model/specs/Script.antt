-- The texts of scripts: what each line says, and what a script of lines says.
use Rattle.std.specs.Prelude.{ℕ, ◌≡◌, ◌≤◌, ◌<◌, ◌+◌, ◌*◌, ◌^◌, ◌==◌, ◌&&◌, ◌||◌, Bool, true, false, not, nat_lt, nat_le, List, [], ◌∷◌, ◌++◌, Option, Some, None, option_map, option_and_then, Result, Ok, Err, length, drop, slice_index, count_by, codes, bytes_eq, IsTrue, All, if◌then◌else◌}
use Rattle.std.specs.List.{onto_first, before_first, after_first, starts_with, list_all, list_any}
use Rattle.std.specs.Char.{digit_value, is_digit, is_ascii_digit}
use Rattle.std.specs.Borrow.{Bor}
use Rattle.std.specs.Str.{byte}
use Rattle.std.specs.Str.Parse.{digits_value}
use Rattle.port_model.specs.declared.calls.Kind.TheVariants.{Imap}
use Rattle.port_model.specs.declared.events.Event.{Event}
use Rattle.port_model.specs.declared.events.Event.TheVariants.{Opens, Piece, Ends, Loses}
use Rattle.port_model.specs.Streams.{last_moment}

-- the lines of a script; each ends with LF, which the last may lack
abbrev pub script_lines : List ℕ → List (List ℕ)
script_lines [] = []
script_lines (c ∷ cs) = if c == 10 then [] ∷ script_lines cs else onto_first c (script_lines cs)

-- whether digits are a decimal number without a leading zero
abbrev pub is_number : List ℕ → Bool
is_number digits = list_all is_ascii_digit digits && (length digits == 1 || (nat_lt 1 (length digits) && not (slice_index digits 0 == byte "0")))

-- the number that digits are, if it is at most the first one
abbrev pub number_up_to : ℕ → List ℕ → Option ℕ
number_up_to most digits = if is_number digits && nat_le (digits_value 10 digits) most then Some (digits_value 10 digits) else None

-- a byte in front of those that follow
abbrev pub in_front : ℕ → Option (List ℕ) → Option (List ℕ)
in_front c bytes = option_map (λ cs. c ∷ cs) bytes

-- The bytes that a text stands for. A printable byte of ASCII stands for itself, but for the backslash, with which the
-- spellings `\r`, `\n`, `\\` and `\xHH` begin.
unfoldable mutual
  pub text_bytes : List ℕ → Option (List ℕ)
  text_bytes [] = Some []
  text_bytes (c ∷ cs) = if c == byte "\\" then behind_backslash cs else (if nat_le 0x20 c && nat_le c 0x7e then in_front c (text_bytes cs) else None)

  pub behind_backslash : List ℕ → Option (List ℕ)
  behind_backslash [] = None
  behind_backslash (c ∷ cs) =
      if c == byte "r" then in_front 13 (text_bytes cs)
      else (if c == byte "n" then in_front 10 (text_bytes cs)
      else (if c == byte "\\" then in_front c (text_bytes cs)
      else (if c == byte "x" then behind_x cs else None)))

  pub behind_x : List ℕ → Option (List ℕ)
  behind_x [] = None
  behind_x (high ∷ []) = None
  behind_x (high ∷ low ∷ cs) = if is_digit high 16 && is_digit low 16 then in_front (16 * digit_value high + digit_value low) (text_bytes cs) else None

-- the bytes, if there are as many as a piece may have
abbrev pub sized : Option (List ℕ) → Option (List ℕ)
sized None = None
sized (Some bytes) = if nat_lt 0 (length bytes) && nat_le (length bytes) 65536 then Some bytes else None

abbrev pub piece : Option ℕ → Option ℕ → Option (List ℕ) → Option Event
piece None moment bytes = None
piece (Some number) None bytes = None
piece (Some number) (Some moment) None = None
piece (Some number) (Some moment) (Some bytes) = Some (Piece number bytes moment)

-- the words of a line have one space between them
abbrev pub word : List ℕ → List ℕ
word line = before_first (λ c. c == byte " ") line

abbrev pub behind_word : List ℕ → List ℕ
behind_word line = after_first (λ c. c == byte " ") line

-- the number of a session in digits; none is past the largest of a `u32`
abbrev pub session_number : List ℕ → Option ℕ
session_number digits = number_up_to 0xffff_ffff digits

-- `N MOMENT TEXT`: session N's peer sends the bytes of TEXT.
abbrev pub sent_piece : List ℕ → Option Event
sent_piece line =
    piece (session_number (word line)) (number_up_to last_moment (word (behind_word line))) (sized (text_bytes (behind_word (behind_word line))))

-- `end N`: session N's peer closes its side. `lose N`: its link is lost.
unfoldable pub closing_event : List ℕ → Option Event
closing_event line =
    if starts_with (λ a b. a == b) line (codes "end ") then option_map Ends (session_number (drop 4 line))
    else (if starts_with (λ a b. a == b) line (codes "lose ") then option_map Loses (session_number (drop 5 line)) else None)

-- The event that a line has happen, by itself.
abbrev pub line_event : List ℕ → Option Event
line_event line =
    if bytes_eq line (codes "open imap") then Some (Opens Imap)
    else (if starts_with (λ a b. a == b) line (codes "send ") then sent_piece (drop 5 line) else closing_event line)

-- Whether a line says nothing: it is empty, or begins with `#`.
abbrev pub says_nothing : List ℕ → Bool
says_nothing [] = true
says_nothing (c ∷ cs) = c == byte "#"

abbrev pub opens : Event → Bool
opens (Opens kind) = true
opens (Piece who bytes moment) = false
opens (Ends who) = false
opens (Loses who) = false

-- whether an event ends or loses the session of a number
abbrev pub closes : ℕ → Event → Bool
closes number (Opens kind) = false
closes number (Piece who bytes moment) = false
closes number (Ends who) = who == number
closes number (Loses who) = who == number

-- whether the session of a number was opened by one of the events, and not ended or lost by one
abbrev pub is_open : List Event → ℕ → Bool
is_open events number = nat_lt 0 number && nat_le number (count_by opens events) && not (list_any (closes number) events)

-- Whether an event may come after those before it: a session may open at any time, and all else happens on a session
-- that is open.
abbrev pub follows : List Event → Event → Bool
follows before (Opens kind) = true
follows before (Piece who bytes moment) = is_open before who
follows before (Ends who) = is_open before who
follows before (Loses who) = is_open before who

-- the event of a line behind some events, or none where the line is bad there
abbrev pub next_event : List Event → List ℕ → Option Event
next_event before line = option_and_then (λ event. if follows before event then Some event else None) (line_event line)

-- what a good line says, in front of the events of the lines that follow, or of their first bad line, counted from this one
abbrev pub with_line : List Event → Result (List Event) ℕ → Result (List Event) ℕ
with_line events (Ok later) = Ok (events ++ later)
with_line events (Err n) = Err (n + 1)

-- What lines say that come after some events: their events, or which of them, counted from 1, is the first bad line.
abbrev pub events_after : List Event → List (List ℕ) → Result (List Event) ℕ
events_after before [] = Ok []
events_after before (line ∷ lines) = elim (says_nothing line) [
  | true ↦ with_line [] (events_after before lines)
  | false ↦ elim (next_event before line) [
    | None ↦ Err 1
    | Some event ↦ with_line (event ∷ []) (events_after (before ++ event ∷ []) lines)
  ]
]

-- What a script says.
abbrev pub script_events : List ℕ → Result (List Event) ℕ
script_events text = events_after [] (script_lines text)

-- The first of some bytes that a text stands for was found, with what is left of the text, or it stands for none.
abbrev pub Spells : List ℕ → Option (List ℕ) → Option (ℕ × Bor (List ℕ)) → Type 0
Spells text bytes None = bytes ≡ None
Spells text bytes (Some found) = (bytes ≡ in_front found.0 (text_bytes found.1.now)) × (length found.1.now < length text)

-- A piece has bytes, as many as one may have, and comes at a moment of the years that are covered.
abbrev pub IsPiece : Event → Type 0
IsPiece (Opens kind) = Unit {0}
IsPiece (Piece who bytes moment) = (0 < length bytes) × (length bytes ≤ 65536) × (moment ≤ last_moment)
IsPiece (Ends who) = Unit {0}
IsPiece (Loses who) = Unit {0}

-- An event that is no opening happens on a session that is open.
abbrev pub IsOnOpen : List Event → Event → Type 0
IsOnOpen before (Opens kind) = Unit {0}
IsOnOpen before (Piece who bytes moment) = IsTrue (is_open before who)
IsOnOpen before (Ends who) = IsTrue (is_open before who)
IsOnOpen before (Loses who) = IsTrue (is_open before who)

-- each event that comes after some others
abbrev pub AreOnOpen : List Event → List Event → Type 0
AreOnOpen before [] = Unit {0}
AreOnOpen before (event ∷ later) = IsOnOpen before event × AreOnOpen (before ++ event ∷ []) later

-- What the events of a script keep to.
pub record AreEvents (events : List Event) : Type 0 where
  pub pieces : All IsPiece events
  pub on_open : AreOnOpen [] events
  pub numbers : count_by opens events < 2 ^ 32
