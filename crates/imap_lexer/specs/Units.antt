-- The units that a session's bytes are cut into, over whole lists of bytes.
use Rattle.std.specs.Prelude.{ℕ, ◌+◌, ◌-◌, Bool, true, false, List, [], ◌∷◌, ◌++◌, Option, Some, None, length, nat_eq, nat_lt, if◌then◌else◌}
use Rattle.std.specs.List.{ends_with}
use Rattle.imap_lexer.specs.declared.units.Form.{Form}
use Rattle.imap_lexer.specs.declared.units.Fed.{Fed}
use Rattle.imap_lexer.specs.declared.units.Fed.TheVariants.{More, Continue, Unit as Whole, LineTooLong, LiteralTooLong}
use Rattle.imap_lexer.specs.declared.units.Shown.{Shown}
use Rattle.imap_lexer.specs.declared.units.Shown.TheVariants.{Unit as ShowsUnit, LineTooLong as ShowsLineTooLong, LiteralTooLong as ShowsLiteralTooLong}
use Rattle.imap_lexer.specs.Literals.{line_end, literal_behind}

-- How many bytes the lines of a unit may have together, with their CRLFs.
abbrev pub line_limit : ℕ
line_limit = 8192

-- How many bytes the literals of a unit may have together.
abbrev pub literal_limit : ℕ
literal_limit = 33554432

-- A unit as far as it came, lines and literals in turn: what its bytes show, its line so far, how many bytes the lines
-- before that have together, how many bytes of literals were announced together, and how many of those are yet to come.
pub record Reading : Type 0 where
  pub shows : Fed
  pub line : List ℕ
  pub lines : ℕ
  pub literals : ℕ
  pub left : ℕ

-- before the first byte
abbrev pub unread : Reading
unread = record { shows = More; line = []; lines = 0; literals = 0; left = 0 }

-- behind a line end: the unit is whole, or its literal of so many bytes is next
abbrev pub behind_line : Reading → Option ℕ → Reading
behind_line reading None = record { shows = Whole; line = reading.line; lines = reading.lines; literals = reading.literals; left = 0 }
behind_line reading (Some count) =
    if nat_lt literal_limit (reading.literals + count)
    then record { shows = LiteralTooLong; line = reading.line; lines = reading.lines; literals = reading.literals; left = 0 }
    else record { shows = Continue; line = []; lines = reading.lines + length reading.line; literals = reading.literals + count; left = count }

-- Behind a byte of a line: CRLF ends the line, and a LF or a CR alone is a byte like any other. Lines of more bytes than
-- the limit are too long, also where the last byte would end one.
abbrev pub behind_line_byte : Form → Reading → Reading
behind_line_byte form reading =
    if nat_lt line_limit (reading.lines + length reading.line)
    then record { shows = LineTooLong; line = reading.line; lines = reading.lines; literals = reading.literals; left = 0 }
    else (if ends_with nat_eq reading.line line_end then behind_line reading (literal_behind form reading.line) else reading)

-- behind one more byte, which is one of the literal as long as any of that is yet to come
abbrev pub reads_byte : Form → Reading → ℕ → Reading
reads_byte form reading byte =
    if nat_lt 0 reading.left
    then record { shows = More; line = reading.line; lines = reading.lines; literals = reading.literals; left = reading.left - 1 }
    else behind_line_byte form (record { shows = More; line = reading.line ++ byte ∷ []; lines = reading.lines; literals = reading.literals; left = 0 })

abbrev pub reads : Form → Reading → List ℕ → Reading
reads form reading [] = reading
reads form reading (byte ∷ bytes) = reads form (reads_byte form reading byte) bytes

-- How bytes read as a unit of a form.
unfoldable pub reading : Form → List ℕ → Reading
reading form bytes = reads form unread bytes

-- What bytes show of a unit.
abbrev pub shown : Form → List ℕ → Fed
shown form bytes = (reading form bytes).shows

-- what ends with bytes that show this: no unit before the peer goes on
abbrev pub ending : Fed → Option Shown
ending More = None
ending Continue = None
ending Whole = Some ShowsUnit
ending LineTooLong = Some ShowsLineTooLong
ending LiteralTooLong = Some ShowsLiteralTooLong

-- whether the peer awaits a prompt before it goes on: bytes end with the announcement of a literal
abbrev pub is_prompted : Fed → Bool
is_prompted More = false
is_prompted Continue = true
is_prompted Whole = false
is_prompted LineTooLong = false
is_prompted LiteralTooLong = false

-- A unit that is cut off, what it shows, and the bytes behind it.
pub record Cut : Type 0 where
  pub unit : List ℕ
  pub shows : Shown
  pub rest : List ℕ

-- the cut of bytes that show this at their end, and nothing before
abbrev pub ended : Option Shown → List ℕ → Option Cut
ended None bytes = None
ended (Some shows) bytes = Some (record { unit = bytes; shows = shows; rest = [] })

-- a cut in a text that has one more byte in front
abbrev pub behind_byte : ℕ → Option Cut → Option Cut
behind_byte byte None = None
behind_byte byte (Some cut) = Some (record { unit = byte ∷ cut.unit; shows = cut.shows; rest = cut.rest })

-- the cut at the end of a front that shows something, and the cut of a longer front where it shows nothing yet
abbrev pub unless_more : Option Shown → ℕ → List ℕ → Option Cut → Option Cut
unless_more None byte rest later = later
unless_more (Some shows) byte rest later = Some (record { unit = byte ∷ []; shows = shows; rest = rest })

-- the shortest front, of one byte at least, that shows anything
abbrev pub shortest : (List ℕ → Option Shown) → List ℕ → Option Cut
shortest shows [] = None
shortest shows (byte ∷ bytes) =
    unless_more (shows (byte ∷ [])) byte bytes (behind_byte byte (shortest (λ front. shows (byte ∷ front)) bytes))

-- The first unit of some bytes: the shortest prefix that is a whole unit of the form or is too long for one, if there is one.
unfoldable pub first : Form → List ℕ → Option Cut
first form bytes = shortest (λ front. ending (shown form front)) bytes
