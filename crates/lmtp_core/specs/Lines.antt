-- Lines of commands (RFC 5321 §2.3.8): CRLF stands at their end and nowhere else.
use Rattle.std.specs.Prelude.{ℕ, ◌≡◌, ◌≤◌, drop, take, List, [], ◌∷◌, ◌++◌, Option, Some, None, length, nat_eq, nat_lt, if◌then◌else◌}
use Rattle.std.specs.List.{ends_with}
use Rattle.lmtp_core.specs.declared.lines.LineShown.{LineShown}
use Rattle.lmtp_core.specs.declared.lines.LineShown.TheVariants.{More, Whole, TooLong}

-- The end of a line, CRLF.
abbrev pub line_end : List ℕ
line_end = 13 ∷ 10 ∷ []

-- How many bytes a line may have, with its CRLF.
abbrev pub line_limit : ℕ
line_limit = 8192

-- What bytes show of a line. One of more bytes than the limit is too long, also where the last byte would end it.
abbrev pub line_shown : List ℕ → LineShown
line_shown bytes = if nat_lt line_limit (length bytes) then TooLong else (if ends_with nat_eq bytes line_end then Whole else More)

-- A line that is cut off, what it shows, and the bytes behind it.
pub record Line : Type 0 where
  pub line : List ℕ
  pub shows : LineShown
  pub rest : List ℕ

-- the line that bytes show at their end, and a later one where they show nothing yet
abbrev pub or_later : LineShown → List ℕ → List ℕ → Option Line → Option Line
or_later More bytes rest later = later
or_later Whole bytes rest later = Some (record { line = bytes; shows = Whole; rest = rest })
or_later TooLong bytes rest later = Some (record { line = bytes; shows = TooLong; rest = rest })

-- the line that goes on behind bytes that show nothing yet
abbrev pub line_behind : List ℕ → List ℕ → Option Line
line_behind line [] = None
line_behind line (byte ∷ bytes) = let longer = line ++ byte ∷ [] in or_later (line_shown longer) longer bytes (line_behind longer bytes)

-- The line at the front of some bytes: the shortest front that is one or is too long for one, if there is one.
unfoldable pub first_line : List ℕ → Option Line
first_line bytes = line_behind [] bytes

-- Bytes were taken up to the end of a line, or all of them where it goes on.
pub record TakesLine (old new piece : List ℕ) (count : ℕ) : Type 0 where
  pub within : count ≤ length piece
  pub bytes : new ≡ old ++ take count piece
  pub cut : line_behind old piece ≡ or_later (line_shown new) new (drop count piece) None
  pub all : line_shown new ≡ More → count ≡ length piece
