-- What a lexer holds.
use Rattle.std.specs.Prelude.{ℕ, ◌≡◌, ◌≤◌, ◌+◌, ◌-◌, ◌<◌, Bool, List, [], ◌∷◌, ◌++◌, Option, None, option_map, min, if◌then◌else◌}
use Rattle.imap_lexer.specs.declared.units.Form.{Form}
use Rattle.imap_lexer.specs.declared.units.Form.TheVariants.{Command, Plain}
use Rattle.imap_lexer.specs.declared.units.Fed.TheVariants.{More}
use Rattle.imap_lexer.specs.declared.literals.LineRead.{LineRead}
use Rattle.imap_lexer.specs.Units.{Reading, first, line_limit, literal_limit, reading, shown}

-- the form that is awaited
abbrev pub form_of : Bool → Form
form_of plain = if plain then Plain else Command

-- The form of the unit that is awaited, and its bytes so far.
pub record Awaited : Type 0 where
  pub form : Form
  pub bytes : List ℕ

-- The unit that is awaited goes on with a byte of a literal.
abbrev pub IsInLiteral : Awaited → Type 0
IsInLiteral awaited = 0 < (reading awaited.form awaited.bytes).left

-- Bytes are fed one by one behind others, and each shows that the unit goes on, and no more.
abbrev pub GoesOn : Form → List ℕ → List ℕ → Type 0
GoesOn form bytes [] = Unit {0}
GoesOn form bytes (byte ∷ more) =
    (shown form (bytes ++ byte ∷ []) ≡ More) × (first form (bytes ++ byte ∷ []) ≡ None) × GoesOn form (bytes ++ byte ∷ []) more

-- one more than the literals of a unit may have together: no larger number differs from it
abbrev pub too_many : ℕ
too_many = literal_limit + 1

-- a number, or `too_many` where it is larger
abbrev pub capped : Option ℕ → Option ℕ
capped count = option_map (min too_many) count

-- a unit with this line so far, behind lines and literals of so many bytes together
abbrev pub line_so_far : List ℕ → ℕ → ℕ → Reading
line_so_far line lines literals = record { shows = More; line = line; lines = lines; literals = literals; left = 0 }

-- What was read of a line is what it leaves.
pub record IsRead (read : LineRead) (left : Reading) : Type 0 where
  pub shows : read.fed ≡ left.shows
  pub lines : read.lines ≡ left.lines
  pub literals : read.literals ≡ left.literals

-- A lexer knows how many bytes the lines and the literals before the line so far have, and has room for the rest of its
-- lines beside what came of the literals.
pub record IsPlaced (form : Form) (bytes : List ℕ) (lines literals room : ℕ) : Type 0 where
  pub lines_are : lines ≡ (reading form bytes).lines
  pub literals_are : literals ≡ (reading form bytes).literals
  pub roomy : line_limit + 1 + ((reading form bytes).literals - (reading form bytes).left) ≤ room
