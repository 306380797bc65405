-- The units that a session's bytes are cut into, of whatever form.
use Rattle.std.specs.Prelude.{ℕ, ◌≡◌, Bool, true, false, List, [], ◌∷◌, ◌++◌, Option, Some, None, drop, option_map, if◌then◌else◌}
use Rattle.imap_lexer.specs.declared.units.Shown.{Shown as ImapShown}
use Rattle.imap_lexer.specs.declared.units.Shown.TheVariants as imap
use Rattle.imap_lexer.specs.Units as commands
use Rattle.lmtp_core.specs.declared.lines.LineShown.{LineShown}
use Rattle.lmtp_core.specs.declared.lines.LineShown.TheVariants as line
use Rattle.lmtp_core.specs.Lines as lines
use Rattle.lmtp_core.specs.Reading.{is_end, reads, taken}
use Rattle.session_units.specs.declared.forms.Shown.{Shown}
use Rattle.session_units.specs.declared.forms.Shown.TheVariants.{Unit as ShowsUnit, LineTooLong, LiteralTooLong, TextTooLong}
use Rattle.session_units.specs.declared.forms.Fed.{Fed}
use Rattle.session_units.specs.declared.forms.Fed.TheVariants.{More, Continue, Ended}
use Rattle.session_units.specs.Awaited.{Awaited, Imap, Line, Text, is_prompting, with_more}

-- A unit that is cut off: its bytes, but of a text of LMTP its content, none where that is too long; what it shows; and the
-- bytes behind it.
pub record Cut : Type 0 where
  pub unit : List ℕ
  pub shows : Shown
  pub rest : List ℕ

abbrev pub imap_shows : ImapShown → Shown
imap_shows imap.Unit = ShowsUnit
imap_shows imap.LineTooLong = LineTooLong
imap_shows imap.LiteralTooLong = LiteralTooLong

abbrev pub imap_cut : commands.Cut → Cut
imap_cut cut = record { unit = cut.unit; shows = imap_shows cut.shows; rest = cut.rest }

-- a line that is cut off is whole or too long
abbrev pub line_shows : LineShown → Shown
line_shows line.More = ShowsUnit
line_shows line.Whole = ShowsUnit
line_shows line.TooLong = LineTooLong

abbrev pub line_cut : lines.Line → Cut
line_cut cut = record { unit = cut.line; shows = line_shows cut.shows; rest = cut.rest }

-- a content that isn't too long, or no byte
abbrev pub content_in : Option (List ℕ) → List ℕ
content_in None = []
content_in (Some bytes) = bytes

abbrev pub text_shows : Option (List ℕ) → Shown
text_shows None = TextTooLong
text_shows (Some bytes) = ShowsUnit

abbrev pub text_cut : Option (List ℕ) → List ℕ → Cut
text_cut content rest = record { unit = content_in content; shows = text_shows content; rest = rest }

-- The first unit of what came so far and some bytes behind it: the shortest front that is a whole unit of the form or is too
-- long for one, if there is one.
unfoldable pub first : Awaited → List ℕ → Option Cut
first (Imap form bytes) more = option_map imap_cut (commands.first form (bytes ++ more))
first (Line bytes) more = option_map line_cut (lines.first_line (bytes ++ more))
first (Text read) more =
    if is_end (reads read more).place then Some (text_cut (reads read more).kept (drop (taken read more) more)) else None

-- ---- what readers promise

-- the bytes of a unit that came, or the content of a text
abbrev pub unit_of : Awaited → List ℕ
unit_of (Imap form bytes) = bytes
unit_of (Line bytes) = bytes
unit_of (Text read) = content_in read.kept

-- what ends with bytes that show this
abbrev pub ending : Fed → Option Shown
ending More = None
ending Continue = None
ending (Ended shows) = Some shows

abbrev pub is_prompted : Fed → Bool
is_prompted More = false
is_prompted Continue = true
is_prompted (Ended shows) = false

-- the unit that ends with its last byte, if it does
abbrev pub ended : Option Shown → Awaited → Option Cut
ended None awaited = None
ended (Some shows) awaited = Some (record { unit = unit_of awaited; shows = shows; rest = [] })

-- Bytes come one by one, and each shows that the unit goes on, and no more.
abbrev pub GoesOn : Awaited → List ℕ → Type 0
GoesOn awaited [] = Unit {0}
GoesOn awaited (byte ∷ more) =
    (is_prompting (with_more awaited (byte ∷ [])) ≡ false) × (first awaited (byte ∷ []) ≡ None) × GoesOn (with_more awaited (byte ∷ [])) more
