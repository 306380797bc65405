-- What a session awaits, as far as it came.
use Rattle.std.specs.Prelude.{ℕ, ◌<◌, Bool, false, List, [], ◌++◌}
use Rattle.imap_lexer.specs.declared.units.Form.{Form}
use Rattle.imap_lexer.specs.declared.units.Form.TheVariants as form
use Rattle.imap_lexer.specs.Units.{reading, shown, is_prompted as is_prompted_by}
use Rattle.imap_lexer.specs.Lexer as lexer
use Rattle.lmtp_core.specs.Reading.{Read, reads, unread}
use Rattle.session_units.specs.declared.forms.Awaits.{Awaits}
use Rattle.session_units.specs.declared.forms.Awaits.TheVariants.{Command, PlainLine, LmtpLine, LmtpText}
use Rattle.session_units.specs.declared.forms.Source.{Source}
use Rattle.session_units.specs.declared.forms.Source.TheVariants as source

-- A unit as far as it came: the bytes of a command or of a line, or what was read of a text of LMTP.
pub data Awaited : Type 0 where
  Imap : Form → List ℕ → Awaited
  Line : List ℕ → Awaited
  Text : Read → Awaited

-- before the first byte of a unit of a form
abbrev pub begun : Awaits → Awaited
begun Command = Imap form.Command []
begun PlainLine = Imap form.Plain []
begun LmtpLine = Line []
begun LmtpText = Text unread

abbrev pub of_imap : Form → Awaits
of_imap form.Command = Command
of_imap form.Plain = PlainLine

-- the form that is awaited
abbrev pub awaits_of : Awaited → Awaits
awaits_of (Imap form bytes) = of_imap form
awaits_of (Line bytes) = LmtpLine
awaits_of (Text read) = LmtpText

-- A unit with further bytes, none of which ends it.
abbrev pub with_more : Awaited → List ℕ → Awaited
with_more (Imap form bytes) more = Imap form (bytes ++ more)
with_more (Line bytes) more = Line (bytes ++ more)
with_more (Text read) more = Text (reads read more)

-- Whether the peer awaits a prompt before it goes on: the bytes of a command end with the announcement of a literal.
abbrev pub is_prompting : Awaited → Bool
is_prompting (Imap form bytes) = is_prompted_by (shown form bytes)
is_prompting (Line bytes) = false
is_prompting (Text read) = false

-- A byte more takes memory: it is one of a literal, or of a text of LMTP.
abbrev pub TakesMemory : Awaited → Type 0
TakesMemory (Imap form bytes) = 0 < (reading form bytes).left
TakesMemory (Line bytes) = ⊥
TakesMemory (Text read) = Unit {0}

-- what a reader holds whose source is one of its lexers
abbrev pub held_by : Source → lexer.Awaited → List ℕ → Read → Awaited
held_by source.Imap imap line text = Imap imap.form imap.bytes
held_by source.Line imap line text = Line line
held_by source.Text imap line text = Text text

-- the lexer that reads units of a form
abbrev pub source_for : Awaits → Source
source_for Command = source.Imap
source_for PlainLine = source.Imap
source_for LmtpLine = source.Line
source_for LmtpText = source.Text

-- the form in which `imap_lexer` reads them
abbrev pub form_for : Awaits → Form
form_for Command = form.Command
form_for PlainLine = form.Plain
form_for LmtpLine = form.Command
form_for LmtpText = form.Command
