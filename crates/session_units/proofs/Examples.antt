-- Worked examples of units.
use Rattle.std.proofs.Common.{◌≡◌, List, ℕ, Some, None, codes, refl}
use Rattle.imap_lexer.specs.Units as commands
use Rattle.lmtp_core.specs.Lines as lines
use Rattle.session_units.specs.declared.forms.Awaits.TheVariants.{Command, LmtpLine, LmtpText}
use Rattle.session_units.specs.declared.forms.Shown.TheVariants.{Unit}
use Rattle.session_units.specs.Awaited.{begun, with_more}
use Rattle.session_units.specs.Units.{first}

-- a command with a literal
command : first (begun Command) (codes "a LOGIN {2}\r\nxy z\r\nb NOOP\r\n")
    ≡ Some (record { unit = codes "a LOGIN {2}\r\nxy z\r\n"; shows = Unit; rest = codes "b NOOP\r\n" })
unfolding first commands.first commands.reading
command = refl

-- a line that came in two pieces
line : first (with_more (begun LmtpLine) (codes "LHL")) (codes "O h\r\nNOOP\r\n") ≡ Some (record { unit = codes "LHLO h\r\n"; shows = Unit; rest = codes "NOOP\r\n" })
unfolding first lines.first_line
line = refl

-- a text, whose content is one line of one dot; a text that came in two pieces; and one that goes on
text : first (begun LmtpText) (codes "..\r\n.\r\nQUIT\r\n") ≡ Some (record { unit = codes ".\r\n"; shows = Unit; rest = codes "QUIT\r\n" })
unfolding first
text = refl

text_in_two : first (with_more (begun LmtpText) (codes "A: b\r\n.")) (codes "\r\nQUIT\r\n") ≡ Some (record { unit = codes "A: b\r\n"; shows = Unit; rest = codes "QUIT\r\n" })
unfolding first
text_in_two = refl

text_more : first (begun LmtpText) (codes "A: b\r\n..\r\n") ≡ None
unfolding first
text_more = refl
