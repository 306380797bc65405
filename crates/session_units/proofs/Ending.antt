-- Where units end, of whatever form.
use Rattle.std.proofs.Common.{◌≡◌, ℕ, Some, None, List, [], ◌∷◌, ◌++◌, refl, sym, ap, append_assoc}
use Rattle.imap_lexer.specs.Units as commands
use Rattle.lmtp_core.specs.Lines as lines
use Rattle.session_units.specs.declared.forms.Awaits.{Awaits}
use Rattle.session_units.specs.declared.forms.Awaits.TheVariants.{Command, PlainLine, LmtpLine, LmtpText}
use Rattle.session_units.specs.Awaited.{Awaited, Imap, Line, Text, begun, with_more}
use Rattle.session_units.specs.Units.{Cut, first}
use Rattle.session_units.proofs.Lines.{ImapAtLast, ImapStays, LineGoesOn, LineStays, imap-at_last, imap-goes_on, imap-stays, line-at_last, line-goes_on, line-stays}
use Rattle.session_units.proofs.Texts.{Counted, Joined, text-at_last, text-goes_on, text-stays}

pub begun-none : (awaits : Awaits) → first (begun awaits) [] ≡ None
unfolding first commands.first lines.first_line
begun-none Command = refl
begun-none PlainLine = refl
begun-none LmtpLine = refl
begun-none LmtpText = refl

pub stays : ImapStays → LineStays → Joined → Counted → (awaited : Awaited) (bytes later : List ℕ) (cut : Cut) → first awaited bytes ≡ Some cut
    → first awaited (bytes ++ later) ≡ Some (record { unit = cut.unit; shows = cut.shows; rest = cut.rest ++ later })
stays imap line joined counted (Imap form so_far) bytes later cut h = imap-stays imap form so_far bytes later cut h
stays imap line joined counted (Line so_far) bytes later cut h = line-stays line so_far bytes later cut h
stays imap line joined counted (Text read) bytes later cut h = text-stays joined counted read bytes later cut h

pub goes_on : Joined → Counted → (awaited : Awaited) (bytes later : List ℕ) → first awaited bytes ≡ None → first awaited (bytes ++ later) ≡ first (with_more awaited bytes) later
goes_on joined counted (Imap form so_far) bytes later none = imap-goes_on form so_far bytes later
goes_on joined counted (Line so_far) bytes later none = line-goes_on so_far bytes later
goes_on joined counted (Text read) bytes later none = text-goes_on joined counted read bytes later none

pub behind_both : Joined → (awaited : Awaited) (bytes later : List ℕ) → with_more awaited (bytes ++ later) ≡ with_more (with_more awaited bytes) later
behind_both joined (Imap form so_far) bytes later = ap (Imap form) (sym (append_assoc so_far bytes later))
behind_both joined (Line so_far) bytes later = ap Line (sym (append_assoc so_far bytes later))
behind_both joined (Text read) bytes later = ap Text (joined read bytes later)

pub at_last : ImapAtLast → LineGoesOn → (awaited : Awaited) (byte : ℕ) (cut : Cut) → first awaited [] ≡ None → first awaited (byte ∷ []) ≡ Some cut → cut.rest ≡ []
at_last imap line (Imap form so_far) byte cut none h = imap-at_last imap form so_far byte cut none h
at_last imap line (Line so_far) byte cut none h = line-at_last line so_far byte cut none h
at_last imap line (Text read) byte cut none h = text-at_last read byte cut none h
