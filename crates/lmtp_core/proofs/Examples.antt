-- Worked examples: texts, the commands that lines are, and a session.
use Rattle.std.specs.Prelude.{◌≡◌, ◌∷◌, [], true, None, Some, codes, refl, replicate}
use Rattle.lmtp_core.specs.declared.commands.Command.TheVariants.{Lhlo, Mail, Rcpt, Data, Rset, Noop, Vrfy, Quit, OtherForm, Unknown}
use Rattle.lmtp_core.specs.declared.replies.Reply.TheVariants.{Extensions, SenderOk, RecipientOk, GoAhead, BadSequence, TooManyRecipients, NoSuchUser}
use Rattle.lmtp_core.specs.declared.session.Delivered.TheVariants.{Stored, MailboxFull, TooLong}
use Rattle.lmtp_core.specs.declared.session.Next.TheVariants.{Line, Text as AwaitsText, Close}
use Rattle.lmtp_core.specs.Texts.{content, first_text}
use Rattle.lmtp_core.specs.Commands.{asked, command}
use Rattle.lmtp_core.specs.Session.{begun, replied, reset, text_replied}

-- Texts end at a line that is a dot alone, and have the CRLF before it.
texts : (first_text (codes "A: b\r\n\r\n..\r\n.\r\nQUIT\r\n") ≡ Some (record { lines = codes "A: b" ∷ [] ∷ codes ".." ∷ []; rest = codes "QUIT\r\n" }))
    × (content (codes "A: b" ∷ [] ∷ codes ".." ∷ []) ≡ codes "A: b\r\n\r\n.\r\n")
    × (first_text (codes ".\r\n") ≡ Some (record { lines = []; rest = [] }))
    × (first_text (codes "a\r\n.\r\n") ≡ Some (record { lines = codes "a" ∷ []; rest = [] }))
    × (content (codes ".a" ∷ codes "..b" ∷ codes "." ∷ codes "c." ∷ []) ≡ codes "a\r\n.b\r\n\r\nc.\r\n")
unfolding first_text
texts = (refl, refl, refl, refl, refl)

-- A bare LF or CR ends no line, and nothing ends a text but a whole line.
no_texts : (first_text (codes "a\r\n.\n") ≡ None) × (first_text (codes "a\n.\r\n") ≡ None) × (first_text (codes "a\r\n.\r") ≡ None) × (first_text (codes "a\r\n. \r\n") ≡ None)
    × (first_text (codes ".\r\r\n") ≡ None) × (first_text (codes "") ≡ None) × (first_text (codes "..\r\n") ≡ None)
unfolding first_text
no_texts = (refl, refl, refl, refl, refl, refl, refl)

commands : (command (codes "LHLO x\r\n") ≡ Lhlo) × (command (codes "lhlo  \r\n") ≡ Lhlo) × (command (codes "MAIL FROM:<>\r\n") ≡ Mail) × (command (codes "mail from:<a@b> SIZE=1>\r\n") ≡ Mail)
    × (command (codes "RCPT TO:<alice@a>\r\n") ≡ Rcpt) × (command (codes "rcpt to:<alice>\r\n") ≡ Rcpt) × (command (codes "RCPT TO:<a@>\r\n") ≡ Rcpt) × (command (codes "RCPT TO:<a@b@c>\r\n") ≡ Rcpt)
    × (command (codes "DATA\r\n") ≡ Data) × (command (codes "Rset\r\n") ≡ Rset) × (command (codes "NOOP\r\n") ≡ Noop) × (command (codes "VRFY a\r\n") ≡ Vrfy) × (command (codes "qUIT\r\n") ≡ Quit)
unfolding command
commands = (refl, refl, refl, refl, refl, refl, refl, refl, refl, refl, refl, refl, refl)

-- a known word in another form
other_forms : (command (codes "LHLO\r\n") ≡ OtherForm) × (command (codes "LHLO \r\n") ≡ OtherForm) × (command (codes "MAIL\r\n") ≡ OtherForm) × (command (codes "MAIL FROM: <a>\r\n") ≡ OtherForm)
    × (command (codes "MAIL FROM:<a\r\n") ≡ OtherForm) × (command (codes "MAIL TO:<a>\r\n") ≡ OtherForm) × (command (codes "RCPT TO:<>\r\n") ≡ OtherForm) × (command (codes "RCPT TO:<@a>\r\n") ≡ OtherForm)
    × (command (codes "RCPT TO:<a b>\r\n") ≡ OtherForm) × (command (codes "RCPT TO:<a> \r\n") ≡ OtherForm) × (command (codes "RCPT TO:a\r\n") ≡ OtherForm) × (command (codes "RCPT TO:<a@b>>\r\n") ≡ OtherForm)
    × (command (codes "DATA \r\n") ≡ OtherForm) × (command (codes "RSET x\r\n") ≡ OtherForm) × (command (codes "NOOP x\r\n") ≡ OtherForm) × (command (codes "VRFY\r\n") ≡ OtherForm) × (command (codes "QUIT now\r\n") ≡ OtherForm)
unfolding command
other_forms = (refl, refl, refl, refl, refl, refl, refl, refl, refl, refl, refl, refl, refl, refl, refl, refl, refl)

unknown : (command (codes "\r\n") ≡ Unknown) × (command (codes "EHLO x\r\n") ≡ Unknown) × (command (codes "DATA\tx\r\n") ≡ Unknown) × (command (codes " DATA\r\n") ≡ Unknown) × (command (codes "DATAX\r\n") ≡ Unknown)
unfolding command
unknown = (refl, refl, refl, refl, refl)

-- the local part is asked for in small letters
local_parts : (asked (codes "RCPT TO:<Alice@A>\r\n") ≡ Some (codes "alice")) × (asked (codes "rcpt to:<BOB>\r\n") ≡ Some (codes "bob")) × (asked (codes "RCPT TO:<>\r\n") ≡ None) × (asked (codes "VRFY alice\r\n") ≡ None)
unfolding command
local_parts = (refl, refl, refl, refl)

-- The session of a mail to a user who is named twice, and to one whom nobody knows.
a_session : (replied begun (codes "LHLO h\r\n") None ≡ record { reply = Extensions; after = record { greeted = true; mail = None }; next = Line })
    × (replied (record { greeted = true; mail = None }) (codes "MAIL FROM:<>\r\n") None ≡ record { reply = SenderOk; after = record { greeted = true; mail = Some [] }; next = Line })
    × (replied (record { greeted = true; mail = Some [] }) (codes "RCPT TO:<alice@a>\r\n") (Some 1) ≡ record { reply = RecipientOk; after = record { greeted = true; mail = Some (1 ∷ []) }; next = Line })
    × (replied (record { greeted = true; mail = Some (1 ∷ []) }) (codes "RCPT TO:<nobody@a>\r\n") None ≡ record { reply = NoSuchUser; after = record { greeted = true; mail = Some (1 ∷ []) }; next = Line })
    × (replied (record { greeted = true; mail = Some (1 ∷ []) }) (codes "RCPT TO:<Alice@b>\r\n") (Some 1) ≡ record { reply = RecipientOk; after = record { greeted = true; mail = Some (1 ∷ 1 ∷ []) }; next = Line })
    × (replied (record { greeted = true; mail = Some (1 ∷ 1 ∷ []) }) (codes "DATA\r\n") None ≡ record { reply = GoAhead; after = record { greeted = true; mail = Some (1 ∷ 1 ∷ []) }; next = AwaitsText })
    × (text_replied (Stored ∷ Stored ∷ []) ≡ codes "250 2.0.0 stored\r\n250 2.0.0 stored\r\n")
    × (reset (record { greeted = true; mail = Some (1 ∷ 1 ∷ []) }) ≡ record { greeted = true; mail = None })
unfolding command
a_session = (refl, refl, refl, refl, refl, refl, refl, refl)

-- what is out of sequence, before LHLO, in a mail and without one
out_of_sequence : ((replied begun (codes "MAIL FROM:<>\r\n") None).reply ≡ BadSequence) × ((replied begun (codes "RCPT TO:<a>\r\n") (Some 1)).reply ≡ BadSequence) × ((replied begun (codes "DATA\r\n") None).reply ≡ BadSequence)
    × ((replied (record { greeted = true; mail = Some [] }) (codes "MAIL FROM:<>\r\n") None).reply ≡ BadSequence)
    × ((replied (record { greeted = true; mail = Some [] }) (codes "DATA\r\n") None).reply ≡ BadSequence)
    × ((replied (record { greeted = true; mail = None }) (codes "RCPT TO:<a>\r\n") (Some 1)).reply ≡ BadSequence)
    × ((replied (record { greeted = true; mail = Some (1 ∷ []) }) (codes "LHLO x\r\n") None).after ≡ record { greeted = true; mail = None })
    × ((replied (record { greeted = true; mail = Some (1 ∷ []) }) (codes "RSET\r\n") None).after ≡ record { greeted = true; mail = None })
    × ((replied (record { greeted = true; mail = Some (1 ∷ []) }) (codes "NOOP\r\n") None).after ≡ record { greeted = true; mail = Some (1 ∷ []) })
    × ((replied begun (codes "QUIT\r\n") None).next ≡ Close)
unfolding command
out_of_sequence = (refl, refl, refl, refl, refl, refl, refl, refl, refl, refl)

-- The 101st recipient is one too many, known or not.
too_many : ((replied (record { greeted = true; mail = Some (replicate 99 1) }) (codes "RCPT TO:<a>\r\n") (Some 1)).reply ≡ RecipientOk)
    × ((replied (record { greeted = true; mail = Some (replicate 100 1) }) (codes "RCPT TO:<a>\r\n") (Some 1)).reply ≡ TooManyRecipients)
    × ((replied (record { greeted = true; mail = Some (replicate 100 1) }) (codes "RCPT TO:<a>\r\n") None).reply ≡ TooManyRecipients)
unfolding command
too_many = (refl, refl, refl)

delivered : text_replied (Stored ∷ MailboxFull ∷ TooLong ∷ []) ≡ codes "250 2.0.0 stored\r\n452 4.2.2 mailbox full\r\n552 5.3.4 message too long\r\n"
delivered = refl
