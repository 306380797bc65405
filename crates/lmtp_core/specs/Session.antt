-- What a session answers (RFC 2033 §4.2, RFC 5321 §4.1.4).
use Rattle.std.specs.Prelude.{ℕ, Bool, true, false, ◌&&◌, List, [], ◌∷◌, ◌++◌, Option, Some, None, is_none, length, nat_lt, if◌then◌else◌}
use Rattle.std.specs.List.{flat_map}
use Rattle.lmtp_core.specs.declared.commands.Command.{Command}
use Rattle.lmtp_core.specs.declared.commands.Command.TheVariants.{Lhlo, Mail, Rcpt, Data, Rset, Noop, Vrfy, Quit, OtherForm, Unknown}
use Rattle.lmtp_core.specs.declared.replies.Reply.{Reply}
use Rattle.lmtp_core.specs.declared.replies.Reply.TheVariants.{Extensions, SenderOk, RecipientOk, Done, GoAhead, CannotVerify, Bye, BadSequence, TooManyRecipients, NoSuchUser, Syntax, UnknownCommand, Stored, MailboxFull, MessageTooLong}
use Rattle.lmtp_core.specs.declared.session.Delivered.{Delivered}
use Rattle.lmtp_core.specs.declared.session.Delivered.TheVariants as delivered
use Rattle.lmtp_core.specs.declared.session.Next.{Next}
use Rattle.lmtp_core.specs.declared.session.Next.TheVariants.{Line, Text, Close}
use Rattle.lmtp_core.specs.Commands.{command}
use Rattle.lmtp_core.specs.Replies.{reply_text}

-- A session: whether an LHLO was taken, and the mail that has a sender, with the users of the recipients that were
-- accepted, in their order.
pub record Session : Type 0 where
  pub greeted : Bool
  pub mail : Option (List ℕ)

-- before the first line
abbrev pub begun : Session
begun = record { greeted = false; mail = None }

-- without its sender and its recipients
abbrev pub reset : Session → Session
reset session = record { greeted = session.greeted; mail = None }

-- The users of the recipients that were accepted, each as often as it was named.
abbrev pub users_of : Option (List ℕ) → List ℕ
users_of None = []
users_of (Some users) = users

-- How many recipients a mail may have.
abbrev pub recipient_limit : ℕ
recipient_limit = 100

-- What is answered to a line, the session after it, and what is awaited then.
pub record Answer : Type 0 where
  pub reply : Reply
  pub after : Session
  pub next : Next

-- an answer that changes nothing
abbrev pub unchanged : Session → Reply → Answer
unchanged session reply = record { reply = reply; after = session; next = Line }

-- an answer with which the mail becomes this
abbrev pub with_mail : Session → Reply → Option (List ℕ) → Answer
with_mail session reply mail = record { reply = reply; after = record { greeted = session.greeted; mail = mail }; next = Line }

-- RCPT of a user who is known or not, in a mail with these recipients
abbrev pub recipient_known : Session → List ℕ → Option ℕ → Answer
recipient_known session users None = unchanged session NoSuchUser
recipient_known session users (Some user) = with_mail session RecipientOk (Some (users ++ user ∷ []))

abbrev pub recipient_replied : Session → Option (List ℕ) → Option ℕ → Answer
recipient_replied session None known = unchanged session BadSequence
recipient_replied session (Some users) known =
    if nat_lt (length users) recipient_limit then recipient_known session users known else unchanged session TooManyRecipients

-- DATA, where these recipients were accepted
abbrev pub data_replied : Session → List ℕ → Answer
data_replied session [] = unchanged session BadSequence
data_replied session (user ∷ users) = record { reply = GoAhead; after = session; next = Text }

-- What a command is answered, where the user whom it asks for is known or not.
abbrev pub command_replied : Session → Command → Option ℕ → Answer
command_replied session Lhlo known = record { reply = Extensions; after = record { greeted = true; mail = None }; next = Line }
command_replied session Mail known =
    if session.greeted && is_none session.mail then with_mail session SenderOk (Some []) else unchanged session BadSequence
command_replied session Rcpt known = recipient_replied session session.mail known
command_replied session Data known = data_replied session (users_of session.mail)
command_replied session Rset known = with_mail session Done None
command_replied session Noop known = unchanged session Done
command_replied session Vrfy known = unchanged session CannotVerify
command_replied session Quit known = record { reply = Bye; after = session; next = Close }
command_replied session OtherForm known = unchanged session Syntax
command_replied session Unknown known = unchanged session UnknownCommand

-- What a line is answered.
abbrev pub replied : Session → List ℕ → Option ℕ → Answer
replied session line known = command_replied session (command line) known

-- What became of a mail for one of its recipients.
abbrev pub delivered_reply : Delivered → Reply
delivered_reply delivered.Stored = Stored
delivered_reply delivered.MailboxFull = MailboxFull
delivered_reply delivered.TooLong = MessageTooLong

-- What is answered to a text: a line for each recipient that was accepted, in their order (RFC 2033 §4.2).
abbrev pub text_replied : List Delivered → List ℕ
text_replied answers = flat_map (λ answer. reply_text (delivered_reply answer)) answers
