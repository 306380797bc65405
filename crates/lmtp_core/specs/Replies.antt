-- Lines that are sent (RFC 2033 §4.2, RFC 2034, RFC 5321 §4.2.3).
use Rattle.std.specs.Prelude.{ℕ, List, codes}
use Rattle.lmtp_core.specs.declared.replies.Reply.{Reply}
use Rattle.lmtp_core.specs.declared.replies.Reply.TheVariants.{Greeting, TooManySessions, LineTooLong, Extensions, SenderOk, RecipientOk, Done, GoAhead, CannotVerify, Bye, BadSequence, TooManyRecipients, NoSuchUser, Syntax, UnknownCommand, Stored, MailboxFull, MessageTooLong}

abbrev pub reply_text : Reply → List ℕ
reply_text Greeting = codes "220 mailstored LMTP ready\r\n"
reply_text TooManySessions = codes "421 4.3.2 too many sessions\r\n"
reply_text LineTooLong = codes "421 4.3.0 line too long\r\n"
reply_text Extensions = codes "250-mailstored\r\n250-PIPELINING\r\n250-ENHANCEDSTATUSCODES\r\n250 8BITMIME\r\n"
reply_text SenderOk = codes "250 2.1.0 ok\r\n"
reply_text RecipientOk = codes "250 2.1.5 ok\r\n"
reply_text Done = codes "250 2.0.0 ok\r\n"
reply_text GoAhead = codes "354 go ahead\r\n"
reply_text CannotVerify = codes "252 2.0.0 cannot verify\r\n"
reply_text Bye = codes "221 2.0.0 bye\r\n"
reply_text BadSequence = codes "503 5.5.1 bad sequence\r\n"
reply_text TooManyRecipients = codes "452 4.5.3 too many recipients\r\n"
reply_text NoSuchUser = codes "550 5.1.1 no such user\r\n"
reply_text Syntax = codes "501 5.5.4 syntax\r\n"
reply_text UnknownCommand = codes "500 5.5.2 unknown command\r\n"
reply_text Stored = codes "250 2.0.0 stored\r\n"
reply_text MailboxFull = codes "452 4.2.2 mailbox full\r\n"
reply_text MessageTooLong = codes "552 5.3.4 message too long\r\n"
