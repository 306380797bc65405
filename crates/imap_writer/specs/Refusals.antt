-- Why a command is refused, as its tagged line tells it.
use Rattle.std.specs.Prelude.{ℕ, List, codes}
use Rattle.imap_writer.specs.declared.refusals.Refusal.{Refusal}
use Rattle.imap_writer.specs.declared.refusals.Refusal.TheVariants.{LiteralTooLong, Syntax, State, NotEnabled, Mechanism, LoginFailed, ReadOnly, Charset, BadName, Absent, TryCreate, Exists, InUse, Full, NoUid, ExpungeIssued}

abbrev pub reason_of : Refusal → List ℕ
reason_of LiteralTooLong = codes "NO literal too long"
reason_of Syntax = codes "BAD syntax"
reason_of State = codes "BAD state"
reason_of NotEnabled = codes "BAD not enabled"
reason_of Mechanism = codes "NO mechanism"
reason_of LoginFailed = codes "NO [AUTHENTICATIONFAILED] login failed"
reason_of ReadOnly = codes "NO read only"
reason_of Charset = codes "NO [BADCHARSET (US-ASCII UTF-8 ISO-8859-1)] charset"
reason_of BadName = codes "NO [CANNOT] bad name"
reason_of Absent = codes "NO [NONEXISTENT] no such mailbox"
reason_of TryCreate = codes "NO [TRYCREATE] no such mailbox"
reason_of Exists = codes "NO [ALREADYEXISTS] mailbox exists"
reason_of InUse = codes "NO [INUSE] mailbox in use"
reason_of Full = codes "NO [LIMIT] full"
reason_of NoUid = codes "NO [LIMIT] no uid left"
reason_of ExpungeIssued = codes "NO [EXPUNGEISSUED] some messages are gone"
