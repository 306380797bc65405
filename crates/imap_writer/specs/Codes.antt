-- The codes with numbers that tagged lines have (RFC 4315 §3, RFC 4551 §3.2, RFC 5162 §3.5).
use Rattle.std.specs.Prelude.{ℕ, List, ◌++◌, codes, decimal}
use Rattle.imap_writer.specs.Sets.{set_text}

-- the mailbox's UIDVALIDITY and the UID that a message got
unfoldable pub append_code : ℕ → ℕ → List ℕ
append_code validity uid = codes "APPENDUID " ++ decimal validity ++ codes " " ++ decimal uid

-- the UIDVALIDITY of the mailbox that was copied to, the UIDs of the messages and those of their copies
unfoldable pub copy_code : ℕ → List ℕ → List ℕ → List ℕ
copy_code validity uids copies = codes "COPYUID " ++ decimal validity ++ codes " " ++ set_text uids ++ codes " " ++ set_text copies

-- the messages that were left as they are, since they had changed
unfoldable pub modified_code : List ℕ → List ℕ
modified_code numbers = codes "MODIFIED " ++ set_text numbers

-- the mod-sequence of messages that were taken
unfoldable pub highest_code : ℕ → List ℕ
highest_code modseq = codes "HIGHESTMODSEQ " ++ decimal modseq
