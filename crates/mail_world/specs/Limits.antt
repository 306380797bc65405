-- How much a store takes.
use Rattle.std.specs.Prelude.{ℕ, ◌-◌, ◌^◌}

abbrev pub most_users : ℕ
most_users = 1000

-- of a user
abbrev pub most_mailboxes : ℕ
most_mailboxes = 1000

abbrev pub most_subscriptions : ℕ
most_subscriptions = 2000

-- of a mailbox
abbrev pub most_messages : ℕ
most_messages = 100000

-- of a message
abbrev pub most_flags : ℕ
most_flags = 30

-- the last id of a mailbox: UIDVALIDITY has 32 bits (RFC 3501 §9, nz-number)
abbrev pub last_mailbox : ℕ
last_mailbox = 4294967295

-- The last UID. The UID of the next message is one more at most, and has 32 bits too (RFC 3501 §2.3.1.1).
abbrev pub last_uid : ℕ
last_uid = 4294967294

-- the last mod-sequence
abbrev pub last_modseq : ℕ
last_modseq = 2 ^ 64 - 2
