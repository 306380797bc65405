-- Mailboxes that get other names, and INBOX, which hands its messages to a new mailbox (RFC 3501 §6.3.5).
use Rattle.std.specs.Prelude.{ℕ, List, codes}
use Rattle.mail_world.specs.Changes.{Rename}
use Rattle.imap_steps.specs.Stepping.{Shared, Stepped, made}

unfoldable pub rename : Shared → ℕ → List ℕ → List ℕ → List ℕ → Stepped
rename shared user tag from to = made shared (Rename user from to) tag (codes "RENAME")
