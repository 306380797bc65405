-- Mailboxes that are made, and messages that are appended (RFC 3501 §6.3.3, §6.3.11).
use Rattle.std.specs.Prelude.{ℕ, ◌&&◌, Bool, true, false, List, length, Option, Some, None, ℤ, pos, neg_ℤ, int_le, nat_le, nat_lt, min, codes, if◌then◌else◌}
use Rattle.std.specs.List.{list_all}
use Rattle.imap_lexer.specs.Units.{line_limit, literal_limit}
use Rattle.date_grammar.specs.declared.parts.Stamp.{Stamp}
use Rattle.date_grammar.specs.Dates.{last_second}
use Rattle.date_grammar.specs.Stamps.{civil_day_of}
use Rattle.imap_grammar.specs.declared.flags.Flag.{Flag}
use Rattle.imap_grammar.specs.Flags.{flag_text}
use Rattle.imap_writer.specs.declared.refusals.Refusal.{Refusal}
use Rattle.imap_writer.specs.declared.refusals.Refusal.TheVariants.{LiteralTooLong, Syntax, TryCreate}
use Rattle.mime_reader.specs.Wrapping.{mail}
use Rattle.mail_world.specs.Flags.{is_flag}
use Rattle.mail_world.specs.Changes.{Create, Append}
use Rattle.mail_world.specs.Looking.{mailbox_id}
use Rattle.imap_steps.specs.Stepping.{Shared, Stepped, refused_with, made}

unfoldable pub create : Shared → ℕ → List ℕ → List ℕ → Stepped
create shared user tag name = made shared (Create user name) tag (codes "CREATE")

-- ---- what can't be appended to any mailbox. This is no rule of IMAP, but makes the step one for any command: a unit has no such
-- text, since the lexer bounds its literals, and is read as no such flag or date.

-- a flag that a message can have, no longer than a line
abbrev pub is_fit_flag : Flag → Bool
is_fit_flag flag = is_flag flag && nat_le (length (flag_text flag)) line_limit

abbrev pub is_between : ℤ → ℤ → ℤ → Bool
is_between low high z = int_le low z && int_le z high

-- a moment that has a print: its day there is from 0001-01-01 to 9999-12-31, and its zone is less than 24 hours
abbrev pub has_print : Stamp → Bool
has_print date = is_between (neg_ℤ (pos 719_162)) (pos 2_932_896) (civil_day_of date) && is_between (neg_ℤ (pos 1439)) (pos 1439) date.zone

abbrev pub is_fit_date : Option Stamp → Bool
is_fit_date None = true
is_fit_date (Some date) = has_print date

unfoldable pub unfit : List Flag → Option Stamp → List ℕ → Option Refusal
unfit flags date text =
    if nat_lt literal_limit (length text) then Some LiteralTooLong
    else (if list_all is_fit_flag flags && is_fit_date date then None else Some Syntax)

-- ---- what is appended

-- The internal date of a message for which none is given: now, told in universal time. A time behind the year 9999 is its last second.
abbrev pub date_or : Option Stamp → ℕ → Stamp
date_or (Some date) now = date
date_or None now = record { seconds = pos (min now last_second); zone = pos 0 }

abbrev pub appended_if : Shared → List ℕ → List Flag → Option Stamp → List ℕ → ℕ → Option ℕ → Stepped
appended_if shared tag flags date text now None = refused_with shared tag TryCreate
appended_if shared tag flags date text now (Some mailbox) =
    made shared (Append mailbox flags (date_or date now) (mail text now) false) tag (codes "APPEND")

abbrev pub unless_unfit : Shared → List ℕ → Option Refusal → Stepped → Stepped
unless_unfit shared tag (Some refusal) done = refused_with shared tag refusal
unless_unfit shared tag None done = done

-- A text that can't be read is kept as a message that tells so, with the text attached.
unfoldable pub append : Shared → ℕ → List ℕ → List ℕ → List Flag → Option Stamp → List ℕ → ℕ → Stepped
append shared user tag name flags date text now =
    unless_unfit shared tag (unfit flags date text)
    (appended_if shared tag flags date text now (mailbox_id user name shared.world.mailboxes))
