-- Commands that put messages into mailboxes and change their flags (RFC 3501 §6.3.11, §6.4.6, §6.4.7; RFC 4551 §3.2; RFC 4315 §2.1).
use Rattle.std.specs.Prelude.{ℕ, Bool, true, false, List, [], ◌∷◌, codes, Option, Some, None}
use Rattle.date_grammar.specs.declared.parts.Stamp.{Stamp}
use Rattle.date_grammar.specs.Dates.{internal_stamp}
use Rattle.imap_grammar.specs.declared.commands.Command.{Command}
use Rattle.imap_grammar.specs.declared.commands.Command.TheVariants.{Append, Store, Copy, UidExpunge}
use Rattle.imap_grammar.specs.declared.flags.Flag.{Flag}
use Rattle.imap_grammar.specs.declared.flags.FlagChange.{FlagChange}
use Rattle.imap_grammar.specs.declared.flags.FlagChange.TheVariants.{Set, Add, Remove}
use Rattle.imap_grammar.specs.Readings.{Reading, ◌>>=◌, ◌>>◌, byte, begun, pure, given, space, end}
use Rattle.imap_grammar.specs.Strings.{astring, quoted, literal, modseq}
use Rattle.imap_grammar.specs.Words.{keyword, word}
use Rattle.imap_grammar.specs.Sets.{seq_set}
use Rattle.imap_grammar.specs.Flags.{flags, flag_list}

-- the flags of a message that is put in, and a space
unfoldable pub flags_before : Reading (List Flag)
flags_before = begun 40
    (do
      all ← flag_list
      space
      pure all)
    (pure [])

-- A date in quotes, as `"01-Jul-2003 10:52:37 +0200"`.
unfoldable pub date : Reading Stamp
date = do
  text ← quoted
  given (internal_stamp text)

-- the date that a message is put in with, and a space
unfoldable pub date_before : Reading (Option Stamp)
date_before = begun 34
    (do
      stamp ← date
      space
      pure (Some stamp))
    (pure None)

unfoldable pub append : Reading Command
append = do
  space
  name ← astring
  space
  all ← flags_before
  stamp ← date_before
  text ← literal
  end
  pure (Append name all stamp text)

-- how the flags change, and whether that isn't told
abbrev pub changes : List (List ℕ × (FlagChange × Bool))
changes =
    (codes "FLAGS", (Set, false))
    ∷ (codes "FLAGS.SILENT", (Set, true))
    ∷ (codes "+FLAGS", (Add, false))
    ∷ (codes "+FLAGS.SILENT", (Add, true))
    ∷ (codes "-FLAGS", (Remove, false))
    ∷ (codes "-FLAGS.SILENT", (Remove, true))
    ∷ []

-- the condition that no message has changed since, and a space
unfoldable pub unchanged_before : Reading (Option ℕ)
unchanged_before = begun 40
    (do
      byte 40
      word (codes "UNCHANGEDSINCE")
      space
      since ← modseq 0
      byte 41
      space
      pure (Some since))
    (pure None)

unfoldable pub store : Bool → Reading Command
store by_uid = do
  space
  set ← seq_set
  space
  unchanged ← unchanged_before
  change ← keyword changes
  space
  all ← flags
  end
  pure (Store by_uid set unchanged change.0 change.1 all)

unfoldable pub copy : Bool → Reading Command
copy by_uid = do
  space
  set ← seq_set
  space
  name ← astring
  end
  pure (Copy by_uid set name)

unfoldable pub uid_expunge : Reading Command
uid_expunge = do
  space
  set ← seq_set
  end
  pure (UidExpunge set)
