-- FETCH and its items (RFC 3501 §6.4.5; RFC 4551 §3.3; RFC 5162 §3.2).
use Rattle.std.specs.Prelude.{ℕ, zero, suc, Bool, true, false, if◌then◌else◌, List, [], ◌∷◌, ◌++◌, length, codes, Option, Some, None}
use Rattle.mail_text.specs.Texts.{begins}
use Rattle.imap_grammar.specs.declared.commands.Command.{Command}
use Rattle.imap_grammar.specs.declared.commands.Command.TheVariants.{Fetch}
use Rattle.imap_grammar.specs.declared.items.FetchItem.{FetchItem}
use Rattle.imap_grammar.specs.declared.items.FetchItem.TheVariants as item
use Rattle.imap_grammar.specs.declared.items.Section.{Section}
use Rattle.imap_grammar.specs.declared.items.SectionPart.{SectionPart}
use Rattle.imap_grammar.specs.declared.items.SectionPart.TheVariants as part
use Rattle.imap_grammar.specs.declared.fetching.ItemWord.{ItemWord}
use Rattle.imap_grammar.specs.declared.fetching.ItemWord.TheVariants as word
use Rattle.imap_grammar.specs.declared.fetching.PartWord.{PartWord}
use Rattle.imap_grammar.specs.declared.fetching.PartWord.TheVariants as within
use Rattle.imap_grammar.specs.declared.classes.Class.TheVariants.{Digit}
use Rattle.imap_grammar.specs.Classes.{is_in}
use Rattle.imap_grammar.specs.Readings.{Reading, ◌>>=◌, ◌>>◌, byte, begun, pure, nothing, space, end}
use Rattle.imap_grammar.specs.Strings.{astring, number32, modseq}
use Rattle.imap_grammar.specs.Words as words
use Rattle.imap_grammar.specs.Words.{keyword}
use Rattle.imap_grammar.specs.Lists.{listed}
use Rattle.imap_grammar.specs.Sets.{seq_set}

abbrev pub part_words : List (List ℕ × PartWord)
part_words =
    (codes "HEADER", within.Header)
    ∷ (codes "HEADER.FIELDS", within.Fields)
    ∷ (codes "HEADER.FIELDS.NOT", within.OtherFields)
    ∷ (codes "TEXT", within.Text)
    ∷ (codes "MIME", within.Mime)
    ∷ []

-- the names of fields, behind a space
unfoldable pub field_names : Reading (List (List ℕ))
field_names = space >> listed astring

-- What is asked of a message or a part of it. MIME stands behind a number alone.
unfoldable pub part_by : Bool → PartWord → Reading SectionPart
part_by numbered within.Header = pure part.Header
part_by numbered within.Fields = do
  names ← field_names
  pure (part.Fields names false)
part_by numbered within.OtherFields = do
  names ← field_names
  pure (part.Fields names true)
part_by numbered within.Text = pure part.Text
part_by numbered within.Mime = if numbered then pure part.Mime else nothing

unfoldable pub section_part : Bool → Reading SectionPart
section_part numbered = do
  name ← keyword part_words
  part_by numbered name

-- what is asked of the part with these numbers
unfoldable pub part_at : List ℕ → Reading Section
part_at path = do
  what ← section_part true
  pure (record { path = path; part = what })

-- The numbers of a part, and what is asked of it. The count bounds the turns; each turn takes a byte.
unfoldable pub numbered_from : ℕ → List ℕ → Reading Section
numbered_from zero path = nothing
numbered_from (suc turns) path = do
  n ← number32 1
  begun 46
      (do
        byte 46
        λ text. if begins (is_in Digit) text then numbered_from turns (path ++ n ∷ []) text else part_at (path ++ n ∷ []) text)
      (pure (record { path = path ++ n ∷ []; part = part.Whole }))

abbrev pub numbered : Reading Section
numbered = λ text. numbered_from (length text) [] text

-- What stands between the brackets of a part.
unfoldable pub section : Reading Section
section = λ text.
    if begins (is_in Digit) text then numbered text
    else begun 93 (pure (record { path = []; part = part.Whole })) (do
      what ← section_part false
      pure (record { path = []; part = what })) text

-- Where the bytes asked for start, and how many there are, or all.
unfoldable pub partial : Reading (Option (ℕ × ℕ))
partial = begun 60
    (do
      byte 60
      start ← number32 0
      byte 46
      count ← number32 1
      byte 62
      pure (Some (start, count)))
    (pure None)

-- a section in brackets
unfoldable pub bracketed : Bool → Reading FetchItem
bracketed peek = do
  byte 91
  what ← section
  byte 93
  bytes ← partial
  pure (item.Part what peek bytes)

abbrev pub item_words : List (List ℕ × ItemWord)
item_words =
    (codes "ALL", word.All)
    ∷ (codes "FAST", word.Fast)
    ∷ (codes "FULL", word.Full)
    ∷ (codes "BODY", word.Body)
    ∷ (codes "BODY.PEEK", word.Peek)
    ∷ (codes "BODYSTRUCTURE", word.BodyStructure)
    ∷ (codes "ENVELOPE", word.Envelope)
    ∷ (codes "FLAGS", word.Flags)
    ∷ (codes "INTERNALDATE", word.InternalDate)
    ∷ (codes "MODSEQ", word.Modseq)
    ∷ (codes "RFC822", word.Rfc822)
    ∷ (codes "RFC822.HEADER", word.Rfc822Header)
    ∷ (codes "RFC822.SIZE", word.Rfc822Size)
    ∷ (codes "RFC822.TEXT", word.Rfc822Text)
    ∷ (codes "UID", word.Uid)
    ∷ []

-- An item. The words for several are none.
unfoldable pub item_by : ItemWord → Reading FetchItem
item_by word.All = nothing
item_by word.Fast = nothing
item_by word.Full = nothing
item_by word.Body = begun 91 (bracketed false) (pure item.Body)
item_by word.Peek = bracketed true
item_by word.BodyStructure = pure item.BodyStructure
item_by word.Envelope = pure item.Envelope
item_by word.Flags = pure item.Flags
item_by word.InternalDate = pure item.InternalDate
item_by word.Modseq = pure item.Modseq
item_by word.Rfc822 = pure item.Rfc822
item_by word.Rfc822Header = pure item.Rfc822Header
item_by word.Rfc822Size = pure item.Rfc822Size
item_by word.Rfc822Text = pure item.Rfc822Text
item_by word.Uid = pure item.Uid

unfoldable pub fetch_item : Reading FetchItem
fetch_item = do
  name ← keyword item_words
  item_by name

-- FAST, and the words that add to it.
abbrev pub fast : List FetchItem
fast = item.Flags ∷ item.InternalDate ∷ item.Rfc822Size ∷ []

abbrev pub all : List FetchItem
all = fast ++ item.Envelope ∷ []

abbrev pub full : List FetchItem
full = all ++ item.Body ∷ []

-- an item alone
unfoldable pub one_item : ItemWord → Reading (List FetchItem)
one_item name = do
  one ← item_by name
  pure (one ∷ [])

-- an item alone, or a word for several
unfoldable pub items_by : ItemWord → Reading (List FetchItem)
items_by word.All = pure all
items_by word.Fast = pure fast
items_by word.Full = pure full
items_by name = one_item name

-- Items in parentheses, or one alone, or a word for several.
unfoldable pub fetch_items : Reading (List FetchItem)
fetch_items = begun 40 (listed fetch_item) (do
  name ← keyword item_words
  items_by name)

-- true, of UIDs alone
unfoldable pub for_uids : Bool → Reading Bool
for_uids by_uid = if by_uid then pure true else nothing

-- Whether gone messages are asked for. They are told by their UIDs, so UID FETCH alone asks for them.
unfoldable pub vanished : Bool → Reading Bool
vanished by_uid = begun 32
    (do
      space
      words.word (codes "VANISHED")
      for_uids by_uid)
    (pure false)

-- what has to have changed, or none
unfoldable pub changed : Bool → Reading (Option ℕ × Bool)
changed by_uid = begun 32
    (do
      space
      byte 40
      words.word (codes "CHANGEDSINCE")
      space
      since ← modseq 1
      gone ← vanished by_uid
      byte 41
      pure (Some since, gone))
    (pure (None, false))

unfoldable pub fetch : Bool → Reading Command
fetch by_uid = do
  space
  set ← seq_set
  space
  items ← fetch_items
  since ← changed by_uid
  end
  pure (Fetch by_uid set items since.0 since.1)
