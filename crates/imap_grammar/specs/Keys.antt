-- The keys of searches that have no keys within (RFC 3501 §6.4.4; RFC 4551 §3.4).
use Rattle.std.specs.Prelude.{ℕ, ℤ, true, nat_le, if◌then◌else◌, List, [], ◌∷◌, length, take, drop, codes, Option, Some, None, option_map}
use Rattle.date_grammar.specs.Dates.{search_day}
use Rattle.imap_grammar.specs.declared.flags.Flag.{Flag}
use Rattle.imap_grammar.specs.declared.flags.Flag.TheVariants.{Answered, Deleted, Draft, Flagged, Seen}
use Rattle.imap_grammar.specs.declared.searching.SearchKey.{SearchKey}
use Rattle.imap_grammar.specs.declared.searching.SearchKey.TheVariants as key
use Rattle.imap_grammar.specs.declared.keys.Mark.{Mark}
use Rattle.imap_grammar.specs.declared.keys.Mark.TheVariants as mark
use Rattle.imap_grammar.specs.declared.keys.LeafWord.{LeafWord}
use Rattle.imap_grammar.specs.declared.keys.LeafWord.TheVariants as word
use Rattle.imap_grammar.specs.declared.keys.EntryType.{EntryType}
use Rattle.imap_grammar.specs.declared.keys.EntryType.TheVariants.{Private, Shared, Any}
use Rattle.imap_grammar.specs.Readings.{Reading, Outcome, ◌>>=◌, ◌>>◌, begun, pure, given, space}
use Rattle.imap_grammar.specs.Strings.{astring, string, quoted, number32, modseq}
use Rattle.imap_grammar.specs.Words.{keyword}
use Rattle.imap_grammar.specs.Sets.{seq_set}
use Rattle.imap_grammar.specs.Flags.{keyword_flag}

-- The flag of a mark.
abbrev pub flag_of : Mark → Flag
flag_of mark.Answered = Answered
flag_of mark.Deleted = Deleted
flag_of mark.Draft = Draft
flag_of mark.Flagged = Flagged
flag_of mark.Seen = Seen

-- a text behind a space
unfoldable pub argument : Reading (List ℕ)
argument = space >> astring

-- the day that so many bytes at the front of a text are
unfoldable pub day_in : ℕ → List ℕ → Option ℤ
day_in n text = if nat_le n (length text) then search_day (take n text) else None

-- a day of eleven bytes, or else one of ten
abbrev pub longest_day : List ℕ → Option ℤ → Option ℤ → Outcome ℤ
longest_day text (Some day) shorter = Some (day, drop 11 text)
longest_day text None shorter = option_map (λ day. (day, drop 10 text)) shorter

-- A day without quotes.
unfoldable pub bare_day : Reading ℤ
bare_day = λ text. longest_day text (day_in 11 text) (day_in 10 text)

-- A day in quotes.
unfoldable pub quoted_day : Reading ℤ
quoted_day = do
  text ← quoted
  given (search_day text)

-- a day behind a space
unfoldable pub day : Reading ℤ
day = space >> begun 34 quoted_day bare_day

-- The types of the entries of mod-sequences.
abbrev pub entry_types : List (List ℕ × EntryType)
entry_types = (codes "priv", Private) ∷ (codes "shared", Shared) ∷ (codes "all", Any) ∷ []

-- the name of an entry and its type, which are read and not used
unfoldable pub entry : Reading (Unit {0})
entry = do
  string
  space
  keyword entry_types
  space
  pure tt

unfoldable pub entry_or_none : Reading (Unit {0})
entry_or_none = begun 34 entry (begun 123 entry (pure tt))

-- A mod-sequence behind the entry that it is of.
unfoldable pub modseq_key : Reading SearchKey
modseq_key = do
  space
  entry_or_none
  n ← modseq 0
  pure (key.Modseq n)

-- a field that has the text
unfoldable pub field_key : List ℕ → Reading SearchKey
field_key name = do
  text ← argument
  pure (key.Header name text)

unfoldable pub header_key : Reading SearchKey
header_key = do
  name ← argument
  text ← argument
  pure (key.Header name text)

unfoldable pub keyword_key : Reading Flag
keyword_key = space >> keyword_flag

unfoldable pub size_key : Reading ℕ
size_key = space >> number32 0

unfoldable pub uid_key : Reading SearchKey
uid_key = do
  space
  set ← seq_set
  pure (key.Set set true)

-- What stands behind the name of a key.
unfoldable pub leaf_by : LeafWord → Reading SearchKey
leaf_by word.All = pure key.All
leaf_by word.Recent = pure key.Recent
leaf_by word.New = pure key.New
leaf_by word.Old = pure key.Old
leaf_by (word.Has mark) = pure (key.Has (flag_of mark))
leaf_by (word.Lacks mark) = pure (key.Lacks (flag_of mark))
leaf_by word.Keyword = do
  flag ← keyword_key
  pure (key.Has flag)
leaf_by word.Unkeyword = do
  flag ← keyword_key
  pure (key.Lacks flag)
leaf_by word.Bcc = field_key (codes "BCC")
leaf_by word.Cc = field_key (codes "CC")
leaf_by word.From = field_key (codes "FROM")
leaf_by word.Subject = field_key (codes "SUBJECT")
leaf_by word.To = field_key (codes "TO")
leaf_by word.Header = header_key
leaf_by word.Body = do
  text ← argument
  pure (key.Body text)
leaf_by word.Text = do
  text ← argument
  pure (key.Text text)
leaf_by (word.Before sent) = do
  date ← day
  pure (key.Before date sent)
leaf_by (word.On sent) = do
  date ← day
  pure (key.On date sent)
leaf_by (word.Since sent) = do
  date ← day
  pure (key.Since date sent)
leaf_by word.Larger = do
  n ← size_key
  pure (key.Larger n)
leaf_by word.Smaller = do
  n ← size_key
  pure (key.Smaller n)
leaf_by word.Uid = uid_key
leaf_by word.Modseq = modseq_key
