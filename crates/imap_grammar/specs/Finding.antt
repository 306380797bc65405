-- SEARCH, SORT and THREAD (RFC 3501 §6.4.4, RFC 5256 §3).
use Rattle.std.specs.Prelude.{ℕ, Bool, true, false, List, [], ◌∷◌, codes, Option, Some, None}
use Rattle.imap_grammar.specs.declared.commands.Command.{Command}
use Rattle.imap_grammar.specs.declared.commands.Command.TheVariants.{Search, Sort, Thread}
use Rattle.imap_grammar.specs.declared.finding.SortBy.{SortBy}
use Rattle.imap_grammar.specs.declared.finding.SortBy.TheVariants.{Arrival, Cc, Date, From, Size, Subject, To}
use Rattle.imap_grammar.specs.declared.finding.SortKey.{SortKey}
use Rattle.imap_grammar.specs.Readings.{Reading, ◌>>=◌, ◌>>◌, pure, space, end}
use Rattle.imap_grammar.specs.Strings.{astring}
use Rattle.imap_grammar.specs.Words.{keyword, word, spelled}
use Rattle.imap_grammar.specs.Lists.{listed}
use Rattle.imap_grammar.specs.Searching.{all_keys}

-- the charset, and a space
unfoldable pub named_charset : Reading (Option (List ℕ))
named_charset = do
  word (codes "CHARSET")
  space
  name ← astring
  space
  pure (Some name)

-- the charset of the texts, where it is told
unfoldable pub charset : Reading (Option (List ℕ))
charset = spelled (codes "CHARSET") named_charset (pure None)

unfoldable pub search : Bool → Reading Command
search by_uid = do
  space
  name ← charset
  key ← all_keys
  end
  pure (Search by_uid name key)

abbrev pub sort_names : List (List ℕ × SortBy)
sort_names =
    (codes "ARRIVAL", Arrival)
    ∷ (codes "CC", Cc)
    ∷ (codes "DATE", Date)
    ∷ (codes "FROM", From)
    ∷ (codes "SIZE", Size)
    ∷ (codes "SUBJECT", Subject)
    ∷ (codes "TO", To)
    ∷ []

unfoldable pub sorted_by : Bool → Reading SortKey
sorted_by reverse = do
  by ← keyword sort_names
  pure (record { by = by; reverse = reverse })

unfoldable pub reversed : Reading SortKey
reversed = do
  word (codes "REVERSE")
  space
  sorted_by true

unfoldable pub sort_key : Reading SortKey
sort_key = spelled (codes "REVERSE") reversed (sorted_by false)

unfoldable pub sort : Bool → Reading Command
sort by_uid = do
  space
  keys ← listed sort_key
  space
  name ← astring
  space
  key ← all_keys
  end
  pure (Sort by_uid keys name key)

-- The one way of threading that is known, behind a space.
unfoldable pub threading : Reading (Unit {0})
threading = space >> word (codes "ORDEREDSUBJECT")

unfoldable pub thread : Bool → Reading Command
thread by_uid = do
  threading
  space
  name ← astring
  space
  key ← all_keys
  end
  pure (Thread by_uid name key)
