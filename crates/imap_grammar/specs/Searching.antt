-- SEARCH, and keys within keys (RFC 3501 §6.4.4).
use Rattle.std.specs.Prelude.{ℕ, zero, suc, true, false, if◌then◌else◌, List, [], ◌∷◌, codes}
use Rattle.mail_text.specs.Texts.{begins}
use Rattle.imap_grammar.specs.declared.classes.Class.TheVariants.{Digit}
use Rattle.imap_grammar.specs.declared.searching.SearchKey.{SearchKey}
use Rattle.imap_grammar.specs.declared.searching.SearchKey.TheVariants as key
use Rattle.imap_grammar.specs.declared.keys.Mark.TheVariants.{Answered, Deleted, Draft, Flagged, Seen}
use Rattle.imap_grammar.specs.declared.keys.LeafWord.TheVariants as leaf
use Rattle.imap_grammar.specs.declared.keys.KeyWord.{KeyWord}
use Rattle.imap_grammar.specs.declared.keys.KeyWord.TheVariants.{Leaf, Not, Or}
use Rattle.imap_grammar.specs.Classes.{is_in}
use Rattle.imap_grammar.specs.Readings.{Reading, ◌>>=◌, ◌>>◌, byte, begun, pure, nothing, space}
use Rattle.imap_grammar.specs.Words.{keyword}
use Rattle.imap_grammar.specs.Lists.{separated}
use Rattle.imap_grammar.specs.Sets.{seq_set}
use Rattle.imap_grammar.specs.Keys.{leaf_by}

abbrev pub key_words : List (List ℕ × KeyWord)
key_words =
    (codes "ALL", Leaf leaf.All)
    ∷ (codes "ANSWERED", Leaf (leaf.Has Answered))
    ∷ (codes "BCC", Leaf leaf.Bcc)
    ∷ (codes "BEFORE", Leaf (leaf.Before false))
    ∷ (codes "BODY", Leaf leaf.Body)
    ∷ (codes "CC", Leaf leaf.Cc)
    ∷ (codes "DELETED", Leaf (leaf.Has Deleted))
    ∷ (codes "DRAFT", Leaf (leaf.Has Draft))
    ∷ (codes "FLAGGED", Leaf (leaf.Has Flagged))
    ∷ (codes "FROM", Leaf leaf.From)
    ∷ (codes "HEADER", Leaf leaf.Header)
    ∷ (codes "KEYWORD", Leaf leaf.Keyword)
    ∷ (codes "LARGER", Leaf leaf.Larger)
    ∷ (codes "MODSEQ", Leaf leaf.Modseq)
    ∷ (codes "NEW", Leaf leaf.New)
    ∷ (codes "NOT", Not)
    ∷ (codes "OLD", Leaf leaf.Old)
    ∷ (codes "ON", Leaf (leaf.On false))
    ∷ (codes "OR", Or)
    ∷ (codes "RECENT", Leaf leaf.Recent)
    ∷ (codes "SEEN", Leaf (leaf.Has Seen))
    ∷ (codes "SENTBEFORE", Leaf (leaf.Before true))
    ∷ (codes "SENTON", Leaf (leaf.On true))
    ∷ (codes "SENTSINCE", Leaf (leaf.Since true))
    ∷ (codes "SINCE", Leaf (leaf.Since false))
    ∷ (codes "SMALLER", Leaf leaf.Smaller)
    ∷ (codes "SUBJECT", Leaf leaf.Subject)
    ∷ (codes "TEXT", Leaf leaf.Text)
    ∷ (codes "TO", Leaf leaf.To)
    ∷ (codes "UID", Leaf leaf.Uid)
    ∷ (codes "UNANSWERED", Leaf (leaf.Lacks Answered))
    ∷ (codes "UNDELETED", Leaf (leaf.Lacks Deleted))
    ∷ (codes "UNDRAFT", Leaf (leaf.Lacks Draft))
    ∷ (codes "UNFLAGGED", Leaf (leaf.Lacks Flagged))
    ∷ (codes "UNKEYWORD", Leaf leaf.Unkeyword)
    ∷ (codes "UNSEEN", Leaf (leaf.Lacks Seen))
    ∷ []

-- Keys in parentheses. Whoever reads the keys within is given.
unfoldable pub group : Reading SearchKey → Reading SearchKey
group inner = do
  byte 40
  keys ← separated 32 inner
  byte 41
  pure (key.And keys)

-- Messages by their numbers.
unfoldable pub set_key : Reading SearchKey
set_key = do
  set ← seq_set
  pure (key.Set set false)

unfoldable pub not_key : Reading SearchKey → Reading SearchKey
not_key inner = do
  space
  k ← inner
  pure (key.Not k)

unfoldable pub or_key : Reading SearchKey → Reading SearchKey
or_key inner = do
  space
  a ← inner
  space
  b ← inner
  pure (key.Or a b)

abbrev pub key_by : Reading SearchKey → KeyWord → Reading SearchKey
key_by inner (Leaf name) = leaf_by name
key_by inner Not = not_key inner
key_by inner Or = or_key inner

-- A key by its name.
unfoldable pub named_key : Reading SearchKey → Reading SearchKey
named_key inner = do
  name ← keyword key_words
  key_by inner name

-- A key: others in parentheses, numbers, or what begins with a name.
unfoldable pub level : Reading SearchKey → Reading SearchKey
level inner = begun 40 (group inner) (begun 42 set_key (λ text. if begins (is_in Digit) text then set_key text else named_key inner text))

-- A key that has so many levels at most, itself the first: each NOT, each OR and each pair of parentheses is one level more.
unfoldable pub within : ℕ → Reading SearchKey
within zero = nothing
within (suc levels) = level (within levels)

-- Keys in a row, which must all match. A key stands within 100 levels at most.
unfoldable pub all_keys : Reading SearchKey
all_keys = do
  keys ← separated 32 (within 101)
  pure (key.And keys)
