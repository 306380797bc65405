-- Sets of numbers (RFC 3501 §9, sequence-set).
use Rattle.std.specs.Prelude.{ℕ, Option, Some, None}
use Rattle.imap_grammar.specs.declared.sets.SeqSet.{SeqSet}
use Rattle.imap_grammar.specs.Readings.{Reading, ◌>>=◌, ◌>>◌, byte, begun, pure}
use Rattle.imap_grammar.specs.Strings.{number32}
use Rattle.imap_grammar.specs.Lists.{separated}

-- A number from 1, or `*`.
unfoldable pub bound : Reading (Option ℕ)
bound = begun 42
    (do
      byte 42
      pure None)
    (do
      n ← number32 1
      pure (Some n))

-- Two of these with a `:` between, or one alone.
unfoldable pub range : Reading (Option ℕ × Option ℕ)
range = do
  first ← bound
  begun 58
      (do
        byte 58
        last ← bound
        pure (first, last))
      (pure (first, first))

-- One or more ranges.
unfoldable pub seq_set : Reading SeqSet
seq_set = do
  ranges ← separated 44 range
  pure (record { ranges = ranges })
