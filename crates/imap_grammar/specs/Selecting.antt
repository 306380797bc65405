-- Commands that select a mailbox (RFC 3501 §6.3.1, §6.3.2; RFC 4551 §3.7; RFC 5162 §3.1).
use Rattle.std.specs.Prelude.{ℕ, Bool, true, false, ◌||◌, List, [], ◌∷◌, codes, Option, Some, None}
use Rattle.imap_grammar.specs.declared.commands.Command.{Command}
use Rattle.imap_grammar.specs.declared.commands.Command.TheVariants.{Select}
use Rattle.imap_grammar.specs.declared.selecting.Resync.{Resync}
use Rattle.imap_grammar.specs.declared.selecting.Opening.{Opening}
use Rattle.imap_grammar.specs.declared.selecting.Opening.TheVariants.{Condstore, Qresync}
use Rattle.imap_grammar.specs.declared.selecting.OpeningWord.{OpeningWord}
use Rattle.imap_grammar.specs.declared.selecting.OpeningWord.TheVariants as words
use Rattle.imap_grammar.specs.declared.sets.SeqSet.{SeqSet}
use Rattle.imap_grammar.specs.Readings.{Reading, ◌>>=◌, ◌>>◌, byte, begun, pure, space, end}
use Rattle.imap_grammar.specs.Strings.{astring, number32, modseq}
use Rattle.imap_grammar.specs.Words.{keyword}
use Rattle.imap_grammar.specs.Lists.{listed}
use Rattle.imap_grammar.specs.Sets.{seq_set}

-- Numbers of messages and their UIDs, which are read and not used.
unfoldable pub matched : Reading (Unit {0})
matched = do
  byte 40
  seq_set
  space
  seq_set
  byte 41

-- numbers and UIDs behind a space, or none
unfoldable pub matched_behind : Reading (Unit {0})
matched_behind = begun 32 (space >> matched) (pure tt)

-- the UIDs that the client knows, and numbers and UIDs, each or none
unfoldable pub known : Reading (Option SeqSet)
known = begun 32
    (do
      space
      begun 40
          (do
            matched
            pure None)
          (do
            set ← seq_set
            matched_behind
            pure (Some set)))
    (pure None)

-- What the client knows of the mailbox.
unfoldable pub resync : Reading Resync
resync = do
  byte 40
  validity ← number32 0
  space
  since ← modseq 1
  uids ← known
  byte 41
  pure (record { validity = validity; since = since; known = uids })

abbrev pub opening_words : List (List ℕ × OpeningWord)
opening_words = (codes "CONDSTORE", words.Condstore) ∷ (codes "QRESYNC", words.Qresync) ∷ []

-- what stands behind the word
unfoldable pub opening_by : OpeningWord → Reading Opening
opening_by words.Condstore = pure Condstore
opening_by words.Qresync = do
  space
  what ← resync
  pure (Qresync what)

unfoldable pub opening : Reading Opening
opening = do
  word ← keyword opening_words
  opening_by word

-- Whether CONDSTORE stands in a list.
abbrev pub is_condstore : Opening → Bool
is_condstore Condstore = true
is_condstore (Qresync what) = false

abbrev pub some_condstore : List Opening → Bool
some_condstore [] = false
some_condstore (o ∷ os) = is_condstore o || some_condstore os

-- the one behind, where there is one
abbrev pub unless_later : Option Resync → Opening → Option Resync
unless_later (Some later) o = Some later
unless_later None Condstore = None
unless_later None (Qresync what) = Some what

-- The last QRESYNC of a list.
abbrev pub last_resync : List Opening → Option Resync
last_resync [] = None
last_resync (o ∷ os) = unless_later (last_resync os) o

-- the words behind the name, or none
unfoldable pub openings : Reading (List Opening)
openings = begun 32 (space >> listed opening) (pure [])

-- SELECT, and EXAMINE that changes nothing. Of a word that stands twice the last counts.
unfoldable pub select : Bool → Reading Command
select examine = do
  space
  name ← astring
  all ← openings
  end
  pure (Select name examine (some_condstore all) (last_resync all))
