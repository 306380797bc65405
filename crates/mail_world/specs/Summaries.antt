-- What is told of a mailbox as a whole (RFC 3501 §6.3.1).
use Rattle.std.specs.Prelude.{ℕ, not, nat_le, Bool, List, [], ◌∷◌, Option, map, filter, flat_map}
use Rattle.std.specs.List.{position}
use Rattle.std.specs.declared.cmp.Ordering.{Ordering}
use Rattle.std.specs.declared.cmp.Ordering.TheVariants.{Less, Equal, Greater}
use Rattle.std.specs.Ordering.{nat_cmp}
use Rattle.std.specs.Cmp.Lexicographic.{slice_cmp}
use Rattle.imap_grammar.specs.declared.flags.Flag.{Flag}
use Rattle.imap_grammar.specs.declared.flags.Flag.TheVariants.{Answered, Flagged, Deleted, Seen, Draft, Keyword}
use Rattle.mail_world.specs.Flags.{has_flag}
use Rattle.mail_world.specs.Worlds.{Mailbox, Entry}

abbrev pub uids_of : List Entry → List ℕ
uids_of entries = map (λ entry. entry.uid) entries

-- the messages that no session was told of as recent yet
abbrev pub recent_of : Mailbox → List ℕ
recent_of mailbox = uids_of (filter (λ entry. nat_le mailbox.head.first_recent entry.uid) mailbox.entries)

abbrev pub is_unseen : Entry → Bool
is_unseen entry = not (has_flag Seen entry.message.flags)

-- the place of the first message without `\Seen`, from 0
abbrev pub first_unseen : List Entry → Option ℕ
first_unseen entries = position is_unseen entries

-- a word at its place among others, by bytes, unless it is there
abbrev pub placed_by : Ordering → List ℕ → List ℕ → List (List ℕ) → List (List ℕ) → List (List ℕ)
placed_by Less word first words placed = word ∷ first ∷ words
placed_by Equal word first words placed = first ∷ words
placed_by Greater word first words placed = first ∷ placed

abbrev pub with_word : List ℕ → List (List ℕ) → List (List ℕ)
with_word word [] = word ∷ []
with_word word (first ∷ words) = placed_by (slice_cmp nat_cmp word first) word first words (with_word word words)

abbrev pub with_keywords : List Flag → List (List ℕ) → List (List ℕ)
with_keywords [] words = words
with_keywords (Keyword name ∷ flags) words = with_word name (with_keywords flags words)
with_keywords (flag ∷ flags) words = with_keywords flags words

-- the keywords that messages have, each once, by bytes
abbrev pub keywords_of : List Entry → List (List ℕ)
keywords_of entries = with_keywords (flat_map (λ entry. entry.message.flags) entries) []

-- the flags that messages of a mailbox can have or have: those of the standard, and the keywords that are there
abbrev pub flags_in : List Entry → List Flag
flags_in entries = Answered ∷ Flagged ∷ Deleted ∷ Seen ∷ Draft ∷ map Keyword (keywords_of entries)
