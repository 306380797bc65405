use Rattle.std.proofs.Common.{◌≡◌, ◌||◌, ℕ, List, length, map}
use Rattle.std.specs.List.{list_any}
use Rattle.mailbox_core.specs.SummaryRows.{has_word, is_id_of}
use Rattle.mailbox_core.proofs.keywords.words_of.Given as goal

abbrev pub invariant-ids : goal.invariant-ids
invariant-ids l = (word : List ℕ) → (has_word word (map (λ w. w.now) l.words.keys) || list_any (is_id_of word l.tables.marks.flag_names) l.ids.keys) ≡ list_any (is_id_of word l.tables.marks.flag_names) l.fn.ids.keys

abbrev pub decreases-ids : goal.decreases-ids
decreases-ids l = length l.ids.keys
