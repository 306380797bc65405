use Rattle.std.proofs.Common.{◌≡◌, ◌||◌, ℕ, List, length, map}
use Rattle.std.specs.List.{list_any}
use Rattle.row_tables.specs.References.{flags_at}
use Rattle.mailbox_reader.specs.FlagRows.{has_word, is_id_of}
use Rattle.mailbox_reader.proofs.keywords.words_at.Given as goal

-- The words so far and those of the rows that are left are all.
abbrev pub invariant-rows : goal.invariant-rows
invariant-rows l = (word : List ℕ) → (has_word word (map (λ w. w.now) l.words.keys) || list_any (is_id_of word l.tables.marks.flag_names) (map (λ row. row.flag) l.rows))
    ≡ list_any (is_id_of word l.tables.marks.flag_names) (map (λ row. row.flag) (flags_at l.mailbox l.uid l.tables.marks.flags))

abbrev pub decreases-rows : goal.decreases-rows
decreases-rows l = length l.rows
