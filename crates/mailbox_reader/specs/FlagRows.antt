-- The flags of a message, by its rows. These serve the contracts of private functions alone.
use Rattle.std.specs.Prelude.{◌≡◌, ℕ, ◌==◌, ◌&&◌, Bool, true, false, not, List, [], ◌∷◌, ◌++◌, filter, map, Option, Some, None}
use Rattle.std.specs.List.{list_any}
use Rattle.std.specs.List.Sorted.{IsStrictlySortedBy}
use Rattle.std.specs.Ordering.{nat_cmp}
use Rattle.std.specs.Cmp.Lexicographic.{slice_cmp}
use Rattle.imap_grammar.specs.declared.flags.Flag.{Flag}
use Rattle.imap_grammar.specs.declared.flags.Flag.TheVariants.{Keyword}
use Rattle.imap_grammar.specs.Flags.{flag_text}
use Rattle.ordered_rows.specs.RowKey.{number_key}
use Rattle.ordered_rows.specs.Listed.{row_at}
use Rattle.row_tables.specs.Keys.{flag_name_key}
use Rattle.row_tables.specs.Indexes.{has_flag_name}
use Rattle.row_tables.specs.References.{flags_at}
use Rattle.row_tables.specs.TableRows.{TableRows}
use Rattle.row_tables.specs.declared.marks.FlagName.{FlagName}
use Rattle.mail_world.specs.Names.{same_name}
use Rattle.mail_stands.specs.Flagging.{is_flagged}
use Rattle.mailbox_reader.specs.Telling.{system_flags}

-- whether a word is among words
abbrev pub has_word : List ℕ → List (List ℕ) → Bool
has_word word words = list_any (λ w. same_name w word) words

-- what a `\` stands before is no keyword
abbrev pub is_keyword : List ℕ → Bool
is_keyword [] = true
is_keyword (b ∷ bytes) = not (b == 92)

-- whether the row is that of a name
abbrev pub is_row_of : List ℕ → Option FlagName → Bool
is_row_of word None = false
is_row_of word (Some row) = has_flag_name word row

-- whether an id is that of a keyword
abbrev pub is_id_of : List ℕ → List FlagName → ℕ → Bool
is_id_of word names id = is_keyword word && is_row_of word (row_at flag_name_key (number_key id) names)

-- Words in their order, none twice, which are the keywords of ids.
pub record AreKeywords (names : List FlagName) (ids : List ℕ) (words : List (List ℕ)) : Type 0 where
  pub order : IsStrictlySortedBy (slice_cmp nat_cmp) words
  pub each : (word : List ℕ) → has_word word words ≡ list_any (is_id_of word names) ids

-- whether a message has a flag, by its rows
abbrev pub is_flagged_in : TableRows → ℕ → ℕ → Flag → Bool
is_flagged_in t id uid flag = is_flagged id uid (flag_text flag) t.marks.flag_names t.marks.flags

-- The flags of a message are told as its rows have them.
pub record TellsRows (t : TableRows) (id uid : ℕ) (flags : List Flag) : Type 0 where
  pub words : List (List ℕ)
  pub keywords : AreKeywords t.marks.flag_names (map (λ row. row.flag) (flags_at id uid t.marks.flags)) words
  pub flags_are : flags ≡ filter (is_flagged_in t id uid) system_flags ++ map Keyword words
