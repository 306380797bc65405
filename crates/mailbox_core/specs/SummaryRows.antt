-- These serve the contracts of private functions alone.
use Rattle.std.specs.Prelude.{◌≡◌, ℕ, ◌+◌, ◌==◌, ◌&&◌, nat_le, codes, Bool, true, false, not, cond, List, [], ◌∷◌, map, filter, Option, Some, None}
use Rattle.std.specs.List.{list_any, position}
use Rattle.std.specs.List.Sorted.{IsStrictlySortedBy}
use Rattle.std.specs.Ordering.{nat_cmp}
use Rattle.std.specs.Cmp.Lexicographic.{slice_cmp}
use Rattle.ordered_rows.specs.RowKey.{number_key}
use Rattle.ordered_rows.specs.Listed.{row_at}
use Rattle.row_tables.specs.Keys.{mailbox_key, flag_name_key}
use Rattle.row_tables.specs.Indexes.{has_flag_name}
use Rattle.row_tables.specs.declared.marks.FlagName.{FlagName}
use Rattle.row_tables.specs.References.{flags_of, uids_of}
use Rattle.row_tables.specs.TableRows.{TableRows}
use Rattle.row_tables.specs.declared.heads.Mailbox.{Mailbox as Head}
use Rattle.row_tables.specs.declared.marks.FlagRow.{FlagRow}
use Rattle.mail_world.specs.Names.{same_name}
use Rattle.mail_stands.specs.Flagging.{is_flagged}
use Rattle.mailbox_core.specs.declared.summing.Summary.{Summary}

-- the UIDs of the rows with a flag
abbrev pub flagged_uids : ℕ → List FlagRow → List ℕ
flagged_uids flag rows = map (λ r. r.uid) (filter (λ r. r.flag == flag) rows)

-- The place, counted on from one, of the first number that isn't at its place in the other list.
abbrev pub parts_at : ℕ → List ℕ → List ℕ → Option ℕ
parts_at place [] others = None
parts_at place (n ∷ numbers) [] = Some place
parts_at place (n ∷ numbers) (other ∷ others) = cond (other == n) (parts_at (place + 1) numbers others) (Some place)

-- whether a word is among words
abbrev pub has_word : List ℕ → List (List ℕ) → Bool
has_word word words = list_any (λ w. same_name w word) words

-- what a `\` stands before is no keyword
abbrev pub is_keyword : List ℕ → Bool
is_keyword [] = true
is_keyword (b ∷ bytes) = not (b == 92)

-- whether the row is that of a name
abbrev pub is_row_of : List ℕ → Option FlagName → Bool
is_row_of word None = false
is_row_of word (Some row) = has_flag_name word row

-- whether an id is that of a keyword
abbrev pub is_id_of : List ℕ → List FlagName → ℕ → Bool
is_id_of word names id = is_keyword word && is_row_of word (row_at flag_name_key (number_key id) names)

-- Words in their order, none twice, which are the keywords of ids.
pub record AreKeywords (names : List FlagName) (ids : List ℕ) (words : List (List ℕ)) : Type 0 where
  pub order : IsStrictlySortedBy (slice_cmp nat_cmp) words
  pub each : (word : List ℕ) → has_word word words ≡ list_any (is_id_of word names) ids

-- What is told of a mailbox is what its rows say.
pub record IsRowSummary (t : TableRows) (id : ℕ) (its : Summary) : Type 0 where
  pub head : (row : Head) → row_at mailbox_key (number_key id) t.heads.mailboxes ≡ Some row → (its.uidnext ≡ row.uidnext) × (its.first_recent ≡ row.first_recent)
  pub uids : its.uids ≡ uids_of id t.marks.mailbox_messages
  pub recent : its.recent ≡ filter (λ uid. nat_le its.first_recent uid) its.uids
  pub first_unseen : its.first_unseen ≡ position (λ uid. not (is_flagged id uid (codes "\\Seen") t.marks.flag_names t.marks.flags)) its.uids
  pub keywords : AreKeywords t.marks.flag_names (map (λ row. row.flag) (flags_of id t.marks.flags)) its.keywords
