-- Flags of messages as rows: each names a row that has the flag as it is written.
use Rattle.std.specs.Prelude.{◌≡◌, ◌⊎◌, ℕ, Bool, false, List, [], ◌∷◌, Option, Some, None, is_some}
use Rattle.imap_grammar.specs.declared.flags.Flag.{Flag}
use Rattle.imap_grammar.specs.Flags.{flag_text}
use Rattle.ordered_rows.specs.RowKey.{number_key}
use Rattle.ordered_rows.specs.Listed.{row_at}
use Rattle.row_tables.specs.Keys.{uid_flag_key, flag_key, flag_name_key}
use Rattle.row_tables.specs.Indexes.{flag_name_id}
use Rattle.row_tables.specs.TableRows.{TableRows, MarkRows}
use Rattle.row_tables.specs.Fits.{Runs}
use Rattle.row_tables.specs.declared.marks.FlagName.{FlagName}
use Rattle.row_tables.specs.declared.marks.FlagRow.{FlagRow}
use Rattle.row_tables.specs.declared.change.RowChange.{RowChange}
use Rattle.mail_world.specs.Worlds.{Mailbox}
use Rattle.mail_stands.specs.Facts.{entry_in, flags_of, has_flag_named}

-- whether a message of a mailbox has a row with the flag of an id
abbrev pub is_flagged_by : ℕ → ℕ → List FlagRow → Option ℕ → Bool
is_flagged_by id uid rows None = false
is_flagged_by id uid rows (Some flag) = is_some (row_at flag_key (uid_flag_key id uid flag) rows)

-- whether a message of a mailbox has a row with the flag of a name
abbrev pub is_flagged : ℕ → ℕ → List ℕ → List FlagName → List FlagRow → Bool
is_flagged id uid name names rows = is_flagged_by id uid rows (flag_name_id name names)

-- The rows of flags are exactly the flags of the entries.
abbrev pub AreFlagged : List FlagName → List FlagRow → List Mailbox → Type 0
AreFlagged names rows mailboxes = (id uid : ℕ) (name : List ℕ) → is_flagged id uid name names rows ≡ has_flag_named name (flags_of (entry_in id uid mailboxes))

-- each flag's name has its id
abbrev pub AreIds : List FlagName → List Flag → List ℕ → Type 0
AreIds names [] [] = Unit {0}
AreIds names [] (id ∷ ids) = ⊥
AreIds names (flag ∷ flags) [] = ⊥
AreIds names (flag ∷ flags) (id ∷ ids) = (flag_name_id (flag_text flag) names ≡ Some id) × AreIds names flags ids

-- Names that were added to those of flags: what was there has its id, and no row had an id that is new.
pub record Grows (before after : List FlagName) : Type 0 where
  pub keeps : (name : List ℕ) (id : ℕ) → flag_name_id name before ≡ Some id → flag_name_id name after ≡ Some id
  pub added : (name : List ℕ) (id : ℕ) → flag_name_id name after ≡ Some id
      → (flag_name_id name before ≡ Some id) ⊎ (row_at flag_name_key (number_key id) before ≡ None)

-- The flags have these ids once the changes are made, which add the names that aren't there, to any tables with these marks.
pub record NamesFlags (marks : MarkRows) (flags : List Flag) (ids : List ℕ) (changes : List RowChange) : Type 0 where
  pub names : List FlagName
  pub runs : (t : TableRows) → t.marks ≡ marks → Runs t changes (record t { marks = record marks { flag_names = names } })
  pub grows : Grows marks.flag_names names
  pub ids_are : AreIds names flags ids
