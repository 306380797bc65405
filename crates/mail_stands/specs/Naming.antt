-- The names of flags that aren't there yet, as rows.
use Rattle.std.specs.Prelude.{◌≡◌, ℕ, ◌+◌, false, List, [], ◌∷◌, ◌++◌, Option, Some, None}
use Rattle.std.specs.List.{AllByRecursion}
use Rattle.imap_grammar.specs.declared.flags.Flag.{Flag}
use Rattle.imap_grammar.specs.Flags.{flag_text}
use Rattle.row_tables.specs.Indexes.{flag_name_id}
use Rattle.row_tables.specs.declared.marks.FlagName.{FlagName}
use Rattle.row_tables.specs.declared.change.RowChange.{RowChange}
use Rattle.row_tables.specs.declared.change.RowChange.TheVariants.{InsertFlagName}
use Rattle.mail_world.specs.Names.{same_name}

-- The next new id is for a name that has none, and the one after it is then the next.
abbrev pub id_or : ℕ → Option ℕ → ℕ
id_or next None = next
id_or next (Some id) = id

abbrev pub next_after : ℕ → Option ℕ → ℕ
next_after next None = next + 1
next_after next (Some id) = next

abbrev pub naming : ℕ → List ℕ → Option ℕ → List RowChange
naming next name None = InsertFlagName (record { id = next; name = name }) ∷ []
naming next name (Some id) = []

-- the ids of flags, of which the new ones are counted from one on
abbrev pub flag_ids : ℕ → List FlagName → List Flag → List ℕ
flag_ids next names [] = []
flag_ids next names (flag ∷ flags) =
    let id = flag_name_id (flag_text flag) names in
    id_or next id ∷ flag_ids (next_after next id) names flags

-- the changes that add the names which aren't there
abbrev pub flag_namings : ℕ → List FlagName → List Flag → List RowChange
flag_namings next names [] = []
flag_namings next names (flag ∷ flags) =
    let id = flag_name_id (flag_text flag) names in
    naming next (flag_text flag) id ++ flag_namings (next_after next id) names flags

-- no two flags are written alike
abbrev pub Differ : List Flag → Type 0
Differ [] = Unit {0}
Differ (flag ∷ flags) = AllByRecursion (λ other. same_name (flag_text flag) (flag_text other) ≡ false) flags × Differ flags
