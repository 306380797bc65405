-- What a store's files hold.
use Rattle.std.specs.Prelude.{◌≡◌, ℕ, List, [], ◌∷◌, Option, None}
use Rattle.std.specs.Option.{option_map}
use Rattle.ordered_rows.specs.RowKey.{number_key}
use Rattle.ordered_rows.specs.Listed.{row_at}
use Rattle.row_tables.specs.TableRows.{TableRows, no_rows}
use Rattle.row_tables.specs.Keys.{body_part_key}
use Rattle.row_tables.specs.Fits.{Runs}
use Rattle.row_tables.specs.declared.change.RowChange.{RowChange}
use Rattle.row_tables.specs.declared.contents.BodyPart.{BodyPart}
use Rattle.row_codec.specs.Encoding.{HaveWidths, encoding}
use Rattle.row_store.specs.ThreeFiles.{FileBytes}
use Rattle.row_store.specs.OpenLog.{HasPayloads, open_bytes}

-- Each payload is the encoding of changes; all of them fit one after another, and make of the tables `t` the tables `after`.
abbrev pub Replays : TableRows → List (List ℕ) → TableRows → Type 0
Replays t [] after = t ≡ after
Replays t (payload ∷ payloads) after =
    (changes : List RowChange) × HaveWidths changes × (payload ≡ encoding changes) × ((mid : TableRows) × Runs t changes mid × Replays mid payloads after)

-- what a store has: the rows of its tables, and the content of each body by its id
pub record Stored : Type 0 where
  pub tables : TableRows
  pub contents : ℕ → Option (List ℕ)

-- What a store with these tables has, where `content` gives the content of a row of a body.
abbrev pub stored_by : (BodyPart → List ℕ) → TableRows → Stored
stored_by content t = record { tables = t; contents = λ id. option_map content (row_at body_part_key (number_key id) t.shared.bodyparts) }

-- what an empty store has
abbrev pub nothing_stored : Stored
nothing_stored = record { tables = no_rows; contents = λ id. None }

-- the content of a body: it is in its row
abbrev pub in_row : BodyPart → List ℕ
in_row r = r.content

-- the content of each body by its id, and what a store with these tables has
abbrev pub content_in : TableRows → ℕ → Option (List ℕ)
content_in t = (stored_by in_row t).contents

abbrev pub stored : TableRows → Stored
stored t = stored_by in_row t

-- The files hold these tables and these contents: the open log's payloads are changes which fit one after another and make the
-- tables, and each body has its content.
pub record Holds (files : FileBytes) (tables : TableRows) (contents : ℕ → Option (List ℕ)) : Type 0 where
  pub generation : ℕ
  pub payloads : List (List ℕ)
  pub log : HasPayloads generation payloads (open_bytes files)
  pub replay : Replays no_rows payloads tables
  pub bodies : (id : ℕ) → contents id ≡ content_in tables id

-- the files hold no tables
abbrev pub HoldsNone : FileBytes → Type 0
HoldsNone files = (tables : TableRows) (contents : ℕ → Option (List ℕ)) → Holds files tables contents → ⊥
