-- The log that is open: the first of the two, in format 0.
use Rattle.std.specs.Prelude.{◌≡◌, ℕ, List}
use Rattle.disk_model.specs.Told.{Told}
use Rattle.disk_model.specs.declared.disk.Files.{Files}
use Rattle.redo_log.specs.Text.{IsLog, empty_text}
use Rattle.row_store.specs.ThreeFiles.{FileBytes}

-- the format byte of a log whose bodies have their content in their rows
abbrev pub known_format : ℕ
known_format = 0

-- the disk that has the open log
abbrev pub open_log : {D : Type 0} → Files D → D
open_log files = files.log0

-- the bytes of the open log
abbrev pub open_bytes : FileBytes → List ℕ
open_bytes files = files.log0

-- the bytes are a log of the known format with these payloads
abbrev pub HasPayloads : ℕ → List (List ℕ) → List ℕ → Type 0
HasPayloads generation payloads bytes = IsLog known_format generation payloads bytes

-- what the open log of an empty store begins with
abbrev pub empty_log : List ℕ
empty_log = empty_text known_format 1

-- no file but the open log is touched
abbrev pub LeavesOthers : {D : Type 0} → Files D → Files D → Type 0
LeavesOthers old new = (new.log1 ≡ old.log1) × (new.bodies ≡ old.bodies)
