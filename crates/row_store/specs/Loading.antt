-- What loading answers.
use Rattle.std.specs.Prelude.{◌≡◌, ℕ, ◌+◌, ◌≤◌, Result, Ok, Err}
use Rattle.disk_model.specs.Told.{Told, IfTold}
use Rattle.disk_model.specs.declared.disk.Files.{Files}
use Rattle.row_store.specs.declared.loading.Unloaded.{Unloaded}
use Rattle.row_store.specs.ThreeFiles.{IfRead, AreAtRest}
use Rattle.row_store.specs.Holding.{HoldsNone}
use Rattle.row_store.specs.Kept.{Store}

-- the files after a load: the store has them, or they are handed back
abbrev pub files_after : {D : Type 0} → Result (Store D) (Unloaded D) → Files D
files_after (Ok store) = store.files
files_after (Err unloaded) = unloaded.files

-- the files are at rest, and hold no tables
pub record IsNoStore {D : Type 0} (told : Told D) (files : Files D) : Type 0 where
  pub rest : AreAtRest told files
  pub none : IfRead told files HoldsNone

-- The first log was read once at most, where it tells its reading, and no other file.
pub record ReadsLogOnce {D : Type 0} (told : Told D) (old new : Files D) : Type 0 where
  pub once : IfTold (told.reading old.log0) (λ _. told.reads new.log0 ≤ told.reads old.log0 + 1)
  pub log1 : told.reads new.log1 ≡ told.reads old.log1
  pub bodies : told.reads new.bodies ≡ told.reads old.bodies
