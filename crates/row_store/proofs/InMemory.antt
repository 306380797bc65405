-- Files in memory that were made sure of.
use Rattle.std.proofs.Common.{◌≡◌, List, ℕ, Some, sym, subst}
use Rattle.disk_model.specs.Memory.{Memory, state_of}
use Rattle.disk_model.specs.Lawful.{memory_told}
use Rattle.disk_model.specs.declared.disk.Files.{Files}
use Rattle.row_store.specs.ThreeFiles.{FileBytes, IfRead, MakesAllSure}

abbrev pub reading : Memory → List ℕ
reading disk = (state_of disk).reading

-- what is read of them was read before
pub read_before : (old new : Files Memory) (P : FileBytes → Type 0) → MakesAllSure memory_told old new → IfRead memory_told old P → IfRead memory_told new P
read_before old new P sure fact = subst (λ (l : List ℕ). P (record { log0 = reading new.log0; log1 = reading new.log1; bodies = l })) (sym same_bodies)
    (subst (λ (l : List ℕ). P (record { log0 = reading new.log0; log1 = l; bodies = reading old.bodies })) (sym same1)
    (subst (λ (l : List ℕ). P (record { log0 = l; log1 = reading old.log1; bodies = reading old.bodies })) (sym same0) fact))
  where
    inside : (a b : List ℕ) → Some a ≡ Some b → a ≡ b
    inside a b e = cc

    same0 : reading new.log0 ≡ reading old.log0
    same0 = inside (reading new.log0) (reading old.log0) sure.0.reading

    same1 : reading new.log1 ≡ reading old.log1
    same1 = inside (reading new.log1) (reading old.log1) sure.1.reading

    same_bodies : reading new.bodies ≡ reading old.bodies
    same_bodies = inside (reading new.bodies) (reading old.bodies) sure.2.reading
