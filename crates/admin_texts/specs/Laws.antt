-- Lines and texts end where they seem to.
use Rattle.std.specs.Prelude.{◌≡◌, ℕ, FitsSigned, ◌<◌, ◌^◌, ◌==◌, true, not, ⊤, List, ◌++◌, codes, flat_map}
use Rattle.std.specs.List.{list_all, AllByRecursion}
use Rattle.std.specs.Str.{byte}
use Rattle.std.specs.Int.{w64}
use Rattle.admin_texts.specs.Columns.{Column, spelled, line}
use Rattle.admin_texts.specs.Columns.Column.{number, integer, text, digest}

-- no byte is the unwanted one
abbrev pub Lacks : ℕ → List ℕ → Type 0
Lacks unwanted bytes = list_all (λ c. not (c == unwanted)) bytes ≡ true

abbrev pub HasSmallNumber : Column → Type 0
HasSmallNumber (number n) = n < 2 ^ 64
HasSmallNumber (integer z) = FitsSigned w64 z
HasSmallNumber (text bytes) = ⊤
HasSmallNumber (digest bytes) = ⊤

-- Whatever bytes stand in its columns, a line has one LF, its last byte. So a listing has a line for each row, and no other.
abbrev pub LinesEndOnce : Type 0
LinesEndOnce = (name : List ℕ) (columns : List Column) → Lacks 10 name → AllByRecursion HasSmallNumber columns → (front : List ℕ) × (line name columns ≡ front ++ codes "\n") × Lacks 10 front

-- Whatever its bytes, a text ends at the first quote behind the one that begins it.
abbrev pub TextsEndOnce : Type 0
TextsEndOnce = (bytes : List ℕ) → Lacks (byte "\"") (flat_map spelled bytes)
