-- Sets of numbers (RFC 3501 §9, sequence-set).
use Rattle.std.specs.Prelude.{ℕ, ◌+◌, ◌-◌, ◌==◌, ◌≢◌, if◌then◌else◌, List, [], ◌∷◌, ◌++◌, flat_map, codes, decimal}
use Rattle.std.specs.List.{range_with_len}
use Rattle.imap_writer.specs.declared.runs.Run.{Run}

-- The runs of numbers, the first of which goes on with what was found of it.
abbrev pub runs_behind : Run → List ℕ → List Run
runs_behind run [] = run ∷ []
runs_behind run (n ∷ ns) =
    if n == run.last + 1 then runs_behind (record { first = run.first; last = n }) ns
    else run ∷ runs_behind (record { first = n; last = n }) ns

-- The runs of ascending numbers, each as long as it can be.
abbrev pub runs : List ℕ → List Run
runs [] = []
runs (n ∷ ns) = runs_behind (record { first = n; last = n }) ns

-- A run as `2:4`, a number alone as itself.
abbrev pub run_text : Run → List ℕ
run_text run = if run.first == run.last then decimal run.first else decimal run.first ++ codes ":" ++ decimal run.last

-- Runs with commas between.
abbrev pub runs_text : List Run → List ℕ
runs_text [] = []
runs_text (run ∷ others) = run_text run ++ flat_map (λ other. codes "," ++ run_text other) others

-- A set of ascending numbers.
unfoldable pub set_text : List ℕ → List ℕ
set_text ns = runs_text (runs ns)

-- The numbers of a run.
abbrev pub members : Run → List ℕ
members run = range_with_len run.first (run.last - run.first + 1)

-- Runs none of which goes on with the next.
abbrev pub AreApart : List Run → Type 0
AreApart [] = Unit {0}
AreApart (run ∷ []) = Unit {0}
AreApart (run ∷ next ∷ others) = (next.first ≢ run.last + 1) × AreApart (next ∷ others)
