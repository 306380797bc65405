-- Texts with spaces between.
use Rattle.std.specs.Prelude.{ℕ, List, [], ◌∷◌, ◌++◌, flat_map, codes}

-- a text behind a space
abbrev pub behind_space : List ℕ → List ℕ
behind_space text = codes " " ++ text

abbrev pub spaced : List (List ℕ) → List ℕ
spaced [] = []
spaced (text ∷ texts) = text ++ flat_map behind_space texts
