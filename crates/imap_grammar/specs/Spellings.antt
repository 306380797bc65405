-- How the content of a string stands in a command.
use Rattle.std.specs.Prelude.{ℕ, Bool, ◌==◌, if◌then◌else◌, List, [], ◌∷◌}

abbrev mutual
  -- The content of a quoted string: what stands between its quotes, each `\` taken off before the byte that it stands for.
  pub unescaped : List ℕ → List ℕ
  unescaped [] = []
  unescaped (c ∷ cs) = if c == 92 then quoted_byte cs else c ∷ unescaped cs

  pub quoted_byte : List ℕ → List ℕ
  quoted_byte [] = []
  quoted_byte (c ∷ cs) = c ∷ unescaped cs

abbrev pub content : Bool → List ℕ → List ℕ
content escaped bytes = if escaped then unescaped bytes else bytes
