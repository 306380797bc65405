-- How a body is cut at its delimiters, as a search from its front tells it.
use Rattle.std.specs.Prelude.{◌≡◌, ℕ, ◌<◌, List, [], ◌∷◌, map, length, Option, Some, None}
use Rattle.mail_text.specs.Lines.{lines, joined, IsCrlf}
use Rattle.mime_reader.specs.declared.bodies.LineKind.{LineKind}
use Rattle.mime_reader.specs.declared.bodies.LineKind.TheVariants.{Closing, Delimiter, Other}
use Rattle.mime_reader.specs.Bodies.{pieces}
use Rattle.std.specs.Prelude.{Bool, true, false}

-- What the tests tell of a line.
abbrev pub closes : LineKind → Bool
closes Closing = true
closes Delimiter = false
closes Other = false

abbrev pub delimits : LineKind → Bool
delimits Closing = false
delimits Delimiter = true
delimits Other = false

-- The texts between the delimiters, with what is before the first.
abbrev pub texts : List ℕ → List ℕ → List (List ℕ)
texts boundary text = map joined (pieces boundary (lines text))

-- The first of these texts, and the text that the others are of; none where there are no others.
abbrev pub IsPiece : List ℕ → List ℕ → List ℕ → Option (List ℕ) → Type 0
IsPiece boundary text piece None = (texts boundary text ≡ piece ∷ []) × IsCrlf piece
IsPiece boundary text piece (Some rest) = (texts boundary text ≡ piece ∷ texts boundary rest) × IsCrlf piece × IsCrlf rest × (length rest < length text)
