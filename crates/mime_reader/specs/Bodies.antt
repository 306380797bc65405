-- The body of a multipart (RFC 2046 §5.1.1): parts between delimiter lines.
use Rattle.std.specs.Prelude.{ℕ, Bool, ◌&&◌, not, nat_le, if◌then◌else◌, List, [], ◌∷◌, ◌++◌, map, length}
use Rattle.std.specs.List.{list_any, list_all}
use Rattle.std.specs.Str.{bytes_eq}
use Rattle.mail_text.specs.Texts.{without_blank_end}
use Rattle.mail_text.specs.Lines.{put, lines, joined}

-- The line before each part, and the one behind the last.
abbrev pub delimiter : List ℕ → List ℕ
delimiter boundary = 45 ∷ 45 ∷ boundary

abbrev pub closing : List ℕ → List ℕ
closing boundary = delimiter boundary ++ 45 ∷ 45 ∷ []

-- Whether a line is one of these, blanks at its end apart.
abbrev pub is_delimiter : List ℕ → List ℕ → Bool
is_delimiter boundary line = bytes_eq (without_blank_end line) (delimiter boundary)

abbrev pub is_closing : List ℕ → List ℕ → Bool
is_closing boundary line = bytes_eq (without_blank_end line) (closing boundary)

-- The lines before the first delimiter, those between each two, and those behind the last; nothing behind the closing one.
abbrev pub pieces : List ℕ → List (List ℕ) → List (List (List ℕ))
pieces boundary [] = [] ∷ []
pieces boundary (l ∷ ls) =
    if is_closing boundary l then [] ∷ []
    else (if is_delimiter boundary l then [] ∷ pieces boundary ls else put l (pieces boundary ls))

abbrev pub behind_first : {A : Type 0} → List A → List A
behind_first [] = []
behind_first (x ∷ xs) = xs

-- The texts of the parts: what is before the first delimiter and behind the closing one is no part.
abbrev pub parts : List ℕ → List ℕ → List (List ℕ)
parts boundary text = map joined (behind_first (pieces boundary (lines text)))

-- A byte that may stand in a boundary.
abbrev pub is_printing : ℕ → Bool
is_printing c = nat_le 32 c && nat_le c 126

-- Whether a boundary has 1 to 70 bytes, each a printing character or a space, and no space at its end.
abbrev pub is_boundary : List ℕ → Bool
is_boundary boundary =
    (nat_le 1 (length boundary) && nat_le (length boundary) 70)
    && (list_all is_printing boundary && bytes_eq (without_blank_end boundary) boundary)

-- Whether it is one, and its closing line is no delimiter of a multipart around it.
abbrev pub is_usable : List (List ℕ) → List ℕ → Bool
is_usable enclosing boundary = is_boundary boundary && not (list_any (λ outer. bytes_eq (closing boundary) (delimiter outer)) enclosing)
