-- Which names a pattern matches (RFC 3501 §6.3.8).
use Rattle.std.specs.Prelude.{ℕ, ◌==◌, ◌&&◌, ◌||◌, Bool, true, false, not, if◌then◌else◌, List, [], ◌∷◌}
use Rattle.std.specs.Str.{byte}
use Rattle.mailbox_names.specs.Names.{separator}

abbrev pub is_wildcard : ℕ → Bool
is_wildcard p = p == byte "*" || p == byte "%"

-- whether a wildcard takes a byte: `*` any, `%` any but a separator
abbrev pub takes : ℕ → ℕ → Bool
takes p b = p == byte "*" || not (b == separator)

-- A wildcard takes nothing, or one byte more. Any other byte of a pattern is matched by itself alone.
unfoldable pub matches : List ℕ → List ℕ → Bool
matches [] [] = true
matches [] (b ∷ name) = false
matches (p ∷ pattern) [] = is_wildcard p && matches pattern []
matches (p ∷ pattern) (b ∷ name) =
    if is_wildcard p then matches pattern (b ∷ name) || (takes p b && matches (p ∷ pattern) name)
    else b == p && matches pattern name
