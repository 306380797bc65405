-- Names of mailboxes and their levels (RFC 3501 §5.1).
use Rattle.std.specs.Prelude.{ℕ, ◌++◌, ◌==◌, Bool, nat_eq, if◌then◌else◌, List, [], ◌∷◌, map, codes}
use Rattle.std.specs.List.{list_any}
use Rattle.std.specs.Cmp.Lexicographic.{pointwise}
use Rattle.std.specs.Str.{byte, str_eq_ignore_ascii_case}

-- whether two names are the same, byte by byte
abbrev pub same_name : List ℕ → List ℕ → Bool
same_name a b = pointwise nat_eq a b

-- whether a name is among names
abbrev pub has_name : List ℕ → List (List ℕ) → Bool
has_name name names = list_any (λ n. same_name n name) names

-- The mailbox that every user has (RFC 3501 §5.1).
abbrev pub inbox : List ℕ
inbox = codes "INBOX"

-- Its name is written in any case.
abbrev pub is_inbox : List ℕ → Bool
is_inbox name = str_eq_ignore_ascii_case name inbox

-- the name of the mailbox that a text names
abbrev pub mailbox_name : List ℕ → List ℕ
mailbox_name text = if is_inbox text then inbox else text

-- what stands between the levels of a name (RFC 3501 §5.1.1)
abbrev pub separator : ℕ
separator = byte "/"

-- the superior levels of a name: what stands before each separator
abbrev pub levels_of : List ℕ → List (List ℕ)
levels_of [] = []
levels_of (b ∷ name) = (if b == separator then [] ∷ [] else []) ++ map (λ level. b ∷ level) (levels_of name)
