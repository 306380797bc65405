-- Flags of a message, as a set (RFC 3501 §2.3.2). `\Recent` is none of them.
use Rattle.std.specs.Prelude.{◌++◌, ◌==◌, ◌&&◌, Bool, true, false, not, nat_eq, nat_le, List, [], ◌∷◌, length, filter}
use Rattle.std.specs.List.{list_all, list_any}
use Rattle.std.specs.Cmp.Lexicographic.{pointwise}
use Rattle.std.specs.Char.{to_ascii_lowercase}
use Rattle.imap_grammar.specs.Classes.{is_atom_byte}
use Rattle.imap_grammar.specs.declared.flags.Flag.{Flag}
use Rattle.imap_grammar.specs.declared.flags.Flag.TheVariants.{Answered, Flagged, Deleted, Seen, Draft, Keyword}
use Rattle.imap_grammar.specs.declared.flags.FlagChange.{FlagChange}
use Rattle.imap_grammar.specs.declared.flags.FlagChange.TheVariants.{Set, Add, Remove}

abbrev pub same_flag : Flag → Flag → Bool
same_flag Answered Answered = true
same_flag Flagged Flagged = true
same_flag Deleted Deleted = true
same_flag Seen Seen = true
same_flag Draft Draft = true
same_flag (Keyword a) (Keyword b) = pointwise nat_eq a b
same_flag a b = false

abbrev pub has_flag : Flag → List Flag → Bool
has_flag flag flags = list_any (λ other. same_flag other flag) flags

-- the same set of flags, in whichever order
abbrev pub same_flags : List Flag → List Flag → Bool
same_flags a b = list_all (λ flag. has_flag flag b) a && list_all (λ flag. has_flag flag a) b

-- each flag once, where it stands first
abbrev pub distinct : List Flag → List Flag
distinct [] = []
distinct (flag ∷ flags) = flag ∷ filter (λ other. not (same_flag flag other)) (distinct flags)

-- whether no flag stands twice
abbrev pub are_distinct : List Flag → Bool
are_distinct [] = true
are_distinct (flag ∷ flags) = not (list_any (same_flag flag) flags) && are_distinct flags

-- What STORE makes of a message's flags with those that it names (RFC 3501 §6.4.6).
abbrev pub stored_flags : FlagChange → List Flag → List Flag → List Flag
stored_flags Set named flags = distinct named
stored_flags Add named flags = flags ++ filter (λ flag. not (has_flag flag flags)) (distinct named)
stored_flags Remove named flags = filter (λ flag. not (has_flag flag named)) flags

-- A keyword is an atom without capital letters; the other flags are those of the standard.
abbrev pub is_flag : Flag → Bool
is_flag (Keyword name) = nat_le 1 (length name) && list_all (λ b. is_atom_byte b && (to_ascii_lowercase b == b)) name
is_flag flag = true
