-- The parts of a message by their numbers (RFC 3501 §6.4.5, part specifiers).
use Rattle.std.specs.Prelude.{ℕ, zero, suc, ◌==◌, if◌then◌else◌, List, [], ◌∷◌, Option, Some, None}
use Rattle.std.specs.Option.{option_and_then}
use Rattle.mime_tree.specs.Trees.{Tree, Trees}
use Rattle.mime_tree.specs.Trees.Tree.{node}
use Rattle.mime_tree.specs.Trees.Content.{leaf, multi, nested}
use Rattle.mime_tree.specs.Trees.Trees.{none, more}

-- The part with a number, counted from 1.
abbrev pub numbered : ℕ → Trees → Option Tree
numbered n none = None
numbered zero (more tree trees) = None
numbered (suc zero) (more tree trees) = Some tree
numbered (suc (suc n)) (more tree trees) = numbered (suc n) trees

abbrev pub only_part : ℕ → Tree → Option Tree
only_part n tree = if n == 1 then Some tree else None

-- Part n of a message: of a multipart one of its parts, of another message 1 is its own body.
abbrev pub part_of_message : ℕ → Tree → Option Tree
part_of_message n (node fields (leaf encoding bytes)) = only_part n (node fields (leaf encoding bytes))
part_of_message n (node fields (multi trees)) = numbered n trees
part_of_message n (node fields (nested tree)) = only_part n (node fields (nested tree))

-- Part n of a part: numbers go through a message within.
abbrev pub part_of_part : ℕ → Tree → Option Tree
part_of_part n (node fields (leaf encoding bytes)) = None
part_of_part n (node fields (multi trees)) = numbered n trees
part_of_part n (node fields (nested tree)) = part_of_message n tree

-- The part behind further numbers.
abbrev pub part_behind : List ℕ → Option Tree → Option Tree
part_behind [] found = found
part_behind (n ∷ ns) found = part_behind ns (option_and_then (part_of_part n) found)

-- The part that numbers name, one at least.
abbrev pub part_at : ℕ → List ℕ → Tree → Option Tree
part_at n ns tree = part_behind ns (part_of_message n tree)

-- The message that a part is.
abbrev pub message_within : Tree → Option Tree
message_within (node fields (leaf encoding bytes)) = None
message_within (node fields (multi trees)) = None
message_within (node fields (nested tree)) = Some tree
