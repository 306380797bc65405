-- The order in which a view has the UIDs of its messages (RFC 3501 §2.3.1.1).
use Rattle.std.specs.Prelude.{ℕ, nat_lt, List, [], ◌∷◌, if◌then◌else◌}
use Rattle.std.specs.Ordering.{nat_cmp}
use Rattle.std.specs.List.Sorted.{IsStrictlySortedBy}

-- each UID is below all behind it
abbrev pub Ascend : List ℕ → Type 0
Ascend uids = IsStrictlySortedBy nat_cmp uids

-- The numbers at the front of others that ascend, from above one on.
abbrev pub rising : ℕ → List ℕ → List ℕ
rising last [] = []
rising last (n ∷ numbers) = if nat_lt last n then n ∷ rising n numbers else []
