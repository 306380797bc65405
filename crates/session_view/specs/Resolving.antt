-- The messages of a view that a set selects (RFC 3501 §9, sequence-set).
use Rattle.std.specs.Prelude.{ℕ, ◌+◌, ◌&&◌, min, max, nat_le, Bool, true, false, List, [], ◌∷◌, length, filter, Option, if◌then◌else◌}
use Rattle.std.specs.List.{list_any}
use Rattle.std.specs.Option.{unwrap_or}

-- the greatest of numbers, 0 where there are none
abbrev pub greatest : List ℕ → ℕ
greatest [] = 0
greatest (n ∷ numbers) = max n (greatest numbers)

-- whether a number lies between two, whichever is the lower
abbrev pub lies_between : ℕ → ℕ → ℕ → Bool
lies_between a b n = nat_le (min a b) n && nat_le n (max a b)

-- whether a range holds a number, where `*` is the last one that there is
abbrev pub holds : ℕ → ℕ → (Option ℕ × Option ℕ) → Bool
holds last n range = lies_between (unwrap_or range.0 last) (unwrap_or range.1 last) n

-- whether some range does
abbrev pub is_in : ℕ → List (Option ℕ × Option ℕ) → ℕ → Bool
is_in last ranges n = list_any (holds last n) ranges

-- the UIDs of the messages whose numbers pass a test, where the first message has the number `first`
abbrev pub numbered : (ℕ → Bool) → ℕ → List ℕ → List ℕ
numbered test first [] = []
numbered test first (uid ∷ uids) = if test first then uid ∷ numbered test (first + 1) uids else numbered test (first + 1) uids

-- The UIDs of a view whose messages a set's ranges select, by UID or by number. The last number is that of the last message.
abbrev pub resolved : List ℕ → List (Option ℕ × Option ℕ) → Bool → List ℕ
resolved uids ranges true = filter (is_in (greatest uids) ranges) uids
resolved uids ranges false = numbered (is_in (length uids) ranges) 1 uids
