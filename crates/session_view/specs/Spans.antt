-- The places in a view, from 0, that a range selects.
use Rattle.std.specs.Prelude.{ℕ, ◌+◌, ◌&&◌, nat_le, nat_lt, Bool, true, false, List, length, slice_index, Option}
use Rattle.session_view.specs.declared.spans.Span.{Span}
use Rattle.session_view.specs.Resolving.{greatest, holds}

abbrev pub covers : ℕ → Span → Bool
covers place span = nat_le span.start place && nat_lt place span.end

-- whether a range holds the message at a place, by its UID or by its number
abbrev pub holds_at : List ℕ → Bool → ℕ → (Option ℕ × Option ℕ) → Bool
holds_at uids true place range = holds (greatest uids) (slice_index uids place) range
holds_at uids false place range = holds (length uids) (place + 1) range

-- the greatest UID, or the last number
abbrev pub last_of : List ℕ → Bool → ℕ
last_of uids true = greatest uids
last_of uids false = length uids
