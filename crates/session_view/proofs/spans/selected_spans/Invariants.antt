use Rattle.std.proofs.Common.{◌≡◌, ℕ, ◌<◌, length, take}
use Rattle.std.specs.List.{list_any}
use Rattle.session_view.specs.Spans.{covers, holds_at}
use Rattle.session_view.proofs.spans.selected_spans.Given as goal

abbrev pub invariant-loop-range : goal.invariant-loop-range
invariant-loop-range l = (place : ℕ) → place < length l.uids → list_any (covers place) l.spans.items ≡ list_any (holds_at l.uids l.by_uid place) (take l.range-index l.ranges)
