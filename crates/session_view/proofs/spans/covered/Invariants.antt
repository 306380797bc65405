use Rattle.std.proofs.Common.{◌≡◌, ℕ, ◌<◌, ◌≤◌, false, length, get_or, take}
use Rattle.std.specs.List.{list_any}
use Rattle.session_view.specs.declared.spans.Span.{Span}
use Rattle.session_view.specs.Resolving.{numbered}
use Rattle.session_view.specs.Spans.{covers}
use Rattle.session_view.proofs.spans.covered.Given as goal

abbrev pub invariant-loop-span : goal.invariant-loop-span
invariant-loop-span l =
    record {
      within : l.done ≤ length l.uids;
      found : l.found.items ≡ numbered (λ place. list_any (covers place) l.spans) 0 (take l.done l.uids);
      passed : (j place : ℕ) (d : Span) → j < l.span-index → l.done ≤ place → place < length l.uids → covers place (get_or l.spans j d) ≡ false;
    }
