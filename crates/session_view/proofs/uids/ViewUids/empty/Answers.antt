use Rattle.std.proofs.Common.{ℕ, List, [], ◌∷◌, sym, subst}
use Rattle.session_view.specs.Order.{Ascend}
use Rattle.session_view.proofs.Rising.{rising_ascends}
use Rattle.session_view.proofs.uids.ViewUids.empty.Goals as goal

pub invariant_of-result : goal.invariant_of-result
invariant_of-result c = subst (λ (l : List ℕ). Ascend (0 ∷ l)) (sym c.new.ensures) (rising_ascends 0 [])
