use Rattle.std.proofs.Common.{ℕ, ◌<◌, ◌^◌, List, ◌∷◌, length, sym, subst, ◌∙◌}
use Rattle.session_view.specs.Order.{Ascend}
use Rattle.session_view.proofs.uids.ViewUids.as_slice.Goals as goal

pub are_few-requires : goal.are_few-requires
are_few-requires c = subst (λ (l : List ℕ). Ascend (0 ∷ l)) (sym c.as_slice-uids.ensures) c.self.invariant

pub returns-clause-few : goal.returns-clause-few
returns-clause-few c = subst (λ (l : List ℕ). length l < 2 ^ 32) (c.as_slice-uids.ensures ∙ c.self.view_is) c.are_few.ensures
