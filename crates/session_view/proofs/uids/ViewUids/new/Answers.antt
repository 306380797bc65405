use Rattle.std.proofs.Common.{ℕ, ◌≡◌, List, ◌∷◌, take, sym, subst, ◌∙◌}
use Rattle.session_view.specs.Order.{Ascend, rising}
use Rattle.session_view.proofs.Rising.{rising_ascends}
use Rattle.session_view.proofs.uids.ViewUids.new.Goals as goal

pub invariant_of-result : goal.invariant_of-result
invariant_of-result c =
    let front = subst (λ (l : List ℕ). take c.rising_len-len.result l ≡ rising 0 l) c.as_slice.ensures c.rising_len-len.ensures in
    subst (λ (l : List ℕ). Ascend (0 ∷ l)) (sym (c.shorten.ensures ∙ front)) (rising_ascends 0 c.args.uids)
