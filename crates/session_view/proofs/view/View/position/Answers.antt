use Rattle.std.proofs.Common.{◌≡◌, ℕ, ◌+◌, List, Some, None, Ok, Err, sym, subst}
use Rattle.std.specs.Ordering.{nat_cmp}
use Rattle.std.proofs.lemmas.List.Sorted.{searched}
use Rattle.std.proofs.lemmas.Map.Keys.{non_decreasing_from_sorted, sorted_tail}
use Rattle.session_view.specs.Order.{Ascend}
use Rattle.session_view.specs.Numbers.{number_of}
use Rattle.session_view.proofs.Placing.{number_found, number_absent}
use Rattle.session_view.proofs.view.View.position.Goals as goal

pub returns-in-Ok : goal.returns-in-Ok
returns-in-Ok c =
    let uids = c.as_slice-uids.result.now in
    let up : Ascend uids = subst Ascend (sym c.as_slice-uids.ensures.value) (sorted_tail nat_cmp 0 c.args.self.now.uids c.as_slice-uids.ensures.ascend) in
    let at = searched uids c.args.uid (Ok c.in-Ok.place) c.in-Ok.ensures.position (λ i j h lt. non_decreasing_from_sorted uids up i j 0 h lt) in
    subst (λ (l : List ℕ). Some (c.in-Ok.place + 1) ≡ number_of c.args.uid l) c.as_slice-uids.ensures.value (number_found uids c.args.uid c.in-Ok.place up at.0 at.1)

pub returns-in-Err : goal.returns-in-Err
returns-in-Err c =
    let uids = c.as_slice-uids.result.now in
    let up : Ascend uids = subst Ascend (sym c.as_slice-uids.ensures.value) (sorted_tail nat_cmp 0 c.args.self.now.uids c.as_slice-uids.ensures.ascend) in
    let at = searched uids c.args.uid (Err c.in-Err.field-0) c.in-Err.ensures.position (λ i j h lt. non_decreasing_from_sorted uids up i j 0 h lt) in
    subst (λ (l : List ℕ). None ≡ number_of c.args.uid l) c.as_slice-uids.ensures.value (number_absent uids c.args.uid c.in-Err.field-0 at.1 at.2)
