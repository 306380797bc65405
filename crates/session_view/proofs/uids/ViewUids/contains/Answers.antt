use Rattle.std.proofs.Common.{◌≡◌, ℕ, Bool, true, false, List, Ok, Err, sym, subst}
use Rattle.std.specs.Prelude.{◌==◌}
use Rattle.std.specs.List.{list_any}
use Rattle.std.specs.Ordering.{nat_cmp}
use Rattle.std.proofs.lemmas.List.Sorted.{searched}
use Rattle.std.proofs.lemmas.Map.Keys.{non_decreasing_from_sorted, sorted_tail}
use Rattle.session_view.specs.Order.{Ascend}
use Rattle.session_view.proofs.Rising.{is_among, not_among}
use Rattle.session_view.proofs.uids.ViewUids.contains.Goals as goal

pub returns-in-Ok : goal.returns-in-Ok
returns-in-Ok c =
    let uids = c.as_slice-uids.result.now in
    let up : Ascend uids = subst Ascend (sym c.as_slice-uids.ensures.value) (sorted_tail nat_cmp 0 c.args.self.now c.as_slice-uids.ensures.ascend) in
    let at = searched uids c.args.uid (Ok c.in-Ok.field-0) c.in-Ok.ensures.position (λ i j h lt. non_decreasing_from_sorted uids up i j 0 h lt) in
    subst (λ (l : List ℕ). true ≡ list_any (λ other. other == c.args.uid) l) c.as_slice-uids.ensures.value (is_among c.args.uid c.in-Ok.field-0 uids at.0 at.1)

pub returns-in-Err : goal.returns-in-Err
returns-in-Err c =
    let uids = c.as_slice-uids.result.now in
    let up : Ascend uids = subst Ascend (sym c.as_slice-uids.ensures.value) (sorted_tail nat_cmp 0 c.args.self.now c.as_slice-uids.ensures.ascend) in
    let at = searched uids c.args.uid (Err c.in-Err.field-0) c.in-Err.ensures.position (λ i j h lt. non_decreasing_from_sorted uids up i j 0 h lt) in
    subst (λ (l : List ℕ). false ≡ list_any (λ other. other == c.args.uid) l) c.as_slice-uids.ensures.value (not_among c.args.uid c.in-Err.field-0 uids at.1 at.2)
