use Rattle.std.proofs.Common.{rules, List, sym, ap, subst, ◌∙◌}
use Rattle.std.specs.List.Sorted.{IsPermutation, IsNonDecreasingBy}
use Rattle.std.proofs.lemmas.List.Sorted.{IsNonDecreasingBy-from_sort_by_key}
use Rattle.std.proofs.lemmas.Result.{IfOk-weaker}
use Rattle.session_view.specs.declared.spans.Span.{Span}
use Rattle.std.specs.Ordering.{nat_cmp}
use Rattle.std.proofs.lemmas.Map.Keys.{sorted_tail}
use Rattle.session_view.specs.Order.{Ascend}
use Rattle.session_view.specs.Resolving.{resolved}
use Rattle.session_view.proofs.Rising.{resolved_ascends}
use Rattle.session_view.proofs.Covering.{resolved_is}
use Rattle.session_view.proofs.view.View.resolve.Goals as goal

pub covered-requires : goal.covered-requires
covered-requires c =
    subst (λ (l : List Span). IsNonDecreasingBy (λ (s : Span). s.start) l) (sym c.as_slice-2.ensures.value)
    (IsNonDecreasingBy-from_sort_by_key (λ (s : Span). s.start) c.sort_unstable_by_key.new.self.items c.sort_unstable_by_key.ensures.sorted (λ a r q k. search rules))

pub returns-clause-value : goal.returns-clause-value
returns-clause-value c =
    let moved = subst (λ (l : List Span). IsPermutation c.in_ok-spans.spans.items l) (sym c.as_slice-2.ensures.value) c.sort_unstable_by_key.ensures.permutation in
    let uids = c.as_slice-uids.result.now in
    let ranges = c.as_slice.result.now in
    IfOk-weaker c.covered.result _ _ (λ found h. h
    ∙ resolved_is uids ranges c.args.by_uid c.in_ok-spans.spans.items c.as_slice-2.result.now moved c.in_ok-spans.ensures
    ∙ ap (λ l. resolved l ranges c.args.by_uid) c.as_slice-uids.ensures.value
    ∙ ap (λ l. resolved c.args.self.now.uids l c.args.by_uid) c.as_slice.ensures)
    c.covered.ensures

pub returns-clause-ascend : goal.returns-clause-ascend
returns-clause-ascend c =
    let up : Ascend c.args.self.now.uids = sorted_tail nat_cmp 0 c.args.self.now.uids c.as_slice-uids.ensures.ascend in
    IfOk-weaker c.covered.result _ _ (λ found is. subst Ascend (sym is) (resolved_ascends c.args.self.now.uids c.args.set.now.ranges c.args.by_uid up)) (returns-clause-value c)

pub selected_spans-requires-clause-ascend : goal.selected_spans-requires-clause-ascend
selected_spans-requires-clause-ascend c =
    subst Ascend (sym c.as_slice-uids.ensures.value) (sorted_tail nat_cmp 0 c.args.self.now.uids c.as_slice-uids.ensures.ascend)
