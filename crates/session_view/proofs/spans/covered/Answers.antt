use Rattle.std.proofs.Common.{◌++◌, ◌∙◌, sym, ap, arith, inl, inr, refl, get_or}
use Rattle.std.specs.List.{list_any, slice_range}
use Rattle.std.proofs.lemmas.List.{get_or_default}
use Rattle.session_view.specs.Spans.{covers}
use Rattle.session_view.proofs.Numbered.{numbered_done}
use Rattle.session_view.proofs.Covering.{all_passed, found_more, passed_more}
use Rattle.session_view.proofs.spans.covered.Goals as goal
use Rattle.session_view.proofs.spans.covered.Goals.{then-from-end+in_ok-extend_from_slice, else-from-end}

pub loop-span-preserved : goal.loop-span-preserved
loop-span-preserved c =
    let uids = c.args.uids.now in
    let spans = c.args.spans.now in
    let index = c.loop-span.span-index in
    let done = c.loop-span.done in
    let from = c.max-from.result in
    let end = c.min-end.result in
    let s = get_or spans index (record { start = 0; end = 0 }) in
    let passed = c.loop-span.invariant.passed in
    elim c.if-from-end.branch [
      | then-from-end+in_ok-extend_from_slice w ↦ rw (w.found-is, w.done-is) (record {
        within = omega arith;
        found = w.in_ok-extend_from_slice.ensures.items ∙ ap (λ l. l ++ slice_range uids from end) c.loop-span.invariant.found
            ∙ sym (found_more uids spans index done from end s (λ d. get_or_default spans index d _ c.loop-span-test.true) c.max-from.ensures c.min-end.ensures w.if-from-end.true c.requires c.loop-span-test.true passed);
        passed = passed_more uids spans index done end from end s (λ d. get_or_default spans index d _ c.loop-span-test.true) c.max-from.ensures c.min-end.ensures (omega arith) (inl refl) passed;
      })
      | else-from-end w ↦ rw (w.found-is, w.done-is) (record {
        within = c.loop-span.invariant.within;
        found = c.loop-span.invariant.found;
        passed = passed_more uids spans index done done from end s (λ d. get_or_default spans index d _ c.loop-span-test.true) c.max-from.ensures c.min-end.ensures (omega arith) (inr w.if-from-end.false) passed;
      })
    ]

pub returns : goal.returns
returns c =
    c.loop-span.invariant.found ∙ sym (numbered_done (λ place. list_any (covers place) c.args.spans.now) c.args.uids.now c.loop-span.done c.loop-span.invariant.within
    (λ k low lt. all_passed c.args.spans.now k (λ j e h. c.loop-span.invariant.passed j k e (omega arith) low lt)))
