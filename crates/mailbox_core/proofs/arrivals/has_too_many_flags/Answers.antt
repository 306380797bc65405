use Rattle.std.proofs.Common.{◌≡◌, ◌≤◌, ℕ, false, List, take, sym, ◌∙◌, subst, arith}
use Rattle.std.proofs.lemmas.List.{take_all}
use Rattle.mail_world.specs.Flags.{has_flag}
use Rattle.imap_grammar.specs.declared.flags.Flag.{Flag}
use Rattle.mailbox_core.proofs.DistinctFlags.{counted_all, counted_more, counted_over}
use Rattle.mailbox_core.proofs.arrivals.has_too_many_flags.Goals as goal
use Rattle.mailbox_core.proofs.arrivals.has_too_many_flags.Goals.{then-not-is_among+else-count-eq-MOST_FLAGS, else-not-is_among}

pub returns-then-count-eq-MOST_FLAGS : goal.returns-then-count-eq-MOST_FLAGS
returns-then-count-eq-MOST_FLAGS c =
    let has : has_flag c.index-flags-place.result (take c.loop-place.place c.args.flags.now) ≡ false = sym c.is_among.ensures ∙ c.if-not-is_among.true in
    counted_over c.args.flags.now c.loop-place.place 30 c.index-flags-place.result c.loop-place-test.true c.index-flags-place.is
    (sym c.if-count-eq-MOST_FLAGS.true ∙ c.loop-place.invariant.counted) has

pub overflow_add-count : goal.overflow_add-count
overflow_add-count c = grind (arith, c.loop-place.invariant.few)

pub loop-place-preserved : goal.loop-place-preserved
loop-place-preserved c =
    let flags : List Flag = c.args.flags.now in
    let k : ℕ = c.loop-place.place in
    let x : Flag = c.index-flags-place.result in
    let has : has_flag x (take k flags) ≡ c.is_among.result = sym c.is_among.ensures in
    let few : c.loop-place.count ≤ 30 = c.loop-place.invariant.few in
    elim c.if-not-is_among.branch [
      | then-not-is_among+else-count-eq-MOST_FLAGS w ↦
          record {
            counted = w.count-is ∙ counted_more flags k c.loop-place.count x false c.loop-place-test.true c.index-flags-place.is c.loop-place.invariant.counted (has ∙ w.if-not-is_among.true);
            few = subst (λ n. n ≤ 30) (sym w.count-is) (omega (arith, few, w.if-count-eq-MOST_FLAGS.false));
          }
      | else-not-is_among w ↦
          record {
            counted = w.count-is ∙ counted_more flags k c.loop-place.count x _ c.loop-place-test.true c.index-flags-place.is c.loop-place.invariant.counted (has ∙ w.if-not-is_among.false);
            few = subst (λ n. n ≤ 30) (sym w.count-is) few;
          }
    ]

pub returns : goal.returns
returns c =
    counted_all c.args.flags.now c.loop-place.place 30 c.loop-place.count (take_all _ _ (omega (arith, c.loop-place-test.false))) c.loop-place.invariant.counted c.loop-place.invariant.few
