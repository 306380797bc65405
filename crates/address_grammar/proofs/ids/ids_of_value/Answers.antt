use Rattle.std.proofs.Common.{◌+◌, true, false, refl, sym, ◌∙◌, ap, arith}
use Rattle.std.proofs.lemmas.List.{take_rest, length-drop}
use Rattle.std.proofs.lemmas.Bool.{eqb-true, eqb-false}
use Rattle.address_grammar.specs.Ids.{are_blanks, is_id_front, some_ids}
use Rattle.address_grammar.proofs.SplitLemmas.{ids_more, ids_stop, ids_end, some_out, none_out}
use Rattle.address_grammar.proofs.ids.ids_of_value.Goals as goal
use Rattle.address_grammar.proofs.ids.ids_of_value.Goals.{then-is_empty-via-then-is_empty, then-is_empty-via-else-is_empty+then-not-are_blanks}

pub returns-then-not-is_id_front : goal.returns-then-not-is_id_front
returns-then-not-is_id_front c =
    ids_stop c.args.value.now c.loop-end.rest.now c.in-Some.end c.loop-end.out.items c.in-Some.ensures
    (ap is_id_front (sym c.trim_start-id.ensures) ∙ sym c.is_id_front.ensures ∙ c.if-not-is_id_front.true) c.loop-end.invariant.left

pub loop-end-preserved : goal.loop-end-preserved
loop-end-preserved c =
    let rest = c.loop-end.rest.now in
    record {
      left =
          rw (c.in_ok-push.ensures.items, c.in_ok-with_end.ensures, c.trim_start-id.ensures, take_rest rest (c.in-Some.end + 1))
          (ids_more c.args.value.now rest c.in-Some.end c.loop-end.out.items c.in-Some.ensures
          (ap is_id_front (sym c.trim_start-id.ensures) ∙ sym c.is_id_front.ensures ∙ c.if-not-is_id_front.false) c.loop-end.invariant.left);
      within = rw (take_rest rest (c.in-Some.end + 1), length-drop (c.in-Some.end + 1) rest) (omega (arith, c.loop-end.invariant.within));
    }

pub returns-then-is_empty : goal.returns-then-is_empty
returns-then-is_empty c =
    elim c.then-is_empty.branch [
      | then-is_empty-via-then-is_empty w ↦
          sym (ap some_ids (ids_end c.args.value.now c.loop-end.rest.now c.loop-end.out.items (are_blanks c.loop-end.rest.now) c.in_default.ensures refl c.loop-end.invariant.left)
          ∙ none_out c.loop-end.out.items (are_blanks c.loop-end.rest.now) (sym c.loop-end.out.ok.0 ∙ eqb-true _ _ (sym c.is_empty.ensures ∙ w.if-is_empty.true)))
      | then-is_empty-via-else-is_empty+then-not-are_blanks w ↦
          sym (ap some_ids (ids_end c.args.value.now c.loop-end.rest.now c.loop-end.out.items false c.in_default.ensures (sym w.are_blanks.ensures ∙ w.if-not-are_blanks.true) c.loop-end.invariant.left))
    ]

pub returns : goal.returns
returns c =
    sym (ap some_ids (ids_end c.args.value.now c.loop-end.rest.now c.loop-end.out.items true c.in_default.ensures (sym c.are_blanks.ensures ∙ c.if-not-are_blanks.false) c.loop-end.invariant.left)
    ∙ some_out c.loop-end.out.items (let some = eqb-false _ _ (sym c.is_empty.ensures ∙ c.if-is_empty.false) in omega (arith, some, c.loop-end.out.ok.0)))
