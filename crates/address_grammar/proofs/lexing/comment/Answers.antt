use Rattle.std.proofs.Common.{eqb, get_or, arith}
use Rattle.std.proofs.lemmas.Bool.{ne_eqb, and_left, and_right}
use Rattle.address_grammar.proofs.LexLemmas.{comment_ends, comment_next, comment_taken, comment_cut, comment_open, depth_more}
use Rattle.address_grammar.proofs.lexing.comment.Goals as goal
use Rattle.address_grammar.proofs.lexing.comment.Goals.{else-b-eq41-via-then-b-eq41+else-depth-eq0, else-b-eq41-via-else-b-eq41}

pub returns-then-at-rest : goal.returns-then-at-rest
returns-then-at-rest c = comment_cut _ _ _ _ c.loop-at.invariant.open_piece c.loop-at-test.true c.if-at-rest.true c.if-b-eq92.true

pub loop-at-preserved-then-b-eq92 : goal.loop-at-preserved-then-b-eq92
loop-at-preserved-then-b-eq92 c = record {
  open_piece = rw c.in_ok-push.ensures.items (comment_taken _ _ _ _ c.loop-at.invariant.open_piece c.if-at-rest.false c.if-b-eq92.true);
  depth_within = omega (arith, c.loop-at.invariant.depth_within);
}

pub returns-then-depth-eq0 : goal.returns-then-depth-eq0
returns-then-depth-eq0 c =
    rw c.new.ensures (comment_ends _ _ _ _ c.loop-at.invariant.open_piece c.loop-at-test.true c.if-b-eq92.false c.if-b-eq41.true c.if-depth-eq0.true)

pub loop-at-preserved : goal.loop-at-preserved
loop-at-preserved c =
    let b = get_or c.args.rest.now c.loop-at.at 0 in
    let depth = c.loop-at.depth in
    record {
      open_piece =
          rw c.in_ok-push-2.ensures.items
          (comment_next _ _ _ _ _ c.loop-at.invariant.open_piece c.loop-at-test.true c.if-b-eq92.false
          (elim c.else-b-eq41.branch [
            | else-b-eq41-via-then-b-eq41+else-depth-eq0 w ↦ and_right (eqb b 41) (eqb depth 0) (ne_eqb depth 0 w.if-depth-eq0.false)
            | else-b-eq41-via-else-b-eq41 w ↦ and_left (eqb b 41) (eqb depth 0) (ne_eqb b 41 w.if-b-eq41.false)
          ]) c.depth_after-depth.ensures);
      depth_within = depth_more depth c.loop-at.at b c.depth_after-depth.result c.loop-at.invariant.depth_within c.depth_after-depth.ensures;
    }

pub returns : goal.returns
returns c = comment_open _ _ _ _ c.loop-at.invariant.open_piece c.loop-at-test.false
