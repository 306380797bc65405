use Rattle.std.proofs.Common.{◌≡◌, ◌+◌, ◌-◌, ◌<◌, length, take, sym, ◌∙◌, ap, arith}
use Rattle.mail_text.specs.Texts.{without_blank_end}
use Rattle.mail_text.proofs.BlankLemmas.{end_more, end_stays}
use Rattle.mail_text.proofs.blanks.trim_end.Goals as goal
use Rattle.mail_text.proofs.blanks.trim_end.Goals.{then-loop-end-test+else-is_blank, else-loop-end-test}

pub loop-end-preserved : goal.loop-end-preserved
loop-end-preserved c =
    let text = c.args.text.now in
    let end = c.loop-end.end in
    let within : end - 1 < length text = omega (arith, c.loop-end.invariant.0) in
    let same : end - 1 + 1 ≡ end = omega arith in (
      omega (arith, c.loop-end.invariant.0),
      sym (end_more text (end - 1) within (sym c.is_blank.ensures ∙ c.if-is_blank.true)) ∙ ap (λ n. without_blank_end (take n text)) same
          ∙ c.loop-end.invariant.1,
    )

pub returns : goal.returns
returns c =
    let text = c.args.text.now in
    let end = c.loop-end.end in
    elim c.loop-end-test.branch [
      | then-loop-end-test+else-is_blank w ↦
          let positive = w.loop-end-test.true in
          let within : end - 1 < length text = omega (arith, c.loop-end.invariant.0, positive) in
          let same : end - 1 + 1 ≡ end = omega (arith, positive) in
          let stays : without_blank_end (take end text) ≡ take end text =
          rw same at (end_stays text (end - 1) within (sym w.is_blank.ensures ∙ w.if-is_blank.false)) in
          sym stays ∙ c.loop-end.invariant.1
      | else-loop-end-test w ↦
          let at_start : end ≡ 0 = omega (arith, w.loop-end-test.false) in
          ap (λ n. take n text) at_start ∙ sym (ap (λ n. without_blank_end (take n text)) at_start) ∙ c.loop-end.invariant.1
    ]
