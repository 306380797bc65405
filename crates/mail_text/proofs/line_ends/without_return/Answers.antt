use Rattle.std.proofs.Common.{◌<◌, length, refl, inr, ◌∙◌, ap, arith}
use Rattle.std.proofs.lemmas.Bool.{ne_eqb}
use Rattle.std.proofs.lemmas.List.{nil_from_length}
use Rattle.mail_text.specs.Lines.{ends_in_cr}
use Rattle.mail_text.proofs.LineLemmas.{ends-last}
use Rattle.mail_text.proofs.line_ends.without_return.Goals as goal
use Rattle.mail_text.proofs.line_ends.without_return.Goals.{else-n-gt0-via-then-n-gt0+else-line-n-eq13, else-n-gt0-via-else-n-gt0}

pub returns-else-n-gt0 : goal.returns-else-n-gt0
returns-else-n-gt0 c =
    let line = c.args.line.now in
    elim c.else-n-gt0.branch [
      | else-n-gt0-via-then-n-gt0+else-line-n-eq13 w ↦
          let some : 0 < length line = omega (arith, w.if-n-gt0.true) in
          inr (refl, ends-last line some ∙ ne_eqb _ _ w.if-line-n-eq13.false)
      | else-n-gt0-via-else-n-gt0 w ↦ inr (refl, ap ends_in_cr (nil_from_length line (omega (arith, w.if-n-gt0.false))))
    ]
