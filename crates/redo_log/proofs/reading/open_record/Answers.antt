use Rattle.std.proofs.Common.{◌-◌, length, drop, sym, ◌∙◌, arith, length-take, length-drop}
use Rattle.std.proofs.lemmas.List.{take_rest}
use Rattle.redo_log.proofs.Texts.{record_long, too_long}
use Rattle.redo_log.proofs.reading.open_record.Goals as goal

pub returns-in_err-len-clause-none : goal.returns-in_err-len-clause-none
returns-in_err-len-clause-none c =
    rw c.from_residual.ensures (λ payload rest fits same. let b = c.args.bytes.now in
    omega (arith, c.in_err-len.ensures.none, record_long payload rest b same, length-take (length b - 1) (drop 1 b), length-drop 1 b))

pub returns-then-len-rest-clause-none : goal.returns-then-len-rest-clause-none
returns-then-len-rest-clause-none c =
    too_long c.in_ok-len.len c.args.bytes.now c.in_ok-len.rest.now c.in_ok-len.ensures.fits c.if-len-rest.true (sym (take_rest c.args.bytes.now 1) ∙ c.in_ok-len.ensures.some)
