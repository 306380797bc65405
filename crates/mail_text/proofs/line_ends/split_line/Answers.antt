use Rattle.std.proofs.Common.{◌++◌, ◌∷◌, ◌+◌, take, drop, sym, subst, arith}
use Rattle.std.proofs.lemmas.Bool.{eqb-true}
use Rattle.std.proofs.lemmas.List.{take_rest}
use Rattle.mail_text.specs.Lines.{IsFirstLine}
use Rattle.mail_text.proofs.FrontLemmas.{has_none}
use Rattle.mail_text.proofs.LineLemmas.{first_line, has_none_before, lines-one, at_lf}
use Rattle.mail_text.proofs.line_ends.split_line.Goals as goal

pub returns-in-Some : goal.returns-in-Some
returns-in-Some c =
    let text = c.args.text.now in
    let end = c.in-Some.end in
    let short = c.without_return.result.now in
    let rest = drop (end + 1) text in
    let found = c.in-Some.ensures in
    let first : IsFirstLine (take end text ++ 10 ∷ rest) short rest =
    first_line (take end text) short rest (has_none_before text end (λ k below. found.0.before k (omega arith) below)) c.without_return.ensures in
    let whole : IsFirstLine text short rest = subst (λ t. IsFirstLine t short rest) (sym (at_lf text end found.0.high (eqb-true _ _ found.1))) first in
    rw (take_rest text (end + 1)) whole

pub returns-in-None : goal.returns-in-None
returns-in-None c =
    let text = c.args.text.now in
    lines-one text (has_none 10 text (λ k below. c.in-None.ensures k (omega arith) below))
