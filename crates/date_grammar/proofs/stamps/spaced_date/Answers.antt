use Rattle.std.proofs.Common.{◌≡◌, ◌+◌, ℕ, List, ◌&&◌, None, eqb, get_or, sym, ◌∙◌, ap, arith, eq-eqb}
use Rattle.std.proofs.lemmas.Bool.{cond-true, and_from}
use Rattle.date_grammar.specs.Parts.{part, numeric_zone}
use Rattle.date_grammar.specs.Reading.{date_time}
use Rattle.date_grammar.specs.Stamps.{date_text, clock_time, spaced_date}
use Rattle.date_grammar.proofs.stamps.spaced_date.Goals as goal

with_spaces : (n : ℕ) (text : List ℕ) → get_or text n 0 ≡ 32 → get_or text (n + 9) 0 ≡ 32 →
    spaced_date n text ≡ date_time (date_text (part 0 n text)) (clock_time (part (n + 1) 8 text)) (numeric_zone (part (n + 10) 5 text))
with_spaces n text first second =
    cond-true (eqb (get_or text n 0) 32 && eqb (get_or text (n + 9) 0) 32) (date_time (date_text (part 0 n text)) (clock_time (part (n + 1) 8 text)) (numeric_zone (part (n + 10) 5 text))) None
    (and_from (eqb (get_or text n 0) 32) (eqb (get_or text (n + 9) 0) 32) (eq-eqb (get_or text n 0) 32 first) (eq-eqb (get_or text (n + 9) 0) 32 second))

pub returns : goal.returns
returns c =
    c.date_time.ensures
    ∙ ap (λ (t : List ℕ). date_time (date_text t) (clock_time c.part-2.result.now) (numeric_zone c.part-3.result.now)) c.part.ensures
    ∙ ap (λ (t : List ℕ). date_time (date_text (part 0 c.args.n c.args.text.now)) (clock_time t) (numeric_zone c.part-3.result.now)) c.part-2.ensures
    ∙ ap (λ (t : List ℕ). date_time (date_text (part 0 c.args.n c.args.text.now)) (clock_time (part (c.args.n + 1) 8 c.args.text.now)) (numeric_zone t)) c.part-3.ensures
    ∙ sym (with_spaces c.args.n c.args.text.now (omega arith) (omega arith))
