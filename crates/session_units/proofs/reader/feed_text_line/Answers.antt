use Rattle.std.proofs.Common.{◌≡◌, ℕ, ◌≤◌, ◌<◌, List, [], eqb, get_or, arith, length, take, sym, ◌∙◌, ap, subst, true}
use Rattle.std.proofs.lemmas.List.{get_or-take, length-take}
use Rattle.lmtp_core.specs.Reading.{Read, is_end, reads}
use Rattle.session_units.specs.Awaited.{Text}
use Rattle.session_units.specs.Units.{GoesOn}
use Rattle.session_units.proofs.Texts.{NoEnd, text-inside, text-none, text-open, text-quiet, text-taken}
use Rattle.session_units.proofs.reader.feed_text_line.Goals as goal

-- no byte before the end of the line is a LF
front : (piece : List ℕ) (end : ℕ) → end ≤ length piece → ((k : ℕ) → k < end → eqb (get_or piece k 0) 10 ≡ true → ⊥) → NoEnd (take end piece)
front piece end within none k h e =
    let low : k < end = omega (arith, h, length-take end piece) in
    none k low (subst (λ (b : ℕ). eqb b 10 ≡ true) (get_or-take end piece k 0 low) e)

counted : (c : goal.In_ok-count) → c.in_ok-count.count ≡ c.line_len-end.result
counted c =
    c.in_ok-count.ensures.taken
    ∙ text-taken c.args.text.now (take c.line_len-end.result c.args.piece.now) (text-open c.args.text.now c.requires)
    (front c.args.piece.now c.line_len-end.result c.line_len-end.ensures.within c.line_len-end.ensures.none)
    ∙ (let e : length (take c.line_len-end.result c.args.piece.now) ≡ c.line_len-end.result = omega (arith, length-take c.line_len-end.result c.args.piece.now, c.line_len-end.ensures.within) in e)

pub returns-clause-fed : goal.returns-clause-fed
returns-clause-fed c = ap Text (c.in_ok-count.ensures.read ∙ ap (λ (n : ℕ). reads c.args.text.now (take n c.args.piece.now)) (sym (counted c)))

pub returns-clause-each : goal.returns-clause-each
returns-clause-each c =
    subst (λ (n : ℕ). GoesOn (Text c.args.text.now) (take n c.args.piece.now)) (sym (counted c))
    (text-quiet c.args.text.now (take c.line_len-end.result c.args.piece.now) (text-open c.args.text.now c.requires)
    (front c.args.piece.now c.line_len-end.result c.line_len-end.ensures.within c.line_len-end.ensures.none))

pub returns-clause-none : goal.returns-clause-none
returns-clause-none c =
    text-none c.feed.new.self []
    (ap (λ (r : Read). is_end r.place) c.in_ok-count.ensures.read
    ∙ text-inside c.args.text.now (take c.line_len-end.result c.args.piece.now) (text-open c.args.text.now c.requires)
    (front c.args.piece.now c.line_len-end.result c.line_len-end.ensures.within c.line_len-end.ensures.none))
