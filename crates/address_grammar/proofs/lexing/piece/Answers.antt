use Rattle.std.proofs.Common.{drop, sym, ◌∙◌, ap}
use Rattle.std.proofs.lemmas.List.{take_rest}
use Rattle.address_grammar.specs.Pieces.{marked, pieces, in_quotes, in_comment}
use Rattle.address_grammar.proofs.FirstLemmas.{first_run, first_blank, first_quotes, first_comment, first_literal, first_special, one_more, same_found, found_mark}
use Rattle.address_grammar.proofs.lexing.piece.Goals as goal

pub returns-then-is_plain : goal.returns-then-is_plain
returns-then-is_plain c =
    let text = c.args.text.now in
    rw c.in_ok-copied.ensures
    (first_run text c.run_len-end.result c.requires (sym c.is_plain.ensures ∙ c.if-is_plain.true) (rw (take_rest text 1) at c.run_len-end.ensures.within)
    (rw (take_rest text 1) at c.run_len-end.ensures.is))

pub returns-then-is_blank : goal.returns-then-is_blank
returns-then-is_blank c = first_blank c.args.text.now c.requires (sym c.is_plain.ensures ∙ c.if-is_plain.false) (sym c.is_blank.ensures ∙ c.if-is_blank.true)

pub returns-in-Some : goal.returns-in-Some
returns-in-Some c =
    let text = c.args.text.now in
    one_more (in_quotes (drop 1 text)) text _ c.in-Some.taken c.requires
    (first_quotes text c.requires (sym c.is_plain.ensures ∙ c.if-is_plain.false) (sym c.is_blank.ensures ∙ c.if-is_blank.false) c.if-first-eq34.true)
    (rw (c.in-Some.is, take_rest text 1) at c.in_ok-text.ensures)

pub returns-in-None : goal.returns-in-None
returns-in-None c =
    let text = c.args.text.now in
    first_quotes text c.requires (sym c.is_plain.ensures ∙ c.if-is_plain.false) (sym c.is_blank.ensures ∙ c.if-is_blank.false) c.if-first-eq34.true
    ∙ (rw (c.in-None.is, take_rest text 1) at c.in_ok-text.ensures)

pub returns-in-Some-2 : goal.returns-in-Some-2
returns-in-Some-2 c =
    let text = c.args.text.now in
    one_more (in_comment 0 (drop 1 text)) text _ c.in-Some-2.taken c.requires
    (first_comment text c.requires (sym c.is_plain.ensures ∙ c.if-is_plain.false) (sym c.is_blank.ensures ∙ c.if-is_blank.false) c.if-first-eq34.false c.if-first-eq40.true)
    (rw (c.in-Some-2.is, take_rest text 1) at c.in_ok-text-2.ensures)

pub returns-in-None-2 : goal.returns-in-None-2
returns-in-None-2 c =
    let text = c.args.text.now in
    first_comment text c.requires (sym c.is_plain.ensures ∙ c.if-is_plain.false) (sym c.is_blank.ensures ∙ c.if-is_blank.false) c.if-first-eq34.false c.if-first-eq40.true
    ∙ (rw (c.in-None-2.is, take_rest text 1) at c.in_ok-text-2.ensures)

pub returns-then-first-eq91 : goal.returns-then-first-eq91
returns-then-first-eq91 c =
    let text = c.args.text.now in
    same_found _ _ text c.in_ok-found.found
    (first_literal text c.requires (sym c.is_plain.ensures ∙ c.if-is_plain.false) (sym c.is_blank.ensures ∙ c.if-is_blank.false) c.if-first-eq34.false c.if-first-eq40.false c.if-first-eq91.true)
    c.in_ok-found.ensures

pub returns-in-Some-special : goal.returns-in-Some-special
returns-in-Some-special c =
    let text = c.args.text.now in
    found_mark text c.in-Some-special.special c.requires
    (first_special text c.requires (sym c.is_plain.ensures ∙ c.if-is_plain.false) (sym c.is_blank.ensures ∙ c.if-is_blank.false) c.if-first-eq34.false c.if-first-eq40.false c.if-first-eq91.false
    ∙ ap (λ s. marked s (pieces (drop 1 text))) (sym c.in-Some-special.ensures))

pub returns-in-None-special : goal.returns-in-None-special
returns-in-None-special c =
    let text = c.args.text.now in
    first_special text c.requires (sym c.is_plain.ensures ∙ c.if-is_plain.false) (sym c.is_blank.ensures ∙ c.if-is_blank.false) c.if-first-eq34.false c.if-first-eq40.false c.if-first-eq91.false
    ∙ ap (λ s. marked s (pieces (drop 1 text))) (sym c.in-None-special.ensures)
