use Rattle.std.proofs.Common.{[], Some, None, sym, subst}
use Rattle.mime_reader.specs.Cutting.{IsPiece}
use Rattle.mime_reader.proofs.SearchLemmas.{nothing_left}
use Rattle.mime_reader.proofs.CutLemmas.{piece_closed, piece_closed_first, piece_delimited, piece_delimited_last, piece_open, passed_more}
use Rattle.mime_reader.proofs.bodies.first_piece.Goals as goal

pub returns-in-Closing : goal.returns-in-Closing
returns-in-Closing c =
    let b = c.args.boundary.now in
    let text = c.args.text.now in
    let rest = c.loop-line.rest.now in
    subst (λ z. IsPiece b text z None) (sym c.before-in-Closing.ensures)
    (piece_closed_first b c.law_lines.ensures text rest c.loop-line.invariant c.in-Some.line.now c.in-Some.behind.now c.in-Some.ensures c.in-Closing.ensures.closing)

pub returns-in-Delimiter : goal.returns-in-Delimiter
returns-in-Delimiter c =
    let b = c.args.boundary.now in
    let text = c.args.text.now in
    let rest = c.loop-line.rest.now in
    let behind = c.in-Some.behind.now in
    subst (λ z. IsPiece b text z (Some behind)) (sym c.before-in-Delimiter.ensures)
    (piece_delimited b c.law_lines.ensures text rest c.loop-line.invariant c.in-Some.line.now behind c.in-Some.ensures c.in-Delimiter.ensures.closing c.in-Delimiter.ensures.delimiter)

pub loop-line-preserved : goal.loop-line-preserved
loop-line-preserved c =
    passed_more c.args.boundary.now c.law_lines.ensures c.args.text.now c.loop-line.rest.now c.loop-line.invariant c.in-Some.line.now c.in-Some.behind.now
    c.in-Some.ensures c.in-Other.ensures.closing c.in-Other.ensures.delimiter

pub returns-in-Closing-line_kind : goal.returns-in-Closing-line_kind
returns-in-Closing-line_kind c =
    let b = c.args.boundary.now in
    let text = c.args.text.now in
    let rest = c.loop-line.rest.now in
    subst (λ z. IsPiece b text z None) (sym c.before-in-Closing-line_kind.ensures)
    (piece_closed b c.law_lines.ensures text rest c.loop-line.invariant rest [] c.in_default.ensures c.in-Closing-line_kind.ensures.closing)

pub returns-in-Delimiter-line_kind : goal.returns-in-Delimiter-line_kind
returns-in-Delimiter-line_kind c =
    let b = c.args.boundary.now in
    let text = c.args.text.now in
    let rest = c.loop-line.rest.now in
    subst (λ z. IsPiece b text c.before-in-Delimiter-line_kind.result.now (Some z)) (sym (nothing_left rest))
    (subst (λ z. IsPiece b text z (Some [])) (sym c.before-in-Delimiter-line_kind.ensures)
    (piece_delimited_last b c.law_lines.ensures text rest c.loop-line.invariant c.in_default.ensures
    c.in-Delimiter-line_kind.ensures.closing c.in-Delimiter-line_kind.ensures.delimiter))

pub returns-in-Other-line_kind : goal.returns-in-Other-line_kind
returns-in-Other-line_kind c =
    piece_open c.args.boundary.now c.law_lines.ensures c.args.text.now c.loop-line.rest.now c.loop-line.invariant c.requires c.in_default.ensures
    c.in-Other-line_kind.ensures.closing c.in-Other-line_kind.ensures.delimiter
