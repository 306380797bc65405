use Rattle.std.proofs.Common.{ℕ, arith, ◌≡◌, ◌≤◌, ◌+◌, ◌-◌, List, None, cond, is_ok, length, take, vec_capacity, sym, ◌++◌, ap, ◌∙◌, subst}
use Rattle.std.specs.Prelude.{min}
use Rattle.std.proofs.lemmas.List.{length-take}
use Rattle.imap_lexer.specs.Units.{first, reading}
use Rattle.imap_lexer.specs.Lexer.{Awaited, GoesOn, IsInLiteral, form_of}
use Rattle.imap_lexer.proofs.Places.{in_literal, lines-small, literal-left, literals-extended, literals-go_on, literals-none, literals-small, on_err}
use Rattle.imap_lexer.proofs.lexer.Lexer.feed_literal.Goals as goal

pub overflow_add-begin : goal.overflow_add-begin
overflow_add-begin c =
    omega (arith, lines-small (form_of c.self.inside.plain) c.self.inside.bytes.items c.self.inside.lines c.self.inside.placed.lines_are, literals-small (form_of c.self.inside.plain) c.self.inside.bytes.items c.self.inside.literals c.self.inside.placed.literals_are)

pub returns-then-len-begin-clause-taken : goal.returns-then-len-begin-clause-taken
returns-then-len-begin-clause-taken c =
    subst (λ (v : Awaited). 0 ≡ min (reading v.form v.bytes).left (length c.args.piece.now)) c.self.view_is
    (omega (arith, literal-left (form_of c.self.inside.plain) c.self.inside.bytes.items c.self.inside.lines c.self.inside.literals _ c.self.inside.placed, c.if-len-begin.true, c.len.ensures))

pub returns-in_err-reserve-clause-refused : goal.returns-in_err-reserve-clause-refused
returns-in_err-reserve-clause-refused c =
    on_err c.from_residual.result
    (subst IsInLiteral c.self.view_is (in_literal (form_of c.self.inside.plain) c.self.inside.bytes.items c.self.inside.lines c.self.inside.literals _ c.self.inside.placed (omega (arith, c.if-len-begin.false, c.len.ensures))))

pub invariant_of-self-inside-2 : goal.invariant_of-self-inside-2
invariant_of-self-inside-2 c =
    let more : List ℕ = take c.min-count.result c.args.piece.now in
    let size : length more ≤ c.self.inside.lines + c.self.inside.literals - length c.self.inside.bytes.items = omega (arith, length-take c.min-count.result c.args.piece.now, c.min-count.ensures, c.len-2.ensures) in (
      literals-extended c.extend_from_slice.result (form_of c.self.inside.plain) c.self.inside.bytes.items c.extend_from_slice.new.self.items more c.self.inside.lines c.self.inside.literals (vec_capacity c.self.inside.bytes) (vec_capacity c.extend_from_slice.new.self)
          (subst (λ (l : List ℕ). c.extend_from_slice.new.self.items ≡ cond (is_ok c.extend_from_slice.result) (l ++ more) l) c.in_ok-reserve.ensures.items c.extend_from_slice.ensures.items)
          c.self.inside.placed (omega (arith, size, c.if-len-begin.false, c.len.ensures)) (omega (arith, c.in_ok-reserve.ensures.capacity, c.extend_from_slice.ensures.capacity))
          (omega (arith, length-take c.min-count.result c.args.piece.now, c.in_ok-reserve.ensures.ok, c.in_ok-reserve.ensures.len, c.extend_from_slice.ensures.capacity)),
      tt,
    )

pub returns-clause-taken : goal.returns-clause-taken
returns-clause-taken c =
    subst (λ (v : Awaited). c.min-count.result ≡ min (reading v.form v.bytes).left (length c.args.piece.now)) c.self.view_is
    (omega (arith, literal-left (form_of c.self.inside.plain) c.self.inside.bytes.items c.self.inside.lines c.self.inside.literals _ c.self.inside.placed, c.min-count.ensures, c.len-2.ensures))

within : (c : goal.In_ok-extend_from_slice) → length c.self.inside.bytes.items + length (take c.min-count.result c.args.piece.now) ≤ c.self.inside.lines + c.self.inside.literals
within c = omega (arith, length-take c.min-count.result c.args.piece.now, c.min-count.ensures, c.len-2.ensures, c.if-len-begin.false, c.len.ensures)

pub returns-clause-each : goal.returns-clause-each
returns-clause-each c =
    subst (λ (v : Awaited). GoesOn v.form v.bytes (take c.min-count.result c.args.piece.now)) c.self.view_is
    (literals-go_on (form_of c.self.inside.plain) c.self.inside.bytes.items (take c.min-count.result c.args.piece.now) c.self.inside.lines c.self.inside.literals _ c.self.inside.placed (within c)
    (subst (λ (v : Awaited). first v.form v.bytes ≡ None) (sym c.self.view_is) c.requires))

pub returns-clause-none : goal.returns-clause-none
returns-clause-none c =
    ap (first (form_of c.self.inside.plain)) (c.in_ok-extend_from_slice.ensures.items ∙ ap (λ (l : List ℕ). l ++ take c.min-count.result c.args.piece.now) c.in_ok-reserve.ensures.items)
    ∙ literals-none (form_of c.self.inside.plain) c.self.inside.bytes.items (take c.min-count.result c.args.piece.now) c.self.inside.lines c.self.inside.literals _ c.self.inside.placed (within c)
    (subst (λ (v : Awaited). first v.form v.bytes ≡ None) (sym c.self.view_is) c.requires)
