use Rattle.std.proofs.Common.{ℕ, arith, ◌≡◌, ◌<◌, ◌≤◌, ◌+◌, cond, is_ok, length, vec_capacity, ◌++◌, ◌∷◌, [], ap, sym, ◌∙◌, subst, List, None, drop}
use Rattle.imap_lexer.specs.Units.{behind_line_byte, first, shown}
use Rattle.imap_lexer.specs.Lexer.{Awaited, IsInLiteral, IsRead, form_of, line_so_far}
use Rattle.imap_lexer.proofs.Cuts.{fed-next}
use Rattle.imap_lexer.proofs.Numbers.{rest}
use Rattle.imap_lexer.proofs.Places.{in_literal, line-placed, line-room, line-shown, lines-small, literal-pushed, literal-shown, literals-small, on_err}
use Rattle.imap_lexer.proofs.lexer.Lexer.feed.Goals as goal

pub overflow_add-begin : goal.overflow_add-begin
overflow_add-begin c =
    omega (arith, lines-small (form_of c.self.inside.plain) c.self.inside.bytes.items c.self.inside.lines c.self.inside.placed.lines_are, literals-small (form_of c.self.inside.plain) c.self.inside.bytes.items c.self.inside.literals c.self.inside.placed.literals_are)

pub returns-in_err-reserve-clause-refused : goal.returns-in_err-reserve-clause-refused
returns-in_err-reserve-clause-refused c =
    on_err c.from_residual.result
    (subst IsInLiteral c.self.view_is (in_literal (form_of c.self.inside.plain) c.self.inside.bytes.items c.self.inside.lines c.self.inside.literals _ c.self.inside.placed (omega (arith, c.if-len-begin.true, c.len.ensures))))

pub invariant_of-self-inside-then-len-begin : goal.invariant_of-self-inside-then-len-begin
invariant_of-self-inside-then-len-begin c =
    let short : length c.self.inside.bytes.items < c.self.inside.lines + c.self.inside.literals = omega (arith, c.if-len-begin.true, c.len.ensures) in (
      literal-pushed c.push.result (form_of c.self.inside.plain) c.self.inside.bytes.items c.push.new.self.items c.args.byte c.self.inside.lines c.self.inside.literals (vec_capacity c.self.inside.bytes) (vec_capacity c.push.new.self)
          (subst (λ (l : List ℕ). c.push.new.self.items ≡ cond (is_ok c.push.result) (l ++ c.args.byte ∷ []) l) c.in_ok-reserve.ensures.items c.push.ensures.items)
          c.self.inside.placed short (omega (arith, c.in_ok-reserve.ensures.capacity, c.push.ensures.capacity)) (omega (arith, c.in_ok-reserve.ensures.ok, c.in_ok-reserve.ensures.len, c.push.ensures.capacity)),
      tt,
    )

pub returns-then-len-begin-clause-shown : goal.returns-then-len-begin-clause-shown
returns-then-len-begin-clause-shown c =
    literal-shown (form_of c.self.inside.plain) c.self.inside.bytes.items c.push.new.self.items c.args.byte c.self.inside.lines c.self.inside.literals _ c.self.inside.placed (omega (arith, c.if-len-begin.true, c.len.ensures))
    (c.in_ok-push.ensures.items ∙ ap (λ (l : List ℕ). l ++ c.args.byte ∷ []) c.in_ok-reserve.ensures.items)

pub returns-then-len-begin-clause-cut : goal.returns-then-len-begin-clause-cut
returns-then-len-begin-clause-cut c =
    fed-next (form_of c.self.inside.plain) c.self.inside.bytes.items c.push.new.self.items c.args.byte _
    (subst (λ (v : Awaited). first v.form v.bytes ≡ None) (sym c.self.view_is) c.requires)
    (c.in_ok-push.ensures.items ∙ ap (λ (l : List ℕ). l ++ c.args.byte ∷ []) c.in_ok-reserve.ensures.items)
    (literal-shown (form_of c.self.inside.plain) c.self.inside.bytes.items c.push.new.self.items c.args.byte c.self.inside.lines c.self.inside.literals _ c.self.inside.placed (omega (arith, c.if-len-begin.true, c.len.ensures))
    (c.in_ok-push.ensures.items ∙ ap (λ (l : List ℕ). l ++ c.args.byte ∷ []) c.in_ok-reserve.ensures.items))

pub returns-in_err-push-2-clause-refused : goal.returns-in_err-push-2-clause-refused
returns-in_err-push-2-clause-refused c =
    absurd (omega (
      arith,
      c.in_err-push-2.ensures.full,
      c.if-len-begin.false,
      c.len.ensures,
      line-room (form_of c.self.inside.plain) c.self.inside.bytes.items c.self.inside.lines c.self.inside.literals _ c.self.inside.placed (omega (arith, c.if-len-begin.false, c.len.ensures))
          (subst (λ (v : Awaited). first v.form v.bytes ≡ None) (sym c.self.view_is) c.requires),
    ))

pub read_line-read-requires-clause-lines : goal.read_line-read-requires-clause-lines
read_line-read-requires-clause-lines c = lines-small (form_of c.self.inside.plain) c.self.inside.bytes.items c.self.inside.lines c.self.inside.placed.lines_are

pub read_line-read-requires-clause-literals : goal.read_line-read-requires-clause-literals
read_line-read-requires-clause-literals c = literals-small (form_of c.self.inside.plain) c.self.inside.bytes.items c.self.inside.literals c.self.inside.placed.literals_are

pub invariant_of-self-inside-2 : goal.invariant_of-self-inside-2
invariant_of-self-inside-2 c =
    let begun : c.self.inside.lines + c.self.inside.literals ≤ length c.self.inside.bytes.items = omega (arith, c.if-len-begin.false, c.len.ensures) in (
      line-placed (form_of c.self.inside.plain) c.self.inside.bytes.items c.push-2.new.self.items c.args.byte c.self.inside.lines c.self.inside.literals (vec_capacity c.self.inside.bytes) (vec_capacity c.push-2.new.self) c.read_line-read.result
          c.self.inside.placed begun c.in_ok-push-2.ensures.items
          (subst (λ (line : List ℕ). IsRead c.read_line-read.result (behind_line_byte (form_of c.self.inside.plain) (line_so_far line c.self.inside.lines c.self.inside.literals)))
          (rest (c.self.inside.lines + c.self.inside.literals) c.deref.result.now ∙ ap (drop (c.self.inside.lines + c.self.inside.literals)) c.deref.ensures.value) c.read_line-read.ensures)
          c.in_ok-push-2.ensures.capacity,
      tt,
    )

shown_is : (c : goal.After-self-2-1) → c.read_line-read.result.fed ≡ shown (form_of c.self.inside.plain) c.push-2.new.self.items
shown_is c =
    line-shown (form_of c.self.inside.plain) c.self.inside.bytes.items c.push-2.new.self.items c.args.byte c.self.inside.lines c.self.inside.literals (vec_capacity c.self.inside.bytes) c.read_line-read.result
    c.self.inside.placed (omega (arith, c.if-len-begin.false, c.len.ensures)) c.in_ok-push-2.ensures.items
    (subst (λ (line : List ℕ). IsRead c.read_line-read.result (behind_line_byte (form_of c.self.inside.plain) (line_so_far line c.self.inside.lines c.self.inside.literals)))
    (rest (c.self.inside.lines + c.self.inside.literals) c.deref.result.now ∙ ap (drop (c.self.inside.lines + c.self.inside.literals)) c.deref.ensures.value) c.read_line-read.ensures)

pub returns-clause-shown : goal.returns-clause-shown
returns-clause-shown c = shown_is c

pub returns-clause-cut : goal.returns-clause-cut
returns-clause-cut c =
    fed-next (form_of c.self.inside.plain) c.self.inside.bytes.items c.push-2.new.self.items c.args.byte c.read_line-read.result.fed
    (subst (λ (v : Awaited). first v.form v.bytes ≡ None) (sym c.self.view_is) c.requires) c.in_ok-push-2.ensures.items (shown_is c)
