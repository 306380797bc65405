-- The pieces of a text, byte by byte.
use Rattle.std.proofs.Common.{◌≡◌, ℕ, ◌+◌, ◌-◌, ◌<◌, ◌≤◌, true, false, cond, ◌&&◌, ◌||◌, eqb, List, [], ◌∷◌, ◌++◌, length, get_or, take, drop, None, inl, inr, sym, ◌∙◌, ap, subst, arith}
use Rattle.std.proofs.lemmas.Bool.{cases_Bool, cond-true, cond-false, cond_both, eq-eqb, and_from}
use Rattle.std.proofs.lemmas.List.{drop_more, drop_all, take_more, append-nil}
use Rattle.mail_text.specs.Texts.{front, behind}
use Rattle.address_grammar.specs.declared.pieces.Piece.TheVariants.{Run, Quoted, Comment, Literal}
use Rattle.address_grammar.specs.Pieces.{is_plain, before, onto, depth_behind, pieces, in_run, in_quotes, quotes_pair, in_comment, comment_pair, in_literal}
use Rattle.address_grammar.specs.Found.{IsPiece}
use Rattle.address_grammar.proofs.PieceLemmas.{pieces_none, run_none, run_more, run_ends, quotes_none, quotes_end, quotes_more, quotes_escape, quotes_pair_none, quotes_pair_more, comment_none, comment_escape, comment_end, comment_more, comment_pair_none, comment_pair_more, literal_none, literal_end, literal_refused, literal_more, with_bytes-quoted, with_bytes-comment, with_bytes-literal, onto-before, IsOpen, open_more, open_fails, open_ends}

two : (rest : List ℕ) (at : ℕ) → drop (at + 1 + 1) rest ≡ drop (at + 2) rest
two rest at = ap (λ n. drop n rest) (let e : at + 1 + 1 ≡ at + 2 = omega arith in e)

-- Quoted strings

pub quotes_ends : (rest text : List ℕ) (at : ℕ) → IsOpen (in_quotes rest) (in_quotes (drop at rest)) rest text at → at < length rest → get_or rest at 0 ≡ 34 →
    IsPiece (in_quotes rest) rest (Quoted text) (at + 1)
quotes_ends rest text at o h is =
    open_ends (in_quotes rest) (in_quotes (drop at rest)) rest text at (at + 1) (Quoted []) (Quoted text) o (omega arith) (omega arith)
    (ap in_quotes (drop_more rest at 0 h) ∙ quotes_end (get_or rest at 0) (drop (at + 1) rest) is) (with_bytes-quoted text [] ∙ ap Quoted (append-nil text))

pub quotes_next : (rest text : List ℕ) (at : ℕ) → IsOpen (in_quotes rest) (in_quotes (drop at rest)) rest text at → at < length rest →
    (get_or rest at 0 ≡ 34 → ⊥) → (get_or rest at 0 ≡ 92 → ⊥) → IsOpen (in_quotes rest) (in_quotes (drop (at + 1) rest)) rest (text ++ get_or rest at 0 ∷ []) (at + 1)
quotes_next rest text at o h isnt other =
    open_more (in_quotes rest) (in_quotes (drop at rest)) (in_quotes (drop (at + 1) rest)) rest text at (get_or rest at 0) (at + 1) o (omega arith)
    (ap in_quotes (drop_more rest at 0 h) ∙ quotes_more (get_or rest at 0) (drop (at + 1) rest) isnt other)

quotes_to_pair : (rest : List ℕ) (at : ℕ) → at < length rest → (get_or rest at 0 ≡ 34 → ⊥) → get_or rest at 0 ≡ 92 → in_quotes (drop at rest) ≡ quotes_pair (drop (at + 1) rest)
quotes_to_pair rest at h isnt is = ap in_quotes (drop_more rest at 0 h) ∙ quotes_escape (get_or rest at 0) (drop (at + 1) rest) isnt is

pub quotes_taken : (rest text : List ℕ) (at : ℕ) → IsOpen (in_quotes rest) (in_quotes (drop at rest)) rest text at → at + 1 < length rest →
    (get_or rest at 0 ≡ 34 → ⊥) → get_or rest at 0 ≡ 92 → IsOpen (in_quotes rest) (in_quotes (drop (at + 2) rest)) rest (text ++ get_or rest (at + 1) 0 ∷ []) (at + 2)
quotes_taken rest text at o h isnt is =
    open_more (in_quotes rest) (in_quotes (drop at rest)) (in_quotes (drop (at + 2) rest)) rest text at (get_or rest (at + 1) 0) (at + 2) o (omega arith)
    (quotes_to_pair rest at (omega arith) isnt is ∙ ap quotes_pair (drop_more rest (at + 1) 0 h) ∙ quotes_pair_more (get_or rest (at + 1) 0) (drop (at + 1 + 1) rest)
    ∙ ap (λ z. onto (get_or rest (at + 1) 0) (in_quotes z)) (two rest at))

pub quotes_cut : (rest text : List ℕ) (at : ℕ) → IsOpen (in_quotes rest) (in_quotes (drop at rest)) rest text at → at < length rest → length rest ≤ at + 1 →
    (get_or rest at 0 ≡ 34 → ⊥) → get_or rest at 0 ≡ 92 → in_quotes rest ≡ None
quotes_cut rest text at o h none isnt is =
    open_fails (in_quotes rest) (in_quotes (drop at rest)) rest text at o
    (quotes_to_pair rest at h isnt is ∙ ap quotes_pair (drop_all (at + 1) rest none) ∙ quotes_pair_none)

pub quotes_open : (rest text : List ℕ) (at : ℕ) → IsOpen (in_quotes rest) (in_quotes (drop at rest)) rest text at → length rest ≤ at → in_quotes rest ≡ None
quotes_open rest text at o none = open_fails (in_quotes rest) (in_quotes (drop at rest)) rest text at o (ap in_quotes (drop_all at rest none) ∙ quotes_none)

-- Comments

pub comment_ends : (rest text : List ℕ) (at depth : ℕ) → IsOpen (in_comment 0 rest) (in_comment depth (drop at rest)) rest text at → at < length rest →
    (get_or rest at 0 ≡ 92 → ⊥) → get_or rest at 0 ≡ 41 → depth ≡ 0 → IsPiece (in_comment 0 rest) rest (Comment text) (at + 1)
comment_ends rest text at depth o h isnt is zero =
    open_ends (in_comment 0 rest) (in_comment depth (drop at rest)) rest text at (at + 1) (Comment []) (Comment text) o (omega arith) (omega arith)
    (ap (in_comment depth) (drop_more rest at 0 h)
    ∙ comment_end depth (get_or rest at 0) (drop (at + 1) rest) isnt (and_from (eqb (get_or rest at 0) 41) (eqb depth 0) (eq-eqb (get_or rest at 0) 41 is) (eq-eqb depth 0 zero)))
    (with_bytes-comment text [] ∙ ap Comment (append-nil text))

pub comment_next : (rest text : List ℕ) (at depth next : ℕ) → IsOpen (in_comment 0 rest) (in_comment depth (drop at rest)) rest text at → at < length rest →
    (get_or rest at 0 ≡ 92 → ⊥) → (eqb (get_or rest at 0) 41 && eqb depth 0) ≡ false → next ≡ depth_behind depth (get_or rest at 0) →
    IsOpen (in_comment 0 rest) (in_comment next (drop (at + 1) rest)) rest (text ++ get_or rest at 0 ∷ []) (at + 1)
comment_next rest text at depth next o h isnt other is =
    open_more (in_comment 0 rest) (in_comment depth (drop at rest)) (in_comment next (drop (at + 1) rest)) rest text at (get_or rest at 0) (at + 1) o (omega arith)
    (ap (in_comment depth) (drop_more rest at 0 h) ∙ comment_more depth (get_or rest at 0) (drop (at + 1) rest) isnt other
    ∙ ap (λ d. onto (get_or rest at 0) (in_comment d (drop (at + 1) rest))) (sym is))

comment_to_pair : (rest : List ℕ) (at depth : ℕ) → at < length rest → get_or rest at 0 ≡ 92 → in_comment depth (drop at rest) ≡ comment_pair depth (drop (at + 1) rest)
comment_to_pair rest at depth h is = ap (in_comment depth) (drop_more rest at 0 h) ∙ comment_escape depth (get_or rest at 0) (drop (at + 1) rest) is

pub comment_taken : (rest text : List ℕ) (at depth : ℕ) → IsOpen (in_comment 0 rest) (in_comment depth (drop at rest)) rest text at → at + 1 < length rest →
    get_or rest at 0 ≡ 92 → IsOpen (in_comment 0 rest) (in_comment depth (drop (at + 2) rest)) rest (text ++ get_or rest (at + 1) 0 ∷ []) (at + 2)
comment_taken rest text at depth o h is =
    open_more (in_comment 0 rest) (in_comment depth (drop at rest)) (in_comment depth (drop (at + 2) rest)) rest text at (get_or rest (at + 1) 0) (at + 2) o (omega arith)
    (comment_to_pair rest at depth (omega arith) is ∙ ap (comment_pair depth) (drop_more rest (at + 1) 0 h)
    ∙ comment_pair_more depth (get_or rest (at + 1) 0) (drop (at + 1 + 1) rest) ∙ ap (λ z. onto (get_or rest (at + 1) 0) (in_comment depth z)) (two rest at))

pub comment_cut : (rest text : List ℕ) (at depth : ℕ) → IsOpen (in_comment 0 rest) (in_comment depth (drop at rest)) rest text at → at < length rest → length rest ≤ at + 1 →
    get_or rest at 0 ≡ 92 → in_comment 0 rest ≡ None
comment_cut rest text at depth o h none is =
    open_fails (in_comment 0 rest) (in_comment depth (drop at rest)) rest text at o
    (comment_to_pair rest at depth h is ∙ ap (comment_pair depth) (drop_all (at + 1) rest none) ∙ comment_pair_none depth)

pub comment_open : (rest text : List ℕ) (at depth : ℕ) → IsOpen (in_comment 0 rest) (in_comment depth (drop at rest)) rest text at → length rest ≤ at → in_comment 0 rest ≡ None
comment_open rest text at depth o none =
    open_fails (in_comment 0 rest) (in_comment depth (drop at rest)) rest text at o (ap (in_comment depth) (drop_all at rest none) ∙ comment_none depth)

-- Runs

pub run_front : (rest : List ℕ) → in_run rest ≡ before (Run (front is_plain rest)) (pieces (behind is_plain rest))
run_front [] = run_none ∙ ap (before (Run [])) (sym pieces_none)
run_front (c ∷ cs) = elim (cases_Bool (is_plain c)) [
  | inl is ↦
      run_more c cs is ∙ ap (onto c) (run_front cs) ∙ onto-before c (Run (front is_plain cs)) (pieces (behind is_plain cs))
      ∙ ap (λ text. before (Run text) (pieces (behind is_plain cs))) (sym (cond-true (is_plain c) (c ∷ front is_plain cs) [] is))
      ∙ ap (λ left. before (Run (front is_plain (c ∷ cs))) (pieces left)) (sym (cond-true (is_plain c) (behind is_plain cs) (c ∷ cs) is))
  | inr isnt ↦
      run_ends c cs isnt ∙ ap (λ text. before (Run text) (pieces (c ∷ cs))) (sym (cond-false (is_plain c) (c ∷ front is_plain cs) [] isnt))
      ∙ ap (λ left. before (Run (front is_plain (c ∷ cs))) (pieces left)) (sym (cond-false (is_plain c) (behind is_plain cs) (c ∷ cs) isnt))
]

-- Domain literals

pub literal_ends : (rest : List ℕ) (at : ℕ) → IsOpen (in_literal rest) (in_literal (drop at rest)) rest (take at rest) at → at < length rest → get_or rest at 0 ≡ 93 →
    IsPiece (in_literal rest) rest (Literal (take (at + 1) rest)) (at + 1)
literal_ends rest at o h is =
    open_ends (in_literal rest) (in_literal (drop at rest)) rest (take at rest) at (at + 1) (Literal (93 ∷ [])) (Literal (take (at + 1) rest)) o (omega arith) (omega arith)
    (ap in_literal (drop_more rest at 0 h) ∙ literal_end (get_or rest at 0) (drop (at + 1) rest) is)
    (with_bytes-literal (take at rest) (93 ∷ []) ∙ ap Literal (ap (λ c. take at rest ++ c ∷ []) (sym is) ∙ sym (take_more rest at 0 h)))

pub literal_next : (rest : List ℕ) (at : ℕ) → IsOpen (in_literal rest) (in_literal (drop at rest)) rest (take at rest) at → at < length rest →
    (get_or rest at 0 ≡ 93 → ⊥) → (eqb (get_or rest at 0) 91 || eqb (get_or rest at 0) 92) ≡ false →
    IsOpen (in_literal rest) (in_literal (drop (at + 1) rest)) rest (take (at + 1) rest) (at + 1)
literal_next rest at o h isnt other =
    subst (λ t. IsOpen (in_literal rest) (in_literal (drop (at + 1) rest)) rest t (at + 1)) (sym (take_more rest at 0 h))
    (open_more (in_literal rest) (in_literal (drop at rest)) (in_literal (drop (at + 1) rest)) rest (take at rest) at (get_or rest at 0) (at + 1) o (omega arith)
    (ap in_literal (drop_more rest at 0 h) ∙ literal_more (get_or rest at 0) (drop (at + 1) rest) isnt other))

pub literal_bad : (rest : List ℕ) (at : ℕ) → IsOpen (in_literal rest) (in_literal (drop at rest)) rest (take at rest) at → at < length rest →
    (get_or rest at 0 ≡ 93 → ⊥) → (eqb (get_or rest at 0) 91 || eqb (get_or rest at 0) 92) ≡ true → in_literal rest ≡ None
literal_bad rest at o h isnt is =
    open_fails (in_literal rest) (in_literal (drop at rest)) rest (take at rest) at o
    (ap in_literal (drop_more rest at 0 h) ∙ literal_refused (get_or rest at 0) (drop (at + 1) rest) isnt is)

pub literal_open : (rest : List ℕ) (at : ℕ) → IsOpen (in_literal rest) (in_literal (drop at rest)) rest (take at rest) at → length rest ≤ at → in_literal rest ≡ None
literal_open rest at o none =
    open_fails (in_literal rest) (in_literal (drop at rest)) rest (take at rest) at o (ap in_literal (drop_all at rest none) ∙ literal_none)

pub depth_more : (depth at b next : ℕ) → depth ≤ at → next ≡ depth_behind depth b → next ≤ at + 1
depth_more depth at b next h is =
    subst (λ n. n ≤ at + 1) (sym is)
    (cond_both (eqb b 40) (depth + 1) (cond (eqb b 41) (depth - 1) depth) (λ n. n ≤ at + 1) (λ _. omega arith)
    (λ _. cond_both (eqb b 41) (depth - 1) depth (λ n. n ≤ at + 1) (λ _. omega arith) (λ _. omega arith)))
