-- How the pieces of a text begin.
use Rattle.std.proofs.Common.{◌≡◌, ℕ, ◌<◌, ◌≤◌, true, false, cond, ◌&&◌, ◌||◌, eqb, List, [], ◌∷◌, ◌++◌, length, drop, Option, Some, None, refl, sym, ◌∙◌, ap, arith}
use Rattle.std.proofs.lemmas.Bool.{cond-true, cond-false, eq-eqb, ne_eqb}
use Rattle.address_grammar.specs.declared.pieces.Piece.{Piece}
use Rattle.address_grammar.specs.declared.pieces.Piece.TheVariants.{Run, Quoted, Comment, Literal}
use Rattle.address_grammar.specs.Pieces.{is_plain, before, with_byte, onto, apart, depth_behind, pieces, in_run, in_quotes, quotes_pair, in_comment, comment_pair, in_literal}
use Rattle.address_grammar.specs.Found.{IsPiece}

pub pieces_none : pieces [] ≡ Some []
unfolding pieces
pieces_none = refl

pub pieces_plain : (c : ℕ) (cs : List ℕ) → is_plain c ≡ true → pieces (c ∷ cs) ≡ onto c (in_run cs)
unfolding pieces
pieces_plain c cs is = cond-true (is_plain c) (onto c (in_run cs)) (apart c (pieces cs) (in_quotes cs) (in_comment 0 cs) (in_literal cs)) is

pub pieces_apart : (c : ℕ) (cs : List ℕ) → is_plain c ≡ false → pieces (c ∷ cs) ≡ apart c (pieces cs) (in_quotes cs) (in_comment 0 cs) (in_literal cs)
unfolding pieces
pieces_apart c cs isnt = cond-false (is_plain c) (onto c (in_run cs)) (apart c (pieces cs) (in_quotes cs) (in_comment 0 cs) (in_literal cs)) isnt

pub run_none : in_run [] ≡ Some (Run [] ∷ [])
unfolding in_run
run_none = refl

pub run_more : (c : ℕ) (cs : List ℕ) → is_plain c ≡ true → in_run (c ∷ cs) ≡ onto c (in_run cs)
unfolding in_run
run_more c cs is = cond-true (is_plain c) (onto c (in_run cs)) (before (Run []) (apart c (pieces cs) (in_quotes cs) (in_comment 0 cs) (in_literal cs))) is

pub run_ends : (c : ℕ) (cs : List ℕ) → is_plain c ≡ false → in_run (c ∷ cs) ≡ before (Run []) (pieces (c ∷ cs))
unfolding in_run
run_ends c cs isnt =
    cond-false (is_plain c) (onto c (in_run cs)) (before (Run []) (apart c (pieces cs) (in_quotes cs) (in_comment 0 cs) (in_literal cs))) isnt
    ∙ ap (before (Run [])) (sym (pieces_apart c cs isnt))

pub quotes_none : in_quotes [] ≡ None
unfolding in_quotes
quotes_none = refl

pub quotes_end : (c : ℕ) (cs : List ℕ) → c ≡ 34 → in_quotes (c ∷ cs) ≡ before (Quoted []) (pieces cs)
unfolding in_quotes
quotes_end c cs is = cond-true (eqb c 34) (before (Quoted []) (pieces cs)) (cond (eqb c 92) (quotes_pair cs) (onto c (in_quotes cs))) (eq-eqb c 34 is)

quotes_inner : (c : ℕ) (cs : List ℕ) → (c ≡ 34 → ⊥) → in_quotes (c ∷ cs) ≡ cond (eqb c 92) (quotes_pair cs) (onto c (in_quotes cs))
unfolding in_quotes
quotes_inner c cs isnt = cond-false (eqb c 34) (before (Quoted []) (pieces cs)) (cond (eqb c 92) (quotes_pair cs) (onto c (in_quotes cs))) (ne_eqb c 34 isnt)

pub quotes_more : (c : ℕ) (cs : List ℕ) → (c ≡ 34 → ⊥) → (c ≡ 92 → ⊥) → in_quotes (c ∷ cs) ≡ onto c (in_quotes cs)
quotes_more c cs isnt other = quotes_inner c cs isnt ∙ cond-false (eqb c 92) (quotes_pair cs) (onto c (in_quotes cs)) (ne_eqb c 92 other)

pub quotes_escape : (c : ℕ) (cs : List ℕ) → (c ≡ 34 → ⊥) → c ≡ 92 → in_quotes (c ∷ cs) ≡ quotes_pair cs
quotes_escape c cs isnt is = quotes_inner c cs isnt ∙ cond-true (eqb c 92) (quotes_pair cs) (onto c (in_quotes cs)) (eq-eqb c 92 is)

pub quotes_pair_none : quotes_pair [] ≡ None
unfolding quotes_pair
quotes_pair_none = refl

pub quotes_pair_more : (c : ℕ) (cs : List ℕ) → quotes_pair (c ∷ cs) ≡ onto c (in_quotes cs)
unfolding quotes_pair
quotes_pair_more c cs = refl

pub comment_none : (depth : ℕ) → in_comment depth [] ≡ None
unfolding in_comment
comment_none depth = refl

pub comment_escape : (depth c : ℕ) (cs : List ℕ) → c ≡ 92 → in_comment depth (c ∷ cs) ≡ comment_pair depth cs
unfolding in_comment
comment_escape depth c cs is =
    cond-true (eqb c 92) (comment_pair depth cs) (cond (eqb c 41 && eqb depth 0) (before (Comment []) (pieces cs)) (onto c (in_comment (depth_behind depth c) cs))) (eq-eqb c 92 is)

comment_inner : (depth c : ℕ) (cs : List ℕ) → (c ≡ 92 → ⊥) →
    in_comment depth (c ∷ cs) ≡ cond (eqb c 41 && eqb depth 0) (before (Comment []) (pieces cs)) (onto c (in_comment (depth_behind depth c) cs))
unfolding in_comment
comment_inner depth c cs isnt =
    cond-false (eqb c 92) (comment_pair depth cs) (cond (eqb c 41 && eqb depth 0) (before (Comment []) (pieces cs)) (onto c (in_comment (depth_behind depth c) cs))) (ne_eqb c 92 isnt)

pub comment_end : (depth c : ℕ) (cs : List ℕ) → (c ≡ 92 → ⊥) → (eqb c 41 && eqb depth 0) ≡ true → in_comment depth (c ∷ cs) ≡ before (Comment []) (pieces cs)
comment_end depth c cs isnt is =
    comment_inner depth c cs isnt ∙ cond-true (eqb c 41 && eqb depth 0) (before (Comment []) (pieces cs)) (onto c (in_comment (depth_behind depth c) cs)) is

pub comment_more : (depth c : ℕ) (cs : List ℕ) → (c ≡ 92 → ⊥) → (eqb c 41 && eqb depth 0) ≡ false → in_comment depth (c ∷ cs) ≡ onto c (in_comment (depth_behind depth c) cs)
comment_more depth c cs isnt other =
    comment_inner depth c cs isnt ∙ cond-false (eqb c 41 && eqb depth 0) (before (Comment []) (pieces cs)) (onto c (in_comment (depth_behind depth c) cs)) other

pub comment_pair_none : (depth : ℕ) → comment_pair depth [] ≡ None
unfolding comment_pair
comment_pair_none depth = refl

pub comment_pair_more : (depth c : ℕ) (cs : List ℕ) → comment_pair depth (c ∷ cs) ≡ onto c (in_comment depth cs)
unfolding comment_pair
comment_pair_more depth c cs = refl

pub literal_none : in_literal [] ≡ None
unfolding in_literal
literal_none = refl

pub literal_end : (c : ℕ) (cs : List ℕ) → c ≡ 93 → in_literal (c ∷ cs) ≡ before (Literal (93 ∷ [])) (pieces cs)
unfolding in_literal
literal_end c cs is =
    cond-true (eqb c 93) (before (Literal (93 ∷ [])) (pieces cs)) (cond (eqb c 91 || eqb c 92) None (onto c (in_literal cs))) (eq-eqb c 93 is)

literal_inner : (c : ℕ) (cs : List ℕ) → (c ≡ 93 → ⊥) → in_literal (c ∷ cs) ≡ cond (eqb c 91 || eqb c 92) None (onto c (in_literal cs))
unfolding in_literal
literal_inner c cs isnt =
    cond-false (eqb c 93) (before (Literal (93 ∷ [])) (pieces cs)) (cond (eqb c 91 || eqb c 92) None (onto c (in_literal cs))) (ne_eqb c 93 isnt)

pub literal_refused : (c : ℕ) (cs : List ℕ) → (c ≡ 93 → ⊥) → (eqb c 91 || eqb c 92) ≡ true → in_literal (c ∷ cs) ≡ None
literal_refused c cs isnt is = literal_inner c cs isnt ∙ cond-true (eqb c 91 || eqb c 92) None (onto c (in_literal cs)) is

pub literal_more : (c : ℕ) (cs : List ℕ) → (c ≡ 93 → ⊥) → (eqb c 91 || eqb c 92) ≡ false → in_literal (c ∷ cs) ≡ onto c (in_literal cs)
literal_more c cs isnt other = literal_inner c cs isnt ∙ cond-false (eqb c 91 || eqb c 92) None (onto c (in_literal cs)) other

-- Bytes in front of the text of the first piece.
abbrev pub ontos : List ℕ → Option (List Piece) → Option (List Piece)
ontos [] ps = ps
ontos (c ∷ cs) ps = onto c (ontos cs ps)

abbrev pub with_bytes : List ℕ → Piece → Piece
with_bytes [] p = p
with_bytes (c ∷ cs) p = with_byte c (with_bytes cs p)

pub ontos-none : (cs : List ℕ) → ontos cs None ≡ None
ontos-none [] = refl
ontos-none (c ∷ cs) = ap (onto c) (ontos-none cs)

pub onto-before : (c : ℕ) (p : Piece) (ps : Option (List Piece)) → onto c (before p ps) ≡ before (with_byte c p) ps
onto-before c p None = refl
onto-before c p (Some ps) = refl

pub ontos-before : (cs : List ℕ) (p : Piece) (ps : Option (List Piece)) → ontos cs (before p ps) ≡ before (with_bytes cs p) ps
ontos-before [] p ps = refl
ontos-before (c ∷ cs) p ps = ap (onto c) (ontos-before cs p ps) ∙ onto-before c (with_bytes cs p) ps

pub ontos-more : (cs : List ℕ) (c : ℕ) (ps : Option (List Piece)) → ontos (cs ++ c ∷ []) ps ≡ ontos cs (onto c ps)
ontos-more [] c ps = refl
ontos-more (d ∷ ds) c ps = ap (onto d) (ontos-more ds c ps)

pub with_bytes-run : (cs text : List ℕ) → with_bytes cs (Run text) ≡ Run (cs ++ text)
with_bytes-run [] text = refl
with_bytes-run (c ∷ cs) text = ap (with_byte c) (with_bytes-run cs text)

pub with_bytes-quoted : (cs text : List ℕ) → with_bytes cs (Quoted text) ≡ Quoted (cs ++ text)
with_bytes-quoted [] text = refl
with_bytes-quoted (c ∷ cs) text = ap (with_byte c) (with_bytes-quoted cs text)

pub with_bytes-comment : (cs text : List ℕ) → with_bytes cs (Comment text) ≡ Comment (cs ++ text)
with_bytes-comment [] text = refl
with_bytes-comment (c ∷ cs) text = ap (with_byte c) (with_bytes-comment cs text)

pub with_bytes-literal : (cs text : List ℕ) → with_bytes cs (Literal text) ≡ Literal (cs ++ text)
with_bytes-literal [] text = refl
with_bytes-literal (c ∷ cs) text = ap (with_byte c) (with_bytes-literal cs text)

-- A piece that was begun: its text so far, and the reading of what is left.
pub record IsOpen (reading left : Option (List Piece)) (rest text : List ℕ) (at : ℕ) : Type 0 where
  pub within : at ≤ length rest
  pub is : reading ≡ ontos text left

pub open_none : (reading : Option (List Piece)) (rest : List ℕ) → IsOpen reading reading rest [] 0
open_none reading rest = record { within = omega arith; is = refl }

pub open_more : (reading left behind : Option (List Piece)) (rest text : List ℕ) (at c next : ℕ) → IsOpen reading left rest text at → next ≤ length rest →
    left ≡ onto c behind → IsOpen reading behind rest (text ++ c ∷ []) next
open_more reading left behind rest text at c next o within step =
    record { within = within; is = o.is ∙ ap (ontos text) step ∙ sym (ontos-more text c behind) }

pub open_fails : (reading left : Option (List Piece)) (rest text : List ℕ) (at : ℕ) → IsOpen reading left rest text at → left ≡ None → reading ≡ None
open_fails reading left rest text at o none = o.is ∙ ap (ontos text) none ∙ ontos-none text

pub open_ends : (reading left : Option (List Piece)) (rest text : List ℕ) (at taken : ℕ) (last p : Piece) → IsOpen reading left rest text at →
    0 < taken → taken ≤ length rest → left ≡ before last (pieces (drop taken rest)) → with_bytes text last ≡ p → IsPiece reading rest p taken
open_ends reading left rest text at taken last p o some within ends whole =
    record {
      some = some;
      within = within;
      is = o.is ∙ ap (ontos text) ends ∙ ontos-before text last (pieces (drop taken rest)) ∙ ap (λ q. before q (pieces (drop taken rest))) whole;
    }
