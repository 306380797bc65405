-- A text that is spelled as pieces is cut into these pieces.
use Rattle.std.proofs.Common.{◌≡◌, ℕ, ◌+◌, ◌-◌, true, false, ◌||◌, not, cond, eqb, List, [], ◌∷◌, ◌++◌, Option, Some, refl, sym, ◌∙◌, ap, inl, inr, arith}
use Rattle.std.proofs.lemmas.Bool.{and_parts, and_left, or_parts, cond-false, eqb-false, ne_eqb, not-true, not_from_false}
use Rattle.std.proofs.lemmas.List.{append-nil, append_assoc}
use Rattle.mail_text.specs.Texts.{begins}
use Rattle.address_grammar.specs.declared.pieces.Special.{Special}
use Rattle.address_grammar.specs.declared.pieces.Special.TheVariants.{Comma, Colon, Semicolon, Open, Close, At}
use Rattle.address_grammar.specs.declared.pieces.Piece.{Piece}
use Rattle.address_grammar.specs.declared.pieces.Piece.TheVariants.{Run, Quoted, Comment, Literal, Mark, Blank}
use Rattle.address_grammar.specs.Pieces.{is_plain, before, onto, depth_behind, pieces, in_quotes, in_comment}
use Rattle.address_grammar.specs.Spelling.{Inside, spelled, content, is_quoted, is_remark, are_literal, special_text, IsSpelled, EndsBefore, IsText}
use Rattle.address_grammar.specs.Spelling.Inside.{nothing, byte, pair, comment}
use Rattle.address_grammar.proofs.PieceLemmas.{pieces_none, pieces_apart, quotes_end, quotes_more, quotes_escape, quotes_pair_more, comment_escape, comment_end, comment_more, comment_pair_more, ontos, ontos-before, with_bytes-quoted, with_bytes-comment}
use Rattle.address_grammar.proofs.GoodLemmas.{is_nil, ends_literal}
use Rattle.address_grammar.proofs.PrintedPieces.{is_apart, pieces_run, pieces_literal, pieces_comma, pieces_colon, pieces_semicolon, pieces_open, pieces_close, pieces_at, pieces_blank}

ontos-append : (xs ys : List ℕ) (ps : Option (List Piece)) → ontos (xs ++ ys) ps ≡ ontos xs (ontos ys ps)
ontos-append [] ys ps = refl
ontos-append (x ∷ xs) ys ps = ap (onto x) (ontos-append xs ys ps)

quoted_through : (i : Inside) (rest : List ℕ) → is_quoted i ≡ true → in_quotes (spelled i ++ 34 ∷ rest) ≡ ontos (content i) (before (Quoted []) (pieces rest))
quoted_through nothing rest h = quotes_end 34 rest refl
quoted_through (byte c i) rest h =
    let parts = and_parts (not (eqb c 34 || eqb c 92)) (is_quoted i) h in
    let not_these = or_parts (eqb c 34) (eqb c 92) (not-true (eqb c 34 || eqb c 92) parts.0) in
    quotes_more c (spelled i ++ 34 ∷ rest) (eqb-false c 34 not_these.0) (eqb-false c 92 not_these.1) ∙ ap (onto c) (quoted_through i rest parts.1)
quoted_through (pair c i) rest h =
    quotes_escape 92 (c ∷ (spelled i ++ 34 ∷ rest)) (λ e. let never : ◌≡◌ {A = ℕ} 92 34 = e in absurd (omega (arith, never))) refl
    ∙ quotes_pair_more c (spelled i ++ 34 ∷ rest) ∙ ap (onto c) (quoted_through i rest h)
quoted_through (comment j i) rest h = absurd (cc)

deeper : (depth : ℕ) → depth_behind depth 40 ≡ depth + 1
deeper depth = refl

back : (depth : ℕ) → depth_behind (depth + 1) 41 ≡ depth
back depth = omega arith

remark_through : (i : Inside) (depth : ℕ) (rest : List ℕ) → is_remark i ≡ true → in_comment depth (spelled i ++ rest) ≡ ontos (content i) (in_comment depth rest)
remark_through nothing depth rest h = refl
remark_through (byte c i) depth rest h =
    let parts = and_parts (not (eqb c 40 || (eqb c 41 || eqb c 92))) (is_remark i) h in
    let one = or_parts (eqb c 40) (eqb c 41 || eqb c 92) (not-true (eqb c 40 || (eqb c 41 || eqb c 92)) parts.0) in
    let two = or_parts (eqb c 41) (eqb c 92) one.1 in
    let same : depth_behind depth c ≡ depth = cond-false (eqb c 40) (depth + 1) (cond (eqb c 41) (depth - 1) depth) one.0 ∙ cond-false (eqb c 41) (depth - 1) depth two.0 in
    comment_more depth c (spelled i ++ rest) (eqb-false c 92 two.1) (and_left (eqb c 41) (eqb depth 0) two.0)
    ∙ ap (λ d. onto c (in_comment d (spelled i ++ rest))) same ∙ ap (onto c) (remark_through i depth rest parts.1)
remark_through (pair c i) depth rest h =
    comment_escape depth 92 (c ∷ (spelled i ++ rest)) refl ∙ comment_pair_more depth c (spelled i ++ rest) ∙ ap (onto c) (remark_through i depth rest h)
remark_through (comment j i) depth rest h =
    let parts = and_parts (is_remark j) (is_remark i) h in
    let behind = spelled i ++ rest in
    comment_more depth 40 ((spelled j ++ 41 ∷ spelled i) ++ rest) (λ e. let never : ◌≡◌ {A = ℕ} 40 92 = e in absurd (omega (arith, never))) refl
    ∙ ap (λ z. onto 40 (in_comment (depth + 1) z)) (append_assoc (spelled j) (41 ∷ spelled i) rest)
    ∙ ap (onto 40) (remark_through j (depth + 1) (41 ∷ behind) parts.0
    ∙ ap (ontos (content j)) (comment_more (depth + 1) 41 behind (λ e. let never : ◌≡◌ {A = ℕ} 41 92 = e in absurd (omega (arith, never))) (ne_eqb (depth + 1) 0 (λ e. absurd (omega (arith, e))))
    ∙ ap (λ d. onto 41 (in_comment d behind)) (back depth) ∙ ap (onto 41) (remark_through i depth rest parts.1)))
    ∙ ap (onto 40) (sym (ontos-append (content j) (41 ∷ content i) (in_comment depth rest)))

literal_ends : (y : List ℕ) → are_literal y ≡ true → ends_literal (y ++ 93 ∷ []) ≡ true
literal_ends [] h = refl
literal_ends (c ∷ cs) h =
    let parts = and_parts (not (eqb c 93 || (eqb c 91 || eqb c 92))) (are_literal cs) h in
    let one = or_parts (eqb c 93) (eqb c 91 || eqb c 92) (not-true (eqb c 93 || (eqb c 91 || eqb c 92)) parts.0) in
    cond-false (eqb c 93) (is_nil (cs ++ 93 ∷ [])) (cond (eqb c 91 || eqb c 92) false (ends_literal (cs ++ 93 ∷ []))) one.0
    ∙ cond-false (eqb c 91 || eqb c 92) false (ends_literal (cs ++ 93 ∷ [])) one.1 ∙ literal_ends cs parts.1

apart_so : (rest : List ℕ) → begins is_plain rest ≡ false → is_apart rest ≡ true
apart_so [] h = refl
apart_so (c ∷ cs) h = not_from_false (is_plain c) h

special_pieces : (special : Special) (rest : List ℕ) → pieces (special_text special ++ rest) ≡ before (Mark special) (pieces rest)
special_pieces Comma rest = pieces_comma rest
special_pieces Colon rest = pieces_colon rest
special_pieces Semicolon rest = pieces_semicolon rest
special_pieces Open rest = pieces_open rest
special_pieces Close rest = pieces_close rest
special_pieces At rest = pieces_at rest

piece_through : (p : Piece) (here rest : List ℕ) → IsSpelled p here → EndsBefore p rest → pieces (here ++ rest) ≡ before p (pieces rest)
piece_through (Run x) here rest s e = ap (λ z. pieces (z ++ rest)) s.0 ∙ pieces_run x rest s.1 (apart_so rest e)
piece_through (Quoted x) here rest (i, good, text, same) e =
    ap (λ z. pieces (z ++ rest)) text ∙ pieces_apart 34 ((spelled i ++ 34 ∷ []) ++ rest) refl ∙ ap in_quotes (append_assoc (spelled i) (34 ∷ []) rest)
    ∙ quoted_through i rest good ∙ ontos-before (content i) (Quoted []) (pieces rest)
    ∙ ap (λ p. before p (pieces rest)) (with_bytes-quoted (content i) [] ∙ ap Quoted (append-nil (content i) ∙ sym same))
piece_through (Comment x) here rest (i, good, text, same) e =
    ap (λ z. pieces (z ++ rest)) text ∙ pieces_apart 40 ((spelled i ++ 41 ∷ []) ++ rest) refl ∙ ap (in_comment 0) (append_assoc (spelled i) (41 ∷ []) rest)
    ∙ remark_through i 0 (41 ∷ rest) good
    ∙ ap (ontos (content i)) (comment_end 0 41 rest (λ n. let never : ◌≡◌ {A = ℕ} 41 92 = n in absurd (omega (arith, never))) refl)
    ∙ ontos-before (content i) (Comment []) (pieces rest)
    ∙ ap (λ p. before p (pieces rest)) (with_bytes-comment (content i) [] ∙ ap Comment (append-nil (content i) ∙ sym same))
piece_through (Literal x) here rest (y, good, text, same) e =
    ap (λ z. pieces (z ++ rest)) text ∙ pieces_literal (91 ∷ (y ++ 93 ∷ [])) rest (literal_ends y good) ∙ ap (λ z. before (Literal z) (pieces rest)) (sym (same ∙ text))
piece_through (Mark special) here rest s e = ap (λ z. pieces (z ++ rest)) s ∙ special_pieces special rest
piece_through Blank here rest (inl s) e = ap (λ z. pieces (z ++ rest)) s ∙ pieces_blank rest
piece_through Blank here rest (inr s) e = ap (λ z. pieces (z ++ rest)) s ∙ pieces_apart 9 rest refl

pub pieces_of_text : (ps : List Piece) (text : List ℕ) → IsText ps text → pieces text ≡ Some ps
pieces_of_text [] text t = ap pieces t ∙ pieces_none
pieces_of_text (p ∷ ps) text (here, rest, s, same, e, more) = ap pieces same ∙ piece_through p here rest s e ∙ ap (before p) (pieces_of_text ps rest more)
