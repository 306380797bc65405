-- The first piece of a text, by its first byte.
use Rattle.std.proofs.Common.{◌≡◌, ℕ, suc, ◌+◌, ◌<◌, ◌≤◌, true, false, cond, eqb, List, [], ◌∷◌, length, get_or, take, drop, Option, Some, None, refl, sym, ◌∙◌, ap, arith}
use Rattle.std.proofs.lemmas.Bool.{cond-true, cond-false, eq-eqb, ne_eqb}
use Rattle.mail_text.specs.Texts.{is_blank}
use Rattle.address_grammar.specs.declared.pieces.Special.{Special}
use Rattle.address_grammar.specs.declared.pieces.Piece.{Piece}
use Rattle.address_grammar.specs.declared.pieces.Piece.TheVariants.{Run, Literal, Mark, Blank}
use Rattle.address_grammar.specs.Pieces.{is_plain, before, onto, marked, apart, special_of, pieces, in_run, in_quotes, in_comment, in_literal}
use Rattle.address_grammar.specs.Found.{IsPiece, Finds}
use Rattle.address_grammar.proofs.PieceLemmas.{pieces_plain, pieces_apart}

onto_before : (c : ℕ) (text : List ℕ) (ps : Option (List Piece)) → onto c (before (Run text) ps) ≡ before (Run (c ∷ text)) ps
onto_before c text None = refl
onto_before c text (Some ps) = refl

onto_literal : (c : ℕ) (text : List ℕ) (ps : Option (List Piece)) → onto c (before (Literal text) ps) ≡ before (Literal (c ∷ text)) ps
onto_literal c text None = refl
onto_literal c text (Some ps) = refl

drop_tail : (c : ℕ) (cs : List ℕ) (n : ℕ) → drop n cs ≡ drop (n + 1) (c ∷ cs)
drop_tail c cs n = ap (λ k. drop k (c ∷ cs)) (let e : suc n ≡ n + 1 = omega arith in e)

take_tail : (c : ℕ) (cs : List ℕ) (n : ℕ) → c ∷ take n cs ≡ take (n + 1) (c ∷ cs)
take_tail c cs n = ap (λ k. take k (c ∷ cs)) (let e : suc n ≡ n + 1 = omega arith in e)

pub first_run : (text : List ℕ) (n : ℕ) → 0 < length text → is_plain (get_or text 0 0) ≡ true → n ≤ length (drop 1 text) →
    in_run (drop 1 text) ≡ before (Run (take n (drop 1 text))) (pieces (drop n (drop 1 text))) → IsPiece (pieces text) text (Run (take (n + 1) text)) (n + 1)
first_run [] n some is within run = absurd (omega arith)
first_run (c ∷ cs) n some is within run = record {
  some = omega arith;
  within = omega arith;
  is = pieces_plain c cs is ∙ ap (onto c) run ∙ onto_before c (take n cs) (pieces (drop n cs))
      ∙ ap (λ t. before (Run t) (pieces (drop n cs))) (take_tail c cs n) ∙ ap (λ z. before (Run (take (n + 1) (c ∷ cs))) (pieces z)) (drop_tail c cs n);
}

abbrev pub rest_apart : ℕ → List ℕ → Option (List Piece)
rest_apart c cs = apart c (pieces cs) (in_quotes cs) (in_comment 0 cs) (in_literal cs)

pub first_blank : (text : List ℕ) → 0 < length text → is_plain (get_or text 0 0) ≡ false → is_blank (get_or text 0 0) ≡ true → IsPiece (pieces text) text Blank 1
first_blank [] some isnt is = absurd (omega arith)
first_blank (c ∷ cs) some isnt is = record {
  some = omega arith;
  within = omega arith;
  is = pieces_apart c cs isnt
      ∙ cond-true (is_blank c) (before Blank (pieces cs)) (cond (eqb c 34) (in_quotes cs) (cond (eqb c 40) (in_comment 0 cs) (cond (eqb c 91) (onto 91 (in_literal cs)) (marked (special_of c) (pieces cs))))) is;
}

apart_inner : (c : ℕ) (cs : List ℕ) → is_plain c ≡ false → is_blank c ≡ false →
    pieces (c ∷ cs) ≡ cond (eqb c 34) (in_quotes cs) (cond (eqb c 40) (in_comment 0 cs) (cond (eqb c 91) (onto 91 (in_literal cs)) (marked (special_of c) (pieces cs))))
apart_inner c cs isnt blank =
    pieces_apart c cs isnt
    ∙ cond-false (is_blank c) (before Blank (pieces cs)) (cond (eqb c 34) (in_quotes cs) (cond (eqb c 40) (in_comment 0 cs) (cond (eqb c 91) (onto 91 (in_literal cs)) (marked (special_of c) (pieces cs))))) blank

pub first_quotes : (text : List ℕ) → 0 < length text → is_plain (get_or text 0 0) ≡ false → is_blank (get_or text 0 0) ≡ false → get_or text 0 0 ≡ 34 →
    pieces text ≡ in_quotes (drop 1 text)
first_quotes [] some isnt blank is = absurd (omega arith)
first_quotes (c ∷ cs) some isnt blank is =
    apart_inner c cs isnt blank ∙ cond-true (eqb c 34) (in_quotes cs) (cond (eqb c 40) (in_comment 0 cs) (cond (eqb c 91) (onto 91 (in_literal cs)) (marked (special_of c) (pieces cs)))) (eq-eqb c 34 is)

behind_quotes : (c : ℕ) (cs : List ℕ) → is_plain c ≡ false → is_blank c ≡ false → (c ≡ 34 → ⊥) →
    pieces (c ∷ cs) ≡ cond (eqb c 40) (in_comment 0 cs) (cond (eqb c 91) (onto 91 (in_literal cs)) (marked (special_of c) (pieces cs)))
behind_quotes c cs isnt blank quote =
    apart_inner c cs isnt blank ∙ cond-false (eqb c 34) (in_quotes cs) (cond (eqb c 40) (in_comment 0 cs) (cond (eqb c 91) (onto 91 (in_literal cs)) (marked (special_of c) (pieces cs)))) (ne_eqb c 34 quote)

pub first_comment : (text : List ℕ) → 0 < length text → is_plain (get_or text 0 0) ≡ false → is_blank (get_or text 0 0) ≡ false → (get_or text 0 0 ≡ 34 → ⊥) → get_or text 0 0 ≡ 40 →
    pieces text ≡ in_comment 0 (drop 1 text)
first_comment [] some isnt blank quote is = absurd (omega arith)
first_comment (c ∷ cs) some isnt blank quote is =
    behind_quotes c cs isnt blank quote ∙ cond-true (eqb c 40) (in_comment 0 cs) (cond (eqb c 91) (onto 91 (in_literal cs)) (marked (special_of c) (pieces cs))) (eq-eqb c 40 is)

behind_comment : (c : ℕ) (cs : List ℕ) → is_plain c ≡ false → is_blank c ≡ false → (c ≡ 34 → ⊥) → (c ≡ 40 → ⊥) →
    pieces (c ∷ cs) ≡ cond (eqb c 91) (onto 91 (in_literal cs)) (marked (special_of c) (pieces cs))
behind_comment c cs isnt blank quote paren =
    behind_quotes c cs isnt blank quote ∙ cond-false (eqb c 40) (in_comment 0 cs) (cond (eqb c 91) (onto 91 (in_literal cs)) (marked (special_of c) (pieces cs))) (ne_eqb c 40 paren)

pub first_literal : (text : List ℕ) → 0 < length text → is_plain (get_or text 0 0) ≡ false → is_blank (get_or text 0 0) ≡ false → (get_or text 0 0 ≡ 34 → ⊥) → (get_or text 0 0 ≡ 40 → ⊥) →
    get_or text 0 0 ≡ 91 → pieces text ≡ onto (get_or text 0 0) (in_literal (drop 1 text))
first_literal [] some isnt blank quote paren is = absurd (omega arith)
first_literal (c ∷ cs) some isnt blank quote paren is =
    behind_comment c cs isnt blank quote paren ∙ cond-true (eqb c 91) (onto 91 (in_literal cs)) (marked (special_of c) (pieces cs)) (eq-eqb c 91 is)
    ∙ ap (λ b. onto b (in_literal cs)) (sym is)

pub first_special : (text : List ℕ) → 0 < length text → is_plain (get_or text 0 0) ≡ false → is_blank (get_or text 0 0) ≡ false → (get_or text 0 0 ≡ 34 → ⊥) → (get_or text 0 0 ≡ 40 → ⊥) →
    (get_or text 0 0 ≡ 91 → ⊥) → pieces text ≡ marked (special_of (get_or text 0 0)) (pieces (drop 1 text))
first_special [] some isnt blank quote paren bracket = absurd (omega arith)
first_special (c ∷ cs) some isnt blank quote paren bracket =
    behind_comment c cs isnt blank quote paren ∙ cond-false (eqb c 91) (onto 91 (in_literal cs)) (marked (special_of c) (pieces cs)) (ne_eqb c 91 bracket)

-- What was found behind the first byte, counted from that byte on.
pub one_more : (reading : Option (List Piece)) (text : List ℕ) (p : Piece) (n : ℕ) → 0 < length text → pieces text ≡ reading → IsPiece reading (drop 1 text) p n → IsPiece (pieces text) text p (n + 1)
one_more reading [] p n some same i = absurd (omega arith)
one_more reading (c ∷ cs) p n some same i = record {
  some = omega arith;
  within = omega (arith, i.within);
  is = same ∙ i.is ∙ ap (λ z. before p (pieces z)) (drop_tail c cs n);
}

pub bracketed : (text : List ℕ) (n : ℕ) → 0 < length text → IsPiece (in_literal (drop 1 text)) (drop 1 text) (Literal (take n (drop 1 text))) n →
    IsPiece (onto (get_or text 0 0) (in_literal (drop 1 text))) text (Literal (take (n + 1) text)) (n + 1)
bracketed [] n some i = absurd (omega arith)
bracketed (c ∷ cs) n some i = record {
  some = omega arith;
  within = omega (arith, i.within);
  is = ap (onto c) i.is ∙ onto_literal c (take n cs) (pieces (drop n cs)) ∙ ap (λ t. before (Literal t) (pieces (drop n cs))) (take_tail c cs n)
      ∙ ap (λ z. before (Literal (take (n + 1) (c ∷ cs))) (pieces z)) (drop_tail c cs n);
}

pub same_found : (reading other : Option (List Piece)) (text : List ℕ) (found : Option (Piece × ℕ)) → reading ≡ other →
    Finds other text (λ r. r.0) (λ r. r.1) found → Finds reading text (λ r. r.0) (λ r. r.1) found
same_found reading other text None same f = same ∙ f
same_found reading other text (Some r) same f = record { some = f.some; within = f.within; is = same ∙ f.is }

pub found_mark : (text : List ℕ) (special : Special) → 0 < length text → pieces text ≡ before (Mark special) (pieces (drop 1 text)) → IsPiece (pieces text) text (Mark special) 1
found_mark text special some is = record { some = omega arith; within = omega arith; is = is }
