-- Escapes, and lines that end in `=`.
use Rattle.std.proofs.Common.{◌≡◌, ℕ, suc, ◌-◌, ◌<◌, ◌≤◌, ◌&&◌, eqb, List, [], ◌∷◌, ◌++◌, length, get_or, take, Some, None, refl, sym, ◌∙◌, ap, arith}
use Rattle.std.proofs.lemmas.Bool.{cond-true, cond-false, eq-eqb, ne_eqb, cond_both}
use Rattle.std.specs.Option.{option_map}
use Rattle.mail_text.specs.Lines.{pieces, put, without_first, is_lf}
use Rattle.mail_text.specs.Texts.{begins}
use Rattle.transfer_codec.specs.Quoted.{escape, hex_byte, without_equals, line_text, lines_text}

pub escape_at : (text : List ℕ) → 3 ≤ length text → get_or text 0 0 ≡ 61 → escape text ≡ hex_byte (get_or text 1 0) (get_or text 2 0)
unfolding escape
escape_at [] h e = absurd (omega arith)
escape_at (c ∷ []) h e = absurd (omega arith)
escape_at (c ∷ d ∷ []) h e = absurd (omega arith)
escape_at (c ∷ d ∷ f ∷ rest) h e = cond-true (eqb c 61) (hex_byte d f) None (eq-eqb c 61 e)

pub escape_short : (text : List ℕ) → length text < 3 → escape text ≡ None
unfolding escape
escape_short [] h = refl
escape_short (c ∷ []) h = refl
escape_short (c ∷ d ∷ []) h = refl
escape_short (c ∷ d ∷ f ∷ rest) h = absurd (omega arith)

pub escape_other : (text : List ℕ) → (get_or text 0 0 ≡ 61 → ⊥) → escape text ≡ None
unfolding escape
escape_other [] h = refl
escape_other (c ∷ []) h = refl
escape_other (c ∷ d ∷ []) h = refl
escape_other (c ∷ d ∷ f ∷ rest) h = cond-false (eqb c 61) (hex_byte d f) None (ne_eqb c 61 h)

pub equals_last : (line : List ℕ) → 0 < length line → get_or line (length line - 1) 0 ≡ 61 → Some (take (length line - 1) line) ≡ without_equals line
equals_last [] h e = absurd (omega arith)
equals_last (c ∷ []) h e = sym (cond-true (eqb c 61) (Some []) None (eq-eqb c 61 e))
equals_last (c ∷ d ∷ ds) h e =
    let n : suc (suc (length ds)) - 1 ≡ suc (suc (length ds) - 1) = omega arith in
    rw n (ap (option_map (λ front. c ∷ front)) (equals_last (d ∷ ds) (omega arith) (rw n at e)))

pub other_last : (line : List ℕ) → (0 < length line → get_or line (length line - 1) 0 ≡ 61 → ⊥) → None ≡ without_equals line
other_last [] h = refl
other_last (c ∷ []) h = sym (cond-false (eqb c 61) (Some []) None (ne_eqb c 61 (h (omega arith))))
other_last (c ∷ d ∷ ds) h =
    let n : suc (suc (length ds)) - 1 ≡ suc (suc (length ds) - 1) = omega arith in
    ap (option_map (λ front. c ∷ front)) (other_last (d ∷ ds) (λ some e. h (omega arith) (rw n e)))

-- There is always a piece.

put_some : (c : ℕ) (ls : List (List ℕ)) → put c ls ≡ [] → ⊥
put_some c [] e = cc
put_some c (l ∷ ls) e = cc

pub pieces_some : (x : List ℕ) → pieces x ≡ [] → ⊥
pieces_some [] = λ e. cc
pieces_some (c ∷ cs) =
    cond_both (eqb c 13 && begins is_lf cs) ([] ∷ without_first (pieces cs)) (put c (pieces cs)) (λ ls. ls ≡ [] → ⊥) (λ _ e. cc) (λ _. put_some c (pieces cs))

some_more : (l : List ℕ) (ls : List (List ℕ)) → (ls ≡ [] → ⊥) → lines_text (l ∷ ls) ≡ line_text l (13 ∷ 10 ∷ []) ++ lines_text ls
some_more l [] h = absurd (h refl)
some_more l (m ∷ ls) h = refl

pub text_more : (text line behind : List ℕ) → pieces text ≡ line ∷ pieces behind → lines_text (pieces text) ≡ line_text line (13 ∷ 10 ∷ []) ++ lines_text (pieces behind)
text_more text line behind e = ap lines_text e ∙ some_more line (pieces behind) (pieces_some behind)
