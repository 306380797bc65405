-- Quoted-printable from the left.
use Rattle.std.proofs.Common.{◌≡◌, ℕ, ◌+◌, ◌*◌, true, false, ◌&&◌, eqb, inl, inr, List, [], ◌∷◌, ◌++◌, Some, None, refl, sym, ◌∙◌, ap, arith, append_assoc}
use Rattle.std.proofs.lemmas.Bool.{cond-true, cond-false, and_from, and_left, or_cases, or_from, or_parts, eqb-true}
use Rattle.std.specs.Option.{option_map}
use Rattle.std.specs.Char.{digit_value}
use Rattle.mail_text.specs.Lines.{has, is_lf, pieces, put, without_first}
use Rattle.mail_text.specs.Texts.{before_trimmed, begins, is_blank, without_blank_end}
use Rattle.transfer_codec.specs.Scan.{scan}
use Rattle.transfer_codec.specs.Quoted.{decoded_quoted, escape, escape_front, is_hex, unescaped, with_end, without_equals}
use Rattle.transfer_codec.specs.Laws.{AreBlanks}
use Rattle.transfer_codec.proofs.ScanLemmas.{scan_found, scan_none}
use Rattle.transfer_codec.proofs.QuotedLemmas.{pieces_some, text_more}

-- Bytes one after another

pub nothing_unescaped : unescaped [] ≡ []
unfolding scan
nothing_unescaped = refl

pub escape_first : (high low : ℕ) (rest : List ℕ) → is_hex high ≡ true → is_hex low ≡ true →
    unescaped (61 ∷ high ∷ low ∷ rest) ≡ (digit_value high * 16 + digit_value low) ∷ unescaped rest
unfolding escape
escape_first high low rest h l =
    let byte = digit_value high * 16 + digit_value low in
    let found : escape (61 ∷ high ∷ low ∷ rest) ≡ Some byte = cond-true (is_hex high && is_hex low) (Some byte) None (and_from (is_hex high) (is_hex low) h l) in
    scan_found escape_front (λ (b : ℕ). b) (61 ∷ high ∷ low ∷ rest) 0 3 byte (omega arith) (omega arith) (ap (option_map (λ b. (3, b))) found)

pub itself_first : (c : ℕ) (rest : List ℕ) → escape (c ∷ rest) ≡ None → unescaped (c ∷ rest) ≡ c ∷ unescaped rest
itself_first c rest none = scan_none escape_front (λ (b : ℕ). b) (c ∷ rest) 0 (omega arith) (ap (option_map (λ b. (3, b))) none)

-- The first line

cut_here : (ls : List (List ℕ)) → (ls ≡ [] → ⊥) → without_first (put 10 ls) ≡ ls
cut_here [] h = absurd (h refl)
cut_here (l ∷ ls) h = refl

pieces_line : (line rest : List ℕ) → has 13 line ≡ false → pieces (line ++ 13 ∷ 10 ∷ rest) ≡ line ∷ pieces rest
pieces_line [] rest h = ap (λ ls. [] ∷ ls) (cut_here (pieces rest) (pieces_some rest))
pieces_line (c ∷ cs) rest h =
    let parts = or_parts (eqb c 13) (has 13 cs) h in
    let more = pieces (cs ++ 13 ∷ 10 ∷ rest) in
    cond-false (eqb c 13 && begins is_lf (cs ++ 13 ∷ 10 ∷ rest)) ([] ∷ without_first more) (put c more) (and_left (eqb c 13) (begins is_lf (cs ++ 13 ∷ 10 ∷ rest)) parts.0)
    ∙ ap (put c) (pieces_line cs rest parts.1)

-- Blanks at its end

blanks_end : (line blanks : List ℕ) → AreBlanks blanks → without_blank_end (line ++ blanks) ≡ without_blank_end line
blanks_end [] [] h = refl
blanks_end [] (c ∷ cs) h = ap (before_trimmed c) (blanks_end [] cs h.1) ∙ cond-true (is_blank c) [] (c ∷ []) h.0
blanks_end (c ∷ cs) blanks h = ap (before_trimmed c) (blanks_end cs blanks h)

no_return : (blanks : List ℕ) → AreBlanks blanks → has 13 blanks ≡ false
no_return [] h = refl
no_return (c ∷ cs) h = or_from (eqb c 13) (has 13 cs) (elim (or_cases (eqb c 32) (eqb c 9) h.0) [
  | inl space ↦ ap (λ z. eqb z 13) (eqb-true c 32 space)
  | inr tab ↦ ap (λ z. eqb z 13) (eqb-true c 9 tab)
]) (no_return cs h.1)

no_return-append : (x y : List ℕ) → has 13 x ≡ false → has 13 y ≡ false → has 13 (x ++ y) ≡ false
no_return-append [] y hx hy = hy
no_return-append (c ∷ cs) y hx hy =
    let parts = or_parts (eqb c 13) (has 13 cs) hx in
    or_from (eqb c 13) (has 13 (cs ++ y)) parts.0 (no_return-append cs y parts.1 hy)

-- A `=` at its end

equals_stays : (line : List ℕ) → without_blank_end (line ++ 61 ∷ []) ≡ line ++ 61 ∷ []
equals_stays [] = refl
equals_stays (c ∷ []) = refl
equals_stays (c ∷ d ∷ ds) = ap (before_trimmed c) (equals_stays (d ∷ ds))

equals_off : (line : List ℕ) → without_equals (line ++ 61 ∷ []) ≡ Some line
equals_off [] = refl
equals_off (c ∷ []) = refl
equals_off (c ∷ d ∷ ds) = ap (option_map (λ front. c ∷ front)) (equals_off (d ∷ ds))

-- The laws

line_first : (line blanks rest : List ℕ) → has 13 line ≡ false → AreBlanks blanks →
    decoded_quoted ((line ++ blanks) ++ 13 ∷ 10 ∷ rest) ≡ with_end (without_equals (without_blank_end line)) (without_blank_end line) (13 ∷ 10 ∷ []) ++ decoded_quoted rest
line_first line blanks rest none h =
    text_more ((line ++ blanks) ++ 13 ∷ 10 ∷ rest) (line ++ blanks) rest (pieces_line (line ++ blanks) rest (no_return-append line blanks none (no_return blanks h)))
    ∙ ap (λ z. with_end (without_equals z) z (13 ∷ 10 ∷ []) ++ decoded_quoted rest) (blanks_end line blanks h)

pub line_ended : (line blanks rest : List ℕ) → has 13 line ≡ false → without_blank_end line ≡ line → without_equals line ≡ None → AreBlanks blanks →
    decoded_quoted (line ++ (blanks ++ 13 ∷ 10 ∷ rest)) ≡ unescaped line ++ 13 ∷ 10 ∷ decoded_quoted rest
line_ended line blanks rest none trimmed otherwise h =
    ap decoded_quoted (sym (append_assoc line blanks (13 ∷ 10 ∷ rest))) ∙ line_first line blanks rest none h
    ∙ ap (λ z. with_end (without_equals z) z (13 ∷ 10 ∷ []) ++ decoded_quoted rest) trimmed
    ∙ ap (λ o. with_end o line (13 ∷ 10 ∷ []) ++ decoded_quoted rest) otherwise
    ∙ append_assoc (unescaped line) (13 ∷ 10 ∷ []) (decoded_quoted rest)

pub line_joined : (line blanks rest : List ℕ) → has 13 line ≡ false → AreBlanks blanks →
    decoded_quoted (line ++ 61 ∷ (blanks ++ 13 ∷ 10 ∷ rest)) ≡ unescaped line ++ decoded_quoted rest
line_joined line blanks rest none h =
    let whole = line ++ 61 ∷ [] in
    let regrouped : line ++ 61 ∷ (blanks ++ 13 ∷ 10 ∷ rest) ≡ (whole ++ blanks) ++ 13 ∷ 10 ∷ rest =
    sym (append_assoc line (61 ∷ []) (blanks ++ 13 ∷ 10 ∷ rest)) ∙ sym (append_assoc whole blanks (13 ∷ 10 ∷ rest)) in
    ap decoded_quoted regrouped ∙ line_first whole blanks rest (no_return-append line (61 ∷ []) none refl) h
    ∙ ap (λ z. with_end (without_equals z) z (13 ∷ 10 ∷ []) ++ decoded_quoted rest) (equals_stays line)
    ∙ ap (λ o. with_end o whole (13 ∷ 10 ∷ []) ++ decoded_quoted rest) (equals_off line)
