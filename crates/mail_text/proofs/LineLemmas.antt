-- How the lines of texts go together.
use Rattle.std.proofs.Common.{◌≡◌, ℕ, suc, ◌+◌, ◌-◌, ◌<◌, ◌≤◌, ◌↔◌, length, length-append, get_or, take, drop, arith, length-take, Bool, true, false, cond, ◌&&◌, eqb, List, [], ◌∷◌, ◌++◌, refl, sym, ◌∙◌, ap, subst, inl, inr}
use Rattle.std.proofs.lemmas.Bool.{cond_both, and_right, or_parts, or_from}
use Rattle.std.proofs.lemmas.List.{append_assoc, append_cancel_left, take-append-drop, drop_more, get_or-take}
use Rattle.mail_text.specs.Texts.{begins}
use Rattle.mail_text.specs.Lines.{put, is_lf, lines, joined, IsCrlf, has, ends_in_cr, AreLines, IsFirstLine, IsWithoutReturn}
use Rattle.mail_text.proofs.FrontLemmas.{has_none}

pub put-some : (c : ℕ) (ls : List (List ℕ)) → put c ls ≡ [] → ⊥
put-some c [] e = cc
put-some c (l ∷ ls) e = cc

pub lines-some : (x : List ℕ) → lines x ≡ [] → ⊥
lines-some [] = λ e. cc
lines-some (c ∷ cs) =
    cond_both (eqb c 13 && begins is_lf cs) (lines cs) (cond (eqb c 10) ([] ∷ lines cs) (put c (lines cs))) (λ ls. ls ≡ [] → ⊥)
    (λ _. lines-some cs)
    (λ _. cond_both (eqb c 10) ([] ∷ lines cs) (put c (lines cs)) (λ ls. ls ≡ [] → ⊥) (λ _ e. cc) (λ _. put-some c (lines cs)))

pub put-append : (c : ℕ) (ls ms : List (List ℕ)) → (ls ≡ [] → ⊥) → put c (ls ++ ms) ≡ put c ls ++ ms
put-append c [] ms h = absurd (h refl)
put-append c (l ∷ ls) ms h = refl

-- A line end that begins with a CR makes no line end before it.
pub begins-append : (cs y : List ℕ) → begins is_lf (cs ++ 13 ∷ 10 ∷ y) ≡ begins is_lf cs
begins-append [] y = refl
begins-append (c ∷ cs) y = refl

line_step : (t u : Bool) (c : ℕ) (ls ms : List (List ℕ)) → (ls ≡ [] → ⊥) →
    cond t (ls ++ ms) (cond u ([] ∷ (ls ++ ms)) (put c (ls ++ ms))) ≡ cond t ls (cond u ([] ∷ ls) (put c ls)) ++ ms
line_step true u c ls ms h = refl
line_step false true c ls ms h = refl
line_step false false c ls ms h = put-append c ls ms h

pub lines-append : (x y : List ℕ) → lines (x ++ 13 ∷ 10 ∷ y) ≡ lines x ++ lines y
lines-append [] y = refl
lines-append (c ∷ cs) y =
    rw (begins-append cs y, lines-append cs y) (line_step (eqb c 13 && begins is_lf cs) (eqb c 10) c (lines cs) (lines y) (lines-some cs))

-- A text without a LF does not begin with one.
pub begins_none : (cs : List ℕ) → has 10 cs ≡ false → begins is_lf cs ≡ false
begins_none [] h = refl
begins_none (c ∷ cs) h = (or_parts (eqb c 10) (has 10 cs) h).0

pub lines-one : (l : List ℕ) → has 10 l ≡ false → lines l ≡ l ∷ []
lines-one [] h = refl
lines-one (c ∷ cs) h =
    let parts = or_parts (eqb c 10) (has 10 cs) h in
    rw (and_right (eqb c 13) (begins is_lf cs) (begins_none cs parts.1), parts.0, lines-one cs parts.1) refl

-- A bare LF ends a line that ends in no CR.
pub lines_bare : (l y : List ℕ) → has 10 l ≡ false → ends_in_cr l ≡ false → lines (l ++ 10 ∷ y) ≡ l ∷ lines y
lines_bare [] y h e = refl
lines_bare (c ∷ []) y h e =
    let parts = or_parts (eqb c 10) (has 10 []) h in
    rw (e, parts.0) refl
lines_bare (c ∷ d ∷ ds) y h e =
    let parts = or_parts (eqb c 10) (has 10 (d ∷ ds)) h in
    let next = or_parts (eqb d 10) (has 10 ds) parts.1 in
    rw (and_right (eqb c 13) (eqb d 10) next.0, parts.0, lines_bare (d ∷ ds) y parts.1 e) refl

pub lines_crlf : (l y : List ℕ) → has 10 l ≡ false → lines (l ++ 13 ∷ 10 ∷ y) ≡ l ∷ lines y
lines_crlf l y h = rw (lines-append l y, lines-one l h) refl

pub lines-joined : (ls : List (List ℕ)) → AreLines ls → lines (joined ls) ≡ ls
lines-joined [] h = absurd h
lines-joined (l ∷ []) h = lines-one l h
lines-joined (l ∷ m ∷ ls) h = rw (lines_crlf l (joined (m ∷ ls)) h.0, lines-joined (m ∷ ls) h.1) refl

AreLines-put : (c : ℕ) (ls : List (List ℕ)) → eqb c 10 ≡ false → AreLines ls → AreLines (put c ls)
AreLines-put c [] e h = absurd h
AreLines-put c (l ∷ []) e h = or_from (eqb c 10) (has 10 l) e h
AreLines-put c (l ∷ m ∷ ls) e h = (or_from (eqb c 10) (has 10 l) e h.0, h.1)

AreLines-empty : (ls : List (List ℕ)) → AreLines ls → AreLines ([] ∷ ls)
AreLines-empty [] h = refl
AreLines-empty (l ∷ ls) h = (refl, h)

pub AreLines-lines : (x : List ℕ) → AreLines (lines x)
AreLines-lines [] = refl
AreLines-lines (c ∷ cs) =
    cond_both (eqb c 13 && begins is_lf cs) (lines cs) (cond (eqb c 10) ([] ∷ lines cs) (put c (lines cs))) AreLines
    (λ _. AreLines-lines cs)
    (λ _. cond_both (eqb c 10) ([] ∷ lines cs) (put c (lines cs)) AreLines
    (λ _. AreLines-empty (lines cs) (AreLines-lines cs))
    (λ e. AreLines-put c (lines cs) e (AreLines-lines cs)))

pub IsCrlf-joined : (x : List ℕ) → IsCrlf (joined (lines x))
IsCrlf-joined x = ap joined (lines-joined (lines x) (AreLines-lines x))

-- A line and what stands behind, joined.
pub joined_more : (l : List ℕ) (ls : List (List ℕ)) → (ls ≡ [] → ⊥) → joined (l ∷ ls) ≡ l ++ 13 ∷ 10 ∷ joined ls
joined_more l [] h = absurd (h refl)
joined_more l (m ∷ ls) h = refl

has_front : (x : List ℕ) (c : ℕ) → has 10 (x ++ c ∷ []) ≡ false → has 10 x ≡ false
has_front [] c h = refl
has_front (d ∷ ds) c h =
    let parts = or_parts (eqb d 10) (has 10 (ds ++ c ∷ [])) h in
    or_from (eqb d 10) (has 10 ds) parts.0 (has_front ds c parts.1)

-- The first line, as the place of the first LF shows it.
pub first_line : (front short rest : List ℕ) → has 10 front ≡ false → IsWithoutReturn front short → IsFirstLine (front ++ 10 ∷ rest) short rest
first_line front short rest none w = elim w [
  | inl e ↦ record {
    ending = 13 ∷ 10 ∷ [];
    is_ending = inl refl;
    text_is = rw (e, append_assoc) refl;
    lines_are = λ y. lines_crlf short y (has_front short 13 (subst (λ z. has 10 z ≡ false) e none));
  }
  | inr p ↦ record {
    ending = 10 ∷ [];
    is_ending = inr refl;
    text_is = rw p.0 refl;
    lines_are = λ y. lines_bare short y (subst (λ z. has 10 z ≡ false) p.0 none) (subst (λ z. ends_in_cr z ≡ false) p.0 p.1);
  }
]

-- The first LF of a text.

pub at_lf : (text : List ℕ) (at : ℕ) → at < length text → get_or text at 0 ≡ 10 → text ≡ take at text ++ 10 ∷ drop (at + 1) text
at_lf text at h e =
    sym (take-append-drop at text) ∙ ap (λ z. take at text ++ z) (drop_more text at 0 h ∙ ap (λ c. c ∷ drop (at + 1) text) e)

pub has_none_before : (text : List ℕ) (at : ℕ) → ((k : ℕ) → k < at → eqb (get_or text k 0) 10 ≡ true → ⊥) → has 10 (take at text) ≡ false
has_none_before text at none =
    has_none 10 (take at text) (λ k h e.
    let below : k < at = omega (arith, simp length-take at h) in
    none k below (rw (sym (get_or-take at text k 0 below)) e))

pub ends-last : (line : List ℕ) → 0 < length line → ends_in_cr line ≡ eqb (get_or line (length line - 1) 0) 13
ends-last [] h = absurd (omega arith)
ends-last (c ∷ []) h = refl
ends-last (c ∷ d ∷ ds) h = ends-last (d ∷ ds) (omega arith) ∙ ap (λ n. eqb (get_or (c ∷ d ∷ ds) n 0) 13) (let same : suc (length (d ∷ ds) - 1) ≡ length (c ∷ d ∷ ds) - 1 = omega arith in same)

-- The first line and the rest, joined.
pub joined_first : (text line rest : List ℕ) → IsFirstLine text line rest → joined (lines text) ≡ line ++ 13 ∷ 10 ∷ joined (lines rest)
joined_first text line rest f =
    ap joined (ap lines f.text_is ∙ f.lines_are rest) ∙ joined_more line (lines rest) (lines-some rest)

-- Whether each LF stands behind a CR, line by line.

pub crlf_first : (text line rest : List ℕ) → IsFirstLine text line rest → length line + 2 + length rest ≤ length text → IsCrlf text ↔ IsCrlf rest
crlf_first text line rest f long = elim f.is_ending [
  | inl crlf ↦
      let is : text ≡ line ++ 13 ∷ 10 ∷ rest = f.text_is ∙ ap (λ e. line ++ (e ++ rest)) crlf in
      let whole = joined_first text line rest f in (
        (λ h. append_cancel_left (line ++ 13 ∷ 10 ∷ []) _ _ (append_assoc line (13 ∷ 10 ∷ []) (joined (lines rest)) ∙ sym whole ∙ h ∙ is ∙ sym (append_assoc line (13 ∷ 10 ∷ []) rest))),
        (λ h. whole ∙ ap (λ z. line ++ 13 ∷ 10 ∷ z) h ∙ sym is),
      )
  | inr lf ↦
      let is : text ≡ line ++ 10 ∷ rest = f.text_is ∙ ap (λ e. line ++ (e ++ rest)) lf in
      let size = ap length is ∙ length-append line (10 ∷ rest) in
      absurd (omega arith)
]

pub not_crlf : (text line rest : List ℕ) → IsFirstLine text line rest → length text < length line + 2 + length rest → IsCrlf text → ⊥
not_crlf text line rest f short h = elim f.is_ending [
  | inl crlf ↦
      let is : text ≡ line ++ 13 ∷ 10 ∷ rest = f.text_is ∙ ap (λ e. line ++ (e ++ rest)) crlf in
      let size = ap length is ∙ length-append line (13 ∷ 10 ∷ rest) in
      absurd (omega arith)
  | inr lf ↦
      let is : text ≡ line ++ 10 ∷ rest = f.text_is ∙ ap (λ e. line ++ (e ++ rest)) lf in
      let same : 13 ∷ 10 ∷ joined (lines rest) ≡ 10 ∷ rest = append_cancel_left line _ _ (sym (joined_first text line rest f) ∙ h ∙ is) in
      cc
]

pub crlf_last : (text : List ℕ) → lines text ≡ text ∷ [] → IsCrlf text
crlf_last text one = ap joined one
