-- Where the body of a text begins, line by line.
use Rattle.std.proofs.Common.{◌≡◌, ℕ, ◌+◌, ◌-◌, ◌<◌, ◌≤◌, cond, ◌&&◌, eqb, List, [], ◌∷◌, ◌++◌, length, take, drop, refl, sym, ◌∙◌, ap, subst, arith, length-append}
use Rattle.std.proofs.lemmas.Bool.{cond_both}
use Rattle.std.proofs.lemmas.List.{append-nil, append_assoc, drop_all}
use Rattle.std.proofs.Math.Seq.{drop-append-add, take-append-add, drop-append_seam, take-append_seam}
use Rattle.mail_text.specs.Texts.{begins}
use Rattle.mail_text.specs.Lines.{put, is_lf, lines, joined, IsFirstLine}
use Rattle.header_reader.specs.Fields.{header, body}
use Rattle.header_reader.specs.Places.{StandsBehind, IsBodyPlace, IsNextLine}

put-some : (c : ℕ) (ls : List (List ℕ)) → put c ls ≡ [] → ⊥
put-some c [] e = cc
put-some c (l ∷ ls) e = cc

pub lines-some : (x : List ℕ) → lines x ≡ [] → ⊥
lines-some [] = λ e. cc
lines-some (c ∷ cs) =
    cond_both (eqb c 13 && begins is_lf cs) (lines cs) (cond (eqb c 10) ([] ∷ lines cs) (put c (lines cs))) (λ ls. ls ≡ [] → ⊥)
    (λ _. lines-some cs)
    (λ _. cond_both (eqb c 10) ([] ∷ lines cs) (put c (lines cs)) (λ ls. ls ≡ [] → ⊥) (λ _ e. cc) (λ _. put-some c (lines cs)))

pub header_some : (line : List ℕ) (ls : List (List ℕ)) → 0 < length line → header (line ∷ ls) ≡ line ∷ header ls
header_some [] ls h = absurd (omega arith)
header_some (c ∷ l) ls h = refl

pub body_some : (line : List ℕ) (ls : List (List ℕ)) → 0 < length line → body (line ∷ ls) ≡ body ls
body_some [] ls h = absurd (omega arith)
body_some (c ∷ l) ls h = refl

module _ (front line behind : List ℕ) (lines_are : (y : List ℕ) → lines (front ++ y) ≡ line ∷ lines y) where
  stands_later : (bs : List (List ℕ)) (place : ℕ) → 0 < length line → StandsBehind bs behind place → StandsBehind bs (front ++ behind) (length front + place)
  stands_later [] place h s = omega (arith, s, length-append front behind)
  stands_later (l ∷ ls) place h s = (
    omega (arith, s.0, length-append front behind),
    ap lines (drop-append-add front behind place) ∙ s.1,
    ap lines (take-append-add front behind place) ∙ lines_are (take place behind) ∙ ap (λ z. line ∷ z) s.2
        ∙ sym (ap (λ z. header z ++ [] ∷ [] ∷ []) (lines_are behind) ∙ ap (λ z. z ++ [] ∷ [] ∷ []) (header_some line (lines behind) h)),
  )

  stands_here : (bs : List (List ℕ)) → line ≡ [] → bs ≡ lines behind → StandsBehind bs (front ++ behind) (length front)
  stands_here [] none e = absurd (lines-some behind (sym e))
  stands_here (l ∷ ls) none e = (
    omega (arith, length-append front behind),
    ap lines (drop-append_seam front behind) ∙ sym e,
    ap lines (take-append_seam front behind ∙ sym (append-nil front)) ∙ lines_are [] ∙ ap (λ z. z ∷ [] ∷ []) none
        ∙ sym (ap (λ z. header z ++ [] ∷ [] ∷ []) (lines_are behind ∙ ap (λ z. z ∷ lines behind) none)),
  )

  next_split : 0 < length front → IsNextLine (front ++ behind) line behind
  next_split some =
      let text = front ++ behind in
      let same : length text - length behind ≡ length front = omega (arith, length-append front behind) in
      record {
        within = omega (arith, length-append front behind);
        shorter = λ h. omega (arith, length-append front behind);
        same_header = ap header (lines_are behind);
        at_end = λ none.
            subst (IsBodyPlace text) (sym same)
            (subst (λ bs. StandsBehind bs text (length front)) (sym (ap body (lines_are behind ∙ ap (λ z. z ∷ lines behind) none)))
            (stands_here (lines behind) none refl));
        later = λ place h s.
            subst (λ n. IsBodyPlace text (n + place)) (sym same)
            (subst (λ bs. StandsBehind bs text (length front + place)) (sym (ap body (lines_are behind) ∙ body_some line (lines behind) h))
            (stands_later (body (lines behind)) place h s));
      }

front_some : (front line : List ℕ) → ((y : List ℕ) → lines (front ++ y) ≡ line ∷ lines y) → 0 < length front
front_some [] line lines_are = let e : ([] ∷ []) ≡ line ∷ [] ∷ [] = lines_are [] in cc
front_some (c ∷ cs) line lines_are = omega arith

pub next_first : (text line behind : List ℕ) → IsFirstLine text line behind → IsNextLine text line behind
next_first text line behind f =
    let front = line ++ f.ending in
    let lines_are = λ (y : List ℕ). ap lines (append_assoc line f.ending y) ∙ f.lines_are y in
    let whole : front ++ behind ≡ text = append_assoc line f.ending behind ∙ sym f.text_is in
    subst (λ t. IsNextLine t line behind) whole (next_split front line behind lines_are (front_some front line lines_are))

header_last : (text : List ℕ) → header (text ∷ []) ≡ header (text ∷ [] ∷ [])
header_last [] = refl
header_last (c ∷ l) = refl

body_last : (text : List ℕ) → body (text ∷ []) ≡ []
body_last [] = refl
body_last (c ∷ l) = refl

pub next_none : (text : List ℕ) → lines text ≡ text ∷ [] → IsNextLine text text []
next_none text e =
    let no_body : body (lines text) ≡ [] = ap body e ∙ body_last text in
    record {
      within = omega arith;
      shorter = λ h. h;
      same_header = ap header e ∙ header_last text;
      at_end = λ none. subst (λ bs. StandsBehind bs text (length text - 0)) (sym no_body) (omega arith);
      later = λ place h s. subst (λ bs. StandsBehind bs text (length text - 0 + place)) (sym no_body) (omega (arith, s));
    }

-- The body that stands behind its place.
place_body_at : (bs : List (List ℕ)) (text : List ℕ) (place : ℕ) → StandsBehind bs text place → joined (lines (drop place text)) ≡ joined bs
place_body_at [] text place s = ap (λ z. joined (lines z)) (drop_all place text (omega (arith, s)))
place_body_at (l ∷ ls) text place s = ap joined s.1

pub place_body : (text : List ℕ) (place : ℕ) → IsBodyPlace text place → joined (lines (drop place text)) ≡ joined (body (lines text))
place_body text place s = place_body_at (body (lines text)) text place s

place_within_at : (bs : List (List ℕ)) (text : List ℕ) (place : ℕ) → StandsBehind bs text place → place ≤ length text
place_within_at [] text place s = omega (arith, s)
place_within_at (l ∷ ls) text place s = s.0

pub place_within : (text : List ℕ) (place : ℕ) → IsBodyPlace text place → place ≤ length text
place_within text place s = place_within_at (body (lines text)) text place s
