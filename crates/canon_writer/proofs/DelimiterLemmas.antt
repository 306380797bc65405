-- Parts between delimiters are found between them again.
use Rattle.std.proofs.Common.{◌≡◌, ℕ, ◌<◌, true, false, cond, ◌&&◌, eqb, leb, List, [], ◌∷◌, ◌++◌, length, map, refl, sym, ◌∙◌, ap, arith, inl, inr}
use Rattle.std.proofs.lemmas.Bool.{cond_both, cond-true, cond-false, and_parts, or_parts, or_from, false_from_ne_true, cases_Bool, leb-true, ne_eqb}
use Rattle.std.proofs.lemmas.List.{append_cancel_right, length-append}
use Rattle.std.proofs.lemmas.Slice.Eq.{bytes_eq-Decides}
use Rattle.std.specs.List.{list_any, list_all}
use Rattle.std.specs.Str.{bytes_eq}
use Rattle.mail_text.specs.Texts.{before_trimmed, without_blank_end}
use Rattle.mail_text.specs.Lines.{put, ahead, lines, joined, has}
use Rattle.mime_reader.specs.Bodies.{delimiter, closing, is_delimiter, is_closing, pieces, behind_first, parts, is_printing, is_boundary}
use Rattle.canon_writer.proofs.InsideLemmas.{IsFree, IsInside, AreInside}

-- Boundaries

-- What a boundary has.
pub record Boundary (b : List ℕ) : Type 0 where
  pub some : 0 < length b
  pub kept : without_blank_end b ≡ b
  pub printing : list_all is_printing b ≡ true

pub boundary_facts : (b : List ℕ) → is_boundary b ≡ true → Boundary b
boundary_facts b h =
    let parts = and_parts (leb 1 (length b) && leb (length b) 70) (list_all is_printing b && bytes_eq (without_blank_end b) b) h in
    let size = and_parts (leb 1 (length b)) (leb (length b) 70) parts.0 in
    let more = and_parts (list_all is_printing b) (bytes_eq (without_blank_end b) b) parts.1 in
    record { some = leb-true 1 (length b) size.0; kept = (bytes_eq-Decides (without_blank_end b) b).0 more.1; printing = more.0 }

pub printing_lacks : (n : ℕ) (b : List ℕ) → n < 32 → list_all is_printing b ≡ true → has n b ≡ false
printing_lacks n [] low h = refl
printing_lacks n (c ∷ cs) low h =
    let parts = and_parts (is_printing c) (list_all is_printing cs) h in
    let least = leb-true 32 c ((and_parts (leb 32 c) (leb c 126) parts.0).0) in
    or_from (eqb c n) (has n cs) (ne_eqb c n (λ e. omega arith)) (printing_lacks n cs low parts.1)

before_some : (c : ℕ) (z : List ℕ) → 0 < length z → before_trimmed c z ≡ c ∷ z
before_some c [] h = absurd (omega arith)
before_some c (d ∷ ds) h = refl

kept-append : (x y : List ℕ) → 0 < length y → without_blank_end y ≡ y → without_blank_end (x ++ y) ≡ x ++ y
kept-append [] y some kept = kept
kept-append (c ∷ cs) y some kept =
    ap (before_trimmed c) (kept-append cs y some kept) ∙ before_some c (cs ++ y) (omega (arith, length-append cs y))

pub kept_delimiter : (b : List ℕ) → Boundary b → without_blank_end (delimiter b) ≡ delimiter b
kept_delimiter b h = kept-append (45 ∷ 45 ∷ []) b h.some h.kept

pub kept_closing : (b : List ℕ) → without_blank_end (closing b) ≡ closing b
kept_closing b = kept-append (delimiter b) (45 ∷ 45 ∷ []) (omega arith) refl

same_texts : (x y : List ℕ) → x ≡ y → bytes_eq x y ≡ true
same_texts x y e = (bytes_eq-Decides x y).1 e

longer : (b : List ℕ) → delimiter b ≡ closing b → ⊥
longer b e = let l = ap length e in omega (arith, l, length-append (delimiter b) (45 ∷ 45 ∷ []))

pub delimiter_is : (b : List ℕ) → Boundary b → is_delimiter b (delimiter b) ≡ true
delimiter_is b h = same_texts (without_blank_end (delimiter b)) (delimiter b) (kept_delimiter b h)

pub delimiter_isnt : (b : List ℕ) → Boundary b → is_closing b (delimiter b) ≡ false
delimiter_isnt b h =
    false_from_ne_true (is_closing b (delimiter b)) (λ e.
    longer b (sym (kept_delimiter b h) ∙ (bytes_eq-Decides (without_blank_end (delimiter b)) (closing b)).0 e))

pub closing_is : (b : List ℕ) → is_closing b (closing b) ≡ true
closing_is b = same_texts (without_blank_end (closing b)) (closing b) (kept_closing b)

-- Lines that are one but for blanks at their ends are free of the same multiparts.
free_alike : (es : List (List ℕ)) (l m : List ℕ) → without_blank_end l ≡ without_blank_end m → IsFree es l → IsFree es m
free_alike [] l m same h = tt
free_alike (e ∷ es) l m same h = (
  record {
    delimiter = ap (λ z. bytes_eq z (delimiter e)) (sym same) ∙ h.0.delimiter;
    closing = ap (λ z. bytes_eq z (closing e)) (sym same) ∙ h.0.closing;
  },
  free_alike es l m same h.1,
)

-- The closing line is free where the delimiter is, and where no delimiter around is it.
pub closing_free : (b : List ℕ) (es : List (List ℕ)) → Boundary b → list_any (λ outer. bytes_eq (closing b) (delimiter outer)) es ≡ false → IsFree es (delimiter b) → IsFree es (closing b)
closing_free b [] h usable free = tt
closing_free b (e ∷ es) h usable free =
    let apart = or_parts (bytes_eq (closing b) (delimiter e)) (list_any (λ outer. bytes_eq (closing b) (delimiter outer)) es) usable in (
      record {
        delimiter = ap (λ z. bytes_eq z (delimiter e)) (kept_closing b) ∙ apart.0;
        closing = false_from_ne_true (is_closing e (closing b)) (λ is.
            let closings : closing b ≡ closing e = sym (kept_closing b) ∙ (bytes_eq-Decides (without_blank_end (closing b)) (closing e)).0 is in
            let delimiters : delimiter b ≡ delimiter e = append_cancel_right (delimiter b) (delimiter e) (45 ∷ 45 ∷ []) closings in
            let bad : false ≡ true = sym free.0.delimiter ∙ same_texts (without_blank_end (delimiter b)) (delimiter e) (kept_delimiter b h ∙ delimiters) in
            cc);
      },
      closing_free b es h apart.1 free.1,
    )

-- Pieces

pieces_some : (b : List ℕ) (ls : List (List ℕ)) → pieces b ls ≡ [] → ⊥
pieces_some b [] = λ e. cc
pieces_some b (l ∷ ls) =
    cond_both (is_closing b l) ([] ∷ []) (cond (is_delimiter b l) ([] ∷ pieces b ls) (put l (pieces b ls))) (λ ps. ps ≡ [] → ⊥) (λ _ e. cc)
    (λ _. cond_both (is_delimiter b l) ([] ∷ pieces b ls) (put l (pieces b ls)) (λ ps. ps ≡ [] → ⊥) (λ _ e. cc) (λ _. put_some l (pieces b ls)))
  where
    put_some : {A : Type 0} (x : A) (ps : List (List A)) → put x ps ≡ [] → ⊥
    put_some x [] e = cc
    put_some x (p ∷ ps) e = cc

put-ahead : (l : List ℕ) (ls : List (List ℕ)) (ps : List (List (List ℕ))) → put l (ahead ls ps) ≡ ahead (l ∷ ls) ps
put-ahead l ls [] = refl
put-ahead l ls (p ∷ ps) = refl

ahead_none : (ps : List (List (List ℕ))) → (ps ≡ [] → ⊥) → ahead [] ps ≡ ps
ahead_none [] some = absurd (some refl)
ahead_none (p ∷ ps) some = refl

-- Lines within a part stand in front of the first piece of what is behind them.
pub pieces_within : (b : List ℕ) (es ls rest : List (List ℕ)) → AreInside (b ∷ es) ls → pieces b (ls ++ rest) ≡ ahead ls (pieces b rest)
pieces_within b es [] rest h = sym (ahead_none (pieces b rest) (pieces_some b rest))
pieces_within b es (l ∷ ls) rest h =
    let more = pieces b (ls ++ rest) in
    cond-false (is_closing b l) ([] ∷ []) (cond (is_delimiter b l) ([] ∷ more) (put l more)) h.0.free.0.closing
    ∙ cond-false (is_delimiter b l) ([] ∷ more) (put l more) h.0.free.0.delimiter
    ∙ ap (put l) (pieces_within b es ls rest h.1) ∙ put-ahead l ls (pieces b rest)

pub pieces_delimiter : (b : List ℕ) (ls : List (List ℕ)) → Boundary b → pieces b (delimiter b ∷ ls) ≡ [] ∷ pieces b ls
pieces_delimiter b ls h =
    cond-false (is_closing b (delimiter b)) ([] ∷ []) (cond (is_delimiter b (delimiter b)) ([] ∷ pieces b ls) (put (delimiter b) (pieces b ls))) (delimiter_isnt b h)
    ∙ cond-true (is_delimiter b (delimiter b)) ([] ∷ pieces b ls) (put (delimiter b) (pieces b ls)) (delimiter_is b h)

pub pieces_closing : (b : List ℕ) (ls : List (List ℕ)) → pieces b (closing b ∷ ls) ≡ [] ∷ []
pieces_closing b ls =
    cond-true (is_closing b (closing b)) ([] ∷ []) (cond (is_delimiter b (closing b)) ([] ∷ pieces b ls) (put (closing b) (pieces b ls))) (closing_is b)

-- Each piece lies inside the multipart.

abbrev pub PiecesInside : List (List ℕ) → List (List (List ℕ)) → Type 0
PiecesInside es [] = Unit {0}
PiecesInside es (p ∷ ps) = AreInside es p × PiecesInside es ps

put_inside : (es : List (List ℕ)) (l : List ℕ) (ps : List (List (List ℕ))) → IsInside es l → PiecesInside es ps → PiecesInside es (put l ps)
put_inside es l [] h k = ((h, tt), tt)
put_inside es l (p ∷ ps) h k = ((h, k.0), k.1)

pieces_inside : (b : List ℕ) (es ls : List (List ℕ)) → AreInside es ls → PiecesInside (b ∷ es) (pieces b ls)
pieces_inside b es [] h = (tt, tt)
pieces_inside b es (l ∷ ls) h =
    let more = pieces_inside b es ls h.1 in
    cond_both (is_closing b l) ([] ∷ []) (cond (is_delimiter b l) ([] ∷ pieces b ls) (put l (pieces b ls))) (PiecesInside (b ∷ es)) (λ _. (tt, tt))
    (λ not_closing. cond_both (is_delimiter b l) ([] ∷ pieces b ls) (put l (pieces b ls)) (PiecesInside (b ∷ es)) (λ _. (tt, more))
    (λ not_delimiter. put_inside (b ∷ es) l (pieces b ls)
    (record { free = (record { delimiter = not_delimiter; closing = not_closing }, h.0.free); no_zero = h.0.no_zero; no_lf = h.0.no_lf }) more))

behind_inside : (es : List (List ℕ)) (ps : List (List (List ℕ))) → PiecesInside es ps → PiecesInside es (behind_first ps)
behind_inside es [] h = tt
behind_inside es (p ∷ ps) h = h.1

-- Texts whose lines lie inside.
abbrev pub TextsInside : List (List ℕ) → List (List ℕ) → Type 0
TextsInside es [] = Unit {0}
TextsInside es (p ∷ ps) = AreInside es (lines p) × TextsInside es ps

joined_texts : (es : List (List ℕ)) → ((ls : List (List ℕ)) → AreInside es ls → AreInside es (lines (joined ls))) → (ps : List (List (List ℕ))) → PiecesInside es ps → TextsInside es (map joined ps)
joined_texts es one [] h = tt
joined_texts es one (p ∷ ps) h = (one p h.0, joined_texts es one ps h.1)

pub parts_inside : (b : List ℕ) (es : List (List ℕ)) (text : List ℕ) → ((ls : List (List ℕ)) → AreInside (b ∷ es) ls → AreInside (b ∷ es) (lines (joined ls))) →
    AreInside es (lines text) → TextsInside (b ∷ es) (parts b text)
parts_inside b es text one h =
    joined_texts (b ∷ es) one (behind_first (pieces b (lines text))) (behind_inside (b ∷ es) (pieces b (lines text)) (pieces_inside b es (lines text) h))

-- A multipart with a part has a delimiter, which is none of a multipart around it.

behind_put : (l : List ℕ) (ps : List (List (List ℕ))) → length (behind_first (put l ps)) ≡ length (behind_first ps)
behind_put l [] = refl
behind_put l (p ∷ ps) = refl

pub found : (b : List ℕ) (es ls : List (List ℕ)) → Boundary b → AreInside es ls → 0 < length (behind_first (pieces b ls)) → IsFree es (delimiter b)
found b es [] h inside some = absurd (omega arith)
found b es (l ∷ ls) h inside some = elim (cases_Bool (is_closing b l)) [
  | inl closes ↦
      let none : length (behind_first (pieces b (l ∷ ls))) ≡ 0 =
      ap (λ ps. length (behind_first ps)) (cond-true (is_closing b l) ([] ∷ []) (cond (is_delimiter b l) ([] ∷ pieces b ls) (put l (pieces b ls))) closes) in
      absurd (omega (arith, none, some))
  | inr opens ↦ elim (cases_Bool (is_delimiter b l)) [
    | inl is ↦
        free_alike es l (delimiter b) ((bytes_eq-Decides (without_blank_end l) (delimiter b)).0 is ∙ sym (kept_delimiter b h)) inside.0.free
    | inr isnt ↦
        let same : length (behind_first (pieces b (l ∷ ls))) ≡ length (behind_first (pieces b ls)) =
        ap (λ ps. length (behind_first ps))
        (cond-false (is_closing b l) ([] ∷ []) (cond (is_delimiter b l) ([] ∷ pieces b ls) (put l (pieces b ls))) opens
        ∙ cond-false (is_delimiter b l) ([] ∷ pieces b ls) (put l (pieces b ls)) isnt) ∙ behind_put l (pieces b ls) in
        found b es ls h inside.1 (omega (arith, same, some))
  ]
]
