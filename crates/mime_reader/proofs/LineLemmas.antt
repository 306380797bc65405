-- Texts and their lines.
use Rattle.std.proofs.Common.{◌≡◌, ℕ, ◌+◌, ◌-◌, ◌*◌, ◌≤◌, Bool, true, false, cond, ◌&&◌, eqb, List, [], ◌∷◌, ◌++◌, length, take, drop, refl, sym, ◌∙◌, ap, subst, inl, inr, arith, length-append, take-append-drop}
use Rattle.std.proofs.lemmas.Bool.{cond_both, and_parts, eqb-true}
use Rattle.std.proofs.lemmas.List.{append_assoc, append_cancel_left, drop_all}
use Rattle.std.proofs.Math.Seq.{drop-append_seam, take-append_seam}
use Rattle.mail_text.specs.Texts.{begins}
use Rattle.mail_text.specs.Lines.{put, is_lf, lines, joined, IsCrlf, AreLines, IsFirstLine, LineLaws}
use Rattle.header_reader.specs.Fields.{header, body}
use Rattle.header_reader.specs.Places.{StandsBehind, IsBodyPlace}

-- Lines, each with its CRLF.
abbrev pub ended : List (List ℕ) → List ℕ
ended [] = []
ended (l ∷ ls) = l ++ 13 ∷ 10 ∷ ended ls

pub ended-snoc : (ls : List (List ℕ)) (l rest : List ℕ) → ended (ls ++ l ∷ []) ++ rest ≡ ended ls ++ (l ++ 13 ∷ 10 ∷ rest)
ended-snoc [] l rest = append_assoc l (13 ∷ 10 ∷ []) rest
ended-snoc (m ∷ ls) l rest =
    append_assoc m (13 ∷ 10 ∷ ended (ls ++ l ∷ [])) rest ∙ ap (λ z. m ++ 13 ∷ 10 ∷ z) (ended-snoc ls l rest)
    ∙ sym (append_assoc m (13 ∷ 10 ∷ ended ls) (l ++ 13 ∷ 10 ∷ rest))

-- Lines that are joined have no line end behind the last.
pub ended-joined : (l : List ℕ) (ls : List (List ℕ)) → ended (l ∷ ls) ≡ joined (l ∷ ls) ++ 13 ∷ 10 ∷ []
ended-joined l [] = refl
ended-joined l (m ∷ ls) = ap (λ z. l ++ 13 ∷ 10 ∷ z) (ended-joined m ls) ∙ sym (append_assoc l (13 ∷ 10 ∷ joined (m ∷ ls)) (13 ∷ 10 ∷ []))

front_of : (x y : List ℕ) → take (length (x ++ 13 ∷ 10 ∷ []) - 2) ((x ++ 13 ∷ 10 ∷ []) ++ y) ≡ x
front_of x y =
    let short : length (x ++ 13 ∷ 10 ∷ []) - 2 ≡ length x = omega (arith, length-append x (13 ∷ 10 ∷ [])) in
    ap (λ n. take n ((x ++ 13 ∷ 10 ∷ []) ++ y)) short ∙ ap (take (length x)) (append_assoc x (13 ∷ 10 ∷ []) y) ∙ take-append_seam x (13 ∷ 10 ∷ y)

-- What stands before the last line end.
pub joined_front : (ls : List (List ℕ)) (rest : List ℕ) → take (length (ended ls) - 2) (ended ls ++ rest) ≡ joined ls
joined_front [] rest = refl
joined_front (l ∷ ls) rest =
    ap (λ z. take (length z - 2) (z ++ rest)) (ended-joined l ls) ∙ front_of (joined (l ∷ ls)) rest

pub joined_more : (l : List ℕ) (ls : List (List ℕ)) → AreLines ls → joined (l ∷ ls) ≡ l ++ 13 ∷ 10 ∷ joined ls
joined_more l [] h = absurd h
joined_more l (m ∷ ls) h = refl

pub joined_put : (c : ℕ) (ls : List (List ℕ)) → AreLines ls → joined (put c ls) ≡ c ∷ joined ls
joined_put c [] h = absurd h
joined_put c (l ∷ []) h = refl
joined_put c (l ∷ m ∷ ls) h = refl

AreLines_front : (l : List ℕ) (ls ms : List (List ℕ)) → AreLines (l ∷ (ls ++ ms)) → AreLines (l ∷ ls)
AreLines_front l [] [] h = h
AreLines_front l [] (m ∷ ms) h = h.0
AreLines_front l (m ∷ ls) ms h = (h.0, AreLines_front m ls ms h.1)

pub body_lines : (ls : List (List ℕ)) (m : List ℕ) (ms : List (List ℕ)) → body ls ≡ m ∷ ms → ls ≡ header ls ++ [] ∷ m ∷ ms
body_lines [] m ms e = absurd (cc)
body_lines ([] ∷ ls) m ms e = ap (λ z. [] ∷ z) e
body_lines ((c ∷ l) ∷ ls) m ms e = ap (λ z. (c ∷ l) ∷ z) (body_lines ls m ms e)

-- Lines with an empty one among them, joined: what stands up to its end, and what stands behind.
pub joined_at : (hs : List (List ℕ)) (m : List ℕ) (ms : List (List ℕ)) → joined (hs ++ [] ∷ m ∷ ms) ≡ joined (hs ++ [] ∷ [] ∷ []) ++ joined (m ∷ ms)
joined_at [] m ms = refl
joined_at (h ∷ []) m ms = sym (append_assoc h (13 ∷ 10 ∷ 13 ∷ 10 ∷ []) (joined (m ∷ ms)))
joined_at (h ∷ i ∷ hs) m ms =
    ap (λ z. h ++ 13 ∷ 10 ∷ z) (joined_at (i ∷ hs) m ms) ∙ sym (append_assoc h (13 ∷ 10 ∷ joined (i ∷ hs ++ [] ∷ [] ∷ [])) (joined (m ∷ ms)))

-- Two texts that are cut at one place.
pub same_ends : (a b x y : List ℕ) → a ++ b ≡ x ++ y → length a ≡ length x → b ≡ y
same_ends a b x y e h =
    sym (drop-append_seam a b) ∙ ap (drop (length a)) e ∙ ap (λ n. drop n (x ++ y)) h ∙ drop-append_seam x y

-- one where a text begins with a LF
abbrev leads : Bool → ℕ
leads true = 1
leads false = 0

module _ (laws : LineLaws) where
  -- The first line of a text with CRLFs alone.
  pub crlf_first : (text line rest : List ℕ) → IsCrlf text → IsFirstLine text line rest → (text ≡ line ++ 13 ∷ 10 ∷ rest) × IsCrlf rest
  crlf_first text line rest crlf f =
      let whole : line ++ 13 ∷ 10 ∷ joined (lines rest) ≡ line ++ (f.ending ++ rest) =
      sym (ap joined (ap lines f.text_is ∙ f.lines_are rest) ∙ joined_more line (lines rest) (laws.are_lines rest)) ∙ crlf ∙ f.text_is in
      let ends : 13 ∷ 10 ∷ joined (lines rest) ≡ f.ending ++ rest = append_cancel_left line (13 ∷ 10 ∷ joined (lines rest)) (f.ending ++ rest) whole in
      elim f.is_ending [
        | inl two ↦
            let is : 13 ∷ 10 ∷ joined (lines rest) ≡ 13 ∷ 10 ∷ rest = ends ∙ ap (λ z. z ++ rest) two in
            (f.text_is ∙ ap (λ z. line ++ (z ++ rest)) two, append_cancel_left (13 ∷ 10 ∷ []) (joined (lines rest)) rest is)
        | inr one ↦
            let is : 13 ∷ 10 ∷ joined (lines rest) ≡ 10 ∷ rest = ends ∙ ap (λ z. z ++ rest) one in
            absurd (cc)
      ]

  -- Lines of a text, joined.
  pub crlf_joined : (ls ms : List (List ℕ)) (text : List ℕ) → lines text ≡ ls ++ ms → IsCrlf (joined ls)
  crlf_joined [] ms text e = refl
  crlf_joined (l ∷ ls) ms text e =
      ap joined (laws.read_again (l ∷ ls) (AreLines_front l ls ms (subst AreLines e (laws.are_lines text))))

  pub lines_again : (x : List ℕ) → lines (joined (lines x)) ≡ lines x
  lines_again x = laws.read_again (lines x) (laws.are_lines x)

  -- A bare LF becomes two bytes.
  longer : (x : List ℕ) → length x + leads (begins is_lf x) ≤ length (joined (lines x))
  longer [] = omega arith
  longer (c ∷ cs) =
      let rest = longer cs in
      let P = λ (ls : List (List ℕ)). length (c ∷ cs) + leads (eqb c 10) ≤ length (joined ls) in
      cond_both (eqb c 13 && begins is_lf cs) (lines cs) (cond (eqb c 10) ([] ∷ lines cs) (put c (lines cs))) P
      (λ t.
      let parts = and_parts (eqb c 13) (begins is_lf cs) t in
      let none : leads (eqb c 10) ≡ 0 = ap (λ n. leads (eqb n 10)) (eqb-true c 13 parts.0) in
      let one : leads (begins is_lf cs) ≡ 1 = ap leads parts.1 in
      omega arith)
      (λ _. cond_both (eqb c 10) ([] ∷ lines cs) (put c (lines cs)) P
      (λ t.
      let one : leads (eqb c 10) ≡ 1 = ap leads t in
      let more = ap length (joined_more [] (lines cs) (laws.are_lines cs)) in
      omega arith)
      (λ f.
      let none : leads (eqb c 10) ≡ 0 = ap leads f in
      let more = ap length (joined_put c (lines cs) (laws.are_lines cs)) in
      omega arith))

  pub joined_longer : (x : List ℕ) → length x ≤ length (joined (lines x))
  joined_longer x = omega (arith, longer x)

  pub joined_shorter : (x : List ℕ) → length (joined (lines x)) ≤ 2 * length x
  joined_shorter [] = omega arith
  joined_shorter (c ∷ cs) =
      let rest = joined_shorter cs in
      let P = λ (ls : List (List ℕ)). length (joined ls) ≤ 2 * length (c ∷ cs) in
      cond_both (eqb c 13 && begins is_lf cs) (lines cs) (cond (eqb c 10) ([] ∷ lines cs) (put c (lines cs))) P
      (λ _. omega arith)
      (λ _. cond_both (eqb c 10) ([] ∷ lines cs) (put c (lines cs)) P
      (λ _. let more = ap length (joined_more [] (lines cs) (laws.are_lines cs)) in omega arith)
      (λ _. let more = ap length (joined_put c (lines cs) (laws.are_lines cs)) in omega arith))

  crlf_behind : (bs : List (List ℕ)) (text : List ℕ) (place : ℕ) → body (lines text) ≡ bs → IsCrlf text → StandsBehind bs text place → IsCrlf (drop place text)
  crlf_behind [] text place e crlf s = subst IsCrlf (sym (drop_all place text (omega (arith, s)))) refl
  crlf_behind (m ∷ ms) text place e crlf s =
      let t = take place text in
      let d = drop place text in
      let whole : text ≡ joined (lines t) ++ joined (lines d) =
      sym crlf ∙ ap joined (body_lines (lines text) m ms e) ∙ joined_at (header (lines text)) m ms
      ∙ ap (λ z. joined z ++ joined (m ∷ ms)) (sym s.2) ∙ ap (λ z. joined (lines t) ++ joined z) (sym s.1) in
      let both : t ++ d ≡ joined (lines t) ++ joined (lines d) = take-append-drop place text ∙ whole in
      let same : length t ≡ length (joined (lines t)) =
      omega (arith, ap length both, length-append t d, length-append (joined (lines t)) (joined (lines d)), joined_longer t, joined_longer d) in
      sym (same_ends t d (joined (lines t)) (joined (lines d)) both same)

  -- A body in a text with CRLFs alone is one, too.
  pub crlf_place : (text : List ℕ) (place : ℕ) → IsCrlf text → IsBodyPlace text place → IsCrlf (drop place text)
  crlf_place text place crlf at = crlf_behind (body (lines text)) text place refl crlf at

pub place_within : (bs : List (List ℕ)) (text : List ℕ) (place : ℕ) → StandsBehind bs text place → place ≤ length text
place_within [] text place s = omega (arith, s)
place_within (l ∷ ls) text place s = s.0
