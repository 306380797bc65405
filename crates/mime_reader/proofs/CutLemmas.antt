-- Bodies, cut at their delimiters.
use Rattle.std.proofs.Common.{◌≡◌, ℕ, Bor, MatchOption, ◌+◌, ◌-◌, ◌<◌, ◌≤◌, true, false, cond, List, [], ◌∷◌, ◌++◌, map, length, take, Option, Some, None, refl, sym, ◌∙◌, ap, subst, arith, length-append}
use Rattle.std.proofs.lemmas.Bool.{cond-true, cond-false, cond_both}
use Rattle.std.proofs.lemmas.List.{append_assoc, append-nil, length-map}
use Rattle.std.specs.Option.{option_map}
use Rattle.mail_text.specs.Lines.{put, lines, joined, IsCrlf, IsFirstLine, LineLaws}
use Rattle.mime_reader.specs.Bodies.{is_delimiter, is_closing, pieces, behind_first, parts}
use Rattle.mime_reader.specs.Cutting.{texts, IsPiece}
use Rattle.mime_reader.proofs.LineLemmas.{ended, ended-snoc, joined_front, crlf_first, crlf_joined}

-- No line is a delimiter.
abbrev pub AllOther : List ℕ → List (List ℕ) → Type 0
AllOther b [] = Unit {0}
AllOther b (l ∷ ls) = (is_closing b l ≡ false) × (is_delimiter b l ≡ false) × AllOther b ls

others-snoc : (b : List ℕ) (ls : List (List ℕ)) (l : List ℕ) → AllOther b ls → is_closing b l ≡ false → is_delimiter b l ≡ false → AllOther b (ls ++ l ∷ [])
others-snoc b [] l h c d = (c, d, tt)
others-snoc b (m ∷ ls) l h c d = (h.0, h.1, others-snoc b ls l h.2 c d)

-- lines in front of the first of the pieces
abbrev pub puts : List (List ℕ) → List (List (List ℕ)) → List (List (List ℕ))
puts [] ps = ps
puts (l ∷ ls) ps = put l (puts ls ps)

puts-first : (ls p : List (List ℕ)) (ps : List (List (List ℕ))) → puts ls (p ∷ ps) ≡ (ls ++ p) ∷ ps
puts-first [] p ps = refl
puts-first (l ∷ ls) p ps = ap (put l) (puts-first ls p ps)

module _ (b : List ℕ) where
  pieces_other : (l : List ℕ) (ls : List (List ℕ)) → is_closing b l ≡ false → is_delimiter b l ≡ false → pieces b (l ∷ ls) ≡ put l (pieces b ls)
  pieces_other l ls c d =
      cond-false (is_closing b l) ([] ∷ []) (cond (is_delimiter b l) ([] ∷ pieces b ls) (put l (pieces b ls))) c
      ∙ cond-false (is_delimiter b l) ([] ∷ pieces b ls) (put l (pieces b ls)) d

  pieces_closing : (l : List ℕ) (ls : List (List ℕ)) → is_closing b l ≡ true → pieces b (l ∷ ls) ≡ [] ∷ []
  pieces_closing l ls c = cond-true (is_closing b l) ([] ∷ []) (cond (is_delimiter b l) ([] ∷ pieces b ls) (put l (pieces b ls))) c

  pieces_delimiter : (l : List ℕ) (ls : List (List ℕ)) → is_closing b l ≡ false → is_delimiter b l ≡ true → pieces b (l ∷ ls) ≡ [] ∷ pieces b ls
  pieces_delimiter l ls c d =
      cond-false (is_closing b l) ([] ∷ []) (cond (is_delimiter b l) ([] ∷ pieces b ls) (put l (pieces b ls))) c
      ∙ cond-true (is_delimiter b l) ([] ∷ pieces b ls) (put l (pieces b ls)) d

  pieces_others : (ls ms : List (List ℕ)) → AllOther b ls → pieces b (ls ++ ms) ≡ puts ls (pieces b ms)
  pieces_others [] ms h = refl
  pieces_others (l ∷ ls) ms h = pieces_other l (ls ++ ms) h.0 h.1 ∙ ap (put l) (pieces_others ls ms h.2)

  -- the pieces, where these lines are no delimiters and a first piece that is empty follows
  pieces_behind : (ls ms : List (List ℕ)) (ps : List (List (List ℕ))) → AllOther b ls → pieces b ms ≡ [] ∷ ps → pieces b (ls ++ ms) ≡ ls ∷ ps
  pieces_behind ls ms ps h e =
      pieces_others ls ms h ∙ ap (puts ls) e ∙ puts-first ls [] ps ∙ ap (λ z. z ∷ ps) (append-nil ls)

  -- The lines of a text up to a place are no delimiters.
  pub record IsPassed (text rest : List ℕ) : Type 0 where
    pub front : List (List ℕ)
    pub text_is : text ≡ ended front ++ rest
    pub lines_are : lines text ≡ front ++ lines rest
    pub others : AllOther b front
    pub crlf : IsCrlf rest

  pub passed_none : (text : List ℕ) → IsCrlf text → IsPassed text text
  passed_none text crlf = record { front = []; text_is = refl; lines_are = refl; others = tt; crlf = crlf }

  module _ (laws : LineLaws) where
    module _ (text rest : List ℕ) (p : IsPassed text rest) where
      -- What stands before the place, without its line end.
      before : take (length text - length rest - 2) text ≡ joined p.front
      before =
          let e = ap length p.text_is in
          let place : length text - length rest ≡ length (ended p.front) = omega (arith, length-append (ended p.front) rest) in
          ap (λ n. take (n - 2) text) place ∙ ap (take (length (ended p.front) - 2)) p.text_is ∙ joined_front p.front rest

      before_crlf : IsCrlf (take (length text - length rest - 2) text)
      before_crlf = subst IsCrlf (sym before) (crlf_joined laws p.front (lines rest) text p.lines_are)

      -- the texts, where a first piece that is empty is behind the place
      texts_behind : (ps : List (List (List ℕ))) → pieces b (lines rest) ≡ [] ∷ ps → texts b text ≡ take (length text - length rest - 2) text ∷ map joined ps
      texts_behind ps e =
          ap (map joined) (ap (pieces b) p.lines_are ∙ pieces_behind p.front (lines rest) ps p.others e) ∙ ap (λ z. z ∷ map joined ps) (sym before)

      pub within : length rest ≤ length text
      within = let e = ap length p.text_is in omega (arith, length-append (ended p.front) rest)

      pub piece_closed : (l : List ℕ) (ms : List (List ℕ)) → lines rest ≡ l ∷ ms → is_closing b l ≡ true → IsPiece b text (take (length text - length rest - 2) text) None
      piece_closed l ms e c = (texts_behind [] (ap (pieces b) e ∙ pieces_closing l ms c), before_crlf)

      first_is : (line behind : List ℕ) → IsFirstLine rest line behind → lines rest ≡ line ∷ lines behind
      first_is line behind f = ap lines f.text_is ∙ f.lines_are behind

      pub piece_closed_first : (line behind : List ℕ) → IsFirstLine rest line behind → is_closing b line ≡ true → IsPiece b text (take (length text - length rest - 2) text) None
      piece_closed_first line behind f c = piece_closed line (lines behind) (first_is line behind f) c

      pub passed_shorter : (line behind : List ℕ) → IsFirstLine rest line behind → length behind < length rest
      passed_shorter line behind f =
          let cut = crlf_first laws rest line behind p.crlf f in
          let e = ap length cut.0 in
          omega (arith, length-append line (13 ∷ 10 ∷ behind))

      pub piece_delimited : (line behind : List ℕ) → IsFirstLine rest line behind → is_closing b line ≡ false → is_delimiter b line ≡ true →
          IsPiece b text (take (length text - length rest - 2) text) (Some behind)
      piece_delimited line behind f c d =
          let cut = crlf_first laws rest line behind p.crlf f in (
            texts_behind (pieces b (lines behind)) (ap (pieces b) (first_is line behind f) ∙ pieces_delimiter line (lines behind) c d),
            before_crlf,
            cut.1,
            omega (arith, within, passed_shorter line behind f),
          )

      pub passed_more : (line behind : List ℕ) → IsFirstLine rest line behind → is_closing b line ≡ false → is_delimiter b line ≡ false → IsPassed text behind
      passed_more line behind f c d =
          let cut = crlf_first laws rest line behind p.crlf f in
          record {
            front = p.front ++ line ∷ [];
            text_is = p.text_is ∙ ap (λ z. ended p.front ++ z) cut.0 ∙ sym (ended-snoc p.front line behind);
            lines_are = p.lines_are ∙ ap (λ z. p.front ++ z) (first_is line behind f) ∙ sym (append_assoc p.front (line ∷ []) (lines behind));
            others = others-snoc b p.front line p.others c d;
            crlf = cut.1;
          }

      -- a delimiter is no empty line
      delimiter_some : (r : List ℕ) → is_delimiter b r ≡ true → 0 < length r
      delimiter_some [] d = absurd (cc)
      delimiter_some (c ∷ cs) d = omega arith

      pub piece_delimited_last : lines rest ≡ rest ∷ [] → is_closing b rest ≡ false → is_delimiter b rest ≡ true →
          IsPiece b text (take (length text - length rest - 2) text) (Some [])
      piece_delimited_last e c d = (
        texts_behind ([] ∷ []) (ap (pieces b) e ∙ pieces_delimiter rest [] c d),
        before_crlf,
        refl,
        omega (arith, within, delimiter_some rest d),
      )

      pub piece_open : IsCrlf text → lines rest ≡ rest ∷ [] → is_closing b rest ≡ false → is_delimiter b rest ≡ false → IsPiece b text text None
      piece_open crlf e c d =
          let all = p.front ++ rest ∷ [] in
          let are : lines text ≡ all = p.lines_are ∙ ap (λ z. p.front ++ z) e in
          let one : pieces b (lines text) ≡ all ∷ [] =
          ap (pieces b) (are ∙ sym (append-nil all)) ∙ pieces_others all [] (others-snoc b p.front rest p.others c d)
          ∙ puts-first all [] [] ∙ ap (λ z. z ∷ []) (append-nil all) in
          (ap (map joined) one ∙ ap (λ z. joined z ∷ []) (sym are) ∙ ap (λ z. z ∷ []) crlf, crlf)

  -- The texts that are left to be cut.
  abbrev pub left_texts : Option (List ℕ) → List (List ℕ)
  left_texts None = []
  left_texts (Some rest) = texts b rest

  abbrev pub LeftCrlf : Option (List ℕ) → Type 0
  LeftCrlf None = Unit {0}
  LeftCrlf (Some rest) = IsCrlf rest

  map_behind : (ps : List (List (List ℕ))) → map joined (behind_first ps) ≡ behind_first (map joined ps)
  map_behind [] = refl
  map_behind (p ∷ ps) = refl

  put_some : (l : List ℕ) (ps : List (List (List ℕ))) → 0 < length (put l ps)
  put_some l [] = omega arith
  put_some l (p ∷ ps) = omega arith

  pieces_some : (ls : List (List ℕ)) → 0 < length (pieces b ls)
  pieces_some [] = omega arith
  pieces_some (l ∷ ls) =
      cond_both (is_closing b l) ([] ∷ []) (cond (is_delimiter b l) ([] ∷ pieces b ls) (put l (pieces b ls))) (λ ps. 0 < length ps) (λ _. omega arith)
      (λ _. cond_both (is_delimiter b l) ([] ∷ pieces b ls) (put l (pieces b ls)) (λ ps. 0 < length ps) (λ _. omega arith) (λ _. put_some l (pieces b ls)))

  pub texts_some : (text : List ℕ) → 0 < length (texts b text)
  texts_some text = simp length-map (pieces_some (lines text))

  -- The parts are what stands behind the first delimiter.
  pub parts_left : (text piece : List ℕ) (left : Option (Bor (List ℕ))) → IsPiece b text piece (option_map (λ x. x.now) left) →
      MatchOption left (parts b text ≡ []) (λ rest. (parts b text ≡ texts b rest.now) × IsCrlf rest.now)
  parts_left text piece None h = map_behind (pieces b (lines text)) ∙ ap behind_first h.0
  parts_left text piece (Some rest) h = (map_behind (pieces b (lines text)) ∙ ap behind_first h.0, h.2)

  -- A piece is the first of the texts, and the others are left.
  pub piece_first : (rest piece : List ℕ) (left : Option (List ℕ)) → IsPiece b rest piece left → texts b rest ≡ piece ∷ left_texts left
  piece_first rest piece None h = h.0
  piece_first rest piece (Some more) h = h.0

  pub piece_crlf : (rest piece : List ℕ) (left : Option (List ℕ)) → IsPiece b rest piece left → IsCrlf piece
  piece_crlf rest piece None h = h.1
  piece_crlf rest piece (Some more) h = h.1

  pub left_crlf : (rest piece : List ℕ) (left : Option (List ℕ)) → IsPiece b rest piece left → LeftCrlf left
  left_crlf rest piece None h = tt
  left_crlf rest piece (Some more) h = h.2

  -- how much is left to be cut
  abbrev pub left_size : Option (List ℕ) → ℕ
  left_size None = 0
  left_size (Some rest) = length rest + 1

  pub cut_falls : (rest piece : List ℕ) (left : Option (List ℕ)) → IsPiece b rest piece left → left_size left < length rest + 1
  cut_falls rest piece None h = omega arith
  cut_falls rest piece (Some more) h = omega (arith, h.3)
