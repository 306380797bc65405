-- A text that is cut into pieces is spelled as these pieces.
use Rattle.std.proofs.Common.{◌≡◌, ℕ, zero, suc, ◌+◌, ◌-◌, true, false, ◌&&◌, ◌||◌, not, cond, eqb, List, [], ◌∷◌, ◌++◌, Option, Some, None, refl, sym, ◌∙◌, ap, subst, inl, inr, arith}
use Rattle.std.proofs.lemmas.Bool.{cond_both, cases_Bool, cond-true, cond-false, eqb-true, eqb-false, and_parts, and_from, or_cases, or_from, not_from_false}
use Rattle.std.proofs.lemmas.List.{append_assoc}
use Rattle.mail_text.specs.Texts.{begins, is_blank}
use Rattle.address_grammar.specs.declared.pieces.Special.{Special}
use Rattle.address_grammar.specs.declared.pieces.Special.TheVariants.{Comma, Colon, Semicolon, Open, Close, At}
use Rattle.address_grammar.specs.declared.pieces.Piece.{Piece}
use Rattle.address_grammar.specs.declared.pieces.Piece.TheVariants.{Run, Quoted, Comment, Literal, Mark, Blank}
use Rattle.address_grammar.specs.Pieces.{is_plain, before, with_byte, onto, apart, marked, special_of, depth_behind, pieces, in_run, in_quotes, quotes_pair, in_comment, comment_pair, in_literal}
use Rattle.address_grammar.specs.Spelling.{Inside, spelled, content, is_quoted, is_remark, are_plain, are_literal, special_text, IsSpelled, EndsBefore, IsText}
use Rattle.address_grammar.specs.Spelling.Inside.{nothing, byte, pair, comment}

-- What a reading of a text tells, where there is one.
abbrev pub TextIs : List ℕ → Option (List Piece) → Type 0
TextIs text None = Unit {0}
TextIs text (Some ps) = IsText ps text

-- The same where the first piece was begun before.
abbrev pub Begun : (List ℕ → Piece → List ℕ → Type 0) → List ℕ → Option (List Piece) → Type 0
Begun First text None = Unit {0}
Begun First text (Some []) = ⊥
Begun First text (Some (p ∷ ps)) = (rest : List ℕ) × First text p rest × IsText ps rest

-- The rest of a run.
record IsRunRest (text : List ℕ) (p : Piece) (rest : List ℕ) : Type 0 where
  x : List ℕ
  piece : p ≡ Run x
  plain : are_plain x ≡ true
  is : text ≡ x ++ rest
  stops : begins is_plain rest ≡ false

-- The rest of a quoted string.
record IsQuotesRest (text : List ℕ) (p : Piece) (rest : List ℕ) : Type 0 where
  i : Inside
  piece : p ≡ Quoted (content i)
  good : is_quoted i ≡ true
  is : text ≡ spelled i ++ 34 ∷ rest

-- The rest of a comment with so many others open in it.
abbrev pub Closes : ℕ → List ℕ → List ℕ → List ℕ → Type 0
Closes zero text x rest = (i : Inside) × (is_remark i ≡ true) × (text ≡ spelled i ++ 41 ∷ rest) × (x ≡ content i)
Closes (suc depth) text x rest =
    (i : Inside) × (after : List ℕ) × (y : List ℕ) × (is_remark i ≡ true) × (text ≡ spelled i ++ 41 ∷ after) × (x ≡ content i ++ 41 ∷ y) × Closes depth after y rest

record IsCommentRest (depth : ℕ) (text : List ℕ) (p : Piece) (rest : List ℕ) : Type 0 where
  x : List ℕ
  piece : p ≡ Comment x
  closes : Closes depth text x rest

-- The rest of a domain literal.
record IsLiteralRest (text : List ℕ) (p : Piece) (rest : List ℕ) : Type 0 where
  y : List ℕ
  piece : p ≡ Literal (y ++ 93 ∷ [])
  good : are_literal y ≡ true
  is : text ≡ y ++ 93 ∷ rest

-- One step in front of the first piece.
begun_onto : (First Then : List ℕ → Piece → List ℕ → Type 0) (c : ℕ) (text more : List ℕ) (ps : Option (List Piece)) →
    ((p : Piece) (rest : List ℕ) → First text p rest → Then more (with_byte c p) rest) → Begun First text ps → Begun Then more (onto c ps)
begun_onto First Then c text more None keeps b = tt
begun_onto First Then c text more (Some []) keeps b = b
begun_onto First Then c text more (Some (p ∷ ps)) keeps b = (b.0, keeps p b.0 b.1, b.2)

begun_before : (First : List ℕ → Piece → List ℕ → Type 0) (text rest : List ℕ) (p : Piece) (ps : Option (List Piece)) → First text p rest → TextIs rest ps → Begun First text (before p ps)
begun_before First text rest p None f t = tt
begun_before First text rest p (Some ps) f t = (rest, f, t)

-- A begun piece that is whole.
whole : (First : List ℕ → Piece → List ℕ → Type 0) (text more : List ℕ) (ps : Option (List Piece)) →
    ((p : Piece) (rest : List ℕ) → First text p rest → (here : List ℕ) × IsSpelled p here × (more ≡ here ++ rest) × EndsBefore p rest) → Begun First text ps → TextIs more ps
whole First text more None spells b = tt
whole First text more (Some []) spells b = absurd b
whole First text more (Some (p ∷ ps)) spells b = let s = spells p b.0 b.1 in (s.0, b.0, s.1, s.2, s.3, b.2)

whole_one : (here rest : List ℕ) (p : Piece) (ps : Option (List Piece)) → IsSpelled p here → EndsBefore p rest → TextIs rest ps → TextIs (here ++ rest) (before p ps)
whole_one here rest p None s e t = tt
whole_one here rest p (Some ps) s e t = (here, rest, s, refl, e, t)

-- Runs

run_byte : (c : ℕ) (text : List ℕ) → is_plain c ≡ true → (p : Piece) (rest : List ℕ) → IsRunRest text p rest → IsRunRest (c ∷ text) (with_byte c p) rest
run_byte c text plain p rest r = record {
  x = c ∷ r.x;
  piece = ap (with_byte c) r.piece;
  plain = and_from (is_plain c) (are_plain r.x) plain r.plain;
  is = ap (λ z. c ∷ z) r.is;
  stops = r.stops;
}

run_whole : (c : ℕ) (text : List ℕ) → is_plain c ≡ true → (p : Piece) (rest : List ℕ) → IsRunRest text p rest →
    (here : List ℕ) × IsSpelled (with_byte c p) here × (c ∷ text ≡ here ++ rest) × EndsBefore (with_byte c p) rest
run_whole c text plain p rest r =
    subst (λ q. (here : List ℕ) × IsSpelled (with_byte c q) here × (c ∷ text ≡ here ++ rest) × EndsBefore (with_byte c q) rest) (sym r.piece)
    (c ∷ r.x, (refl, and_from (is_plain c) (are_plain r.x) plain r.plain), ap (λ z. c ∷ z) r.is, r.stops)

-- Quoted strings

quotes_byte : (c : ℕ) (text : List ℕ) → (eqb c 34 || eqb c 92) ≡ false → (p : Piece) (rest : List ℕ) → IsQuotesRest text p rest → IsQuotesRest (c ∷ text) (with_byte c p) rest
quotes_byte c text good p rest q = record {
  i = byte c q.i;
  piece = ap (with_byte c) q.piece;
  good = and_from (not (eqb c 34 || eqb c 92)) (is_quoted q.i) (not_from_false (eqb c 34 || eqb c 92) good) q.good;
  is = ap (λ z. c ∷ z) q.is;
}

quotes_pair_byte : (c : ℕ) (text : List ℕ) (p : Piece) (rest : List ℕ) → IsQuotesRest text p rest → IsQuotesRest (92 ∷ c ∷ text) (with_byte c p) rest
quotes_pair_byte c text p rest q = record { i = pair c q.i; piece = ap (with_byte c) q.piece; good = q.good; is = ap (λ z. 92 ∷ c ∷ z) q.is }

quotes_whole : (text : List ℕ) (p : Piece) (rest : List ℕ) → IsQuotesRest text p rest → (here : List ℕ) × IsSpelled p here × (34 ∷ text ≡ here ++ rest) × EndsBefore p rest
quotes_whole text p rest q =
    subst (λ z. (here : List ℕ) × IsSpelled z here × (34 ∷ text ≡ here ++ rest) × EndsBefore z rest) (sym q.piece)
    (34 ∷ (spelled q.i ++ 34 ∷ []), (q.i, q.good, refl, refl), ap (λ z. 34 ∷ z) (q.is ∙ sym (append_assoc (spelled q.i) (34 ∷ []) rest)), tt)

-- Comments

closes_byte : (depth c : ℕ) (text x rest : List ℕ) → (eqb c 40 || (eqb c 41 || eqb c 92)) ≡ false → Closes depth text x rest → Closes depth (c ∷ text) (c ∷ x) rest
closes_byte zero c text x rest good (i, r, is, same) =
    (byte c i, and_from (not (eqb c 40 || (eqb c 41 || eqb c 92))) (is_remark i) (not_from_false (eqb c 40 || (eqb c 41 || eqb c 92)) good) r, ap (λ z. c ∷ z) is, ap (λ z. c ∷ z) same)
closes_byte (suc depth) c text x rest good (i, after, y, r, is, same, more) = (
  byte c i,
  after,
  y,
  and_from (not (eqb c 40 || (eqb c 41 || eqb c 92))) (is_remark i) (not_from_false (eqb c 40 || (eqb c 41 || eqb c 92)) good) r,
  ap (λ z. c ∷ z) is,
  ap (λ z. c ∷ z) same,
  more,
)

closes_pair : (depth c : ℕ) (text x rest : List ℕ) → Closes depth text x rest → Closes depth (92 ∷ c ∷ text) (c ∷ x) rest
closes_pair zero c text x rest (i, r, is, same) = (pair c i, r, ap (λ z. 92 ∷ c ∷ z) is, ap (λ z. c ∷ z) same)
closes_pair (suc depth) c text x rest (i, after, y, r, is, same, more) = (pair c i, after, y, r, ap (λ z. 92 ∷ c ∷ z) is, ap (λ z. c ∷ z) same, more)

-- The comment that opens here is closed, and what is behind it.
inner_text : (i j : Inside) (text after rest : List ℕ) → text ≡ spelled i ++ 41 ∷ after → after ≡ spelled j ++ 41 ∷ rest → 40 ∷ text ≡ spelled (comment i j) ++ 41 ∷ rest
inner_text i j text after rest is more =
    ap (λ z. 40 ∷ z) (is ∙ ap (λ z. spelled i ++ 41 ∷ z) more ∙ sym (append_assoc (spelled i) (41 ∷ spelled j) (41 ∷ rest)))

closes_open : (depth : ℕ) (text x rest : List ℕ) → Closes (suc depth) text x rest → Closes depth (40 ∷ text) (40 ∷ x) rest
closes_open zero text x rest (i, after, y, r, is, same, (j, q, more, last)) = (
  comment i j,
  and_from (is_remark i) (is_remark j) r q,
  inner_text i j text after rest is more,
  ap (λ z. 40 ∷ z) (same ∙ ap (λ z. content i ++ 41 ∷ z) last),
)
closes_open (suc depth) text x rest (i, after, y, r, is, same, (j, left, z, q, more, last, others)) = (
  comment i j,
  left,
  z,
  and_from (is_remark i) (is_remark j) r q,
  inner_text i j text after left is more,
  ap (λ w. 40 ∷ w) (same ∙ ap (λ w. content i ++ 41 ∷ w) last ∙ sym (append_assoc (content i) (41 ∷ content j) (41 ∷ z))),
  others,
)

closes_shut : (depth : ℕ) (text x rest : List ℕ) → Closes depth text x rest → Closes (suc depth) (41 ∷ text) (41 ∷ x) rest
closes_shut depth text x rest more = (nothing, text, x, refl, refl, refl, more)

comment_step : (depth next c : ℕ) (text more : List ℕ) → ((x rest : List ℕ) → Closes next text x rest → Closes depth more (c ∷ x) rest) →
    (p : Piece) (rest : List ℕ) → IsCommentRest next text p rest → IsCommentRest depth more (with_byte c p) rest
comment_step depth next c text more keeps p rest r = record { x = c ∷ r.x; piece = ap (with_byte c) r.piece; closes = keeps r.x rest r.closes }

comment_whole : (text : List ℕ) (p : Piece) (rest : List ℕ) → IsCommentRest 0 text p rest → (here : List ℕ) × IsSpelled p here × (40 ∷ text ≡ here ++ rest) × EndsBefore p rest
comment_whole text p rest r =
    let c = r.closes in
    let i = c.0 in
    subst (λ z. (here : List ℕ) × IsSpelled z here × (40 ∷ text ≡ here ++ rest) × EndsBefore z rest) (sym (r.piece))
    (40 ∷ (spelled i ++ 41 ∷ []), (i, c.1, refl, c.3), ap (λ z. 40 ∷ z) (c.2 ∙ sym (append_assoc (spelled i) (41 ∷ []) rest)), tt)

-- Domain literals

literal_byte : (c : ℕ) (text : List ℕ) → eqb c 93 ≡ false → (eqb c 91 || eqb c 92) ≡ false → (p : Piece) (rest : List ℕ) → IsLiteralRest text p rest → IsLiteralRest (c ∷ text) (with_byte c p) rest
literal_byte c text end bad p rest r = record {
  y = c ∷ r.y;
  piece = ap (with_byte c) r.piece;
  good = and_from (not (eqb c 93 || (eqb c 91 || eqb c 92))) (are_literal r.y) (not_from_false (eqb c 93 || (eqb c 91 || eqb c 92)) (or_from (eqb c 93) (eqb c 91 || eqb c 92) end bad)) r.good;
  is = ap (λ z. c ∷ z) r.is;
}

literal_whole : (text : List ℕ) (p : Piece) (rest : List ℕ) → IsLiteralRest text p rest →
    (here : List ℕ) × IsSpelled (with_byte 91 p) here × (91 ∷ text ≡ here ++ rest) × EndsBefore (with_byte 91 p) rest
literal_whole text p rest r =
    subst (λ z. (here : List ℕ) × IsSpelled (with_byte 91 z) here × (91 ∷ text ≡ here ++ rest) × EndsBefore (with_byte 91 z) rest) (sym r.piece)
    (91 ∷ (r.y ++ 93 ∷ []), (r.y, r.good, refl, refl), ap (λ z. 91 ∷ z) (r.is ∙ sym (append_assoc r.y (93 ∷ []) rest)), tt)

-- A begun piece that is whole with one more byte in front.
whole_onto : (First : List ℕ → Piece → List ℕ → Type 0) (c : ℕ) (text more : List ℕ) (ps : Option (List Piece)) →
    ((p : Piece) (rest : List ℕ) → First text p rest → (here : List ℕ) × IsSpelled (with_byte c p) here × (more ≡ here ++ rest) × EndsBefore (with_byte c p) rest) → Begun First text ps →
    TextIs more (onto c ps)
whole_onto First c text more None spells b = tt
whole_onto First c text more (Some []) spells b = absurd b
whole_onto First c text more (Some (p ∷ ps)) spells b = let s = spells p b.0 b.1 in (s.0, b.0, s.1, s.2, s.3, b.2)

-- What the functions give for a text.
record IsCut (text : List ℕ) : Type 0 where
  outside : TextIs text (pieces text)
  run : Begun IsRunRest text (in_run text)
  quotes : Begun IsQuotesRest text (in_quotes text)
  quotes_behind : Begun IsQuotesRest (92 ∷ text) (quotes_pair text)
  remark : (depth : ℕ) → Begun (IsCommentRest depth) text (in_comment depth text)
  remark_behind : (depth : ℕ) → Begun (IsCommentRest depth) (92 ∷ text) (comment_pair depth text)
  literal : Begun IsLiteralRest text (in_literal text)

cut_none : IsCut []
unfolding pieces in_run in_quotes quotes_pair in_comment comment_pair in_literal
cut_none = record {
  outside = refl;
  run = ([], record { x = []; piece = refl; plain = refl; is = refl; stops = refl }, refl);
  quotes = tt;
  quotes_behind = tt;
  remark = λ depth. tt;
  remark_behind = λ depth. tt;
  literal = tt;
}

blank_spelled : (c : ℕ) → is_blank c ≡ true → IsSpelled Blank (c ∷ [])
blank_spelled c is =
    elim (or_cases (eqb c 32) (eqb c 9) is) [
      | inl one ↦ inl (ap (λ b. b ∷ []) (eqb-true c 32 one))
      | inr two ↦ inr (ap (λ b. b ∷ []) (eqb-true c 9 two))
    ]

special_spelled : (c : ℕ) (cs : List ℕ) (ps : Option (List Piece)) → TextIs cs ps → TextIs (c ∷ cs) (marked (special_of c) ps)
special_spelled c cs ps t =
    let P : Option Special → Type 0 = λ s. TextIs (c ∷ cs) (marked s ps) in
    let one = λ (s : Special) (is : c ∷ [] ≡ special_text s). whole_one (c ∷ []) cs (Mark s) ps is tt t in
    let from_at : Option Special = cond (eqb c 64) (Some At) None in
    let from_close : Option Special = cond (eqb c 62) (Some Close) from_at in
    let from_open : Option Special = cond (eqb c 60) (Some Open) from_close in
    let from_semicolon : Option Special = cond (eqb c 59) (Some Semicolon) from_open in
    let from_colon : Option Special = cond (eqb c 58) (Some Colon) from_semicolon in
    cond_both (eqb c 44) (Some Comma) from_colon P (λ is. one Comma (ap (λ b. b ∷ []) (eqb-true c 44 is)))
    (λ _. cond_both (eqb c 58) (Some Colon) from_semicolon P (λ is. one Colon (ap (λ b. b ∷ []) (eqb-true c 58 is)))
    (λ _. cond_both (eqb c 59) (Some Semicolon) from_open P (λ is. one Semicolon (ap (λ b. b ∷ []) (eqb-true c 59 is)))
    (λ _. cond_both (eqb c 60) (Some Open) from_close P (λ is. one Open (ap (λ b. b ∷ []) (eqb-true c 60 is)))
    (λ _. cond_both (eqb c 62) (Some Close) from_at P (λ is. one Close (ap (λ b. b ∷ []) (eqb-true c 62 is)))
    (λ _. cond_both (eqb c 64) (Some At) None P (λ is. one At (ap (λ b. b ∷ []) (eqb-true c 64 is))) (λ _. tt))))))

cut_apart : (c : ℕ) (cs : List ℕ) → IsCut cs → TextIs (c ∷ cs) (apart c (pieces cs) (in_quotes cs) (in_comment 0 cs) (in_literal cs))
cut_apart c cs h =
    let P : Option (List Piece) → Type 0 = TextIs (c ∷ cs) in
    let marks = marked (special_of c) (pieces cs) in
    let brackets = cond (eqb c 91) (onto 91 (in_literal cs)) marks in
    let parens = cond (eqb c 40) (in_comment 0 cs) brackets in
    cond_both (is_blank c) (before Blank (pieces cs)) (cond (eqb c 34) (in_quotes cs) parens) P
    (λ is. whole_one (c ∷ []) cs Blank (pieces cs) (blank_spelled c is) tt h.outside)
    (λ _. cond_both (eqb c 34) (in_quotes cs) parens P
    (λ is. subst (λ b. TextIs (b ∷ cs) (in_quotes cs)) (sym (eqb-true c 34 is)) (whole IsQuotesRest cs (34 ∷ cs) (in_quotes cs) (quotes_whole cs) h.quotes))
    (λ _. cond_both (eqb c 40) (in_comment 0 cs) brackets P
    (λ is. subst (λ b. TextIs (b ∷ cs) (in_comment 0 cs)) (sym (eqb-true c 40 is)) (whole (IsCommentRest 0) cs (40 ∷ cs) (in_comment 0 cs) (comment_whole cs) (h.remark 0)))
    (λ _. cond_both (eqb c 91) (onto 91 (in_literal cs)) marks P
    (λ is. subst (λ b. TextIs (b ∷ cs) (onto 91 (in_literal cs))) (sym (eqb-true c 91 is)) (whole_onto IsLiteralRest 91 cs (91 ∷ cs) (in_literal cs) (literal_whole cs) h.literal))
    (λ _. special_spelled c cs (pieces cs) h.outside))))

cut_outside : (c : ℕ) (cs : List ℕ) → IsCut cs → TextIs (c ∷ cs) (pieces (c ∷ cs))
unfolding pieces
cut_outside c cs h =
    cond_both (is_plain c) (onto c (in_run cs)) (apart c (pieces cs) (in_quotes cs) (in_comment 0 cs) (in_literal cs)) (TextIs (c ∷ cs))
    (λ is. whole_onto IsRunRest c cs (c ∷ cs) (in_run cs) (run_whole c cs is) h.run) (λ _. cut_apart c cs h)

cut_run : (c : ℕ) (cs : List ℕ) → IsCut cs → Begun IsRunRest (c ∷ cs) (in_run (c ∷ cs))
unfolding in_run
cut_run c cs h =
    let others = apart c (pieces cs) (in_quotes cs) (in_comment 0 cs) (in_literal cs) in
    cond_both (is_plain c) (onto c (in_run cs)) (before (Run []) others) (Begun IsRunRest (c ∷ cs))
    (λ is. begun_onto IsRunRest IsRunRest c cs (c ∷ cs) (in_run cs) (run_byte c cs is) h.run)
    (λ isnt. begun_before IsRunRest (c ∷ cs) (c ∷ cs) (Run []) others (record { x = []; piece = refl; plain = refl; is = refl; stops = isnt }) (cut_apart c cs h))

cut_quotes : (c : ℕ) (cs : List ℕ) → IsCut cs → Begun IsQuotesRest (c ∷ cs) (in_quotes (c ∷ cs))
unfolding in_quotes
cut_quotes c cs h =
    let P : Option (List Piece) → Type 0 = Begun IsQuotesRest (c ∷ cs) in
    cond_both (eqb c 34) (before (Quoted []) (pieces cs)) (cond (eqb c 92) (quotes_pair cs) (onto c (in_quotes cs))) P
    (λ is. begun_before IsQuotesRest (c ∷ cs) cs (Quoted []) (pieces cs) (record { i = nothing; piece = refl; good = refl; is = ap (λ b. b ∷ cs) (eqb-true c 34 is) }) h.outside)
    (λ isnt. cond_both (eqb c 92) (quotes_pair cs) (onto c (in_quotes cs)) P
    (λ is. subst (λ b. Begun IsQuotesRest (b ∷ cs) (quotes_pair cs)) (sym (eqb-true c 92 is)) h.quotes_behind)
    (λ other. begun_onto IsQuotesRest IsQuotesRest c cs (c ∷ cs) (in_quotes cs) (quotes_byte c cs (or_from (eqb c 34) (eqb c 92) isnt other)) h.quotes))

cut_quotes_pair : (c : ℕ) (cs : List ℕ) → IsCut cs → Begun IsQuotesRest (92 ∷ c ∷ cs) (quotes_pair (c ∷ cs))
unfolding quotes_pair
cut_quotes_pair c cs h = begun_onto IsQuotesRest IsQuotesRest c cs (92 ∷ c ∷ cs) (in_quotes cs) (quotes_pair_byte c cs) h.quotes

-- A byte of a comment that doesn't end it.
inner_byte : (depth c : ℕ) (text : List ℕ) → eqb c 92 ≡ false → (eqb c 41 && eqb depth 0) ≡ false → (x rest : List ℕ) → Closes (depth_behind depth c) text x rest → Closes depth (c ∷ text) (c ∷ x) rest
inner_byte depth c text escape shut x rest more =
    elim (cases_Bool (eqb c 40)) [
      | inl is ↦
          let deeper : depth_behind depth c ≡ suc depth = cond-true (eqb c 40) (depth + 1) (cond (eqb c 41) (depth - 1) depth) is ∙ (let e : depth + 1 ≡ suc depth = omega arith in e) in
          subst (λ b. Closes depth (b ∷ text) (b ∷ x) rest) (sym (eqb-true c 40 is)) (closes_open depth text x rest (subst (λ d. Closes d text x rest) deeper more))
      | inr not_open ↦
          elim (cases_Bool (eqb c 41)) [
            | inl is ↦
                let back : depth_behind depth c ≡ depth - 1 = cond-false (eqb c 40) (depth + 1) (cond (eqb c 41) (depth - 1) depth) not_open ∙ cond-true (eqb c 41) (depth - 1) depth is in
                let inner : eqb depth 0 ≡ false = sym (ap (λ t. t && eqb depth 0) is) ∙ shut in
                let some = eqb-false depth 0 inner in
                let one : suc (depth - 1) ≡ depth = omega (arith, some) in
                subst (λ b. Closes depth (b ∷ text) (b ∷ x) rest) (sym (eqb-true c 41 is))
                (subst (λ d. Closes d (41 ∷ text) (41 ∷ x) rest) one (closes_shut (depth - 1) text x rest (subst (λ d. Closes d text x rest) back more)))
            | inr not_shut ↦
                let same : depth_behind depth c ≡ depth = cond-false (eqb c 40) (depth + 1) (cond (eqb c 41) (depth - 1) depth) not_open ∙ cond-false (eqb c 41) (depth - 1) depth not_shut in
                closes_byte depth c text x rest (or_from (eqb c 40) (eqb c 41 || eqb c 92) not_open (or_from (eqb c 41) (eqb c 92) not_shut escape)) (subst (λ d. Closes d text x rest) same more)
          ]
    ]

cut_comment : (depth c : ℕ) (cs : List ℕ) → IsCut cs → Begun (IsCommentRest depth) (c ∷ cs) (in_comment depth (c ∷ cs))
unfolding in_comment
cut_comment depth c cs h =
    let P : Option (List Piece) → Type 0 = Begun (IsCommentRest depth) (c ∷ cs) in
    let next = depth_behind depth c in
    let more = onto c (in_comment next cs) in
    let inner = cond (eqb c 41 && eqb depth 0) (before (Comment []) (pieces cs)) more in
    cond_both (eqb c 92) (comment_pair depth cs) inner P
    (λ is. subst (λ b. Begun (IsCommentRest depth) (b ∷ cs) (comment_pair depth cs)) (sym (eqb-true c 92 is)) (h.remark_behind depth))
    (λ escape. cond_both (eqb c 41 && eqb depth 0) (before (Comment []) (pieces cs)) more P
    (λ is.
    let parts = and_parts (eqb c 41) (eqb depth 0) is in
    subst (λ d. Begun (IsCommentRest d) (c ∷ cs) (before (Comment []) (pieces cs))) (sym (eqb-true depth 0 parts.1))
    (begun_before (IsCommentRest 0) (c ∷ cs) cs (Comment []) (pieces cs)
    (record { x = []; piece = refl; closes = (nothing, refl, ap (λ b. b ∷ cs) (eqb-true c 41 parts.0), refl) }) h.outside))
    (λ shut. begun_onto (IsCommentRest next) (IsCommentRest depth) c cs (c ∷ cs) (in_comment next cs) (comment_step depth next c cs (c ∷ cs) (inner_byte depth c cs escape shut)) (h.remark next)))

cut_comment_pair : (depth c : ℕ) (cs : List ℕ) → IsCut cs → Begun (IsCommentRest depth) (92 ∷ c ∷ cs) (comment_pair depth (c ∷ cs))
unfolding comment_pair
cut_comment_pair depth c cs h =
    begun_onto (IsCommentRest depth) (IsCommentRest depth) c cs (92 ∷ c ∷ cs) (in_comment depth cs) (comment_step depth depth c cs (92 ∷ c ∷ cs) (closes_pair depth c cs)) (h.remark depth)

cut_literal : (c : ℕ) (cs : List ℕ) → IsCut cs → Begun IsLiteralRest (c ∷ cs) (in_literal (c ∷ cs))
unfolding in_literal
cut_literal c cs h =
    let P : Option (List Piece) → Type 0 = Begun IsLiteralRest (c ∷ cs) in
    let more = onto c (in_literal cs) in
    cond_both (eqb c 93) (before (Literal (93 ∷ [])) (pieces cs)) (cond (eqb c 91 || eqb c 92) None more) P
    (λ is. begun_before IsLiteralRest (c ∷ cs) cs (Literal (93 ∷ [])) (pieces cs) (record { y = []; piece = refl; good = refl; is = ap (λ b. b ∷ cs) (eqb-true c 93 is) }) h.outside)
    (λ end. cond_both (eqb c 91 || eqb c 92) None more P (λ _. tt)
    (λ bad. begun_onto IsLiteralRest IsLiteralRest c cs (c ∷ cs) (in_literal cs) (literal_byte c cs end bad) h.literal))

all_cut : (text : List ℕ) → IsCut text
all_cut [] = cut_none
all_cut (c ∷ cs) =
    let h = all_cut cs in
    record {
      outside = cut_outside c cs h;
      run = cut_run c cs h;
      quotes = cut_quotes c cs h;
      quotes_behind = cut_quotes_pair c cs h;
      remark = λ depth. cut_comment depth c cs h;
      remark_behind = λ depth. cut_comment_pair depth c cs h;
      literal = cut_literal c cs h;
    }

pub text_of_pieces : (text : List ℕ) (ps : List Piece) → pieces text ≡ Some ps → IsText ps text
text_of_pieces text ps e = subst (TextIs text) e (all_cut text).outside
