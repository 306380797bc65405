-- The domains and the shapes of items that were read.
use Rattle.std.proofs.Common.{◌≡◌, ℕ, Bool, true, false, ◌&&◌, ◌||◌, cond, eqb, List, [], ◌∷◌, Option, Some, None, refl, ◌∙◌}
use Rattle.std.proofs.lemmas.Bool.{cond_both, cond-false, and_parts, and_from}
use Rattle.mail_text.specs.Texts.{is_blank}
use Rattle.address_grammar.specs.declared.pieces.Special.{Special}
use Rattle.address_grammar.specs.declared.pieces.Piece.{Piece}
use Rattle.address_grammar.specs.declared.pieces.Piece.TheVariants.{Run, Quoted, Comment, Literal, Mark, Blank}
use Rattle.address_grammar.specs.Spelling.{are_plain, is_run}
use Rattle.address_grammar.specs.Pieces.{is_plain, before, with_byte, onto, apart, marked, special_of, depth_behind, pieces, in_run, in_quotes, quotes_pair, in_comment, comment_pair, in_literal}

abbrev pub is_nil : List ℕ → Bool
is_nil [] = true
is_nil (c ∷ cs) = false

-- What is behind the `[` of a domain literal.
abbrev pub ends_literal : List ℕ → Bool
ends_literal [] = false
ends_literal (c ∷ cs) = cond (eqb c 93) (is_nil cs) (cond (eqb c 91 || eqb c 92) false (ends_literal cs))

abbrev pub is_literal : List ℕ → Bool
is_literal [] = false
is_literal (c ∷ cs) = eqb c 91 && ends_literal cs

-- A piece as a text gives it.
abbrev pub is_good : Piece → Bool
is_good (Run text) = is_run text
is_good (Quoted text) = true
is_good (Comment text) = true
is_good (Literal text) = is_literal text
is_good (Mark special) = true
is_good Blank = true

abbrev pub are_good : List Piece → Bool
are_good [] = true
are_good (p ∷ ps) = is_good p && are_good ps

-- The first piece has the rest of a run, a quoted string, a comment, or a literal; the others are good.
abbrev pub runs_on : Piece → Bool
runs_on (Run text) = are_plain text
runs_on p = false

abbrev pub quotes_on : Piece → Bool
quotes_on (Quoted text) = true
quotes_on p = false

abbrev pub comment_on : Piece → Bool
comment_on (Comment text) = true
comment_on p = false

abbrev pub literal_on : Piece → Bool
literal_on (Literal text) = ends_literal text
literal_on p = false

-- What a reading is, where there is one.
abbrev pub AllGood : Option (List Piece) → Type 0
AllGood None = Unit {0}
AllGood (Some ps) = are_good ps ≡ true

abbrev pub FirstGood : (Piece → Bool) → Option (List Piece) → Type 0
FirstGood first None = Unit {0}
FirstGood first (Some []) = ⊥
FirstGood first (Some (p ∷ ps)) = (first p && are_good ps) ≡ true

good-before : (first : Piece → Bool) (p : Piece) (ps : Option (List Piece)) → first p ≡ true → AllGood ps → FirstGood first (before p ps)
good-before first p None is good = tt
good-before first p (Some ps) is good = and_from (first p) (are_good ps) is good

all-before : (p : Piece) (ps : Option (List Piece)) → is_good p ≡ true → AllGood ps → AllGood (before p ps)
all-before p None is good = tt
all-before p (Some ps) is good = and_from (is_good p) (are_good ps) is good

-- A byte in front keeps what the first piece is.
first-onto : (first then : Piece → Bool) (c : ℕ) (ps : Option (List Piece)) → ((p : Piece) → first p ≡ true → then (with_byte c p) ≡ true) → FirstGood first ps → FirstGood then (onto c ps)
first-onto first then c None keeps good = tt
first-onto first then c (Some []) keeps good = good
first-onto first then c (Some (p ∷ ps)) keeps good =
    let parts = and_parts (first p) (are_good ps) good in and_from (then (with_byte c p)) (are_good ps) (keeps p parts.0) parts.1

all-first : (first : Piece → Bool) (ps : Option (List Piece)) → ((p : Piece) → first p ≡ true → is_good p ≡ true) → FirstGood first ps → AllGood ps
all-first first None keeps good = tt
all-first first (Some []) keeps good = refl
all-first first (Some (p ∷ ps)) keeps good =
    let parts = and_parts (first p) (are_good ps) good in and_from (is_good p) (are_good ps) (keeps p parts.0) parts.1

good-marked : (special : Option Special) (ps : Option (List Piece)) → AllGood ps → AllGood (marked special ps)
good-marked None ps good = tt
good-marked (Some special) ps good = all-before (Mark special) ps refl good

quotes_good : (p : Piece) → quotes_on p ≡ true → is_good p ≡ true
quotes_good (Run text) e = absurd (cc)
quotes_good (Quoted text) e = refl
quotes_good (Comment text) e = absurd (cc)
quotes_good (Literal text) e = absurd (cc)
quotes_good (Mark special) e = absurd (cc)
quotes_good Blank e = absurd (cc)

comment_good : (p : Piece) → comment_on p ≡ true → is_good p ≡ true
comment_good (Run text) e = absurd (cc)
comment_good (Quoted text) e = absurd (cc)
comment_good (Comment text) e = refl
comment_good (Literal text) e = absurd (cc)
comment_good (Mark special) e = absurd (cc)
comment_good Blank e = absurd (cc)

literal_good : (p : Piece) → literal_on p ≡ true → is_good (with_byte 91 p) ≡ true
literal_good (Run text) e = absurd (cc)
literal_good (Quoted text) e = absurd (cc)
literal_good (Comment text) e = absurd (cc)
literal_good (Literal text) e = e
literal_good (Mark special) e = absurd (cc)
literal_good Blank e = absurd (cc)

run_good : (c : ℕ) (p : Piece) → is_plain c ≡ true → runs_on p ≡ true → is_good (with_byte c p) ≡ true
run_good c (Run text) is e = and_from (is_plain c) (are_plain text) is e
run_good c (Quoted text) is e = absurd (cc)
run_good c (Comment text) is e = absurd (cc)
run_good c (Literal text) is e = absurd (cc)
run_good c (Mark special) is e = absurd (cc)
run_good c Blank is e = absurd (cc)

run_on : (c : ℕ) (p : Piece) → is_plain c ≡ true → runs_on p ≡ true → runs_on (with_byte c p) ≡ true
run_on c (Run text) is e = and_from (is_plain c) (are_plain text) is e
run_on c (Quoted text) is e = absurd (cc)
run_on c (Comment text) is e = absurd (cc)
run_on c (Literal text) is e = absurd (cc)
run_on c (Mark special) is e = absurd (cc)
run_on c Blank is e = absurd (cc)

quote_on : (c : ℕ) (p : Piece) → quotes_on p ≡ true → quotes_on (with_byte c p) ≡ true
quote_on c (Run text) e = e
quote_on c (Quoted text) e = e
quote_on c (Comment text) e = e
quote_on c (Literal text) e = e
quote_on c (Mark special) e = e
quote_on c Blank e = e

remark_on : (c : ℕ) (p : Piece) → comment_on p ≡ true → comment_on (with_byte c p) ≡ true
remark_on c (Run text) e = e
remark_on c (Quoted text) e = e
remark_on c (Comment text) e = e
remark_on c (Literal text) e = e
remark_on c (Mark special) e = e
remark_on c Blank e = e

bracket_on : (c : ℕ) (p : Piece) → eqb c 93 ≡ false → (eqb c 91 || eqb c 92) ≡ false → literal_on p ≡ true → literal_on (with_byte c p) ≡ true
bracket_on c (Literal text) end bad e =
    cond-false (eqb c 93) (is_nil text) (cond (eqb c 91 || eqb c 92) false (ends_literal text)) end ∙ cond-false (eqb c 91 || eqb c 92) false (ends_literal text) bad ∙ e
bracket_on c (Run text) end bad e = e
bracket_on c (Quoted text) end bad e = e
bracket_on c (Comment text) end bad e = e
bracket_on c (Mark special) end bad e = e
bracket_on c Blank end bad e = e

apart_good : (c : ℕ) (outside quoted comment literal : Option (List Piece)) → AllGood outside → FirstGood quotes_on quoted → FirstGood comment_on comment → FirstGood literal_on literal →
    AllGood (apart c outside quoted comment literal)
apart_good c outside quoted comment literal o q m l =
    let marks = marked (special_of c) outside in
    let brackets = cond (eqb c 91) (onto 91 literal) marks in
    let parens = cond (eqb c 40) comment brackets in
    cond_both (is_blank c) (before Blank outside) (cond (eqb c 34) quoted parens) AllGood
    (λ _. all-before Blank outside refl o)
    (λ _. cond_both (eqb c 34) quoted parens AllGood (λ _. all-first quotes_on quoted quotes_good q)
    (λ _. cond_both (eqb c 40) comment brackets AllGood (λ _. all-first comment_on comment comment_good m)
    (λ _. cond_both (eqb c 91) (onto 91 literal) marks AllGood (λ _. all-first is_good (onto 91 literal) (λ p e. e) (first-onto literal_on is_good 91 literal literal_good l))
    (λ _. good-marked (special_of c) outside o))))

-- What the functions give for a text.
record AreGood (text : List ℕ) : Type 0 where
  outside : AllGood (pieces text)
  run : FirstGood runs_on (in_run text)
  quotes : FirstGood quotes_on (in_quotes text)
  quotes_behind : FirstGood quotes_on (quotes_pair text)
  comment : (depth : ℕ) → FirstGood comment_on (in_comment depth text)
  comment_behind : (depth : ℕ) → FirstGood comment_on (comment_pair depth text)
  literal : FirstGood literal_on (in_literal text)

none_good : AreGood []
unfolding pieces in_run in_quotes quotes_pair in_comment comment_pair in_literal
none_good = record { outside = refl; run = refl; quotes = tt; quotes_behind = tt; comment = λ depth. tt; comment_behind = λ depth. tt; literal = tt }

apart_rest : (c : ℕ) (cs : List ℕ) → AreGood cs → AllGood (apart c (pieces cs) (in_quotes cs) (in_comment 0 cs) (in_literal cs))
apart_rest c cs h = apart_good c (pieces cs) (in_quotes cs) (in_comment 0 cs) (in_literal cs) h.outside h.quotes (h.comment 0) h.literal

outside_good : (c : ℕ) (cs : List ℕ) → AreGood cs → AllGood (pieces (c ∷ cs))
unfolding pieces
outside_good c cs h =
    cond_both (is_plain c) (onto c (in_run cs)) (apart c (pieces cs) (in_quotes cs) (in_comment 0 cs) (in_literal cs)) AllGood
    (λ is. all-first is_good (onto c (in_run cs)) (λ p e. e) (first-onto runs_on is_good c (in_run cs) (λ p. run_good c p is) h.run))
    (λ _. apart_rest c cs h)

in_run_good : (c : ℕ) (cs : List ℕ) → AreGood cs → FirstGood runs_on (in_run (c ∷ cs))
unfolding in_run
in_run_good c cs h =
    cond_both (is_plain c) (onto c (in_run cs)) (before (Run []) (apart c (pieces cs) (in_quotes cs) (in_comment 0 cs) (in_literal cs))) (FirstGood runs_on)
    (λ is. first-onto runs_on runs_on c (in_run cs) (λ p. run_on c p is) h.run)
    (λ _. good-before runs_on (Run []) (apart c (pieces cs) (in_quotes cs) (in_comment 0 cs) (in_literal cs)) refl (apart_rest c cs h))

in_quotes_good : (c : ℕ) (cs : List ℕ) → AreGood cs → FirstGood quotes_on (in_quotes (c ∷ cs))
unfolding in_quotes
in_quotes_good c cs h =
    cond_both (eqb c 34) (before (Quoted []) (pieces cs)) (cond (eqb c 92) (quotes_pair cs) (onto c (in_quotes cs))) (FirstGood quotes_on)
    (λ _. good-before quotes_on (Quoted []) (pieces cs) refl h.outside)
    (λ _. cond_both (eqb c 92) (quotes_pair cs) (onto c (in_quotes cs)) (FirstGood quotes_on) (λ _. h.quotes_behind) (λ _. first-onto quotes_on quotes_on c (in_quotes cs) (quote_on c) h.quotes))

quotes_pair_good : (c : ℕ) (cs : List ℕ) → AreGood cs → FirstGood quotes_on (quotes_pair (c ∷ cs))
unfolding quotes_pair
quotes_pair_good c cs h = first-onto quotes_on quotes_on c (in_quotes cs) (quote_on c) h.quotes

in_comment_good : (depth c : ℕ) (cs : List ℕ) → AreGood cs → FirstGood comment_on (in_comment depth (c ∷ cs))
unfolding in_comment
in_comment_good depth c cs h =
    let more = onto c (in_comment (depth_behind depth c) cs) in
    let inner = cond (eqb c 41 && eqb depth 0) (before (Comment []) (pieces cs)) more in
    cond_both (eqb c 92) (comment_pair depth cs) inner (FirstGood comment_on) (λ _. h.comment_behind depth)
    (λ _. cond_both (eqb c 41 && eqb depth 0) (before (Comment []) (pieces cs)) more (FirstGood comment_on)
    (λ _. good-before comment_on (Comment []) (pieces cs) refl h.outside)
    (λ _. first-onto comment_on comment_on c (in_comment (depth_behind depth c) cs) (remark_on c) (h.comment (depth_behind depth c))))

comment_pair_good : (depth c : ℕ) (cs : List ℕ) → AreGood cs → FirstGood comment_on (comment_pair depth (c ∷ cs))
unfolding comment_pair
comment_pair_good depth c cs h = first-onto comment_on comment_on c (in_comment depth cs) (remark_on c) (h.comment depth)

in_literal_good : (c : ℕ) (cs : List ℕ) → AreGood cs → FirstGood literal_on (in_literal (c ∷ cs))
unfolding in_literal
in_literal_good c cs h =
    let more = onto c (in_literal cs) in
    let inner = cond (eqb c 91 || eqb c 92) None more in
    cond_both (eqb c 93) (before (Literal (93 ∷ [])) (pieces cs)) inner (FirstGood literal_on)
    (λ _. good-before literal_on (Literal (93 ∷ [])) (pieces cs) refl h.outside)
    (λ end. cond_both (eqb c 91 || eqb c 92) None more (FirstGood literal_on) (λ _. tt)
    (λ bad. first-onto literal_on literal_on c (in_literal cs) (λ p. bracket_on c p end bad) h.literal))

all_good : (text : List ℕ) → AreGood text
all_good [] = none_good
all_good (c ∷ cs) =
    let h = all_good cs in
    record {
      outside = outside_good c cs h;
      run = in_run_good c cs h;
      quotes = in_quotes_good c cs h;
      quotes_behind = quotes_pair_good c cs h;
      comment = λ depth. in_comment_good depth c cs h;
      comment_behind = λ depth. comment_pair_good depth c cs h;
      literal = in_literal_good c cs h;
    }

pub pieces_good : (text : List ℕ) → AllGood (pieces text)
pieces_good text = (all_good text).outside
