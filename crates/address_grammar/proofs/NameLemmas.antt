-- Names, word by word.
use Rattle.std.proofs.Common.{◌≡◌, ℕ, ◌+◌, ◌<◌, ◌≤◌, Bool, true, false, ◌&&◌, ◌||◌, cond, List, [], ◌∷◌, ◌++◌, length, get_or, take, drop, refl, sym, ◌∙◌, ap, arith}
use Rattle.std.proofs.lemmas.Bool.{cond_both, cond-true, cond-false}
use Rattle.std.proofs.lemmas.List.{drop_all, append-nil, append_assoc}
use Rattle.mail_text.specs.Lines.{ahead}
use Rattle.address_grammar.specs.declared.pieces.Piece.{Piece}
use Rattle.address_grammar.specs.Words.{is_gap, is_wordlike, word_text, begins_word, words, each_spaced, spaced, name_of, is_phrase}
use Rattle.address_grammar.specs.Addresses.{front_phrase, behind_phrase}
use Rattle.address_grammar.proofs.PlaceLemmas.{at_piece, taken_piece}

-- What is left of a name: whether a word was begun, and whether there is something between it and what is left.
abbrev pub left_name : Bool → Bool → List Piece → List ℕ
left_name false apart ps = spaced (words ps)
left_name true true ps = each_spaced (words ps)
left_name true false ps = cond (begins_word ps) (spaced (words ps)) (each_spaced (words ps))

pub spaced-ahead : (t : List ℕ) (ws : List (List ℕ)) → spaced (ahead t ws) ≡ t ++ spaced ws
spaced-ahead t [] = refl
spaced-ahead t (w ∷ ws) = append_assoc t w (each_spaced ws)

words_of : (p : Piece) (ps : List Piece) → is_wordlike p ≡ true → words (p ∷ ps) ≡ cond (begins_word ps) (ahead (word_text p) (words ps)) (word_text p ∷ words ps)
words_of p ps is = cond-true (is_wordlike p) (cond (begins_word ps) (ahead (word_text p) (words ps)) (word_text p ∷ words ps)) (words ps) is

pub words_other : (p : Piece) (ps : List Piece) → is_wordlike p ≡ false → words (p ∷ ps) ≡ words ps
words_other p ps isnt = cond-false (is_wordlike p) (cond (begins_word ps) (ahead (word_text p) (words ps)) (word_text p ∷ words ps)) (words ps) isnt

spaced_here : (t : List ℕ) (ps : List Piece) → spaced (cond (begins_word ps) (ahead t (words ps)) (t ∷ words ps)) ≡ t ++ left_name true false ps
spaced_here t ps =
    cond_both (begins_word ps) (ahead t (words ps)) (t ∷ words ps) (λ z. spaced z ≡ t ++ left_name true false ps)
    (λ e. spaced-ahead t (words ps) ∙ ap (λ z. t ++ z) (sym (cond-true (begins_word ps) (spaced (words ps)) (each_spaced (words ps)) e)))
    (λ e. ap (λ z. t ++ z) (sym (cond-false (begins_word ps) (spaced (words ps)) (each_spaced (words ps)) e)))

each-ahead : (t : List ℕ) (ws : List (List ℕ)) → each_spaced (ahead t ws) ≡ 32 ∷ spaced (ahead t ws)
each-ahead t [] = refl
each-ahead t (w ∷ ws) = refl

each_here : (t : List ℕ) (ps : List Piece) → each_spaced (cond (begins_word ps) (ahead t (words ps)) (t ∷ words ps)) ≡ 32 ∷ spaced (cond (begins_word ps) (ahead t (words ps)) (t ∷ words ps))
each_here t ps =
    cond_both (begins_word ps) (ahead t (words ps)) (t ∷ words ps) (λ z. each_spaced z ≡ 32 ∷ spaced z)
    (λ e. each-ahead t (words ps))
    (λ e. refl)

abbrev pub one_more : Bool → List ℕ → List ℕ
one_more spaced text = cond spaced (32 ∷ text) text

left_word : (p : Piece) (ps : List Piece) (begun apart : Bool) → is_wordlike p ≡ true → left_name begun apart (p ∷ ps) ≡ one_more (begun && apart) (word_text p) ++ left_name true false ps
left_word p ps false apart is = ap spaced (words_of p ps is) ∙ spaced_here (word_text p) ps
left_word p ps true true is = ap each_spaced (words_of p ps is) ∙ each_here (word_text p) ps ∙ ap (λ z. 32 ∷ z) (spaced_here (word_text p) ps)
left_word p ps true false is =
    cond-true (is_wordlike p) (spaced (words (p ∷ ps))) (each_spaced (words (p ∷ ps))) is ∙ ap spaced (words_of p ps is) ∙ spaced_here (word_text p) ps

left_gap : (p : Piece) (ps : List Piece) (begun apart : Bool) → is_wordlike p ≡ false → left_name begun apart (p ∷ ps) ≡ left_name begun true ps
left_gap p ps false apart isnt = ap spaced (words_other p ps isnt)
left_gap p ps true true isnt = ap each_spaced (words_other p ps isnt)
left_gap p ps true false isnt = cond-false (is_wordlike p) (spaced (words (p ∷ ps))) (each_spaced (words (p ∷ ps))) isnt ∙ ap each_spaced (words_other p ps isnt)

pub name_word : (ps : List Piece) (at : ℕ) (p : Piece) (begun apart : Bool) (out out2 text : List ℕ) → at < length ps → p ≡ get_or ps at p → is_wordlike p ≡ true → word_text p ≡ text →
    out2 ≡ out ++ one_more (begun && apart) text → out ++ left_name begun apart (drop at ps) ≡ name_of ps → out2 ++ left_name true false (drop (at + 1) ps) ≡ name_of ps
name_word ps at p begun apart out out2 text h is word same more so_far =
    let rest = drop (at + 1) ps in
    ap (λ z. z ++ left_name true false rest) more ∙ append_assoc out (one_more (begun && apart) text) (left_name true false rest)
    ∙ ap (λ t. out ++ (one_more (begun && apart) t ++ left_name true false rest)) (sym same)
    ∙ ap (λ z. out ++ z) (sym (left_word p rest begun apart word)) ∙ ap (λ z. out ++ left_name begun apart z) (sym (at_piece ps at p h is)) ∙ so_far

pub name_gap : (ps : List Piece) (at : ℕ) (p : Piece) (begun apart : Bool) (out : List ℕ) → at < length ps → p ≡ get_or ps at p → is_wordlike p ≡ false →
    out ++ left_name begun apart (drop at ps) ≡ name_of ps → out ++ left_name begun true (drop (at + 1) ps) ≡ name_of ps
name_gap ps at p begun apart out h is other so_far =
    ap (λ z. out ++ z) (sym (left_gap p (drop (at + 1) ps) begun apart other)) ∙ ap (λ z. out ++ left_name begun apart z) (sym (at_piece ps at p h is)) ∙ so_far

left_none : (begun apart : Bool) → left_name begun apart [] ≡ []
left_none false apart = refl
left_none true true = refl
left_none true false = refl

pub name_all : (ps : List Piece) (at : ℕ) (begun apart : Bool) (out : List ℕ) → length ps ≤ at → out ++ left_name begun apart (drop at ps) ≡ name_of ps → out ≡ name_of ps
name_all ps at begun apart out none so_far =
    sym (ap (λ z. out ++ left_name begun apart z) (drop_all at ps none) ∙ ap (λ z. out ++ z) (left_none begun apart) ∙ append-nil out) ∙ so_far

-- Phrases

pub phrase_more : (ps : List Piece) (at : ℕ) (p : Piece) → at < length ps → p ≡ get_or ps at p → (is_gap p || is_wordlike p) ≡ true → is_phrase ps ≡ is_phrase (drop at ps) →
    is_phrase ps ≡ is_phrase (drop (at + 1) ps)
phrase_more ps at p h is part so_far = so_far ∙ ap is_phrase (at_piece ps at p h is) ∙ ap (λ t. t && is_phrase (drop (at + 1) ps)) part

pub phrase_stop : (ps : List Piece) (at : ℕ) (p : Piece) → at < length ps → p ≡ get_or ps at p → (is_gap p || is_wordlike p) ≡ false → is_phrase ps ≡ is_phrase (drop at ps) → false ≡ is_phrase ps
phrase_stop ps at p h is part so_far = sym (so_far ∙ ap is_phrase (at_piece ps at p h is) ∙ ap (λ t. t && is_phrase (drop (at + 1) ps)) part)

-- The pieces of a phrase, counted from the front.
pub record IsFront (ps : List Piece) (at : ℕ) : Type 0 where
  pub within : at ≤ length ps
  pub before : front_phrase ps ≡ take at ps ++ front_phrase (drop at ps)
  pub after : behind_phrase ps ≡ behind_phrase (drop at ps)

pub front_none : (ps : List Piece) → IsFront ps 0
front_none ps = record { within = omega arith; before = refl; after = refl }

pub front_more : (ps : List Piece) (at : ℕ) (p : Piece) → at < length ps → p ≡ get_or ps at p → (is_gap p || is_wordlike p) ≡ true → IsFront ps at → IsFront ps (at + 1)
front_more ps at p h is part f =
    let rest = drop (at + 1) ps in
    let here = at_piece ps at p h is in
    record {
      within = omega arith;
      before = f.before ∙ ap (λ z. take at ps ++ front_phrase z) here
          ∙ ap (λ z. take at ps ++ z) (cond-true (is_gap p || is_wordlike p) (p ∷ front_phrase rest) [] part)
          ∙ sym (append_assoc (take at ps) (p ∷ []) (front_phrase rest)) ∙ ap (λ z. z ++ front_phrase rest) (sym (taken_piece ps at p h is));
      after = f.after ∙ ap behind_phrase here ∙ cond-true (is_gap p || is_wordlike p) (behind_phrase rest) (p ∷ rest) part;
    }

pub record IsWhole (ps : List Piece) (at : ℕ) : Type 0 where
  pub before : front_phrase ps ≡ take at ps
  pub after : behind_phrase ps ≡ drop at ps

pub front_ends : (ps : List Piece) (at : ℕ) (p : Piece) → at < length ps → p ≡ get_or ps at p → (is_gap p || is_wordlike p) ≡ false → IsFront ps at → IsWhole ps at
front_ends ps at p h is part f =
    let rest = drop (at + 1) ps in
    let here = at_piece ps at p h is in
    record {
      before = f.before ∙ ap (λ z. take at ps ++ front_phrase z) here
          ∙ ap (λ z. take at ps ++ z) (cond-false (is_gap p || is_wordlike p) (p ∷ front_phrase rest) [] part) ∙ append-nil (take at ps);
      after = f.after ∙ ap behind_phrase here ∙ cond-false (is_gap p || is_wordlike p) (behind_phrase rest) (p ∷ rest) part ∙ sym here;
    }

pub front_all : (ps : List Piece) (at : ℕ) → length ps ≤ at → IsFront ps at → IsWhole ps at
front_all ps at none f =
    let end = drop_all at ps none in
    record {
      before = f.before ∙ ap (λ z. take at ps ++ front_phrase z) end ∙ append-nil (take at ps);
      after = f.after ∙ ap behind_phrase end ∙ sym end;
    }
