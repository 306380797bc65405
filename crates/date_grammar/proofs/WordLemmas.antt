-- The first word of a text, and the words behind it.
use Rattle.std.proofs.Common.{◌≡◌, ℕ, ◌<◌, Bool, true, false, not, ◌||◌, eqb, List, [], ◌∷◌, ◌++◌, length, Option, Some, None, refl, sym, ◌∙◌, ap, arith}
use Rattle.std.specs.Option.{option_map}
use Rattle.std.proofs.lemmas.Bool.{cond-true, cond-false, cond_both}
use Rattle.mail_text.specs.Texts.{front, behind, begins, is_blank}
use Rattle.mail_text.specs.Lines.{put}
use Rattle.date_grammar.specs.Words.{uncommented, behind_comments, split, not_empty, words}
use Rattle.date_grammar.specs.Scanning.{is_plain, BeginsPlain, words_after}

-- a text whose bytes all belong to words
abbrev pub ArePlain : List ℕ → Type 0
ArePlain [] = Unit {0}
ArePlain (c ∷ cs) = (is_plain c ≡ true) × ArePlain cs

plain_cases : (b e : Bool) → not (b || e) ≡ true → (b ≡ false) × (e ≡ false)
plain_cases true true h = cc
plain_cases true false h = cc
plain_cases false true h = cc
plain_cases false false h = (refl, refl)

pub plain_is : (c : ℕ) → is_plain c ≡ true → (is_blank c ≡ false) × (eqb c 40 ≡ false)
plain_is c h = plain_cases (is_blank c) (eqb c 40) h

pub front_plain : (text : List ℕ) → ArePlain (front is_plain text)
front_plain [] = tt
front_plain (c ∷ cs) =
    cond_both (is_plain c) (c ∷ front is_plain cs) [] ArePlain (λ h. (h, front_plain cs)) (λ _. tt)

behind_plain : (text : List ℕ) → begins is_plain (behind is_plain text) ≡ false
behind_plain [] = refl
behind_plain (c ∷ cs) = cond_both (is_plain c) (behind is_plain cs) (c ∷ cs) (λ z. begins is_plain z ≡ false) (λ _. behind_plain cs) (λ h. h)

map_same : (o : Option (List ℕ)) → o ≡ option_map (λ u. [] ++ u) o
map_same None = refl
map_same (Some u) = refl

map_put : (c : ℕ) (w : List ℕ) (o : Option (List ℕ)) → option_map (λ t. c ∷ t) (option_map (λ u. w ++ u) o) ≡ option_map (λ u. (c ∷ w) ++ u) o
map_put c w None = refl
map_put c w (Some u) = refl

-- what is plain stays as it is
pub uncommented-plain : (w text : List ℕ) → ArePlain w → uncommented (w ++ text) ≡ option_map (λ u. w ++ u) (uncommented text)
uncommented-plain [] text h = map_same (uncommented text)
uncommented-plain (c ∷ w) text h =
    cond-false (eqb c 40) (option_map (λ t. 32 ∷ t) (behind_comments 1 (w ++ text))) (option_map (λ t. c ∷ t) (uncommented (w ++ text))) (plain_is c h.0).1
    ∙ ap (option_map (λ t. c ∷ t)) (uncommented-plain w text h.1) ∙ map_put c w (uncommented text)

-- a text that is empty or begins with a blank
abbrev pub BeginsBlank : List ℕ → Type 0
BeginsBlank [] = Unit {0}
BeginsBlank (c ∷ cs) = is_blank c ≡ true

abbrev pub first_empty : List ℕ → Type 0
first_empty u = (ps : List (List ℕ)) × (split u ≡ [] ∷ ps)

begins_empty : (u : List ℕ) → BeginsBlank u → first_empty u
begins_empty [] h = ([], refl)
begins_empty (c ∷ cs) h = (split cs, cond-true (is_blank c) ([] ∷ split cs) (put c (split cs)) h)

pub split-word : (w u : List ℕ) (ps : List (List ℕ)) → ArePlain w → split u ≡ [] ∷ ps → split (w ++ u) ≡ w ∷ ps
split-word [] u ps h e = e
split-word (c ∷ w) u ps h e =
    cond-false (is_blank c) ([] ∷ split (w ++ u)) (put c (split (w ++ u))) (plain_is c h.0).0 ∙ ap (put c) (split-word w u ps h.1 e)

word_then : (w u : List ℕ) → ArePlain w → 0 < length w → BeginsBlank u → not_empty (split (w ++ u)) ≡ w ∷ not_empty (split u)
word_then [] u h some blank = absurd (omega arith)
word_then (c ∷ w) u h some blank =
    let p = begins_empty u blank in
    ap not_empty (split-word (c ∷ w) u p.0 h p.1) ∙ ap (λ ps. (c ∷ w) ∷ not_empty ps) (sym p.1)

-- what is left of comments is such a text, where no word begins
abbrev pub IsGapText : Option (List ℕ) → Type 0
IsGapText None = Unit {0}
IsGapText (Some u) = BeginsBlank u

mapped_blank : (c : ℕ) (o : Option (List ℕ)) → is_blank c ≡ true → IsGapText (option_map (λ t. c ∷ t) o)
mapped_blank c None h = tt
mapped_blank c (Some u) h = h

not_plain : (b e : Bool) → not (b || e) ≡ false → e ≡ false → b ≡ true
not_plain true e h k = refl
not_plain false true h k = cc
not_plain false false h k = cc

pub gap_text : (text : List ℕ) → begins is_plain text ≡ false → IsGapText (uncommented text)
gap_text [] h = tt
gap_text (c ∷ cs) h =
    cond_both (eqb c 40) (option_map (λ t. 32 ∷ t) (behind_comments 1 cs)) (option_map (λ t. c ∷ t) (uncommented cs)) IsGapText
    (λ _. mapped_blank 32 (behind_comments 1 cs) refl) (λ no. mapped_blank c (uncommented cs) (not_plain (is_blank c) (eqb c 40) h no))

word_of : (w : List ℕ) (o : Option (List ℕ)) → ArePlain w → 0 < length w → IsGapText o →
    option_map (λ t. not_empty (split t)) (option_map (λ u. w ++ u) o) ≡ option_map (λ ws. w ∷ ws) (option_map (λ t. not_empty (split t)) o)
word_of w None h some gap = refl
word_of w (Some u) h some gap = ap Some (word_then w u h some gap)

-- a word, and behind it no more of the word
pub words-word : (w text : List ℕ) → ArePlain w → 0 < length w → begins is_plain text ≡ false → words (w ++ text) ≡ words_after w text
words-word w text h some ends =
    ap (option_map (λ t. not_empty (split t))) (uncommented-plain w text h) ∙ word_of w (uncommented text) h some (gap_text text ends)

pub front-behind : (text : List ℕ) → text ≡ front is_plain text ++ behind is_plain text
front-behind [] = refl
front-behind (c ∷ cs) =
    cond_both (is_plain c) (c ∷ front is_plain cs) [] (λ z. c ∷ cs ≡ z ++ behind is_plain (c ∷ cs))
    (λ h. ap (λ z. c ∷ z) (front-behind cs) ∙ ap (λ z. (c ∷ front is_plain cs) ++ z) (sym (cond-true (is_plain c) (behind is_plain cs) (c ∷ cs) h)))
    (λ h. sym (cond-false (is_plain c) (behind is_plain cs) (c ∷ cs) h))

front_some : (text : List ℕ) → 0 < length text → BeginsPlain text → 0 < length (front is_plain text)
front_some [] some h = some
front_some (c ∷ cs) some h = rw (cond-true (is_plain c) (c ∷ front is_plain cs) [] h) (omega arith)

pub first_word : (text : List ℕ) → 0 < length text → BeginsPlain text → words text ≡ words_after (front is_plain text) (behind is_plain text)
first_word text some h =
    ap words (front-behind text) ∙ words-word (front is_plain text) (behind is_plain text) (front_plain text) (front_some text some h) (behind_plain text)
