-- The words of a value.
use Rattle.std.proofs.Common.{◌≡◌, ℕ, ◌+◌, ◌<◌, ◌≤◌, Bool, true, false, ◌&&◌, not, List, [], ◌∷◌, ◌++◌, length, get_or, take, drop, refl, sym, ◌∙◌, ap, subst, arith, length-drop}
use Rattle.std.proofs.lemmas.Bool.{cond_both, cond-true, cond-false, and_parts, and_right}
use Rattle.std.proofs.lemmas.List.{append_assoc, drop_more, take_more, take-append-drop}
use Rattle.mail_text.specs.Texts.{begins, is_blank}
use Rattle.mail_text.specs.Lines.{put, ahead}
use Rattle.canon_writer.specs.Folding.{words}

pub put-some : (c : ℕ) (ls : List (List ℕ)) → put c ls ≡ [] → ⊥
put-some c [] e = cc
put-some c (l ∷ ls) e = cc

pub words-some : (c : ℕ) (cs : List ℕ) → words (c ∷ cs) ≡ [] → ⊥
words-some c cs =
    cond_both (not (is_blank c) && begins is_blank cs) ((c ∷ []) ∷ words cs) (put c (words cs)) (λ ws. ws ≡ [] → ⊥) (λ _ e. cc) (λ _. put-some c (words cs))

-- The lists, one behind the other.
abbrev pub all : List (List ℕ) → List ℕ
all [] = []
all (l ∷ ls) = l ++ all ls

all-put : (c : ℕ) (ls : List (List ℕ)) → all (put c ls) ≡ c ∷ all ls
all-put c [] = refl
all-put c (l ∷ ls) = refl

pub all-words : (v : List ℕ) → all (words v) ≡ v
all-words [] = refl
all-words (c ∷ cs) =
    cond_both (not (is_blank c) && begins is_blank cs) ((c ∷ []) ∷ words cs) (put c (words cs)) (λ ws. all ws ≡ c ∷ cs)
    (λ _. ap (λ z. c ∷ z) (all-words cs)) (λ _. all-put c (words cs) ∙ ap (λ z. c ∷ z) (all-words cs))

-- Each begins with a blank.
abbrev pub AllBlank : List (List ℕ) → Type 0
AllBlank [] = Unit {0}
AllBlank (w ∷ ws) = (begins is_blank w ≡ true) × AllBlank ws

abbrev pub LaterBlank : List (List ℕ) → Type 0
LaterBlank [] = Unit {0}
LaterBlank (w ∷ ws) = AllBlank ws

abbrev pub HeadIs : Bool → List (List ℕ) → Type 0
HeadIs b [] = Unit {0}
HeadIs b (w ∷ ws) = begins is_blank w ≡ b

HeadIs-put : (c : ℕ) (ls : List (List ℕ)) → HeadIs (is_blank c) (put c ls)
HeadIs-put c [] = refl
HeadIs-put c (l ∷ ls) = refl

words-head : (v : List ℕ) → HeadIs (begins is_blank v) (words v)
words-head [] = tt
words-head (c ∷ cs) =
    cond_both (not (is_blank c) && begins is_blank cs) ((c ∷ []) ∷ words cs) (put c (words cs)) (HeadIs (is_blank c)) (λ _. refl) (λ _. HeadIs-put c (words cs))

AllBlank-from : (ws : List (List ℕ)) → HeadIs true ws → LaterBlank ws → AllBlank ws
AllBlank-from [] h l = tt
AllBlank-from (w ∷ ws) h l = (h, l)

LaterBlank-put : (c : ℕ) (ls : List (List ℕ)) → LaterBlank ls → LaterBlank (put c ls)
LaterBlank-put c [] l = tt
LaterBlank-put c (w ∷ ws) l = l

pub words-later : (v : List ℕ) → LaterBlank (words v)
words-later [] = tt
words-later (c ∷ cs) =
    cond_both (not (is_blank c) && begins is_blank cs) ((c ∷ []) ∷ words cs) (put c (words cs)) LaterBlank
    (λ h. AllBlank-from (words cs) (subst (λ b. HeadIs b (words cs)) ((and_parts (not (is_blank c)) (begins is_blank cs) h).1) (words-head cs)) (words-later cs))
    (λ _. LaterBlank-put c (words cs) (words-later cs))

-- The search for the end of the first word: so far it has no end.

pub ahead_none : (ls : List (List ℕ)) → (ls ≡ [] → ⊥) → ls ≡ ahead [] ls
ahead_none [] h = absurd (h refl)
ahead_none (l ∷ ls) h = refl

pub ahead-put : (w : List ℕ) (c : ℕ) (ls : List (List ℕ)) → (ls ≡ [] → ⊥) → ahead w (put c ls) ≡ ahead (w ++ c ∷ []) ls
ahead-put w c [] h = absurd (h refl)
ahead-put w c (l ∷ ls) h = rw (append_assoc w (c ∷ []) l) refl

pub words_start : (text : List ℕ) → 0 < length text → words text ≡ ahead [] (words text)
words_start [] h = absurd (omega arith)
words_start (c ∷ cs) h = ahead_none (words (c ∷ cs)) (words-some c cs)

goes_on : (c d : ℕ) (left : List ℕ) → (not (is_blank c) && is_blank d) ≡ false → words (c ∷ d ∷ left) ≡ put c (words (d ∷ left))
goes_on c d left h = cond-false (not (is_blank c) && is_blank d) ((c ∷ []) ∷ words (d ∷ left)) (put c (words (d ∷ left))) h

pub word_more : (text : List ℕ) (at : ℕ) → at + 1 < length text → (not (is_blank (get_or text at 0)) && is_blank (get_or text (at + 1) 0)) ≡ false →
    words text ≡ ahead (take at text) (words (drop at text)) → words text ≡ ahead (take (at + 1) text) (words (drop (at + 1) text))
word_more text at h isnt so_far =
    let within : at < length text = omega arith in
    let c = get_or text at 0 in
    let d = get_or text (at + 1) 0 in
    let left = drop (at + 1 + 1) text in
    let next = drop_more text (at + 1) 0 h in
    let step : words (drop at text) ≡ put c (words (d ∷ left)) =
    ap words (drop_more text at 0 within ∙ ap (λ z. c ∷ z) next) ∙ goes_on c d left isnt in
    so_far ∙ ap (ahead (take at text)) step ∙ ahead-put (take at text) c (words (d ∷ left)) (words-some d left)
    ∙ ap (λ w. ahead w (words (d ∷ left))) (sym (take_more text at 0 within)) ∙ ap (λ z. ahead (take (at + 1) text) (words z)) (sym next)

pub word_here : (text : List ℕ) (at : ℕ) → at + 1 < length text → is_blank (get_or text at 0) ≡ false → is_blank (get_or text (at + 1) 0) ≡ true →
    words text ≡ ahead (take at text) (words (drop at text)) → words text ≡ take (at + 1) text ∷ words (drop (at + 1) text)
word_here text at h first second so_far =
    let within : at < length text = omega arith in
    let c = get_or text at 0 in
    let left = drop (at + 1) text in
    let begins_so : begins is_blank left ≡ true = ap (begins is_blank) (drop_more text (at + 1) 0 h) ∙ second in
    let both : (not (is_blank c) && begins is_blank left) ≡ true = ap (λ b. not b && begins is_blank left) first ∙ begins_so in
    so_far ∙ ap (λ z. ahead (take at text) (words z)) (drop_more text at 0 within)
    ∙ ap (ahead (take at text)) (cond-true (not (is_blank c) && begins is_blank left) ((c ∷ []) ∷ words left) (put c (words left)) both)
    ∙ ap (λ w. w ∷ words left) (sym (take_more text at 0 within))

pub last_word : (w x : List ℕ) → length x ≤ 1 → 0 < length x → ahead w (words x) ≡ (w ++ x) ∷ words []
last_word w [] h some = absurd (omega arith)
last_word w (c ∷ []) h some = ap (ahead w) (cond-false (not (is_blank c) && false) ((c ∷ []) ∷ []) (put c []) (and_right (not (is_blank c)) false refl))
last_word w (c ∷ d ∷ ds) h some = absurd (omega arith)

pub word_last : (text : List ℕ) (at : ℕ) → length text ≤ at + 1 → at < length text → words text ≡ ahead (take at text) (words (drop at text)) → words text ≡ text ∷ words []
word_last text at h some so_far =
    let short : length (drop at text) ≤ 1 = simp length-drop (omega arith) in
    let left : 0 < length (drop at text) = simp length-drop (omega arith) in
    so_far ∙ last_word (take at text) (drop at text) short left ∙ ap (λ z. z ∷ words []) (take-append-drop at text)
