-- The pieces of a text between its CRLFs.
use Rattle.std.proofs.Common.{◌≡◌, ℕ, ◌+◌, ◌<◌, ◌≤◌, Bool, true, false, cond, ◌&&◌, eqb, List, [], ◌∷◌, ◌++◌, length, get_or, take, drop, refl, sym, ◌∙◌, ap, subst, arith, length-drop}
use Rattle.std.proofs.lemmas.Bool.{cond_both, cond-false, eqb-true, and_parts, and_right, or_parts, false≢true}
use Rattle.std.proofs.lemmas.List.{append_assoc, append-nil, drop_more, take_more, take-append-drop}
use Rattle.mail_text.specs.Texts.{begins}
use Rattle.mail_text.specs.Lines.{put, ahead, without_first, is_lf, lines, joined, pieces, IsCrlf, has, AreLines}
use Rattle.mail_text.proofs.LineLemmas.{put-some, put-append, begins-append, begins_none, joined_more, AreLines-lines}

pub pieces-some : (x : List ℕ) → pieces x ≡ [] → ⊥
pieces-some [] = λ e. cc
pieces-some (c ∷ cs) =
    cond_both (eqb c 13 && begins is_lf cs) ([] ∷ without_first (pieces cs)) (put c (pieces cs)) (λ ls. ls ≡ [] → ⊥)
    (λ _ e. cc) (λ _. put-some c (pieces cs))

without_first-append : (ls ms : List (List ℕ)) → (ls ≡ [] → ⊥) → without_first (ls ++ ms) ≡ without_first ls ++ ms
without_first-append [] ms h = absurd (h refl)
without_first-append ([] ∷ ls) ms h = refl
without_first-append ((c ∷ l) ∷ ls) ms h = refl

without_first-put : (c : ℕ) (ls : List (List ℕ)) → (ls ≡ [] → ⊥) → without_first (put c ls) ≡ ls
without_first-put c [] h = absurd (h refl)
without_first-put c (l ∷ ls) h = refl

piece_step : (t : Bool) (c : ℕ) (ls ms : List (List ℕ)) → (ls ≡ [] → ⊥) →
    cond t ([] ∷ without_first (ls ++ ms)) (put c (ls ++ ms)) ≡ cond t ([] ∷ without_first ls) (put c ls) ++ ms
piece_step true c ls ms h = rw (without_first-append ls ms h) refl
piece_step false c ls ms h = put-append c ls ms h

pub pieces-append : (x y : List ℕ) → pieces (x ++ 13 ∷ 10 ∷ y) ≡ pieces x ++ pieces y
pieces-append [] y = rw (without_first-put 10 (pieces y) (pieces-some y)) refl
pieces-append (c ∷ cs) y =
    rw (begins-append cs y, pieces-append cs y) (piece_step (eqb c 13 && begins is_lf cs) c (pieces cs) (pieces y) (pieces-some cs))

pieces-one : (l : List ℕ) → has 10 l ≡ false → pieces l ≡ l ∷ []
pieces-one [] h = refl
pieces-one (c ∷ cs) h =
    let parts = or_parts (eqb c 10) (has 10 cs) h in
    rw (and_right (eqb c 13) (begins is_lf cs) (begins_none cs parts.1), pieces-one cs parts.1) refl

pieces-joined : (ls : List (List ℕ)) → AreLines ls → pieces (joined ls) ≡ ls
pieces-joined [] h = absurd h
pieces-joined (l ∷ []) h = pieces-one l h
pieces-joined (l ∷ m ∷ ls) h = rw (pieces-append l (joined (m ∷ ls)), pieces-one l h.0, pieces-joined (m ∷ ls) h.1) refl

pub pieces_of_crlf : (x : List ℕ) → IsCrlf x → pieces x ≡ lines x
pieces_of_crlf x h = ap pieces (sym h) ∙ pieces-joined (lines x) (AreLines-lines x)

joined-put : (c : ℕ) (ls : List (List ℕ)) → joined (put c ls) ≡ c ∷ joined ls
joined-put c [] = refl
joined-put c (l ∷ []) = refl
joined-put c (l ∷ m ∷ ls) = refl

behind_cr : (d : ℕ) (ds : List ℕ) → 10 ≡ d → joined (pieces (d ∷ ds)) ≡ d ∷ ds → joined ([] ∷ without_first (pieces (d ∷ ds))) ≡ 13 ∷ d ∷ ds
behind_cr d ds same =
    subst (λ b. joined (pieces (b ∷ ds)) ≡ b ∷ ds → joined ([] ∷ without_first (pieces (b ∷ ds))) ≡ 13 ∷ b ∷ ds) same
    (λ e. rw (without_first-put 10 (pieces ds) (pieces-some ds), joined_more [] (pieces ds) (pieces-some ds))
    (ap (λ z. 13 ∷ z) (sym (joined-put 10 (pieces ds)) ∙ e)))

crlf_joined : (c : ℕ) (cs : List ℕ) → (eqb c 13 && begins is_lf cs) ≡ true → joined (pieces cs) ≡ cs → joined ([] ∷ without_first (pieces cs)) ≡ c ∷ cs
crlf_joined c [] h e = absurd (false≢true ((and_parts (eqb c 13) false h).1))
crlf_joined c (d ∷ ds) h e =
    let parts = and_parts (eqb c 13) (eqb d 10) h in
    behind_cr d ds (sym (eqb-true d 10 parts.1)) e ∙ ap (λ z. z ∷ d ∷ ds) (sym (eqb-true c 13 parts.0))

pub joined-pieces : (x : List ℕ) → joined (pieces x) ≡ x
joined-pieces [] = refl
joined-pieces (c ∷ cs) =
    cond_both (eqb c 13 && begins is_lf cs) ([] ∷ without_first (pieces cs)) (put c (pieces cs)) (λ ls. joined ls ≡ c ∷ cs)
    (λ h. crlf_joined c cs h (joined-pieces cs))
    (λ _. joined-put c (pieces cs) ∙ ap (λ z. c ∷ z) (joined-pieces cs))

-- The search for the first CRLF: so far there is none.

pub ahead_none : (ls : List (List ℕ)) → (ls ≡ [] → ⊥) → ls ≡ ahead [] ls
ahead_none [] h = absurd (h refl)
ahead_none (l ∷ ls) h = refl

ahead-put : (w : List ℕ) (c : ℕ) (ls : List (List ℕ)) → (ls ≡ [] → ⊥) → ahead w (put c ls) ≡ ahead (w ++ c ∷ []) ls
ahead-put w c [] h = absurd (h refl)
ahead-put w c (l ∷ ls) h = rw (append_assoc w (c ∷ []) l) refl

none_here : (c d : ℕ) (rest : List ℕ) → (eqb c 13 && eqb d 10) ≡ false → pieces (c ∷ d ∷ rest) ≡ put c (pieces (d ∷ rest))
none_here c d rest h = cond-false (eqb c 13 && eqb d 10) ([] ∷ without_first (pieces (d ∷ rest))) (put c (pieces (d ∷ rest))) h

pub none_more : (text : List ℕ) (at : ℕ) → at + 1 < length text → (eqb (get_or text at 0) 13 && eqb (get_or text (at + 1) 0) 10) ≡ false →
    pieces text ≡ ahead (take at text) (pieces (drop at text)) → pieces text ≡ ahead (take (at + 1) text) (pieces (drop (at + 1) text))
none_more text at h none so_far =
    let within : at < length text = omega arith in
    let here = drop_more text at 0 within in
    let next = drop_more text (at + 1) 0 h in
    let step : pieces (drop at text) ≡ put (get_or text at 0) (pieces (drop (at + 1) text)) =
    rw (here, next) (none_here (get_or text at 0) (get_or text (at + 1) 0) (drop (at + 1 + 1) text) none) in
    so_far ∙ ap (ahead (take at text)) step ∙ ahead-put (take at text) (get_or text at 0) (pieces (drop (at + 1) text)) (pieces-some (drop (at + 1) text))
    ∙ ap (λ w. ahead w (pieces (drop (at + 1) text))) (sym (take_more text at 0 within))

pub one_here : (text : List ℕ) (at : ℕ) → at + 1 < length text → eqb (get_or text at 0) 13 ≡ true → eqb (get_or text (at + 1) 0) 10 ≡ true →
    pieces text ≡ ahead (take at text) (pieces (drop at text)) → pieces text ≡ take at text ∷ pieces (drop (at + 2) text)
one_here text at h cr lf so_far =
    let within : at < length text = omega arith in
    let here : drop at text ≡ 13 ∷ drop (at + 1) text =
    drop_more text at 0 within ∙ ap (λ c. c ∷ drop (at + 1) text) (eqb-true (get_or text at 0) 13 cr) in
    let next : drop (at + 1) text ≡ 10 ∷ drop (at + 2) text =
    drop_more text (at + 1) 0 h ∙ ap (λ c. c ∷ drop (at + 1 + 1) text) (eqb-true (get_or text (at + 1) 0) 10 lf) ∙ ap (λ k. 10 ∷ drop k text) (let two : at + 1 + 1 ≡ at + 2 = omega arith in two) in
    let rest = drop (at + 2) text in
    let cut : pieces (drop at text) ≡ [] ∷ pieces rest =
    ap pieces (here ∙ ap (λ z. 13 ∷ z) next) ∙ ap (λ z. [] ∷ z) (without_first-put 10 (pieces rest) (pieces-some rest)) in
    so_far ∙ ap (ahead (take at text)) cut ∙ ap (λ w. w ∷ pieces rest) (append-nil (take at text))

-- A piece of one byte at most.
short_piece : (w x : List ℕ) → length x ≤ 1 → ahead w (pieces x) ≡ (w ++ x) ∷ []
short_piece w [] h = refl
short_piece w (c ∷ []) h = rw (and_right (eqb c 13) false refl) refl
short_piece w (c ∷ d ∷ ds) h = absurd (omega arith)

pub none_at_all : (text : List ℕ) (at : ℕ) → length text ≤ at + 1 → pieces text ≡ ahead (take at text) (pieces (drop at text)) → pieces text ≡ text ∷ []
none_at_all text at h so_far =
    let short : length (drop at text) ≤ 1 = simp length-drop (omega arith) in
    so_far ∙ short_piece (take at text) (drop at text) short ∙ ap (λ z. z ∷ []) (take-append-drop at text)
