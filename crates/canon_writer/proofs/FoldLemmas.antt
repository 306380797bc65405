-- Folded words are unfolded to the words.
use Rattle.std.proofs.Common.{◌≡◌, ℕ, ◌-◌, ◌<◌, ◌≤◌, true, false, eqb, ltb, List, [], ◌∷◌, ◌++◌, length, refl, sym, ◌∙◌, ap, arith, length-append}
use Rattle.std.proofs.lemmas.Bool.{cond_both, cond-true, cond-false, le-ltb, lt-ltb}
use Rattle.std.proofs.lemmas.List.{append_assoc, append-nil}
use Rattle.mail_text.specs.Texts.{begins, is_blank}
use Rattle.mail_text.specs.Lines.{ahead}
use Rattle.header_reader.specs.Fields.{continued, unfolded}
use Rattle.canon_writer.specs.Folding.{words, line_width, folded, words_behind, field_lines}
use Rattle.canon_writer.specs.Printing.{ended}
use Rattle.canon_writer.proofs.WordLemmas.{all, AllBlank, LaterBlank, all-words, words-later}

pub ahead-some : (w : List ℕ) (ls : List (List ℕ)) → ahead w ls ≡ [] → ⊥
ahead-some w [] e = cc
ahead-some w (l ∷ ls) e = cc

pub folded-some : (room : ℕ) (ws : List (List ℕ)) → folded room ws ≡ [] → ⊥
folded-some room [] = λ e. cc
folded-some room (w ∷ ws) =
    cond_both (ltb room (length w)) ([] ∷ ahead w (folded (line_width - length w) ws)) (ahead w (folded (room - length w) ws)) (λ ls. ls ≡ [] → ⊥)
    (λ _ e. cc) (λ _. ahead-some w (folded (room - length w) ws))

pub ahead-ahead : (v w : List ℕ) (ls : List (List ℕ)) → (ls ≡ [] → ⊥) → ahead v (ahead w ls) ≡ ahead (v ++ w) ls
ahead-ahead v w [] h = absurd (h refl)
ahead-ahead v w (l ∷ ls) h = ap (λ z. z ∷ ls) (sym (append_assoc v w l))

pub ended-ahead : (w : List ℕ) (ls : List (List ℕ)) → (ls ≡ [] → ⊥) → ended (ahead w ls) ≡ w ++ ended ls
ended-ahead w [] h = absurd (h refl)
ended-ahead w (l ∷ ls) h = append_assoc w l (13 ∷ 10 ∷ ended ls)

pub ended-append : (ls ms : List (List ℕ)) → ended (ls ++ ms) ≡ ended ls ++ ended ms
ended-append [] ms = refl
ended-append (l ∷ ls) ms = ap (λ z. l ++ 13 ∷ 10 ∷ z) (ended-append ls ms) ∙ sym (append_assoc l (13 ∷ 10 ∷ ended ls) (ended ms))

begins-append : (w m : List ℕ) → begins is_blank w ≡ true → begins is_blank (w ++ m) ≡ true
begins-append [] m h = cc
begins-append (c ∷ cs) m h = h

-- Lines that no line before them takes in.
abbrev pub StandApart : List (List ℕ) → Type 0
StandApart hs = (x : List ℕ) → continued x (unfolded hs) ≡ x ∷ unfolded hs

module _ (hs : List (List ℕ)) (apart : StandApart hs) where
  pub unfolded-folded : (room : ℕ) (line : List ℕ) (ws : List (List ℕ)) → AllBlank ws →
      unfolded (ahead line (folded room ws) ++ hs) ≡ (line ++ all ws) ∷ unfolded hs
  unfolded-folded room line [] blank = apart (line ++ [])
  unfolded-folded room line (w ∷ ws) blank =
      cond_both (ltb room (length w)) ([] ∷ ahead w (folded (line_width - length w) ws)) (ahead w (folded (room - length w) ws))
      (λ ls. unfolded (ahead line ls ++ hs) ≡ (line ++ (w ++ all ws)) ∷ unfolded hs)
      (λ _. ap (continued (line ++ [])) (unfolded-folded (line_width - length w) w ws blank.1)
      ∙ cond-true (begins is_blank (w ++ all ws)) (((line ++ []) ++ (w ++ all ws)) ∷ unfolded hs) ((line ++ []) ∷ (w ++ all ws) ∷ unfolded hs) (begins-append w (all ws) blank.0)
      ∙ ap (λ z. (z ++ (w ++ all ws)) ∷ unfolded hs) (append-nil line))
      (λ _. ap (λ ls. unfolded (ls ++ hs)) (ahead-ahead line w (folded (room - length w) ws) (folded-some (room - length w) ws))
      ∙ unfolded-folded (room - length w) (line ++ w) ws blank.1 ∙ ap (λ z. z ∷ unfolded hs) (append_assoc line w (all ws)))

  unfolded-behind : (room : ℕ) (line : List ℕ) (ws : List (List ℕ)) → LaterBlank ws →
      unfolded (ahead line (words_behind room ws) ++ hs) ≡ (line ++ all ws) ∷ unfolded hs
  unfolded-behind room line [] blank = apart (line ++ [])
  unfolded-behind room line (w ∷ ws) blank =
      ap (λ ls. unfolded (ls ++ hs)) (ahead-ahead line w (folded (room - length w) ws) (folded-some (room - length w) ws))
      ∙ unfolded-folded (room - length w) (line ++ w) ws blank ∙ ap (λ z. z ∷ unfolded hs) (append_assoc line w (all ws))

-- The line that a field's lines are unfolded to.
abbrev pub whole_line : List ℕ → List ℕ → List ℕ
whole_line name [] = name ++ 58 ∷ []
whole_line name (c ∷ cs) = name ++ 58 ∷ 32 ∷ c ∷ cs

pub unfolded-field : (hs : List (List ℕ)) → StandApart hs → (name value : List ℕ) → unfolded (field_lines name value ++ hs) ≡ whole_line name value ∷ unfolded hs
unfolded-field hs apart name [] = apart (name ++ 58 ∷ [])
unfolded-field hs apart name (c ∷ cs) =
    let start = name ++ 58 ∷ 32 ∷ [] in
    unfolded-behind hs apart (line_width - length start) start (words (c ∷ cs)) (words-later (c ∷ cs))
    ∙ ap (λ z. z ∷ unfolded hs) (ap (λ v. start ++ v) (all-words (c ∷ cs)) ∙ append_assoc name (58 ∷ 32 ∷ []) (c ∷ cs))

-- How lines are written, word by word.

pub first_word : (old first left value : List ℕ) (room : ℕ) → words value ≡ first ∷ words left →
    (old ++ first) ++ ended (folded (room - length first) (words left)) ≡ old ++ ended (words_behind room (words value))
first_word old first left value room e =
    append_assoc old first (ended (folded (room - length first) (words left)))
    ∙ ap (λ z. old ++ z) (sym (ended-ahead first (folded (room - length first) (words left)) (folded-some (room - length first) (words left))))
    ∙ ap (λ ws. old ++ ended (words_behind room ws)) (sym e)

pub word_stays : (old w : List ℕ) (room : ℕ) (ws : List (List ℕ)) → length w ≤ room →
    (old ++ w) ++ ended (folded (room - length w) ws) ≡ old ++ ended (folded room (w ∷ ws))
word_stays old w room ws h =
    let lines = folded (room - length w) ws in
    append_assoc old w (ended lines) ∙ ap (λ z. old ++ z) (sym (ended-ahead w lines (folded-some (room - length w) ws)))
    ∙ ap (λ ls. old ++ ended ls) (sym (cond-false (ltb room (length w)) ([] ∷ ahead w (folded (line_width - length w) ws)) (ahead w lines) (le-ltb room (length w) h)))

pub word_breaks : (old w : List ℕ) (room : ℕ) (ws : List (List ℕ)) → room < length w →
    ((old ++ 13 ∷ 10 ∷ []) ++ w) ++ ended (folded (line_width - length w) ws) ≡ old ++ ended (folded room (w ∷ ws))
word_breaks old w room ws h =
    let lines = folded (line_width - length w) ws in
    append_assoc (old ++ 13 ∷ 10 ∷ []) w (ended lines) ∙ append_assoc old (13 ∷ 10 ∷ []) (w ++ ended lines)
    ∙ ap (λ z. old ++ 13 ∷ 10 ∷ z) (sym (ended-ahead w lines (folded-some (line_width - length w) ws)))
    ∙ ap (λ ls. old ++ ended ls) (sym (cond-true (ltb room (length w)) ([] ∷ ahead w lines) (ahead w (folded (room - length w) ws)) (lt-ltb room (length w) h)))

pub empty_value : (old name : List ℕ) → ((old ++ name) ++ 58 ∷ []) ++ 13 ∷ 10 ∷ [] ≡ old ++ ended (field_lines name [])
empty_value old name = ap (λ z. z ++ 13 ∷ 10 ∷ []) (append_assoc old name (58 ∷ [])) ∙ append_assoc old (name ++ 58 ∷ []) (13 ∷ 10 ∷ [])

pub some_of : (v : List ℕ) → eqb (length v) 0 ≡ false → 0 < length v
some_of [] h = absurd (cc)
some_of (c ∷ cs) h = omega arith

pub words_behind-some : (room : ℕ) (ws : List (List ℕ)) → words_behind room ws ≡ [] → ⊥
words_behind-some room [] = λ e. cc
words_behind-some room (w ∷ ws) = ahead-some w (folded (room - length w) ws)

pub some_value : (old name value : List ℕ) → 0 < length value →
    (((old ++ name) ++ 58 ∷ []) ++ 32 ∷ []) ++ ended (words_behind (line_width - length name - 2) (words value)) ≡ old ++ ended (field_lines name value)
some_value old name [] h = absurd (omega arith)
some_value old name (c ∷ cs) h =
    let start = name ++ 58 ∷ 32 ∷ [] in
    let room : line_width - length name - 2 ≡ line_width - length start = simp length-append (omega arith) in
    let behind = words_behind (line_width - length start) (words (c ∷ cs)) in
    let begun : ((old ++ name) ++ 58 ∷ []) ++ 32 ∷ [] ≡ old ++ start =
    append_assoc (old ++ name) (58 ∷ []) (32 ∷ []) ∙ append_assoc old name (58 ∷ 32 ∷ []) in
    ap (λ r. (((old ++ name) ++ 58 ∷ []) ++ 32 ∷ []) ++ ended (words_behind r (words (c ∷ cs)))) room
    ∙ ap (λ z. z ++ ended behind) begun ∙ append_assoc old start (ended behind)
    ∙ ap (λ z. old ++ z) (sym (ended-ahead start behind (words_behind-some (line_width - length start) (words (c ∷ cs)))))
