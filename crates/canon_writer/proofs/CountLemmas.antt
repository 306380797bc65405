-- A value is counted as its lines are long.
use Rattle.std.proofs.Common.{◌≡◌, ℕ, ◌+◌, ◌-◌, ◌^◌, ◌<◌, ◌≤◌, inl, inr, Bool, true, false, cond, ◌&&◌, not, eqb, ltb, List, [], ◌∷◌, ◌++◌, length, get_or, drop, refl, sym, ◌∙◌, ap, arith}
use Rattle.std.proofs.lemmas.Bool.{cond_both, cond-true, cond-false, le-ltb, lt-ltb, eq-eqb, ne_eqb, cases_lt}
use Rattle.std.proofs.lemmas.List.{length-append, drop_more}
use Rattle.mail_text.specs.Texts.{begins, is_blank}
use Rattle.mail_text.specs.Lines.{put, ahead}
use Rattle.header_reader.specs.Faults.{header_size}
use Rattle.canon_writer.specs.declared.counting.FieldSize.{FieldSize}
use Rattle.canon_writer.specs.declared.counting.Word.{Word}
use Rattle.canon_writer.specs.declared.counting.Word.TheVariants.{NoneYet, First, Later}
use Rattle.canon_writer.specs.Folding.{words, line_width, folded, words_behind, field_lines}
use Rattle.canon_writer.specs.Printing.{ended}
use Rattle.canon_writer.specs.Counting.{capped, named, word_with, in_word, with_byte, with_bytes}
use Rattle.canon_writer.proofs.WordLemmas.{ahead_none, ahead-put, last_word, words-some}
use Rattle.canon_writer.proofs.FoldLemmas.{folded-some, words_behind-some}
use Rattle.canon_writer.proofs.SizeLemmas.{size-ahead}

pub with_bytes-append : (field : FieldSize) (x y : List ℕ) → with_bytes field (x ++ y) ≡ with_bytes (with_bytes field x) y
unfolding with_bytes
with_bytes-append field [] y = refl
with_bytes-append field (c ∷ cs) y = with_bytes-append (with_byte field c) cs y

pub with_bytes-none : (field : FieldSize) → with_bytes field [] ≡ field
unfolding with_bytes
with_bytes-none field = refl

pub with_bytes-more : (field : FieldSize) (text : List ℕ) (at : ℕ) → at < length text →
    with_bytes field (drop at text) ≡ with_bytes (with_byte field (get_or text at 0)) (drop (at + 1) text)
unfolding with_bytes
with_bytes-more field text at h = ap (with_bytes field) (drop_more text at 0 h)

-- How much a byte adds, and bytes add.
abbrev added_in : ℕ → Word → ℕ
added_in left NoneYet = 2
added_in left First = 1
added_in left (Later room) = cond (eqb left 0) 3 1

abbrev added : FieldSize → List ℕ → ℕ
added field [] = 0
added field (c ∷ cs) = added_in field.left (word_with field c) + added (with_byte field c) cs

in_word-size : (size left : ℕ) (blank : Bool) (word : Word) → (in_word size left blank word).size ≡ capped (size + added_in left word)
in_word-size size left blank NoneYet = refl
in_word-size size left blank First = refl
in_word-size size left blank (Later room) =
    cond_both {A = FieldSize} (eqb left 0)
    (record { size = capped (size + 3); left = 77 - room; word = First; is_blank = blank })
    (record { size = capped (size + 1); left = left - 1; word = Later room; is_blank = blank })
    (λ f. f.size ≡ capped (size + cond (eqb left 0) 3 1))
    (λ e. ap (λ b. capped (size + cond b 3 1)) (sym e)) (λ e. ap (λ b. capped (size + cond b 3 1)) (sym e))

capped-more : (n m : ℕ) → capped (capped n + m) ≡ capped (n + m)
capped-more n m = omega arith

pub with_bytes-size : (field : FieldSize) (text : List ℕ) → field.size < 2 ^ 64 → (with_bytes field text).size ≡ capped (field.size + added field text)
unfolding with_bytes
with_bytes-size field [] h = omega arith
with_bytes-size field (c ∷ cs) h =
    let next = with_byte field c in
    let more = added_in field.left (word_with field c) in
    let size : next.size ≡ capped (field.size + more) = in_word-size field.size field.left (is_blank c) (word_with field c) in
    with_bytes-size next cs (omega (arith, size))
    ∙ ap (λ n. capped (n + added next cs)) size ∙ capped-more (field.size + more) (added next cs)
    ∙ ap capped (let regroup : (field.size + more) + added next cs ≡ field.size + (more + added next cs) = omega arith in regroup)

-- How words stand in lines.

-- Words of which the first begins with a byte.
record Begins (c : ℕ) (ls : List (List ℕ)) : Type 0 where
  more : List ℕ
  later : List (List ℕ)
  is : ls ≡ (c ∷ more) ∷ later

Begins-put : (c : ℕ) (ls : List (List ℕ)) → Begins c (put c ls)
Begins-put c [] = record { more = []; later = []; is = refl }
Begins-put c (l ∷ ls) = record { more = l; later = ls; is = refl }

Begins-words : (c : ℕ) (cs : List ℕ) → Begins c (words (c ∷ cs))
Begins-words c cs =
    cond_both (not (is_blank c) && begins is_blank cs) ((c ∷ []) ∷ words cs) (put c (words cs)) (Begins c)
    (λ _. record { more = []; later = words cs; is = refl }) (λ _. Begins-put c (words cs))

behind-size : (room : ℕ) (w : List ℕ) (ws : List (List ℕ)) → header_size (words_behind room (w ∷ ws)) ≡ length w + header_size (folded (room - length w) ws)
behind-size room w ws = size-ahead w (folded (room - length w) ws) (folded-some (room - length w) ws)

fits : (room : ℕ) (w : List ℕ) (ws : List (List ℕ)) → length w ≤ room → folded room (w ∷ ws) ≡ words_behind room (w ∷ ws)
fits room w ws h =
    cond-false (ltb room (length w)) ([] ∷ ahead w (folded (line_width - length w) ws)) (ahead w (folded (room - length w) ws)) (le-ltb room (length w) h)

-- A first word that is longer than the room.
breaks : (room c : ℕ) (w : List ℕ) (ls : List (List ℕ)) → Begins c ls → room ≤ length w →
    header_size (folded room (ahead w ls)) ≡ 2 + header_size (words_behind line_width (ahead w ls))
breaks room c w ls b h =
    let first = w ++ c ∷ b.more in
    let long : room < length first = omega (arith, length-append w (c ∷ b.more)) in
    let at : folded room (first ∷ b.later) ≡ [] ∷ words_behind line_width (first ∷ b.later) =
    cond-true (ltb room (length first)) ([] ∷ ahead first (folded (line_width - length first) b.later)) (ahead first (folded (room - length first) b.later)) (lt-ltb room (length first) long) in
    ap (λ z. header_size (folded room (ahead w z))) b.is ∙ ap header_size at
    ∙ (let sum : 0 + 2 + header_size (words_behind line_width (first ∷ b.later)) ≡ 2 + header_size (words_behind line_width (first ∷ b.later)) = omega arith in sum)
    ∙ ap (λ z. 2 + header_size (words_behind line_width (ahead w z))) (sym b.is)

-- A byte in a later word.

abbrev state : ℕ → ℕ → Bool → Word → FieldSize
state size left blank word = record { size = size; left = left; word = word; is_blank = blank }

full : (size left room : ℕ) (blank : Bool) (cs : List ℕ) → left ≡ 0 →
    added_in left (Later room) + added (in_word size left blank (Later room)) cs ≡ 3 + added (state (capped (size + 3)) (77 - room) blank First) cs
full size left room blank cs h =
    let is = eq-eqb left 0 h in
    ap (λ n. n + added (in_word size left blank (Later room)) cs) (cond-true (eqb left 0) 3 1 is)
    ∙ ap (λ f. 3 + added f cs) (cond-true (eqb left 0) (state (capped (size + 3)) (77 - room) blank First) (state (capped (size + 1)) (left - 1) blank (Later room)) is)

spare : (size left room : ℕ) (blank : Bool) (cs : List ℕ) → 0 < left →
    added_in left (Later room) + added (in_word size left blank (Later room)) cs ≡ 1 + added (state (capped (size + 1)) (left - 1) blank (Later room)) cs
spare size left room blank cs h =
    let isnt : eqb left 0 ≡ false = ne_eqb left 0 (λ e. omega arith) in
    ap (λ n. n + added (in_word size left blank (Later room)) cs) (cond-false (eqb left 0) 3 1 isnt)
    ∙ ap (λ f. 1 + added f cs) (cond-false (eqb left 0) (state (capped (size + 3)) (77 - room) blank First) (state (capped (size + 1)) (left - 1) blank (Later room)) isnt)

-- What is added behind a word of which `w` and one more byte were counted, in a line that had some room before it.
record Counted (p : ℕ) (text : List ℕ) : Type 0 where
  first : (room : ℕ) (w : List ℕ) (size : ℕ) → header_size (words_behind room (ahead w (words (p ∷ text)))) ≡ length w + 3 + added (state size (room - (length w + 1)) (is_blank p) First) text
  later : (room : ℕ) (w : List ℕ) (size : ℕ) → length w + 1 ≤ room →
      header_size (folded room (ahead w (words (p ∷ text)))) ≡ length w + 3 + added (state size (room - (length w + 1)) (is_blank p) (Later room)) text

module _ (p c : ℕ) (cs : List ℕ) (ih : Counted c cs) where
  -- A word begins.
  begun : (room size : ℕ) → header_size (folded room (words (c ∷ cs))) ≡ 2 + (added_in room (Later room) + added (in_word size room (is_blank c) (Later room)) cs)
  begun room size =
      let start = ahead_none (words (c ∷ cs)) (words-some c cs) in
      elim (cases_lt 0 room) [
        | inl some ↦
            ap (λ z. header_size (folded room z)) start ∙ ih.later room [] (capped (size + 1)) (omega arith)
            ∙ (let sum : 0 + 3 + added (state (capped (size + 1)) (room - (0 + 1)) (is_blank c) (Later room)) cs ≡ 2 + (1 + added (state (capped (size + 1)) (room - 1) (is_blank c) (Later room)) cs) = omega arith in sum)
            ∙ ap (λ n. 2 + n) (sym (spare size room room (is_blank c) cs some))
        | inr none ↦
            let zero_room : room ≡ 0 = omega arith in
            ap (λ z. header_size (folded room z)) start ∙ breaks room c [] (words (c ∷ cs)) (Begins-words c cs) (omega arith)
            ∙ ap (λ n. 2 + n) (ih.first line_width [] (capped (size + 3)))
            ∙ ap (λ n. 2 + (0 + 3 + added (state (capped (size + 3)) n (is_blank c) First) cs)) (let same : 77 ≡ 77 - room = omega arith in same)
            ∙ (let sum : 2 + (0 + 3 + added (state (capped (size + 3)) (77 - room) (is_blank c) First) cs) ≡ 2 + (3 + added (state (capped (size + 3)) (77 - room) (is_blank c) First) cs) = omega arith in sum)
            ∙ ap (λ n. 2 + n) (sym (full size room room (is_blank c) cs zero_room))
      ]

  -- One word ends before a blank, and the next begins.
  ended_word : (room : ℕ) (w : List ℕ) (size : ℕ) →
      header_size (words_behind room ((w ++ p ∷ []) ∷ words (c ∷ cs))) ≡ length w + 3 + (added_in (room - (length w + 1)) (Later (room - (length w + 1)))
      + added (in_word size (room - (length w + 1)) (is_blank c) (Later (room - (length w + 1)))) cs)
  ended_word room w size =
      let whole = w ++ p ∷ [] in
      let left = room - (length w + 1) in
      let more = added_in left (Later left) + added (in_word size left (is_blank c) (Later left)) cs in
      let long : length whole ≡ length w + 1 = length-append w (p ∷ []) in
      behind-size room whole (words (c ∷ cs))
      ∙ ap (λ n. n + header_size (folded (room - n) (words (c ∷ cs)))) long ∙ ap (λ n. length w + 1 + n) (begun left size)
      ∙ (let sum : length w + 1 + (2 + more) ≡ length w + 3 + more = omega arith in sum)

  longer : (room : ℕ) (w : List ℕ) → room - (length (w ++ p ∷ []) + 1) ≡ room - (length w + 1) - 1
  longer room w = omega (arith, length-append w (p ∷ []))

  goes_on : (w : List ℕ) → ahead w (put p (words (c ∷ cs))) ≡ ahead (w ++ p ∷ []) (words (c ∷ cs))
  goes_on w = ahead-put w p (words (c ∷ cs)) (words-some c cs)

  counted_first : (room : ℕ) (w : List ℕ) (size : ℕ) →
      header_size (words_behind room (ahead w (words (p ∷ c ∷ cs)))) ≡ length w + 3 + added (state size (room - (length w + 1)) (is_blank p) First) (c ∷ cs)
  counted_first room w size =
      let left = room - (length w + 1) in
      elim (not (is_blank p) && is_blank c) as (λ b. header_size (words_behind room (ahead w (cond b ((p ∷ []) ∷ words (c ∷ cs)) (put p (words (c ∷ cs))))))
      ≡ length w + 3 + (added_in left (cond b (Later left) First) + added (in_word size left (is_blank c) (cond b (Later left) First)) cs)) [
        | true ↦ ended_word room w size
        | false ↦
            let next = state (capped (size + 1)) (left - 1) (is_blank c) First in
            ap (λ z. header_size (words_behind room z)) (goes_on w) ∙ ih.first room (w ++ p ∷ []) (capped (size + 1))
            ∙ ap (λ n. length (w ++ p ∷ []) + 3 + added (state (capped (size + 1)) n (is_blank c) First) cs) (longer room w)
            ∙ (let sum : length (w ++ p ∷ []) + 3 + added next cs ≡ length w + 3 + (1 + added next cs) = omega (arith, length-append w (p ∷ [])) in sum)
      ]

  counted_later : (room : ℕ) (w : List ℕ) (size : ℕ) → length w + 1 ≤ room →
      header_size (folded room (ahead w (words (p ∷ c ∷ cs)))) ≡ length w + 3 + added (state size (room - (length w + 1)) (is_blank p) (Later room)) (c ∷ cs)
  counted_later room w size h =
      let left = room - (length w + 1) in
      let whole = w ++ p ∷ [] in
      elim (not (is_blank p) && is_blank c) as (λ b. header_size (folded room (ahead w (cond b ((p ∷ []) ∷ words (c ∷ cs)) (put p (words (c ∷ cs))))))
      ≡ length w + 3 + (added_in left (cond b (Later left) (Later room)) + added (in_word size left (is_blank c) (cond b (Later left) (Later room))) cs)) [
        | true ↦
            let short : length whole ≤ room = omega (arith, length-append w (p ∷ [])) in
            ap header_size (fits room whole (words (c ∷ cs)) short) ∙ ended_word room w size
        | false ↦ elim (cases_lt 0 left) [
          | inl some ↦
              let next = state (capped (size + 1)) (left - 1) (is_blank c) (Later room) in
              let short : length whole + 1 ≤ room = omega (arith, length-append w (p ∷ [])) in
              ap (λ z. header_size (folded room z)) (goes_on w) ∙ ih.later room whole (capped (size + 1)) short
              ∙ ap (λ n. length whole + 3 + added (state (capped (size + 1)) n (is_blank c) (Later room)) cs) (longer room w)
              ∙ (let sum : length whole + 3 + added next cs ≡ length w + 3 + (1 + added next cs) = omega (arith, length-append w (p ∷ [])) in sum)
              ∙ ap (λ n. length w + 3 + n) (sym (spare size left room (is_blank c) cs some))
          | inr none ↦
              let next = state (capped (size + 3)) (77 - room) (is_blank c) First in
              let long : room ≤ length whole = omega (arith, length-append w (p ∷ [])) in
              let left_next : line_width - (length whole + 1) ≡ 77 - room = omega (arith, length-append w (p ∷ [])) in
              ap (λ z. header_size (folded room z)) (goes_on w) ∙ breaks room c whole (words (c ∷ cs)) (Begins-words c cs) long
              ∙ ap (λ n. 2 + n) (ih.first line_width whole (capped (size + 3)))
              ∙ ap (λ n. 2 + (length whole + 3 + added (state (capped (size + 3)) n (is_blank c) First) cs)) left_next
              ∙ (let sum : 2 + (length whole + 3 + added next cs) ≡ length w + 3 + (3 + added next cs) = omega (arith, length-append w (p ∷ [])) in sum)
              ∙ ap (λ n. length w + 3 + n) (sym (full size left room (is_blank c) cs (let zero_left : left ≡ 0 = omega arith in zero_left)))
        ]
      ]

last : (w : List ℕ) (p : ℕ) → ahead w (words (p ∷ [])) ≡ (w ++ p ∷ []) ∷ []
last w p = last_word w (p ∷ []) (omega arith) (omega arith)

counted : (p : ℕ) (text : List ℕ) → Counted p text
counted p [] = record {
  first = λ room w size. ap (λ z. header_size (words_behind room z)) (last w p) ∙ behind-size room (w ++ p ∷ []) []
      ∙ (let sum : length (w ++ p ∷ []) + 2 ≡ length w + 3 + 0 = omega (arith, length-append w (p ∷ [])) in sum);
  later = λ room w size h. ap (λ z. header_size (folded room z)) (last w p)
      ∙ ap header_size (fits room (w ++ p ∷ []) [] (omega (arith, length-append w (p ∷ []))))
      ∙ behind-size room (w ++ p ∷ []) []
      ∙ (let sum : length (w ++ p ∷ []) + 2 ≡ length w + 3 + 0 = omega (arith, length-append w (p ∷ [])) in sum);
}
counted p (c ∷ cs) =
    let ih = counted c cs in
    record { first = counted_first p c cs ih; later = counted_later p c cs ih }

-- The text of a value is counted as the field's lines are long.

length-ended : (ls : List (List ℕ)) → length (ended ls) ≡ header_size ls
length-ended [] = refl
length-ended (l ∷ ls) = omega (arith, length-append l (13 ∷ 10 ∷ ended ls), length-ended ls)

lines-size : (name value : List ℕ) → header_size (field_lines name value) ≡ length name + 3 + added (named (length name)) value
lines-size name [] = omega (arith, length-append name (58 ∷ []))
lines-size name (c ∷ cs) =
    let start = name ++ 58 ∷ 32 ∷ [] in
    let room = line_width - length start in
    let size = capped (length name + 3 + 2) in
    let left = 76 - length name - 1 in
    let next = state size left (is_blank c) First in
    let same : room - (0 + 1) ≡ left = omega (arith, length-append name (58 ∷ 32 ∷ [])) in
    size-ahead start (words_behind room (words (c ∷ cs))) (words_behind-some room (words (c ∷ cs)))
    ∙ ap (λ z. length start + header_size (words_behind room z)) (ahead_none (words (c ∷ cs)) (words-some c cs))
    ∙ ap (λ n. length start + n) ((counted c cs).first room [] size)
    ∙ ap (λ n. length start + (0 + 3 + added (state size n (is_blank c) First) cs)) same
    ∙ (let sum : length start + (0 + 3 + added next cs) ≡ length name + 3 + (2 + added next cs) = omega (arith, length-append name (58 ∷ 32 ∷ [])) in sum)

pub counted_field : (name value : List ℕ) → length name < 2 ^ 63 → (with_bytes (named (length name)) value).size ≡ capped (length (ended (field_lines name value)))
counted_field name value h =
    with_bytes-size (named (length name)) value (omega arith)
    ∙ ap capped (sym (length-ended (field_lines name value) ∙ lines-size name value))
