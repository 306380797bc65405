-- How long the lines of fields are at most.
use Rattle.std.proofs.Common.{◌≡◌, ℕ, ◌+◌, ◌-◌, ◌*◌, ◌≤◌, ◌&&◌, not, ltb, List, [], ◌∷◌, ◌++◌, length, refl, ap, arith}
use Rattle.std.proofs.lemmas.Bool.{cond_both}
use Rattle.std.proofs.lemmas.List.{length-append}
use Rattle.mail_text.specs.Texts.{begins, is_blank}
use Rattle.mail_text.specs.Lines.{put, ahead}
use Rattle.mime_tree.specs.declared.values.Field.{Field}
use Rattle.header_reader.specs.Faults.{header_size}
use Rattle.canon_writer.specs.Folding.{words, line_width, folded, words_behind, field_lines}
use Rattle.canon_writer.specs.Printing.{value_text, header_lines}
use Rattle.canon_writer.proofs.WordLemmas.{all, all-words}
use Rattle.canon_writer.proofs.FoldLemmas.{folded-some, words_behind-some}

size-append : (ls ms : List (List ℕ)) → header_size (ls ++ ms) ≡ header_size ls + header_size ms
size-append [] ms = omega arith
size-append (l ∷ ls) ms = omega (arith, size-append ls ms)

pub size-ahead : (w : List ℕ) (ls : List (List ℕ)) → (ls ≡ [] → ⊥) → header_size (ahead w ls) ≡ length w + header_size ls
size-ahead w [] some = absurd (some refl)
size-ahead w (l ∷ ls) some = omega (arith, length-append w l)

words_put : (c : ℕ) (ls : List (List ℕ)) → length (put c ls) ≤ length ls + 1
words_put c [] = omega arith
words_put c (l ∷ ls) = omega arith

words_count : (v : List ℕ) → length (words v) ≤ length v
words_count [] = omega arith
words_count (c ∷ cs) =
    let more = words_count cs in
    cond_both (not (is_blank c) && begins is_blank cs) ((c ∷ []) ∷ words cs) (put c (words cs)) (λ ws. length ws ≤ length (c ∷ cs)) (λ _. omega arith)
    (λ _. omega (arith, words_put c (words cs)))

folded_size : (room : ℕ) (ws : List (List ℕ)) → header_size (folded room ws) ≤ length (all ws) + 2 * length ws + 2
folded_size room [] = omega arith
folded_size room (w ∷ ws) =
    let broken = folded (line_width - length w) ws in
    let stays = folded (room - length w) ws in
    cond_both (ltb room (length w)) ([] ∷ ahead w broken) (ahead w stays) (λ ls. header_size ls ≤ length (w ++ all ws) + 2 * length (w ∷ ws) + 2)
    (λ _. omega (arith, size-ahead w broken (folded-some (line_width - length w) ws), folded_size (line_width - length w) ws, length-append w (all ws)))
    (λ _. omega (arith, size-ahead w stays (folded-some (room - length w) ws), folded_size (room - length w) ws, length-append w (all ws)))

behind_size : (room : ℕ) (ws : List (List ℕ)) → header_size (words_behind room ws) ≤ length (all ws) + 2 * length ws + 2
behind_size room [] = omega arith
behind_size room (w ∷ ws) =
    let stays = folded (room - length w) ws in
    omega (arith, size-ahead w stays (folded-some (room - length w) ws), folded_size (room - length w) ws, length-append w (all ws))

-- Each byte of a value may be a word, and stand in a line of its own.
field_size : (name value : List ℕ) → header_size (field_lines name value) ≤ length name + 3 * length value + 4
field_size name [] = omega (arith, length-append name (58 ∷ []))
field_size name (c ∷ cs) =
    let start = name ++ 58 ∷ 32 ∷ [] in
    let room = line_width - length start in
    let ws = words (c ∷ cs) in
    omega (
      arith,
      size-ahead start (words_behind room ws) (words_behind-some room ws),
      behind_size room ws,
      words_count (c ∷ cs),
      ap length (all-words (c ∷ cs)),
      length-append name (58 ∷ 32 ∷ []),
    )

-- A bound of the length of a header.
abbrev pub room_for : List Field → ℕ
room_for [] = 0
room_for (f ∷ fs) = length f.name + 3 * length (value_text f.value) + 4 + room_for fs

pub size_within : (fields : List Field) → header_size (header_lines fields) ≤ room_for fields
size_within [] = omega arith
size_within (f ∷ fs) =
    omega (
      arith,
      size-append (field_lines f.name (value_text f.value)) (header_lines fs),
      field_size f.name (value_text f.value),
      size_within fs,
    )
