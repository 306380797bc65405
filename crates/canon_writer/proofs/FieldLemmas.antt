-- A field that was read is printed in lines that are read as that field.
use Rattle.std.proofs.Common.{◌≡◌, ℕ, ◌-◌, ◌<◌, ◌≤◌, Bool, true, false, cond, ◌&&◌, ◌||◌, not, eqb, leb, ltb, List, [], ◌∷◌, ◌++◌, length, map, refl, sym, ◌∙◌, ap, arith}
use Rattle.std.proofs.lemmas.Bool.{cond_both, cond-true, cond-false, and_parts, and_from, and_right, or_parts, or_from, or_left, or_right, not_from_false, ne_eqb, leb-true}
use Rattle.std.proofs.lemmas.List.{append_assoc}
use Rattle.mail_text.specs.Texts.{begins, front, behind, is_blank, trimmed}
use Rattle.mail_text.specs.Lines.{put, ahead, has}
use Rattle.header_reader.specs.declared.raw.RawField.{RawField}
use Rattle.header_reader.specs.Fields.{is_name, is_colon, is_dash, rest, begins_with_dashes, is_field_line, continued, unfolded, field_of, fields_of}
use Rattle.header_reader.specs.Faults.{go_on, are_fields}
use Rattle.header_reader.specs.Good.{IsGood, AllGood}
use Rattle.canon_writer.specs.Folding.{words, line_width, folded, words_behind, field_lines}
use Rattle.canon_writer.proofs.WordLemmas.{AllBlank, LaterBlank, words-later}
use Rattle.canon_writer.proofs.FoldLemmas.{StandApart, whole_line, unfolded-field}

-- Each byte is a byte of names.
abbrev pub AllNames : List ℕ → Type 0
AllNames [] = Unit {0}
AllNames (c ∷ cs) = (is_name c ≡ true) × AllNames cs

names_step : (t : Bool) (c : ℕ) (w cs : List ℕ) → cond t (c ∷ w) [] ≡ c ∷ cs → (t ≡ true) × (w ≡ cs)
names_step true c w cs e = (refl, cc)
names_step false c w cs e = absurd (cc)

names_all : (n : List ℕ) → front is_name n ≡ n → AllNames n
names_all [] e = tt
names_all (c ∷ cs) e = let step = names_step (is_name c) c (front is_name cs) cs e in (step.0, names_all cs step.1)

front_name : (n y : List ℕ) → AllNames n → front is_name (n ++ 58 ∷ y) ≡ n
front_name [] y h = refl
front_name (c ∷ cs) y h = cond-true (is_name c) (c ∷ front is_name (cs ++ 58 ∷ y)) [] h.0 ∙ ap (λ z. c ∷ z) (front_name cs y h.1)

behind_name : (n y : List ℕ) → AllNames n → behind is_name (n ++ 58 ∷ y) ≡ 58 ∷ y
behind_name [] y h = refl
behind_name (c ∷ cs) y h = cond-true (is_name c) (behind is_name (cs ++ 58 ∷ y)) (c ∷ (cs ++ 58 ∷ y)) h.0 ∙ behind_name cs y h.1

no_colon : (c : ℕ) → is_name c ≡ true → not (is_colon c) ≡ true
no_colon c h = (and_parts (leb c 126) (not (is_colon c)) ((and_parts (leb 33 c) (leb c 126 && not (is_colon c)) h).1)).1

behind_colon : (n y : List ℕ) → AllNames n → behind (λ c. not (is_colon c)) (n ++ 58 ∷ y) ≡ 58 ∷ y
behind_colon [] y h = refl
behind_colon (c ∷ cs) y h =
    cond-true (not (is_colon c)) (behind (λ c. not (is_colon c)) (cs ++ 58 ∷ y)) (c ∷ (cs ++ 58 ∷ y)) (no_colon c h.0) ∙ behind_colon cs y h.1

least_name : (c : ℕ) → is_name c ≡ true → 33 ≤ c
least_name c h = leb-true 33 c ((and_parts (leb 33 c) (leb c 126 && not (is_colon c)) h).0)

no_blank : (c : ℕ) → is_name c ≡ true → is_blank c ≡ false
no_blank c h =
    let least = least_name c h in
    or_from (eqb c 32) (eqb c 9) (ne_eqb c 32 (λ e. omega arith)) (ne_eqb c 9 (λ e. omega arith))

name_lacks : (b : ℕ) (n : List ℕ) → b < 33 → AllNames n → has b n ≡ false
name_lacks b [] low h = refl
name_lacks b (c ∷ cs) low h =
    let least = least_name c h.0 in
    or_from (eqb c b) (has b cs) (ne_eqb c b (λ e. omega arith)) (name_lacks b cs low h.1)

dashes_name : (n y : List ℕ) → begins is_name n ≡ true → begins_with_dashes n ≡ false → begins_with_dashes (n ++ 58 ∷ y) ≡ false
dashes_name [] y s h = refl
dashes_name (c ∷ []) y s h = and_right (is_dash c) false refl
dashes_name (c ∷ d ∷ ds) y s h = h

begins_name : (n y : List ℕ) → begins is_name n ≡ true → begins is_name (n ++ 58 ∷ y) ≡ true
begins_name [] y h = absurd (cc)
begins_name (c ∷ cs) y h = h

blank_name : (n y : List ℕ) → begins is_name n ≡ true → begins is_blank (n ++ 58 ∷ y) ≡ false
blank_name [] y h = absurd (cc)
blank_name (c ∷ cs) y h = no_blank c h

named_line : (n v y : List ℕ) → IsGood n v → is_field_line (n ++ 58 ∷ y) ≡ true
named_line n v y g =
    let names = names_all n g.names in
    and_from (begins is_name (n ++ 58 ∷ y)) (not (begins_with_dashes (n ++ 58 ∷ y)) && begins is_colon (behind is_blank (behind is_name (n ++ 58 ∷ y))))
    (begins_name n y g.some)
    (and_from (not (begins_with_dashes (n ++ 58 ∷ y))) (begins is_colon (behind is_blank (behind is_name (n ++ 58 ∷ y))))
    (not_from_false (begins_with_dashes (n ++ 58 ∷ y)) (dashes_name n y g.some g.no_dashes))
    (ap (λ z. begins is_colon (behind is_blank z)) (behind_name n y names)))

-- What the whole line of a field says.
field_said : (n v y : List ℕ) → IsGood n v → trimmed y ≡ v → field_of (n ++ 58 ∷ y) ≡ record { name = n; value = v }
field_said n v y g e =
    let names = names_all n g.names in
    let the_name = front_name n y names in
    let the_value : trimmed (rest (behind (λ c. not (is_colon c)) (n ++ 58 ∷ y))) ≡ v = ap (λ z. trimmed (rest z)) (behind_colon n y names) ∙ e in
    λ i. record { name = the_name i; value = the_value i }

whole_said : (n v : List ℕ) → IsGood n v → field_of (whole_line n v) ≡ record { name = n; value = v }
whole_said n [] g = field_said n [] [] g refl
whole_said n (c ∷ cs) g = field_said n (c ∷ cs) (32 ∷ c ∷ cs) g g.is_trimmed

whole_blank : (n v : List ℕ) → IsGood n v → begins is_blank (whole_line n v) ≡ false
whole_blank n [] g = blank_name n [] g.some
whole_blank n (c ∷ cs) g = blank_name n (32 ∷ c ∷ cs) g.some

-- The lines of fields with these texts as their values.
abbrev pub lines_of : List RawField → List (List ℕ)
lines_of [] = []
lines_of (raw ∷ raws) = field_lines raw.name raw.value ++ lines_of raws

stand_apart : (raws : List RawField) → AllGood raws → StandApart (lines_of raws)
stand_apart [] g = λ x. refl
stand_apart (raw ∷ raws) g = λ x.
    let us = unfolded (lines_of raws) in
    let whole = whole_line raw.name raw.value in
    let head = unfolded-field (lines_of raws) (stand_apart raws g.1) raw.name raw.value in
    ap (continued x) head ∙ cond-false (begins is_blank whole) ((x ++ whole) ∷ us) (x ∷ whole ∷ us) (whole_blank raw.name raw.value g.0) ∙ ap (λ z. x ∷ z) (sym head)

pub fields-lines_of : (raws : List RawField) → AllGood raws → fields_of (lines_of raws) ≡ raws
fields-lines_of [] g = refl
fields-lines_of (raw ∷ raws) g =
    ap (map field_of) (unfolded-field (lines_of raws) (stand_apart raws g.1) raw.name raw.value)
    ∙ ap (λ f. f ∷ fields_of (lines_of raws)) (whole_said raw.name raw.value g.0) ∙ ap (λ z. raw ∷ z) (fields-lines_of raws g.1)

-- Each printed line is a field's, or begins with a blank.

abbrev pub IsFieldLines : List (List ℕ) → Type 0
IsFieldLines [] = ⊥
IsFieldLines (l ∷ ls) = (is_field_line l ≡ true) × AllBlank ls

AllBlank-ahead : (w : List ℕ) (ls : List (List ℕ)) → begins is_blank w ≡ true → LaterBlank ls → AllBlank (ahead w ls)
AllBlank-ahead [] ls h l = absurd (cc)
AllBlank-ahead (c ∷ cs) [] h l = (h, tt)
AllBlank-ahead (c ∷ cs) (m ∷ ms) h l = (h, l)

LaterBlank-ahead : (w : List ℕ) (ls : List (List ℕ)) → LaterBlank ls → LaterBlank (ahead w ls)
LaterBlank-ahead w [] l = tt
LaterBlank-ahead w (m ∷ ms) l = l

LaterBlank-folded : (room : ℕ) (ws : List (List ℕ)) → AllBlank ws → LaterBlank (folded room ws)
LaterBlank-folded room [] h = tt
LaterBlank-folded room (w ∷ ws) h =
    cond_both (ltb room (length w)) ([] ∷ ahead w (folded (line_width - length w) ws)) (ahead w (folded (room - length w) ws)) LaterBlank
    (λ _. AllBlank-ahead w (folded (line_width - length w) ws) h.0 (LaterBlank-folded (line_width - length w) ws h.1))
    (λ _. LaterBlank-ahead w (folded (room - length w) ws) (LaterBlank-folded (room - length w) ws h.1))

LaterBlank-behind : (room : ℕ) (ws : List (List ℕ)) → LaterBlank ws → LaterBlank (words_behind room ws)
LaterBlank-behind room [] h = tt
LaterBlank-behind room (w ∷ ws) h = LaterBlank-ahead w (folded (room - length w) ws) (LaterBlank-folded (room - length w) ws h)

started : (n v : List ℕ) (ls : List (List ℕ)) → IsGood n v → LaterBlank ls → IsFieldLines (ahead (n ++ 58 ∷ 32 ∷ []) ls)
started n v [] g l = (named_line n v (32 ∷ []) g, tt)
started n v (m ∷ ms) g l = (ap is_field_line (append_assoc n (58 ∷ 32 ∷ []) m) ∙ named_line n v (32 ∷ m) g, l)

are_field_lines : (n v : List ℕ) → IsGood n v → IsFieldLines (field_lines n v)
are_field_lines n [] g = (named_line n [] [] g, tt)
are_field_lines n (c ∷ cs) g =
    let room = line_width - length (n ++ 58 ∷ 32 ∷ []) in
    started n (c ∷ cs) (words_behind room (words (c ∷ cs))) g (LaterBlank-behind room (words (c ∷ cs)) (words-later (c ∷ cs)))

go_on-blank : (ls hs : List (List ℕ)) → AllBlank ls → go_on hs ≡ true → go_on (ls ++ hs) ≡ true
go_on-blank [] hs b g = g
go_on-blank (l ∷ ls) hs b g =
    and_from (is_field_line l || begins is_blank l) (go_on (ls ++ hs)) (or_right (is_field_line l) (begins is_blank l) b.0) (go_on-blank ls hs b.1 g)

pub fields-go_on : (hs : List (List ℕ)) → are_fields hs ≡ true → go_on hs ≡ true
fields-go_on [] h = refl
fields-go_on (l ∷ ls) h =
    let parts = and_parts (is_field_line l) (go_on ls) h in
    and_from (is_field_line l || begins is_blank l) (go_on ls) (or_left (is_field_line l) (begins is_blank l) parts.0) parts.1

fields-append : (ls hs : List (List ℕ)) → IsFieldLines ls → are_fields hs ≡ true → are_fields (ls ++ hs) ≡ true
fields-append [] hs f h = absurd f
fields-append (l ∷ ls) hs f h = and_from (is_field_line l) (go_on (ls ++ hs)) f.0 (go_on-blank ls hs f.1 (fields-go_on hs h))

pub are_fields-lines_of : (raws : List RawField) → AllGood raws → are_fields (lines_of raws) ≡ true
are_fields-lines_of [] g = refl
are_fields-lines_of (raw ∷ raws) g =
    fields-append (field_lines raw.name raw.value) (lines_of raws) (are_field_lines raw.name raw.value g.0) (are_fields-lines_of raws g.1)

-- Printed lines have no byte that the field has not.

abbrev pub AllLack : ℕ → List (List ℕ) → Type 0
AllLack b [] = Unit {0}
AllLack b (l ∷ ls) = (has b l ≡ false) × AllLack b ls

pub has-append : (b : ℕ) (x y : List ℕ) → has b x ≡ false → has b y ≡ false → has b (x ++ y) ≡ false
has-append b [] y h k = k
has-append b (c ∷ cs) y h k =
    let parts = or_parts (eqb c b) (has b cs) h in
    or_from (eqb c b) (has b (cs ++ y)) parts.0 (has-append b cs y parts.1 k)

AllLack-append : (b : ℕ) (ls ms : List (List ℕ)) → AllLack b ls → AllLack b ms → AllLack b (ls ++ ms)
AllLack-append b [] ms h k = k
AllLack-append b (l ∷ ls) ms h k = (h.0, AllLack-append b ls ms h.1 k)

pub AllLack-put : (b c : ℕ) (ls : List (List ℕ)) → eqb c b ≡ false → AllLack b ls → AllLack b (put c ls)
AllLack-put b c [] h k = (or_from (eqb c b) false h refl, tt)
AllLack-put b c (l ∷ ls) h k = (or_from (eqb c b) (has b l) h k.0, k.1)

AllLack-ahead : (b : ℕ) (w : List ℕ) (ls : List (List ℕ)) → has b w ≡ false → AllLack b ls → AllLack b (ahead w ls)
AllLack-ahead b w [] h k = (h, tt)
AllLack-ahead b w (l ∷ ls) h k = (has-append b w l h k.0, k.1)

AllLack-words : (b : ℕ) (v : List ℕ) → has b v ≡ false → AllLack b (words v)
AllLack-words b [] h = tt
AllLack-words b (c ∷ cs) h =
    let parts = or_parts (eqb c b) (has b cs) h in
    let later = AllLack-words b cs parts.1 in
    cond_both (not (is_blank c) && begins is_blank cs) ((c ∷ []) ∷ words cs) (put c (words cs)) (AllLack b)
    (λ _. (or_from (eqb c b) false parts.0 refl, later)) (λ _. AllLack-put b c (words cs) parts.0 later)

AllLack-folded : (b room : ℕ) (ws : List (List ℕ)) → AllLack b ws → AllLack b (folded room ws)
AllLack-folded b room [] h = (refl, tt)
AllLack-folded b room (w ∷ ws) h =
    cond_both (ltb room (length w)) ([] ∷ ahead w (folded (line_width - length w) ws)) (ahead w (folded (room - length w) ws)) (AllLack b)
    (λ _. (refl, AllLack-ahead b w (folded (line_width - length w) ws) h.0 (AllLack-folded b (line_width - length w) ws h.1)))
    (λ _. AllLack-ahead b w (folded (room - length w) ws) h.0 (AllLack-folded b (room - length w) ws h.1))

AllLack-behind : (b room : ℕ) (ws : List (List ℕ)) → AllLack b ws → AllLack b (words_behind room ws)
AllLack-behind b room [] h = (refl, tt)
AllLack-behind b room (w ∷ ws) h = AllLack-ahead b w (folded (room - length w) ws) h.0 (AllLack-folded b (room - length w) ws h.1)

-- A byte below the blank: it is in no name, no colon and no space.
pub AllLack-field : (b : ℕ) (n v : List ℕ) → b < 32 → AllNames n → has b v ≡ false → AllLack b (field_lines n v)
AllLack-field b n [] low names h =
    (has-append b n (58 ∷ []) (name_lacks b n (omega arith) names) (or_from (eqb 58 b) false (ne_eqb 58 b (λ e. omega arith)) refl), tt)
AllLack-field b n (c ∷ cs) low names h =
    let start = n ++ 58 ∷ 32 ∷ [] in
    let room = line_width - length start in
    AllLack-ahead b start (words_behind room (words (c ∷ cs)))
    (has-append b n (58 ∷ 32 ∷ []) (name_lacks b n (omega arith) names)
    (or_from (eqb 58 b) (has b (32 ∷ [])) (ne_eqb 58 b (λ e. omega arith)) (or_from (eqb 32 b) false (ne_eqb 32 b (λ e. omega arith)) refl)))
    (AllLack-behind b room (words (c ∷ cs)) (AllLack-words b (c ∷ cs) h))

pub no_zero_in : (raws : List RawField) → AllGood raws → AllLack 0 (lines_of raws)
no_zero_in [] g = tt
no_zero_in (raw ∷ raws) g =
    AllLack-append 0 (field_lines raw.name raw.value) (lines_of raws) (AllLack-field 0 raw.name raw.value (omega arith) (names_all raw.name g.0.names) g.0.no_zero) (no_zero_in raws g.1)

pub no_lf_in : (raws : List RawField) → AllGood raws → AllLack 10 (lines_of raws)
no_lf_in [] g = tt
no_lf_in (raw ∷ raws) g =
    AllLack-append 10 (field_lines raw.name raw.value) (lines_of raws) (AllLack-field 10 raw.name raw.value (omega arith) (names_all raw.name g.0.names) g.0.no_lf) (no_lf_in raws g.1)

pub no_cr_in : (raws : List RawField) → AllGood raws → AllLack 13 (lines_of raws)
no_cr_in [] g = tt
no_cr_in (raw ∷ raws) g =
    AllLack-append 13 (field_lines raw.name raw.value) (lines_of raws) (AllLack-field 13 raw.name raw.value (omega arith) (names_all raw.name g.0.names) g.0.no_cr) (no_cr_in raws g.1)
