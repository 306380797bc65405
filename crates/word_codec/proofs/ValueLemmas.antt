-- Values that begin with an encoded word.
use Rattle.std.proofs.Common.{◌≡◌, ℕ, ◌<◌, true, false, cond, ◌&&◌, eqb, List, [], ◌∷◌, ◌++◌, length, take, drop, Some, None, refl, sym, ◌∙◌, ap, inl, inr, arith}
use Rattle.std.proofs.lemmas.Bool.{cond-true, cond-false, and_left, and_parts, or_cases, eqb-true}
use Rattle.std.proofs.lemmas.List.{append_assoc, append-nil, length-append, drop_at, take-append-drop}
use Rattle.mail_text.specs.Texts.{front, behind, is_blank}
use Rattle.word_codec.specs.Utf8.{utf8_text}
use Rattle.word_codec.specs.Charsets.{text_by}
use Rattle.word_codec.specs.Words.{Word, is_inner, word_at, word_behind, word_len}
use Rattle.word_codec.specs.Texts.{are_blanks, cut_of, piece_at, value_text, with_plain, with_text, words_text}
use Rattle.word_codec.specs.Texts.Piece.{Plain}
use Rattle.word_codec.specs.Laws.{BeginsWith, HasNoWord, bytes_of, spelled}
use Rattle.word_codec.proofs.ScanLemmas.{scan_none}
use Rattle.word_codec.proofs.SpellLemmas.{word_shows}
use Rattle.word_codec.proofs.Utf8Lemmas.{utf8_nothing}
use Rattle.word_codec.proofs.CutLemmas.{cut_from, cut_none, no_piece, piece_here, text_from, value_text_is}

-- What stands behind a word

spelled_apart : (word : Word) (letter : ℕ) (rest : List ℕ) → spelled word letter rest ≡ spelled word letter [] ++ rest
spelled_apart word letter rest =
    ap (λ z. 61 ∷ 63 ∷ (word.charset ++ 63 ∷ letter ∷ 63 ∷ z)) (sym (append_assoc word.content (63 ∷ 61 ∷ []) rest))
    ∙ ap (λ z. 61 ∷ 63 ∷ z) (sym (append_assoc word.charset (63 ∷ letter ∷ 63 ∷ (word.content ++ 63 ∷ 61 ∷ [])) rest))

spelled_size : (word : Word) (letter : ℕ) → length (spelled word letter []) ≡ word_len word
spelled_size word letter =
    let outer = length-append word.charset (63 ∷ letter ∷ 63 ∷ (word.content ++ 63 ∷ 61 ∷ [])) in
    let inner = length-append word.content (63 ∷ 61 ∷ []) in
    omega arith

rest_is : (word : Word) (value : List ℕ) (b : BeginsWith word value) → drop (word_len word) value ≡ b.rest
rest_is word value b =
    ap (drop (word_len word)) (b.text_is ∙ spelled_apart word b.letter b.rest) ∙ drop_at (spelled word b.letter []) b.rest (word_len word) (spelled_size word b.letter)

some_bytes : (word : Word) (value : List ℕ) → BeginsWith word value → 0 < length value
some_bytes word value b = rw b.text_is (omega arith)

-- A value cut at the word in front

cut_shown : (word : Word) (value bytes : List ℕ) (b : BeginsWith word value) → bytes_of word ≡ Some bytes →
    cut_from value ≡ with_text (text_by word.charset bytes) (cut_from b.rest)
cut_shown word value bytes b is =
    ap cut_of (piece_here value word (Some bytes) (some_bytes word value b) (word_shows word value b) is)
    ∙ ap (λ z. with_text (text_by word.charset bytes) (cut_from z)) (rest_is word value b)

cut_stays : (word : Word) (value : List ℕ) (b : BeginsWith word value) → bytes_of word ≡ None →
    cut_from value ≡ with_plain (take (word_len word) value) (cut_from (drop (word_len word) value))
cut_stays word value b is = ap cut_of (piece_here value word None (some_bytes word value b) (word_shows word value b) is)

-- Blanks begin no word.

blank_is : (c : ℕ) → is_blank c ≡ true → eqb c 61 ≡ false
blank_is c h = elim (or_cases (eqb c 32) (eqb c 9) h) [
  | inl space ↦ ap (λ z. eqb z 61) (eqb-true c 32 space)
  | inr tab ↦ ap (λ z. eqb z 61) (eqb-true c 9 tab)
]

no_word : (c : ℕ) (cs : List ℕ) → is_blank c ≡ true → word_at (c ∷ cs) ≡ None
unfolding word_at
no_word c [] h = refl
no_word c (d ∷ rest) h =
    cond-false (eqb c 61 && eqb d 63) (word_behind (front is_inner rest) (behind is_inner rest)) None (and_left (eqb c 61) (eqb d 63) (blank_is c h))

cut_blanks : (blanks rest : List ℕ) → are_blanks blanks ≡ true → cut_from (blanks ++ rest) ≡ with_plain blanks (cut_from rest)
cut_blanks [] rest h = refl
cut_blanks (c ∷ cs) rest h =
    let parts = and_parts (is_blank c) (are_blanks cs) h in
    ap cut_of (scan_none piece_at (λ b. Plain (b ∷ [])) (c ∷ (cs ++ rest)) 0 (omega arith) (no_piece (c ∷ (cs ++ rest)) (no_word c (cs ++ rest) parts.0)))
    ∙ ap (with_plain (c ∷ [])) (cut_blanks cs rest parts.1)

-- The laws

pub value_last : (word : Word) (value bytes : List ℕ) (b : BeginsWith word value) → bytes_of word ≡ Some bytes → HasNoWord b.rest →
    value_text value ≡ text_by word.charset bytes ++ utf8_text b.rest
value_last word value bytes b is none =
    let shown = text_by word.charset bytes in
    value_text_is value
    ∙ ap (text_from false) (cut_shown word value bytes b is ∙ ap (with_text shown) (cut_none b.rest none))
    ∙ ap (λ z. z ++ (shown ++ (utf8_text (b.rest ++ []) ++ []))) utf8_nothing
    ∙ ap (λ z. shown ++ z) (append-nil (utf8_text (b.rest ++ [])) ∙ ap utf8_text (append-nil b.rest))

pub value_joined : (word next : Word) (value blanks following bytes more : List ℕ) (b : BeginsWith word value) → bytes_of word ≡ Some bytes →
    BeginsWith next following → bytes_of next ≡ Some more → are_blanks blanks ≡ true → b.rest ≡ blanks ++ following →
    value_text value ≡ text_by word.charset bytes ++ value_text following
value_joined word next value blanks following bytes more b is n is_next blank rest =
    let shown = text_by word.charset bytes in
    let left = with_text (text_by next.charset more) (cut_from n.rest) in
    let next_cut : cut_from following ≡ left = cut_shown next following more n is_next in
    let cut : cut_from value ≡ with_text shown (with_plain blanks left) =
    cut_shown word value bytes b is ∙ ap (λ z. with_text shown (cut_from z)) rest ∙ ap (with_text shown) (cut_blanks blanks following blank ∙ ap (with_plain blanks) next_cut) in
    let dropped : cond (are_blanks (blanks ++ [])) [] (utf8_text (blanks ++ [])) ≡ [] =
    ap (λ z. cond (are_blanks z) [] (utf8_text z)) (append-nil blanks) ∙ cond-true (are_blanks blanks) [] (utf8_text blanks) blank in
    let whole : value_text following ≡ words_text left.words =
    value_text_is following ∙ ap (text_from false) next_cut ∙ ap (λ z. z ++ words_text left.words) utf8_nothing in
    value_text_is value ∙ ap (text_from false) cut
    ∙ ap (λ z. z ++ (shown ++ (cond (are_blanks (blanks ++ [])) [] (utf8_text (blanks ++ [])) ++ words_text left.words))) utf8_nothing
    ∙ ap (λ z. shown ++ (z ++ words_text left.words)) dropped ∙ ap (λ z. shown ++ z) (sym whole)

pub value_stays : (word : Word) (value : List ℕ) (b : BeginsWith word value) → bytes_of word ≡ None → HasNoWord b.rest → value_text value ≡ utf8_text value
value_stays word value b is none =
    let n = word_len word in
    let cut : cut_from (drop n value) ≡ record { lead = b.rest ++ []; words = [] } = ap cut_from (rest_is word value b) ∙ cut_none b.rest none in
    let lead : take n value ++ (b.rest ++ []) ≡ value =
    ap (λ z. take n value ++ z) (append-nil b.rest ∙ sym (rest_is word value b)) ∙ take-append-drop n value in
    value_text_is value ∙ ap (text_from false) (cut_stays word value b is ∙ ap (with_plain (take n value)) cut)
    ∙ append-nil (utf8_text (take n value ++ (b.rest ++ []))) ∙ ap utf8_text lead
