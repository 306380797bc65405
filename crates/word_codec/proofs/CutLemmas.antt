-- A value cut from the left.
use Rattle.std.proofs.Common.{◌≡◌, ℕ, zero, suc, ◌+◌, ◌-◌, ◌<◌, ◌≤◌, Bool, true, false, cond, ◌&&◌, eqb, List, [], ◌∷◌, ◌++◌, length, take, drop, Option, Some, None, refl, sym, ◌∙◌, ap, arith}
use Rattle.std.proofs.lemmas.Bool.{ne_eqb}
use Rattle.std.proofs.lemmas.List.{append_assoc, append-nil, length-drop, take-append-drop, take-take, drop-take, drop-drop, take_all, drop_all}
use Rattle.std.specs.Option.{option_map}
use Rattle.mail_text.specs.Texts.{behind, is_blank}
use Rattle.transfer_codec.specs.Scan.{scan}
use Rattle.word_codec.specs.Utf8.{utf8_text}
use Rattle.word_codec.specs.Charsets.{text_by}
use Rattle.word_codec.specs.Words.{Word, word_at, word_len}
use Rattle.word_codec.specs.Contents.{content_bytes}
use Rattle.word_codec.specs.Found.{IsFirst, NoneBefore}
use Rattle.word_codec.specs.Texts.{Cut, piece_at, piece_of, pieces, with_plain, with_text, cut_of, are_blanks, behind_word, words_text, value_text}
use Rattle.word_codec.specs.Texts.Piece.{Plain}
use Rattle.word_codec.proofs.ScanLemmas.{scan_none, scan_found}

blank_step : (t : Bool) (c : ℕ) (cs : List ℕ) → eqb (length (behind is_blank cs)) 0 ≡ are_blanks cs →
    eqb (length (cond t (behind is_blank cs) (c ∷ cs))) 0 ≡ (t && are_blanks cs)
blank_step true c cs h = h
blank_step false c cs h = ne_eqb (suc (length cs)) 0 (λ e. absurd (omega arith))

pub blanks-behind : (bytes : List ℕ) → eqb (length (behind is_blank bytes)) 0 ≡ are_blanks bytes
blanks-behind [] = refl
blanks-behind (c ∷ cs) = blank_step (is_blank c) c cs (blanks-behind cs)

abbrev pub cut_from : List ℕ → Cut
cut_from text = cut_of (pieces text)

-- What is shown of a cut, behind a word or at the start.
abbrev pub text_from : Bool → Cut → List ℕ
text_from after cut = cond after (behind_word cut.lead cut.words) (utf8_text cut.lead) ++ words_text cut.words

pub value_text_is : (value : List ℕ) → value_text value ≡ text_from false (cut_from value)
unfolding value_text
value_text_is value = refl

with_plain-append : (a b : List ℕ) (cut : Cut) → with_plain a (with_plain b cut) ≡ with_plain (a ++ b) cut
with_plain-append a b cut = ap (λ (lead : List ℕ). let c : Cut = record { lead = lead; words = cut.words } in c) (sym (append_assoc a b cut.lead))

pub no_piece : (text : List ℕ) → word_at text ≡ None → piece_at text ≡ None
no_piece text e = ap (option_map (λ word. (word_len word, piece_of (content_bytes word.encoding word.content) word.charset (take (word_len word) text)))) e

-- Up to the first word all stays.
cut_before : (text : List ℕ) (start : ℕ) → start ≤ length text → NoneBefore text start → cut_from text ≡ with_plain (take start text) (cut_from (drop start text))
cut_before text zero h none = refl
cut_before [] (suc start) h none = absurd (omega arith)
cut_before (c ∷ cs) (suc start) h none =
    ap cut_of (scan_none piece_at (λ b. Plain (b ∷ [])) (c ∷ cs) 0 (omega arith) (no_piece (c ∷ cs) (none 0 (omega arith))))
    ∙ ap (with_plain (c ∷ [])) (cut_before cs start (omega arith) (λ k below. none (suc k) (omega arith)))

pub cut_none : (text : List ℕ) → NoneBefore text (length text) → cut_from text ≡ record { lead = text ++ []; words = [] }
unfolding scan
cut_none text none =
    cut_before text (length text) (omega arith) none
    ∙ ap (λ z. with_plain z (cut_from (drop (length text) text))) (take_all (length text) text (omega arith))
    ∙ ap (λ z. with_plain text (cut_from z)) (drop_all (length text) text (omega arith))

pub piece_here : (text : List ℕ) (word : Word) (content : Option (List ℕ)) → 0 < length text → word_at text ≡ Some word → content_bytes word.encoding word.content ≡ content →
    pieces text ≡ piece_of content word.charset (take (word_len word) text) ∷ pieces (drop (word_len word) text)
piece_here text word content some here is =
    let n = word_len word in
    let found : piece_at text ≡ Some (n, piece_of content word.charset (take n text)) =
    ap (option_map (λ (w : Word). (word_len w, piece_of (content_bytes w.encoding w.content) w.charset (take (word_len w) text)))) here
    ∙ ap (λ o. Some (n, piece_of o word.charset (take n text))) is in
    scan_found piece_at (λ b. Plain (b ∷ [])) text 0 n (piece_of content word.charset (take n text)) some (omega arith) found
    ∙ ap (λ k. piece_of content word.charset (take n text) ∷ pieces (drop k text)) (let same : 0 + n ≡ n = omega arith in same)

-- The bytes from a place on, up to a later place and beyond it

take_sum : (n k : ℕ) (bytes : List ℕ) → take n bytes ++ take k (drop n bytes) ≡ take (n + k) bytes
take_sum n k bytes =
    sym (ap (λ z. z ++ drop n (take (n + k) bytes)) (take-take n (n + k) bytes (omega arith)) ∙ ap (λ z. take n bytes ++ z) (drop-take n k bytes))
    ∙ take-append-drop n (take (n + k) bytes)

later : (value : List ℕ) (shown at : ℕ) → shown ≤ at → drop at value ≡ drop (at - shown) (drop shown value)
later value shown at h = ap (λ k. drop k value) (let same : at ≡ shown + (at - shown) = omega arith in same) ∙ sym (drop-drop (at - shown) shown value)

run_more : (value : List ℕ) (shown at k : ℕ) → shown ≤ at → take (at - shown) (drop shown value) ++ take k (drop at value) ≡ take (at + k - shown) (drop shown value)
run_more value shown at k h =
    ap (λ z. take (at - shown) (drop shown value) ++ take k z) (later value shown at h) ∙ take_sum (at - shown) k (drop shown value)
    ∙ ap (λ n. take n (drop shown value)) (let same : at - shown + k ≡ at + k - shown = omega arith in same)

run_rest : (value : List ℕ) (shown at : ℕ) → shown ≤ at → take (at - shown) (drop shown value) ++ drop at value ≡ drop shown value
run_rest value shown at h = ap (λ z. take (at - shown) (drop shown value) ++ z) (later value shown at h) ∙ take-append-drop (at - shown) (drop shown value)

-- What is written of a value: all up to the bytes from `shown` to `at`, in which no word is decoded.
pub record Written (value : List ℕ) (shown at : ℕ) (after : Bool) (out all : List ℕ) : Type 0 where
  pub ordered : shown ≤ at
  pub within : at ≤ length value
  pub so_far : out ++ text_from after (with_plain (take (at - shown) (drop shown value)) (cut_from (drop at value))) ≡ all

pub written_none : (value out : List ℕ) → Written value 0 0 false out (out ++ value_text value)
written_none value out = record {
  ordered = omega arith;
  within = omega arith;
  so_far = ap (λ z. out ++ z) (sym (value_text_is value));
}

-- Up to a word, and behind it
to_word : (value : List ℕ) (shown at start : ℕ) → shown ≤ at → start ≤ length (drop at value) → NoneBefore (drop at value) start →
    with_plain (take (at - shown) (drop shown value)) (cut_from (drop at value)) ≡ with_plain (take (at + start - shown) (drop shown value)) (cut_from (drop (at + start) value))
to_word value shown at start h fits none =
    let run = take (at - shown) (drop shown value) in
    let text = drop at value in
    ap (with_plain run) (cut_before text start fits none) ∙ with_plain-append run (take start text) (cut_from (drop start text))
    ∙ ap (λ z. with_plain z (cut_from (drop start text))) (run_more value shown at start h)
    ∙ ap (λ z. with_plain (take (at + start - shown) (drop shown value)) (cut_from z)) (drop-drop start at value)

pub word_stays : (value : List ℕ) (shown at start : ℕ) (after : Bool) (out all : List ℕ) (word : Word) → IsFirst (drop at value) start word →
    content_bytes word.encoding word.content ≡ None → Written value shown at after out all → Written value shown (at + start + word_len word) after out all
word_stays value shown at start after out all word first none w =
    let n = word_len word in
    let inside = first.within in
    let size = length-drop at value in
    let here : word_at (drop (at + start) value) ≡ Some word = ap word_at (sym (drop-drop start at value)) ∙ first.here in
    let run = take (at + start - shown) (drop shown value) in
    let text = drop (at + start) value in
    let fits : start ≤ length (drop at value) = omega arith in
    let some : 0 < length text = omega (arith, length-drop (at + start) value) in
    let kept : with_plain run (cut_from text) ≡ with_plain (take (at + start + n - shown) (drop shown value)) (cut_from (drop (at + start + n) value)) =
    ap (λ ps. with_plain run (cut_of ps)) (piece_here text word None some here none) ∙ with_plain-append run (take n text) (cut_from (drop n text))
    ∙ ap (λ z. with_plain z (cut_from (drop n text))) (run_more value shown (at + start) n (omega (arith, w.ordered)))
    ∙ ap (λ z. with_plain (take (at + start + n - shown) (drop shown value)) (cut_from z)) (drop-drop n (at + start) value) in
    record {
      ordered = omega (arith, w.ordered);
      within = omega arith;
      so_far = ap (λ cut. out ++ text_from after cut) (sym (to_word value shown at start w.ordered fits first.none_before ∙ kept)) ∙ w.so_far;
    }

dropped : (after blanks : Bool) (text : List ℕ) → cond after (cond blanks [] text) text ≡ cond (after && blanks) [] text
dropped true blanks text = refl
dropped false blanks text = refl

nothing : (n : ℕ) (bytes : List ℕ) → take (n - n) bytes ≡ []
nothing n bytes = ap (λ k. take k bytes) (let none : n - n ≡ 0 = omega arith in none)

pub word_shown : (value : List ℕ) (shown at start : ℕ) (after : Bool) (out all : List ℕ) (word : Word) (bytes : List ℕ) → IsFirst (drop at value) start word →
    content_bytes word.encoding word.content ≡ Some bytes → Written value shown at after out all →
    let run = take (at + start - shown) (drop shown value) in
    Written value (at + start + word_len word) (at + start + word_len word) true ((out ++ cond (after && are_blanks run) [] (utf8_text run)) ++ text_by word.charset bytes) all
word_shown value shown at start after out all word bytes first content w =
    let n = word_len word in
    let end = at + start + n in
    let inside = first.within in
    let size = length-drop at value in
    let here : word_at (drop (at + start) value) ≡ Some word = ap word_at (sym (drop-drop start at value)) ∙ first.here in
    let run = take (at + start - shown) (drop shown value) in
    let text = drop (at + start) value in
    let rest = cut_from (drop end value) in
    let shown_text = text_by word.charset bytes in
    let fits : start ≤ length (drop at value) = omega arith in
    let some : 0 < length text = omega (arith, length-drop (at + start) value) in
    let cut : with_plain run (cut_from text) ≡ with_plain run (with_text shown_text rest) =
    ap (λ ps. with_plain run (cut_of ps)) (piece_here text word (Some bytes) some here content)
    ∙ ap (λ z. with_plain run (with_text shown_text (cut_from z))) (drop-drop n (at + start) value) in
    let lead : run ++ [] ≡ run = append-nil run in
    let tail = behind_word rest.lead rest.words ++ words_text rest.words in
    let before = cond (after && are_blanks run) [] (utf8_text run) in
    let whole : text_from after (with_plain run (with_text shown_text rest)) ≡ before ++ (shown_text ++ tail) =
    ap (λ z. cond after (cond (are_blanks z) [] (utf8_text z)) (utf8_text z) ++ (shown_text ++ tail)) lead ∙ ap (λ z. z ++ (shown_text ++ tail)) (dropped after (are_blanks run) (utf8_text run)) in
    record {
      ordered = omega arith;
      within = omega arith;
      so_far = ap (λ z. ((out ++ before) ++ shown_text) ++ text_from true (with_plain z rest)) (nothing end (drop end value))
          ∙ append_assoc (out ++ before) shown_text tail ∙ append_assoc out before (shown_text ++ tail)
          ∙ ap (λ z. out ++ z) (sym whole) ∙ ap (λ c. out ++ text_from after c) (sym (to_word value shown at start w.ordered fits first.none_before ∙ cut)) ∙ w.so_far;
    }

either : (after : Bool) (text : List ℕ) → cond after text text ≡ text
either true text = refl
either false text = refl

pub written_all : (value : List ℕ) (shown at : ℕ) (after : Bool) (out all : List ℕ) → NoneBefore (drop at value) (length (drop at value)) → Written value shown at after out all →
    out ++ utf8_text (drop shown value) ≡ all
written_all value shown at after out all none w =
    let run = take (at - shown) (drop shown value) in
    let text = drop at value in
    let lead : run ++ (text ++ []) ≡ drop shown value = ap (λ z. run ++ z) (append-nil text) ∙ run_rest value shown at w.ordered in
    let plain : text_from after (with_plain run (cut_from text)) ≡ utf8_text (drop shown value) =
    ap (λ c. text_from after (with_plain run c)) (cut_none text none) ∙ append-nil (cond after (utf8_text (run ++ (text ++ []))) (utf8_text (run ++ (text ++ []))))
    ∙ either after (utf8_text (run ++ (text ++ []))) ∙ ap utf8_text lead in
    ap (λ z. out ++ z) (sym plain) ∙ w.so_far

pub no_words : (value : List ℕ) → NoneBefore value (length value) → value_text value ≡ utf8_text value
no_words value none =
    sym (written_all value 0 0 false [] (value_text value) none (written_none value []))
