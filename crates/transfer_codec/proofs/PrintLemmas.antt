-- Base64 printed line by line.
use Rattle.std.proofs.Common.{◌≡◌, ℕ, zero, suc, min, replicate, ◌+◌, ◌-◌, ◌*◌, ◌/◌, ◌%◌, ◌<◌, ◌≤◌, inl, inr, List, [], ◌∷◌, ◌++◌, length, take, drop, true, refl, sym, ◌∙◌, ap, arith}
use Rattle.std.specs.List.{flat_map}
use Rattle.std.proofs.lemmas.Bool.{cases_lt}
use Rattle.std.proofs.lemmas.List.{length-append, length-drop, length-take, take-append-drop, take_at, drop_at, take_all, drop_all, take_min, drop_min}
use Rattle.base64.specs.Rfc4648.{encode_symbols, encode_group, encoded_size}
use Rattle.base64.specs.GeneralPurpose.{IsEncodedOver, encode_of, encoded_size_of}
use Rattle.base64.specs.declared.engine.general_purpose.GeneralPurpose.{GeneralPurpose}
use Rattle.transfer_codec.specs.Engines.{IsStandard}
use Rattle.transfer_codec.specs.Base64.{letters, base64}
use Rattle.transfer_codec.specs.Layout.{ended, pieces_of, printed64, printed64_size}
use Rattle.transfer_codec.proofs.DecodeLemmas.{base64_more}
use Rattle.transfer_codec.proofs.LineLemmas.{pieces_more}
use Rattle.transfer_codec.proofs.StandardLemmas.{encodes_standard}

pub length-base64 : (bytes : List ℕ) → length (base64 bytes) ≡ (length bytes + 2) / 3 * 4
unfolding encode_symbols
length-base64 [] = refl
length-base64 (a ∷ []) = refl
length-base64 (a ∷ b ∷ []) = refl
length-base64 (a ∷ b ∷ c ∷ rest) = ap length (base64_more a b c rest) ∙ (let more : suc (suc (suc (suc (length (base64 rest))))) ≡ (suc (suc (suc (length rest))) + 2) / 3 * 4 = omega (arith, length-base64 rest) in more)

base64-append : (x y : List ℕ) → length x % 3 ≡ 0 → base64 (x ++ y) ≡ base64 x ++ base64 y
unfolding encode_symbols
base64-append [] y h = refl
base64-append (a ∷ []) y h = absurd (omega arith)
base64-append (a ∷ b ∷ []) y h = absurd (omega arith)
base64-append (a ∷ b ∷ c ∷ rest) y h =
    let whole : length rest % 3 ≡ 0 = omega arith in
    base64_more a b c (rest ++ y) ∙ ap (λ z. encode_group letters a b c ++ z) (base64-append rest y whole) ∙ ap (λ z. z ++ base64 y) (sym (base64_more a b c rest))

-- The first line of a print stands for the first 57 bytes.
pub first_line : (bytes : List ℕ) → 0 < length bytes →
    pieces_of 76 (base64 bytes) ≡ base64 (take 57 bytes) ∷ pieces_of 76 (base64 (drop 57 bytes))
unfolding encode_symbols
first_line bytes some =
    let all = length-base64 bytes in
    elim (cases_lt 57 (length bytes)) [
      | inl long ↦
          let front : length (take 57 bytes) ≡ 57 = omega (arith, length-take 57 bytes) in
          let size : length (base64 (take 57 bytes)) ≡ 76 = length-base64 (take 57 bytes) ∙ ap (λ n. (n + 2) / 3 * 4) front in
          let whole : base64 bytes ≡ base64 (take 57 bytes) ++ base64 (drop 57 bytes) =
          ap base64 (sym (take-append-drop 57 bytes)) ∙ base64-append (take 57 bytes) (drop 57 bytes) (ap (λ n. n % 3) front) in
          pieces_more 76 (base64 bytes) (omega arith) (omega arith)
          ∙ ap (λ z. take 76 z ∷ pieces_of 76 (drop 76 z)) whole
          ∙ ap (λ z. z ∷ pieces_of 76 (drop 76 (base64 (take 57 bytes) ++ base64 (drop 57 bytes)))) (take_at (base64 (take 57 bytes)) (base64 (drop 57 bytes)) 76 size)
          ∙ ap (λ z. base64 (take 57 bytes) ∷ pieces_of 76 z) (drop_at (base64 (take 57 bytes)) (base64 (drop 57 bytes)) 76 size)
      | inr short ↦
          let size : length (base64 bytes) ≤ 76 = omega arith in
          pieces_more 76 (base64 bytes) (omega arith) (omega arith)
          ∙ ap (λ z. z ∷ pieces_of 76 (drop 76 (base64 bytes))) (take_all 76 (base64 bytes) size ∙ ap base64 (sym (take_all 57 bytes short)))
          ∙ ap (λ z. base64 (take 57 bytes) ∷ pieces_of 76 z) (drop_all 76 (base64 bytes) size ∙ ap base64 (sym (drop_all 57 bytes short)))
    ]

pub printed_more : (bytes : List ℕ) → 0 < length bytes → printed64 bytes ≡ ended (base64 (take 57 bytes)) ++ printed64 (drop 57 bytes)
unfolding printed64
printed_more bytes some = ap (flat_map ended) (first_line bytes some)

pub printed_none : (bytes : List ℕ) → length bytes ≡ 0 → printed64 bytes ≡ []
unfolding printed64 encode_symbols
printed_none [] h = refl
printed_none (c ∷ cs) h = absurd (omega arith)

pub encoded_size_is : (n : ℕ) → encoded_size n true ≡ (n + 2) / 3 * 4
encoded_size_is n = omega arith

-- How long a print is.
sizes : (n line behind letters rest : ℕ) → 0 < n → line ≡ min 57 n → behind ≡ n - 57 → letters ≡ (line + 2) / 3 * 4 → rest ≡ printed64_size behind →
    letters + 2 + rest ≡ printed64_size n
sizes n line behind letters rest some is_line is_behind is_letters is_rest = elim (cases_lt 57 n) [
  | inl long ↦ omega arith
  | inr short ↦ omega arith
]

size_by : (turns : ℕ) (bytes : List ℕ) → length bytes ≤ turns → length (printed64 bytes) ≡ printed64_size (length bytes)
size_by turns [] h = ap length (printed_none [] refl)
size_by zero (c ∷ cs) h = absurd (omega arith)
size_by (suc turns) (c ∷ cs) h =
    let bytes = c ∷ cs in
    let line = take 57 bytes in
    let behind = drop 57 bytes in
    ap length (printed_more bytes (omega arith)) ∙ length-append (ended (base64 line)) (printed64 behind)
    ∙ ap (λ k. k + length (printed64 behind)) (length-append (base64 line) (13 ∷ 10 ∷ []))
    ∙ sizes (length bytes) (length line) (length behind) (length (base64 line)) (length (printed64 behind)) (omega arith) (length-take 57 bytes) (length-drop 57 bytes)
    (length-base64 line) (size_by turns behind (omega (arith, length-drop 57 bytes)))

pub printed_size : (bytes : List ℕ) → length (printed64 bytes) ≡ printed64_size (length bytes)
printed_size bytes = size_by (length bytes) bytes (omega arith)

pub line_size : (engine : GeneralPurpose) (n : ℕ) → IsStandard engine → encoded_size_of engine n ≡ (n + 2) / 3 * 4
line_size engine n standard = ap (encoded_size n) standard.strict.0 ∙ encoded_size_is n

-- What an engine wrote over the space for a line.
pub letters_are : (engine : GeneralPurpose) (bytes output : List ℕ) (len : ℕ) → IsStandard engine → len ≡ encoded_size_of engine (length bytes) →
    IsEncodedOver engine bytes (replicate 76 0) output → take len output ≡ base64 bytes
letters_are engine bytes output len standard len_is written =
    let size = line_size engine (length bytes) standard in
    let symbols = encodes_standard engine bytes standard in
    ap (take len) written ∙ take_at (encode_of engine bytes) _ len (ap length symbols ∙ length-base64 bytes ∙ sym (len_is ∙ size)) ∙ symbols

-- The line that is cut off the front of what is left.
pub line_is : (rest line behind : List ℕ) (at : ℕ) → 0 < length rest → at ≡ min 57 (length rest) → line ≡ take at rest → behind ≡ drop at rest →
    printed64 rest ≡ ended (base64 line) ++ printed64 behind
line_is rest line behind at some is front back =
    let line_at : line ≡ take 57 rest = front ∙ ap (λ n. take n rest) is ∙ take_min 57 rest in
    let behind_at : behind ≡ drop 57 rest = back ∙ ap (λ n. drop n rest) is ∙ drop_min 57 rest in
    printed_more rest some ∙ ap (λ z. ended (base64 z) ++ printed64 (drop 57 rest)) (sym line_at) ∙ ap (λ z. ended (base64 line) ++ printed64 z) (sym behind_at)
