-- Characters at the front of bytes.
use Rattle.std.proofs.Common.{◌≡◌, ℕ, zero, suc, ◌+◌, ◌<◌, ◌≤◌, min, Bool, true, false, cond, List, [], ◌∷◌, ◌++◌, length, take, drop, Option, Some, None, refl, sym, ◌∙◌, ap, subst, arith, encode_utf8_all}
use Rattle.std.proofs.lemmas.Bool.{and_parts, false_from_ne_true}
use Rattle.std.proofs.lemmas.List.{append_assoc, append-nil, length-append, length-take, length-drop, take_at, drop_at, take-append-le, take-append-drop, take-take, drop-take}
use Rattle.std.proofs.lemmas.Str.{IsUtf8-encode, IsUtf8-append, IsUtf8-from_is_utf8, is_utf8-from_IsUtf8, encode_same, length-encode, len_utf8_bounds}
use Rattle.std.specs.Char.{IsScalar, encode_utf8}
use Rattle.std.specs.List.{flat_map}
use Rattle.std.specs.Option.{option_map}
use Rattle.std.specs.Str.{IsUtf8, IsValidUpTo, StartsWithNoChar, is_utf8}
use lib.Utf8.{scalar, scalars}
use Rattle.word_codec.specs.Utf8.{character, character_len, replacement, utf8_text}
use Rattle.transfer_codec.specs.Scan.{scan}
use Rattle.word_codec.proofs.ScanLemmas.{scan_found, scan_none}

-- The least number that passes a test

first_of_four : (ℕ → Bool) → Option ℕ
first_of_four f = cond (f 1) (Some 1) (cond (f 2) (Some 2) (cond (f 3) (Some 3) (cond (f 4) (Some 4) None)))

least_is : (f : ℕ → Bool) (n : ℕ) → 0 < n → n ≤ 4 → f n ≡ true → ((k : ℕ) → 0 < k → k < n → f k ≡ false) → first_of_four f ≡ Some n
unfolding first_of_four
least_is f zero some few passes none = absurd (omega arith)
least_is f (suc zero) some few passes none = rw passes refl
least_is f (suc (suc zero)) some few passes none = rw (none 1 (omega arith) (omega arith), passes) refl
least_is f (suc (suc (suc zero))) some few passes none = rw (none 1 (omega arith) (omega arith), none 2 (omega arith) (omega arith), passes) refl
least_is f (suc (suc (suc (suc zero)))) some few passes none = rw (none 1 (omega arith) (omega arith), none 2 (omega arith) (omega arith), none 3 (omega arith) (omega arith), passes) refl
least_is f (suc (suc (suc (suc (suc n))))) some few passes none = absurd (omega arith)

none_is : (f : ℕ → Bool) → ((k : ℕ) → 0 < k → f k ≡ false) → first_of_four f ≡ None
unfolding first_of_four
none_is f none = rw (none 1 (omega arith), none 2 (omega arith), none 3 (omega arith), none 4 (omega arith)) refl

-- A front of a character is no text.

nothing_left : (x y : List ℕ) → x ++ y ≡ [] → length y ≡ 0
nothing_left x y e = let size : length x + length y ≡ 0 = sym (length-append x y) ∙ ap length e in omega arith

no_part : (cs : List ℕ) (c k : ℕ) → 0 < k → k < length (encode_utf8 c) → encode_utf8_all cs ≡ take k (encode_utf8 c) → ⊥
no_part [] c k some few e = let size : 0 ≡ min k (length (encode_utf8 c)) = ap length e ∙ length-take k (encode_utf8 c) in absurd (omega arith)
no_part (d ∷ ds) c k some few e =
    let text = encode_utf8 c in
    let whole : encode_utf8 d ++ (encode_utf8_all ds ++ drop k text) ≡ text ++ [] =
    sym (append_assoc (encode_utf8 d) (encode_utf8_all ds) (drop k text)) ∙ ap (λ z. z ++ drop k text) e ∙ take-append-drop k text ∙ sym (append-nil text) in
    let left = nothing_left (encode_utf8_all ds) (drop k text) (encode_same d c (encode_utf8_all ds ++ drop k text) [] whole).1 in
    absurd (omega (arith, length-drop k text))

part_fails : (c : ℕ) (rest : List ℕ) (k : ℕ) → 0 < k → k < length (encode_utf8 c) → is_utf8 (take k (encode_utf8 c ++ rest)) ≡ false
part_fails c rest k some few = false_from_ne_true (is_utf8 (take k (encode_utf8 c ++ rest))) (λ passes.
    let u = IsUtf8-from_is_utf8 (take k (encode_utf8 c ++ rest)) passes in
    no_part u.0 c k some few (u.1.1 ∙ take-append-le k (encode_utf8 c) rest (omega arith)))

whole_passes : (c : ℕ) (rest : List ℕ) → IsScalar c → is_utf8 (take (length (encode_utf8 c)) (encode_utf8 c ++ rest)) ≡ true
whole_passes c rest h = ap is_utf8 (take_at (encode_utf8 c) rest (length (encode_utf8 c)) refl) ∙ is_utf8-from_IsUtf8 (encode_utf8 c) (IsUtf8-encode c h)

character_is : (c : ℕ) (rest : List ℕ) → IsScalar c → character (encode_utf8 c ++ rest) ≡ Some (length (encode_utf8 c), encode_utf8 c)
unfolding character first_of_four
character_is c rest h =
    let bytes = encode_utf8 c ++ rest in
    let n = length (encode_utf8 c) in
    let bounds = len_utf8_bounds c in
    let size = length-encode c in
    let found : character_len bytes ≡ Some n = least_is (λ k. is_utf8 (take k bytes)) n (omega arith) (omega arith) (whole_passes c rest h) (λ k some few. part_fails c rest k some few) in
    ap (option_map (λ k. (k, take k bytes))) found ∙ ap (λ z. Some (n, z)) (take_at (encode_utf8 c) rest n refl)

-- A text of characters is as it was.

pub utf8_char : (c : ℕ) (rest : List ℕ) → IsScalar c → utf8_text (encode_utf8 c ++ rest) ≡ encode_utf8 c ++ utf8_text rest
unfolding utf8_text
utf8_char c rest h =
    let bytes = encode_utf8 c ++ rest in
    let n = length (encode_utf8 c) in
    let some : 0 < n = omega (arith, length-encode c, len_utf8_bounds c) in
    let here = scan_found character (λ (b : ℕ). replacement) bytes 0 n (encode_utf8 c) (omega (arith, length-append (encode_utf8 c) rest)) some (character_is c rest h) in
    ap (flat_map (λ part. part)) here
    ∙ ap (λ z. encode_utf8 c ++ flat_map (λ part. part) (scan character (λ b. replacement) 0 z)) (ap (λ k. drop k bytes) (let same : 0 + n ≡ n = omega arith in same) ∙ drop_at (encode_utf8 c) rest n refl)

utf8_chars : (cs rest : List ℕ) → scalars cs ≡ true → utf8_text (encode_utf8_all cs ++ rest) ≡ encode_utf8_all cs ++ utf8_text rest
utf8_chars [] rest h = refl
utf8_chars (c ∷ cs) rest h =
    let parts = and_parts (scalar c) (scalars cs) h in
    ap utf8_text (append_assoc (encode_utf8 c) (encode_utf8_all cs) rest) ∙ utf8_char c (encode_utf8_all cs ++ rest) parts.0
    ∙ ap (λ z. encode_utf8 c ++ z) (utf8_chars cs rest parts.1) ∙ sym (append_assoc (encode_utf8 c) (encode_utf8_all cs) (utf8_text rest))

pub utf8_front : (bytes rest : List ℕ) → IsUtf8 bytes → utf8_text (bytes ++ rest) ≡ bytes ++ utf8_text rest
utf8_front bytes rest u = subst (λ z. utf8_text (z ++ rest) ≡ z ++ utf8_text rest) u.1.1 (utf8_chars u.0 rest u.1.0)

pub utf8_nothing : utf8_text [] ≡ []
unfolding utf8_text scan
utf8_nothing = refl

pub utf8_whole : (bytes : List ℕ) → IsUtf8 bytes → utf8_text bytes ≡ bytes
utf8_whole bytes u = ap utf8_text (sym (append-nil bytes)) ∙ utf8_front bytes [] u ∙ ap (λ z. bytes ++ z) utf8_nothing ∙ append-nil bytes

-- A byte that begins no character

take_sum : (n k : ℕ) (bytes : List ℕ) → take (n + k) bytes ≡ take n bytes ++ take k (drop n bytes)
take_sum n k bytes =
    sym (take-append-drop n (take (n + k) bytes)) ∙ ap (λ z. z ++ drop n (take (n + k) bytes)) (take-take n (n + k) bytes (omega arith))
    ∙ ap (λ z. take n bytes ++ z) (drop-take n k bytes)

no_character : (bytes : List ℕ) (n : ℕ) → IsValidUpTo bytes n → character (drop n bytes) ≡ None
unfolding character first_of_four
no_character bytes n v =
    let none : character_len (drop n bytes) ≡ None = none_is (λ k. is_utf8 (take k (drop n bytes))) (λ k some. false_from_ne_true (is_utf8 (take k (drop n bytes))) (λ passes.
    let longer = IsUtf8-append (take n bytes) (take k (drop n bytes)) v.front (IsUtf8-from_is_utf8 (take k (drop n bytes)) passes) in
    v.longest (n + k) (omega arith) (subst IsUtf8 (sym (take_sum n k bytes)) longer))) in
    ap (option_map (λ k. (k, take k (drop n bytes)))) none

replaced_here : (bytes : List ℕ) (n : ℕ) → n < length bytes → character (drop n bytes) ≡ None → utf8_text (drop n bytes) ≡ replacement ++ utf8_text (drop (n + 1) bytes)
unfolding utf8_text
replaced_here bytes n h e = ap (flat_map (λ part. part)) (scan_none character (λ (b : ℕ). replacement) bytes n h e)

pub utf8_more : (bytes : List ℕ) (n : ℕ) → IsValidUpTo bytes n → utf8_text bytes ≡ take n bytes ++ (replacement ++ utf8_text (drop (n + 1) bytes))
utf8_more bytes n v =
    ap utf8_text (sym (take-append-drop n bytes)) ∙ utf8_front (take n bytes) (drop n bytes) v.front
    ∙ ap (λ z. take n bytes ++ z) (replaced_here bytes n v.short (no_character bytes n v))

-- Where no character stands at the front

starts_not : (cs bytes : List ℕ) (k : ℕ) → 0 < k → 0 < length bytes → scalars cs ≡ true → encode_utf8_all cs ≡ take k bytes → StartsWithNoChar bytes → ⊥
starts_not [] bytes k some full h e none = let size : 0 ≡ min k (length bytes) = ap length e ∙ length-take k bytes in absurd (omega arith)
starts_not (d ∷ ds) bytes k some full h e none =
    let parts = and_parts (scalar d) (scalars ds) h in
    none d (encode_utf8_all ds ++ drop k bytes) parts.0
    (sym (take-append-drop k bytes) ∙ ap (λ z. z ++ drop k bytes) (sym e) ∙ append_assoc (encode_utf8 d) (encode_utf8_all ds) (drop k bytes))

pub utf8_replaced : (b : ℕ) (rest : List ℕ) → StartsWithNoChar (b ∷ rest) → utf8_text (b ∷ rest) ≡ replacement ++ utf8_text rest
unfolding character first_of_four
utf8_replaced b rest h =
    let bytes = b ∷ rest in
    let none : character_len bytes ≡ None = none_is (λ k. is_utf8 (take k bytes)) (λ k some. false_from_ne_true (is_utf8 (take k bytes)) (λ passes.
    let u = IsUtf8-from_is_utf8 (take k bytes) passes in
    starts_not u.0 bytes k some (omega arith) u.1.0 u.1.1 h)) in
    replaced_here bytes 0 (omega arith) (ap (option_map (λ k. (k, take k bytes))) none)
