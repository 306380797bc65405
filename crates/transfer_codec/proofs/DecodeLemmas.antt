-- Texts and the bytes that they are the base64 of.
use Rattle.std.proofs.Common.{◌≡◌, ℕ, zero, suc, ◌+◌, ◌*◌, ◌/◌, ◌%◌, ◌<◌, Bool, true, false, cond, ◌&&◌, eqb, List, [], ◌∷◌, ◌++◌, length, get_or, Option, Some, None, refl, sym, ◌∙◌, ap, subst, arith}
use Rattle.std.proofs.lemmas.Bool.{lt-ltb, eqb-true, cond_both, and_parts}
use Rattle.std.proofs.lemmas.List.{append-nil}
use Rattle.base64.specs.Rfc4648.{encode_symbols, encode_group, padding_len}
use Rattle.base64.specs.GeneralPurpose.{IsBytes}
use Rattle.transfer_codec.specs.Base64.{letters, bits, is_letter, first_byte, second_byte, third_byte, group, last_group, followed_by, decoded, base64, padding}
use Rattle.transfer_codec.proofs.LetterLemmas.{bits-letter, letter-bits, not_padding, letter_small, group_is}

-- Bytes

pub head_byte : (x : ℕ) (xs : List ℕ) → IsBytes (x ∷ xs) → x < 256
head_byte x xs h = h 0

pub tail_bytes : (x : ℕ) (xs : List ℕ) → IsBytes (x ∷ xs) → IsBytes xs
tail_bytes x xs h = λ i. h (suc i)

no_bytes : IsBytes []
no_bytes i = omega arith

more_bytes : (x : ℕ) (xs : List ℕ) → x < 256 → IsBytes xs → IsBytes (x ∷ xs)
more_bytes x xs h hs zero = h
more_bytes x xs h hs (suc i) = hs i

-- The letter of six bits.
abbrev pub letter : ℕ → ℕ
letter k = get_or letters k 0

-- Three bytes more are four letters more.
pub base64_more : (a b c : ℕ) (rest : List ℕ) → base64 (a ∷ b ∷ c ∷ rest) ≡ encode_group letters a b c ++ base64 rest
unfolding encode_symbols
base64_more a b c rest =
    let n = length rest in
    let same : padding_len (suc (suc (suc n))) ≡ padding_len n = omega arith in
    rw same refl

-- Four letters before any text.
decoded_more : (a b c d : ℕ) (rest : List ℕ) → bits d < 64 → decoded (a ∷ b ∷ c ∷ d ∷ rest) ≡ followed_by (group a b c d) (decoded rest)
unfolding decoded
decoded_more a b c d [] h = rw (not_padding d h) (cond_both (is_letter a && (is_letter b && (is_letter c && is_letter d)))
    (Some (first_byte a b ∷ second_byte b c ∷ third_byte c d ∷ [])) None (λ o. o ≡ followed_by o (Some [])) (λ _. refl) (λ _. refl))
decoded_more a b c d (e ∷ rest) h = refl

-- Bytes are read again from their base64.

whole_again : (a b c : ℕ) → a < 256 → b < 256 → c < 256 →
    group (letter (a / 4)) (letter (a % 4 * 16 + b / 16)) (letter (b % 16 * 4 + c / 64)) (letter (c % 64)) ≡ Some (a ∷ b ∷ c ∷ [])
whole_again a b c ha hb hc =
    let e0 = bits-letter (a / 4) (omega arith) in
    let e1 = bits-letter (a % 4 * 16 + b / 16) (omega arith) in
    let e2 = bits-letter (b % 16 * 4 + c / 64) (omega arith) in
    let e3 = bits-letter (c % 64) (omega arith) in
    let x : (a / 4) * 4 + (a % 4 * 16 + b / 16) / 16 ≡ a = omega arith in
    let y : (a % 4 * 16 + b / 16) % 16 * 16 + (b % 16 * 4 + c / 64) / 4 ≡ b = omega arith in
    let z : (b % 16 * 4 + c / 64) % 4 * 64 + c % 64 ≡ c = omega arith in
    group_is _ _ _ _ (rw e0 (omega arith)) (rw e1 (omega arith)) (rw e2 (omega arith)) (rw e3 (omega arith)) ∙ rw (e0, e1, e2, e3, x, y, z) refl

two_again : (a b : ℕ) → a < 256 → b < 256 →
    last_group (letter (a / 4)) (letter (a % 4 * 16 + b / 16)) (letter (b % 16 * 4)) padding ≡ Some (a ∷ b ∷ [])
two_again a b ha hb =
    let e0 = bits-letter (a / 4) (omega arith) in
    let e1 = bits-letter (a % 4 * 16 + b / 16) (omega arith) in
    let e2 = bits-letter (b % 16 * 4) (omega arith) in
    let x : (a / 4) * 4 + (a % 4 * 16 + b / 16) / 16 ≡ a = omega arith in
    let y : (a % 4 * 16 + b / 16) % 16 * 16 + b % 16 * 4 / 4 ≡ b = omega arith in
    let none : b % 16 * 4 % 4 ≡ 0 = omega arith in
    rw (not_padding (letter (b % 16 * 4)) (rw e2 (omega arith)), e0, e1, e2, lt-ltb (a / 4) 64 (omega arith), lt-ltb (a % 4 * 16 + b / 16) 64 (omega arith), lt-ltb (b % 16 * 4) 64 (omega arith), none, x, y) refl

one_again : (a : ℕ) → a < 256 → last_group (letter (a / 4)) (letter (a % 4 * 16)) padding padding ≡ Some (a ∷ [])
one_again a ha =
    let e0 = bits-letter (a / 4) (omega arith) in
    let e1 = bits-letter (a % 4 * 16) (omega arith) in
    let x : (a / 4) * 4 + a % 4 * 16 / 16 ≡ a = omega arith in
    let none : a % 4 * 16 % 16 ≡ 0 = omega arith in
    rw (e0, e1, lt-ltb (a / 4) 64 (omega arith), lt-ltb (a % 4 * 16) 64 (omega arith), none, x) refl

pub decoded-base64 : (bytes : List ℕ) → IsBytes bytes → decoded (base64 bytes) ≡ Some bytes
unfolding decoded encode_symbols
decoded-base64 [] h = refl
decoded-base64 (a ∷ []) h = one_again a (h 0)
decoded-base64 (a ∷ b ∷ []) h = two_again a b (h 0) (h 1)
decoded-base64 (a ∷ b ∷ c ∷ rest) h =
    let last = bits-letter (c % 64) (omega arith) in
    ap decoded (base64_more a b c rest)
    ∙ decoded_more (letter (a / 4)) (letter (a % 4 * 16 + b / 16)) (letter (b % 16 * 4 + c / 64)) (letter (c % 64)) (base64 rest) (rw last (omega arith))
    ∙ ap (λ o. followed_by o (decoded (base64 rest))) (whole_again a b c (h 0) (h 1) (h 2))
    ∙ ap (followed_by (Some (a ∷ b ∷ c ∷ []))) (decoded-base64 rest (λ i. h (suc (suc (suc i)))))

-- What is read is the base64 of the bytes.

record IsRead (text bytes : List ℕ) : Type 0 where
  text_is : text ≡ base64 bytes
  are_bytes : IsBytes bytes

guard-Some : (t : Bool) (x bytes : List ℕ) → cond t (Some x) None ≡ Some bytes → (t ≡ true) × (x ≡ bytes)
guard-Some true x bytes h = (refl, cc)
guard-Some false x bytes h = absurd (cc h)

followed-Some : (o m : Option (List ℕ)) (bytes : List ℕ) → followed_by o m ≡ Some bytes →
    (x : List ℕ) × (y : List ℕ) × (o ≡ Some x) × (m ≡ Some y) × (bytes ≡ x ++ y)
followed-Some None m bytes h = absurd (cc h)
followed-Some (Some x) None bytes h = absurd (cc h)
followed-Some (Some x) (Some y) bytes h = (x, y, refl, refl, sym (cc h))

record AreLetters (a b c : ℕ) : Type 0 where
  first : bits a < 64
  second : bits b < 64
  third : bits c < 64

whole_text : (a b c d : ℕ) → bits a < 64 → bits b < 64 → bits c < 64 → bits d < 64 →
    a ∷ b ∷ c ∷ d ∷ [] ≡ encode_group letters (first_byte a b) (second_byte b c) (third_byte c d)
whole_text a b c d ha hb hc hd =
    let e0 : first_byte a b / 4 ≡ bits a = omega arith in
    let e1 : first_byte a b % 4 * 16 + second_byte b c / 16 ≡ bits b = omega arith in
    let e2 : second_byte b c % 16 * 4 + third_byte c d / 64 ≡ bits c = omega arith in
    let e3 : third_byte c d % 64 ≡ bits d = omega arith in
    rw (e0, e1, e2, e3, letter-bits a ha, letter-bits b hb, letter-bits c hc, letter-bits d hd) refl

group-Some : (a b c d : ℕ) (rest bytes more : List ℕ) → group a b c d ≡ Some bytes → IsRead rest more → IsRead (a ∷ b ∷ c ∷ d ∷ rest) (bytes ++ more)
group-Some a b c d rest bytes more e r =
    let got = guard-Some (is_letter a && (is_letter b && (is_letter c && is_letter d))) (first_byte a b ∷ second_byte b c ∷ third_byte c d ∷ []) bytes e in
    let ab = and_parts (is_letter a) (is_letter b && (is_letter c && is_letter d)) got.0 in
    let bc = and_parts (is_letter b) (is_letter c && is_letter d) ab.1 in
    let cd = and_parts (is_letter c) (is_letter d) bc.1 in
    let ha = letter_small a ab.0 in
    let hb = letter_small b bc.0 in
    let hc = letter_small c cd.0 in
    let hd = letter_small d cd.1 in
    let x = first_byte a b in
    let y = second_byte b c in
    let z = third_byte c d in
    let text : a ∷ b ∷ c ∷ d ∷ rest ≡ base64 (x ∷ y ∷ z ∷ more) =
    ap (λ front. front ++ rest) (whole_text a b c d ha hb hc hd) ∙ ap (λ t. encode_group letters x y z ++ t) r.text_is ∙ sym (base64_more x y z more) in
    subst (λ front. IsRead (a ∷ b ∷ c ∷ d ∷ rest) (front ++ more)) got.1 record {
      text_is = text;
      are_bytes = more_bytes x (y ∷ z ∷ more) (omega arith) (more_bytes y (z ∷ more) (omega arith) (more_bytes z more (omega arith) r.are_bytes));
    }

nothing_read : IsRead [] []
unfolding encode_symbols
nothing_read = record { text_is = refl; are_bytes = no_bytes }

two_read : (a b c : ℕ) (bytes : List ℕ) →
    cond (is_letter a && (is_letter b && (is_letter c && eqb (bits c % 4) 0))) (Some (first_byte a b ∷ second_byte b c ∷ [])) None ≡ Some bytes →
    IsRead (a ∷ b ∷ c ∷ padding ∷ []) bytes
unfolding encode_symbols
two_read a b c bytes e =
    let got = guard-Some (is_letter a && (is_letter b && (is_letter c && eqb (bits c % 4) 0))) (first_byte a b ∷ second_byte b c ∷ []) bytes e in
    let ab = and_parts (is_letter a) (is_letter b && (is_letter c && eqb (bits c % 4) 0)) got.0 in
    let bc = and_parts (is_letter b) (is_letter c && eqb (bits c % 4) 0) ab.1 in
    let cd = and_parts (is_letter c) (eqb (bits c % 4) 0) bc.1 in
    let ha = letter_small a ab.0 in
    let hb = letter_small b bc.0 in
    let hc = letter_small c cd.0 in
    let none = eqb-true (bits c % 4) 0 cd.1 in
    let x = first_byte a b in
    let y = second_byte b c in
    let e0 : x / 4 ≡ bits a = omega arith in
    let e1 : x % 4 * 16 + y / 16 ≡ bits b = omega arith in
    let e2 : y % 16 * 4 ≡ bits c = omega arith in
    subst (IsRead (a ∷ b ∷ c ∷ padding ∷ [])) got.1 record {
      text_is = rw (e0, e1, e2, letter-bits a ha, letter-bits b hb, letter-bits c hc) refl;
      are_bytes = more_bytes x (y ∷ []) (omega arith) (more_bytes y [] (omega arith) no_bytes);
    }

one_read : (a b : ℕ) (bytes : List ℕ) →
    cond (is_letter a && (is_letter b && eqb (bits b % 16) 0)) (Some (first_byte a b ∷ [])) None ≡ Some bytes →
    IsRead (a ∷ b ∷ padding ∷ padding ∷ []) bytes
unfolding encode_symbols
one_read a b bytes e =
    let got = guard-Some (is_letter a && (is_letter b && eqb (bits b % 16) 0)) (first_byte a b ∷ []) bytes e in
    let ab = and_parts (is_letter a) (is_letter b && eqb (bits b % 16) 0) got.0 in
    let bc = and_parts (is_letter b) (eqb (bits b % 16) 0) ab.1 in
    let ha = letter_small a ab.0 in
    let hb = letter_small b bc.0 in
    let none = eqb-true (bits b % 16) 0 bc.1 in
    let x = first_byte a b in
    let e0 : x / 4 ≡ bits a = omega arith in
    let e1 : x % 4 * 16 ≡ bits b = omega arith in
    subst (IsRead (a ∷ b ∷ padding ∷ padding ∷ [])) got.1 record {
      text_is = rw (e0, e1, letter-bits a ha, letter-bits b hb) refl;
      are_bytes = more_bytes x [] (omega arith) no_bytes;
    }

last-Some : (a b c d : ℕ) (bytes : List ℕ) → last_group a b c d ≡ Some bytes → IsRead (a ∷ b ∷ c ∷ d ∷ []) bytes
last-Some a b c d bytes =
    cond_both (eqb d padding) (cond (eqb c padding) (cond (is_letter a && (is_letter b && eqb (bits b % 16) 0)) (Some (first_byte a b ∷ [])) None)
    (cond (is_letter a && (is_letter b && (is_letter c && eqb (bits c % 4) 0))) (Some (first_byte a b ∷ second_byte b c ∷ [])) None)) (group a b c d)
    (λ o. o ≡ Some bytes → IsRead (a ∷ b ∷ c ∷ d ∷ []) bytes)
    (λ pad. cond_both (eqb c padding) (cond (is_letter a && (is_letter b && eqb (bits b % 16) 0)) (Some (first_byte a b ∷ [])) None)
    (cond (is_letter a && (is_letter b && (is_letter c && eqb (bits c % 4) 0))) (Some (first_byte a b ∷ second_byte b c ∷ [])) None)
    (λ o. o ≡ Some bytes → IsRead (a ∷ b ∷ c ∷ d ∷ []) bytes)
    (λ pads e. subst (λ x. IsRead (a ∷ b ∷ x ∷ d ∷ []) bytes) (sym (eqb-true c padding pads)) (subst (λ x. IsRead (a ∷ b ∷ padding ∷ x ∷ []) bytes) (sym (eqb-true d padding pad)) (one_read a b bytes e)))
    (λ _ e. subst (λ x. IsRead (a ∷ b ∷ c ∷ x ∷ []) bytes) (sym (eqb-true d padding pad)) (two_read a b c bytes e)))
    (λ _ e. subst (IsRead (a ∷ b ∷ c ∷ d ∷ [])) (append-nil bytes) (group-Some a b c d [] bytes [] e nothing_read))

decoded-Some : (text bytes : List ℕ) → decoded text ≡ Some bytes → IsRead text bytes
unfolding decoded
decoded-Some [] bytes e = subst (IsRead []) (cc e) nothing_read
decoded-Some (a ∷ []) bytes e = absurd (cc e)
decoded-Some (a ∷ b ∷ []) bytes e = absurd (cc e)
decoded-Some (a ∷ b ∷ c ∷ []) bytes e = absurd (cc e)
decoded-Some (a ∷ b ∷ c ∷ d ∷ []) bytes e = last-Some a b c d bytes e
decoded-Some (a ∷ b ∷ c ∷ d ∷ f ∷ rest) bytes e =
    let parts = followed-Some (group a b c d) (decoded (f ∷ rest)) bytes e in
    subst (IsRead (a ∷ b ∷ c ∷ d ∷ f ∷ rest)) (sym parts.4) (group-Some a b c d (f ∷ rest) parts.0 parts.1 parts.2 (decoded-Some (f ∷ rest) parts.1 parts.3))

pub decoded_exact : (text bytes : List ℕ) → decoded text ≡ Some bytes → text ≡ base64 bytes
decoded_exact text bytes e = (decoded-Some text bytes e).text_is

pub decoded_bytes : (text bytes : List ℕ) → decoded text ≡ Some bytes → IsBytes bytes
decoded_bytes text bytes e = (decoded-Some text bytes e).are_bytes
