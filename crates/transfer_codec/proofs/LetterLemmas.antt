-- The 64 letters and what they stand for.
use Rattle.std.proofs.Common.{◌≡◌, ℕ, ◌<◌, true, false, eqb, ltb, [], ◌∷◌, length, get_or, Some, None, refl, ap, arith}
use Rattle.std.proofs.lemmas.Bool.{agree_below_at, eqb-true, lt-ltb, ltb-true, ne_eqb, cond-true}
use Rattle.std.proofs.lemmas.List.Quantifiers.{position-Some}
use Rattle.std.specs.List.{position}
use Rattle.transfer_codec.specs.Base64.{letters, bits, is_letter, first_byte, second_byte, third_byte, group, padding}

pub bits-letter : (k : ℕ) → k < 64 → bits (get_or letters k 0) ≡ k
unfolding bits letters
bits-letter k h = eqb-true (bits (get_or letters k 0)) k (agree_below_at (λ j. eqb (bits (get_or letters j 0)) j) (λ _. true) 64 k refl h)

letters_count : length letters ≡ 64
unfolding letters
letters_count = refl

pub letter-bits : (c : ℕ) → bits c < 64 → get_or letters (bits c) 0 ≡ c
unfolding bits
letter-bits c h =
    let found : position (λ letter. eqb letter c) letters ≡ Some (bits c) =
    cond-true (ltb (bits c) (length letters)) (Some (bits c)) None (lt-ltb (bits c) (length letters) (rw letters_count h)) in
    eqb-true (get_or letters (bits c) 0) c (position-Some (λ letter. eqb letter c) letters (bits c) 0 found).1

bits_padding : bits padding ≡ 64
unfolding bits letters
bits_padding = refl

-- A byte that stands for no bits is no letter.
pub other_than_letter : (c other : ℕ) → bits other ≡ 64 → bits c < 64 → eqb c other ≡ false
other_than_letter c other e h = ne_eqb c other (λ same. absurd (omega (arith, ap bits same)))

pub not_padding : (c : ℕ) → bits c < 64 → eqb c padding ≡ false
not_padding c h = other_than_letter c padding bits_padding h

pub letter_small : (c : ℕ) → is_letter c ≡ true → bits c < 64
letter_small c h = ltb-true (bits c) 64 h

pub group_is : (a b c d : ℕ) → bits a < 64 → bits b < 64 → bits c < 64 → bits d < 64 →
    group a b c d ≡ Some (first_byte a b ∷ second_byte b c ∷ third_byte c d ∷ [])
group_is a b c d ha hb hc hd = rw (lt-ltb (bits a) 64 ha, lt-ltb (bits b) 64 hb, lt-ltb (bits c) 64 hc, lt-ltb (bits d) 64 hd) refl
