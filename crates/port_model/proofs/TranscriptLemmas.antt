-- The pieces of what sessions got, and the bytes that their printed form stands for.
use Rattle.std.proofs.Common.{◌≡◌, ℕ, ◌^◌, ◌+◌, ◌*◌, ◌/◌, ◌%◌, ◌<◌, ◌≤◌, Bool, true, false, not, List, [], ◌∷◌, ◌++◌, length, take, drop, refl, sym, ◌∙◌, ap, arith, ◌==◌, nat_lt, nat_le, ◌&&◌, if◌then◌else◌}
use Rattle.std.specs.Prelude.{Option, Some, None, All, codes, position}
use Rattle.std.specs.List.{onto_first, position_or_len}
use Rattle.std.specs.Char.{digit_value, digit_char, is_digit}
use Rattle.std.proofs.lemmas.List.{take_all, drop_all}
use Rattle.std.proofs.lemmas.Bool.{cond_both}
use Rattle.std.proofs.lemmas.Bool.Decides.{nat_tests}
use Rattle.std.proofs.lemmas.Option.{cond_some}
use Rattle.std.proofs.lemmas.Str.{digit_value-digit_char}
use Rattle.port_model.specs.Script.{text_bytes, in_front}
use Rattle.port_model.specs.Transcript.{spelling, escaped, pieces}

-- Pieces.

-- the pieces behind a byte that ends none
cut-later : (c : ℕ) (cs : List ℕ) (n : ℕ) (later : List (List ℕ)) → later ≡ take (n + 1) cs ∷ pieces (drop (n + 1) cs) → onto_first c later ≡ take (1 + n + 1) (c ∷ cs) ∷ pieces (drop (1 + n + 1) (c ∷ cs))
cut-later c cs n later is =
    let e : 1 + n + 1 ≡ Prim.Native.Nat.suc (n + 1) = omega arith in
    rw e (ap (onto_first c) is)

pieces-first : (bytes : List ℕ) → 0 < length bytes → pieces bytes ≡ take (position_or_len (λ c. c == 10) bytes + 1) bytes ∷ pieces (drop (position_or_len (λ c. c == 10) bytes + 1) bytes)
pieces-first [] some = absurd (omega arith)
pieces-first (c ∷ []) some =
    elim (c == 10) as (λ b. if b then (c ∷ []) ∷ [] else (c ∷ []) ∷ [] ≡ take ((if not b then 1 + 0 else 0) + 1) (c ∷ []) ∷ pieces (drop ((if not b then 1 + 0 else 0) + 1) (c ∷ [])))
    [ true ↦ refl | false ↦ refl ]
pieces-first (c ∷ d ∷ ds) some =
    let n = position_or_len (λ x. x == 10) (d ∷ ds) in
    elim (c == 10) as (λ b. if b then (c ∷ []) ∷ pieces (d ∷ ds) else onto_first c (pieces (d ∷ ds)) ≡ take ((if not b then 1 + n else 0) + 1) (c ∷ d ∷ ds) ∷ pieces (drop ((if not b then 1 + n else 0) + 1) (c ∷ d ∷ ds)))
    [ true ↦ refl | false ↦ cut-later c (d ∷ ds) n (pieces (d ∷ ds)) (pieces-first (d ∷ ds) (omega arith)) ]

pub pieces-Some : (bytes : List ℕ) (end : ℕ) → 0 < length bytes → position (λ c. c == 10) bytes ≡ Some end → pieces bytes ≡ take (end + 1) bytes ∷ pieces (drop (end + 1) bytes)
pieces-Some bytes end some is =
    let place = cond_some (nat_lt (position_or_len (λ c. c == 10) bytes) (length bytes)) (position_or_len (λ c. c == 10) bytes) end is in
    pieces-first bytes some ∙ ap (λ n. take (n + 1) bytes ∷ pieces (drop (n + 1) bytes)) place.1

pub pieces-None : (bytes : List ℕ) → 0 < length bytes → position (λ c. c == 10) bytes ≡ None → pieces bytes ≡ bytes ∷ []
pieces-None bytes some is =
    let past : length bytes ≤ position_or_len (λ c. c == 10) bytes + 1 = grind (arith, nat_tests) in
    let all = take_all (position_or_len (λ c. c == 10) bytes + 1) bytes past in
    let none = drop_all (position_or_len (λ c. c == 10) bytes + 1) bytes past in
    pieces-first bytes some ∙ cc

-- What printed bytes stand for.

both : {A : Type 0} (b d : Bool) (x y : A) → b ≡ true → d ≡ true → (if b && d then x else y) ≡ x
both b d x y is_b is_d = rw (is_b, is_d)

-- a byte in hexadecimal
hexadecimal : (high low h l n : ℕ) (rest : List ℕ) → digit_value high ≡ h → digit_value low ≡ l → h < 16 → l < 16 → n ≡ 16 * h + l → text_bytes (92 ∷ 120 ∷ high ∷ low ∷ rest) ≡ in_front n (text_bytes rest)
unfolding text_bytes
hexadecimal high low h l n rest high_is low_is high_fits low_fits is =
    let of_high : nat_lt h 16 ≡ true = grind (arith, nat_tests) in
    let of_low : nat_lt l 16 ≡ true = grind (arith, nat_tests) in
    both (is_digit high 16) (is_digit low 16) (in_front (16 * digit_value high + digit_value low) (text_bytes rest)) None (ap (λ d. nat_lt d 16) high_is ∙ of_high) (ap (λ d. nat_lt d 16) low_is ∙ of_low)
    ∙ ap (λ k. in_front k (text_bytes rest)) (ap (λ d. 16 * d + digit_value low) high_is ∙ ap (λ d. 16 * h + d) low_is ∙ sym is)

-- a byte that is told by a test
same_front : (c n : ℕ) (bytes : Option (List ℕ)) → (c == n) ≡ true → in_front n bytes ≡ in_front c bytes
same_front c n bytes is = let e : n ≡ c = grind (arith, nat_tests) in ap (λ k. in_front k bytes) e

-- a byte that stands for itself
plain : (c : ℕ) (rest : List ℕ) → (c == 92) ≡ false → (nat_le 32 c && nat_le c 126) ≡ true → text_bytes (c ∷ rest) ≡ in_front c (text_bytes rest)
unfolding text_bytes
plain c rest other printable = rw (other, printable)

-- the hexadecimal spelling of a byte
abbrev in_hexadecimal : ℕ → List ℕ
in_hexadecimal c = codes "\\x" ++ digit_char (c / 16) ∷ digit_char (c % 16) ∷ []

byte-spelled : (c : ℕ) (rest : List ℕ) → c < 2 ^ 8 → text_bytes (spelling c ++ rest) ≡ in_front c (text_bytes rest)
unfolding text_bytes
byte-spelled c rest fits =
    let Stands : List ℕ → Type 0 = λ s. text_bytes (s ++ rest) ≡ in_front c (text_bytes rest) in
    let printed = if nat_le 32 c && nat_le c 126 then c ∷ [] else in_hexadecimal c in
    let behind_lf = if c == 92 then codes "\\\\" else printed in
    let behind_cr = if c == 10 then codes "\\n" else behind_lf in
    cond_both (c == 13) (codes "\\r") behind_cr Stands (λ is. same_front c 13 (text_bytes rest) is)
    (λ _. cond_both (c == 10) (codes "\\n") behind_lf Stands (λ is. same_front c 10 (text_bytes rest) is)
    (λ _. cond_both (c == 92) (codes "\\\\") printed Stands (λ is. same_front c 92 (text_bytes rest) is)
    (λ other. cond_both (nat_le 32 c && nat_le c 126) (c ∷ []) (in_hexadecimal c) Stands (λ printable. plain c rest other printable)
    (λ _. hexadecimal (digit_char (c / 16)) (digit_char (c % 16)) (c / 16) (c % 16) c rest (digit_value-digit_char (c / 16) (omega arith)) (digit_value-digit_char (c % 16) (omega arith)) (omega arith) (omega arith) (omega arith)))))

pub text_bytes-escaped : (bytes : List ℕ) → All (λ c. c < 2 ^ 8) bytes → text_bytes (escaped bytes) ≡ Some bytes
unfolding text_bytes
text_bytes-escaped [] fit = refl
text_bytes-escaped (c ∷ cs) fit =
    let later = text_bytes-escaped cs (λ k d within. fit (Prim.Native.Nat.suc k) d (omega arith)) in
    byte-spelled c (escaped cs) (fit 0 0 (omega arith)) ∙ ap (in_front c) later
