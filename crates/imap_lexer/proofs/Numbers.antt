-- Numbers and announcements, read from the front.
use Rattle.std.proofs.Common.{ℕ, ◌≡◌, ◌≤◌, ◌<◌, ◌+◌, ◌-◌, ◌*◌, Bool, true, false, List, [], ◌∷◌, Option, Some, None, length, drop, take, get_or, refl, ap, ◌∙◌, cond, arith}
use Rattle.std.specs.Prelude.{min}
use Rattle.std.proofs.lemmas.Grind.{common_steps}
use Rattle.std.proofs.lemmas.List.{drop_more, drop_all}
use Rattle.std.specs.Char.{is_ascii_digit}
use Rattle.imap_lexer.specs.Literals.{number, number_behind, announcement, announced, or_else}
use Rattle.imap_lexer.specs.Lexer.{capped, too_many}

-- what stands behind so many bytes, as a slice has it
pub rest : (n : ℕ) (bytes : List ℕ) → take (length bytes - n) (drop n bytes) ≡ drop n bytes
rest n bytes = grind (arith, common_steps)

same_min : (value more : ℕ) → min too_many (min too_many value * 10 + more) ≡ min too_many (value * 10 + more)
same_min value more = omega arith

-- a number that is too large counts as the limit, whatever comes behind
pub capped-behind : (a b : ℕ) (bytes : List ℕ) → min too_many a ≡ min too_many b → capped (number_behind a bytes) ≡ capped (number_behind b bytes)
capped-behind a b [] h = ap Some h
capped-behind a b (c ∷ cs) h = by (is_ascii_digit c) (capped-behind (a * 10 + (c - 48)) (b * 10 + (c - 48)) cs (omega (arith, h)))
  where
    by : (digit : Bool) → capped (number_behind (a * 10 + (c - 48)) cs) ≡ capped (number_behind (b * 10 + (c - 48)) cs)
        → capped (cond digit (number_behind (a * 10 + (c - 48)) cs) None) ≡ capped (cond digit (number_behind (b * 10 + (c - 48)) cs) None)
    by true e = e
    by false e = refl

pub number-begins : (text : List ℕ) → 0 < length text → capped (number text) ≡ capped (number_behind 0 text)
number-begins [] h = absurd (omega arith)
number-begins (c ∷ cs) h = refl

pub number-digit : (text : List ℕ) (at value value' : ℕ) → at < length text → is_ascii_digit (get_or text at 0) ≡ true
    → value' ≡ min too_many (value * 10 + (get_or text at 0 - 48))
    → capped (number_behind value (drop at text)) ≡ capped (number_behind value' (drop (at + 1) text))
number-digit text at value value' h is e =
    rw (drop_more text at 0 h, is)
    (capped-behind (value * 10 + (get_or text at 0 - 48)) value' (drop (at + 1) text) (omega (arith, e)))

pub number-stops : (text : List ℕ) (at value : ℕ) → at < length text → is_ascii_digit (get_or text at 0) ≡ false
    → None ≡ capped (number_behind value (drop at text))
number-stops text at value h is = rw (drop_more text at 0 h, is) refl

pub number-ends : (text : List ℕ) (at value : ℕ) → length text ≤ at → value ≤ too_many
    → Some value ≡ capped (number_behind value (drop at text))
number-ends text at value h small = rw (drop_all at text h) (ap Some (omega (arith, small)))

none_of : (count : Option ℕ) → None ≡ capped count → count ≡ None
none_of None h = refl
none_of (Some n) h = cc

some_of : (found later : Option ℕ) (count : ℕ) → Some count ≡ capped found → Some count ≡ capped (or_else found later)
some_of None later count h = cc
some_of (Some n) later count h = h

pub announced-here : (line : List ℕ) (at count : ℕ) → at < length line → Some count ≡ capped (announcement (drop at line))
    → Some count ≡ capped (announced (drop at line))
announced-here line at count h e =
    let more = drop_more line at 0 h in
    rw more (some_of (announcement (get_or line at 0 ∷ drop (at + 1) line)) (announced (drop (at + 1) line)) count (e ∙ ap (λ (l : List ℕ). capped (announcement l)) more))

pub announced-later : (line : List ℕ) (at : ℕ) → at < length line → None ≡ capped (announcement (drop at line))
    → capped (announced (drop at line)) ≡ capped (announced (drop (at + 1) line))
announced-later line at h e =
    let more = drop_more line at 0 h in
    let none = none_of (announcement (get_or line at 0 ∷ drop (at + 1) line)) (e ∙ ap (λ (l : List ℕ). capped (announcement l)) more) in
    rw more (ap (λ (found : Option ℕ). capped (or_else found (announced (drop (at + 1) line)))) none)
