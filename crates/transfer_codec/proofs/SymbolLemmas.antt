-- Base64 consists of letters and paddings.
use Rattle.std.proofs.Common.{◌≡◌, ℕ, suc, ◌+◌, ◌*◌, ◌/◌, ◌%◌, ◌<◌, ◌⊎◌, inl, inr, true, false, eqb, List, [], ◌∷◌, get_or, refl, sym, ◌∙◌, ap, subst, arith}
use Rattle.std.specs.List.{AllByRecursion, filter}
use Rattle.std.proofs.lemmas.Bool.{cond-true, or_from}
use Rattle.base64.specs.Rfc4648.{encode_symbols}
use Rattle.base64.specs.GeneralPurpose.{IsBytes}
use Rattle.mail_text.specs.Lines.{has}
use Rattle.transfer_codec.specs.Base64.{letters, bits, base64, padding}
use Rattle.transfer_codec.specs.Layout.{is_content}
use Rattle.transfer_codec.proofs.LetterLemmas.{bits-letter, other_than_letter}
use Rattle.transfer_codec.proofs.DecodeLemmas.{base64_more}

abbrev pub IsSymbol : ℕ → Type 0
IsSymbol c = (bits c < 64) ⊎ (c ≡ padding)

abbrev pub AreSymbols : List ℕ → Type 0
AreSymbols text = AllByRecursion IsSymbol text

symbol : (k : ℕ) → k < 64 → IsSymbol (get_or letters k 0)
symbol k h = inl (rw (bits-letter k h) h)

pub base64-symbols : (bytes : List ℕ) → IsBytes bytes → AreSymbols (base64 bytes)
unfolding encode_symbols
base64-symbols [] h = tt
base64-symbols (a ∷ []) h =
    let ha : a < 256 = h 0 in
    (symbol (a / 4) (omega arith), (symbol (a % 4 * 16) (omega arith), (inr refl, (inr refl, tt))))
base64-symbols (a ∷ b ∷ []) h =
    let ha : a < 256 = h 0 in
    let hb : b < 256 = h 1 in
    (symbol (a / 4) (omega arith), (symbol (a % 4 * 16 + b / 16) (omega arith), (symbol (b % 16 * 4) (omega arith), (inr refl, tt))))
base64-symbols (a ∷ b ∷ c ∷ rest) h =
    let ha : a < 256 = h 0 in
    let hb : b < 256 = h 1 in
    let hc : c < 256 = h 2 in
    subst AreSymbols (sym (base64_more a b c rest)) (
      symbol (a / 4) (omega arith),
      (
        symbol (a % 4 * 16 + b / 16) (omega arith),
        (
          symbol (b % 16 * 4 + c / 64) (omega arith),
          (
            symbol (c % 64) (omega arith),
            base64-symbols rest (λ i. h (suc (suc (suc i)))),
          ),
        ),
      ),
    )

-- What is no letter and no padding isn't there.
pub symbols_lack : (b : ℕ) → bits b ≡ 64 → eqb padding b ≡ false → (text : List ℕ) → AreSymbols text → has b text ≡ false
symbols_lack b e other [] h = refl
symbols_lack b e other (c ∷ cs) h = or_from (eqb c b) (has b cs) (elim h.0 [
  | inl letter ↦ other_than_letter c b e letter
  | inr pad ↦ ap (λ x. eqb x b) pad ∙ other
]) (symbols_lack b e other cs h.1)

symbol_content : (c : ℕ) → IsSymbol c → is_content c ≡ true
unfolding bits letters
symbol_content c (inl h) = rw (other_than_letter c 32 refl h, other_than_letter c 9 refl h, other_than_letter c 13 refl h, other_than_letter c 10 refl h) refl
symbol_content c (inr h) = ap is_content h

pub symbols_content : (text : List ℕ) → AreSymbols text → filter is_content text ≡ text
symbols_content [] h = refl
symbols_content (c ∷ cs) h =
    cond-true (is_content c) (c ∷ filter is_content cs) (filter is_content cs) (symbol_content c h.0) ∙ ap (λ rest. c ∷ rest) (symbols_content cs h.1)

pub no_zero_bits : bits 0 ≡ 64
unfolding bits letters
no_zero_bits = refl

pub no_dash_bits : bits 45 ≡ 64
unfolding bits letters
no_dash_bits = refl

pub no_lf_bits : bits 10 ≡ 64
unfolding bits letters
no_lf_bits = refl
