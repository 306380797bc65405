-- Searches in a line, from its front.
use Rattle.std.proofs.Common.{◌≡◌, ℕ, zero, suc, Some, None, ◌+◌, ◌-◌, ◌<◌, Bool, true, false, not, List, [], ◌∷◌, length, get_or, take, drop, refl, sym, ◌∙◌, ap, arith}
use Rattle.std.proofs.lemmas.Bool.{cond-true, cond-false, false_from_ne_true, not_from_true, not_from_false}
use Rattle.std.proofs.lemmas.List.{drop_all, take_rest}
use Rattle.memchr.specs.Find.{IsFirstByte, is_byte}
use Rattle.mail_text.specs.Texts.{behind}
use Rattle.header_reader.specs.Fields.{is_colon, rest}

pub behind_at : (test : ℕ → Bool) (xs : List ℕ) (at : ℕ) → ((k : ℕ) → k < at → test (get_or xs k 0) ≡ true) → at < length xs → test (get_or xs at 0) ≡ false →
    behind test xs ≡ drop at xs
behind_at test [] at before h is = absurd (omega arith)
behind_at test (c ∷ cs) zero before h is = cond-false (test c) (behind test cs) (c ∷ cs) is
behind_at test (c ∷ cs) (suc at) before h is =
    cond-true (test c) (behind test cs) (c ∷ cs) (before 0 (omega arith)) ∙ behind_at test cs at (λ k b. before (suc k) (omega arith)) (omega arith) is

pub behind_all : (test : ℕ → Bool) (xs : List ℕ) → ((k : ℕ) → k < length xs → test (get_or xs k 0) ≡ true) → behind test xs ≡ []
behind_all test [] each = refl
behind_all test (c ∷ cs) each =
    cond-true (test c) (behind test cs) (c ∷ cs) (each 0 (omega arith)) ∙ behind_all test cs (λ k b. each (suc k) (omega arith))

rest-drop-suc : (xs : List ℕ) (at : ℕ) → rest (drop at xs) ≡ drop (suc at) xs
rest-drop-suc [] zero = refl
rest-drop-suc [] (suc at) = refl
rest-drop-suc (c ∷ cs) zero = refl
rest-drop-suc (c ∷ cs) (suc at) = rest-drop-suc cs at

pub rest-drop : (xs : List ℕ) (at : ℕ) → rest (drop at xs) ≡ drop (at + 1) xs
rest-drop xs at = rest-drop-suc xs at ∙ ap (λ n. drop n xs) (let same : suc at ≡ at + 1 = omega arith in same)

-- What stands behind the first colon, as a search finds it.
pub colon_found : (line : List ℕ) (at : ℕ) → IsFirstByte (is_byte 58) line (Some at) → drop (at + 1) line ≡ rest (behind (λ c. not (is_colon c)) line)
colon_found line at f =
    sym (ap rest (behind_at (λ c. not (is_colon c)) line at
    (λ k h. not_from_false (is_colon (get_or line k 0)) (false_from_ne_true (is_colon (get_or line k 0)) (f.0.before k (omega arith) h)))
    f.0.high (not_from_true (is_colon (get_or line at 0)) f.1)) ∙ rest-drop line at)

pub no_colon : (line : List ℕ) → IsFirstByte (is_byte 58) line None → [] ≡ rest (behind (λ c. not (is_colon c)) line)
no_colon line f =
    sym (ap rest (behind_all (λ c. not (is_colon c)) line
    (λ k h. not_from_false (is_colon (get_or line k 0)) (false_from_ne_true (is_colon (get_or line k 0)) (f k (omega arith) h)))))

pub nothing_left : (xs : List ℕ) → take (length xs - length xs) (drop (length xs) xs) ≡ []
nothing_left xs = take_rest xs (length xs) ∙ drop_all (length xs) xs (omega arith)
