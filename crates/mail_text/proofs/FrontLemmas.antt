-- Searches from the front of a text.
use Rattle.std.proofs.Common.{◌≡◌, ℕ, zero, suc, Option, Some, None, ◌+◌, ◌<◌, ◌≤◌, Bool, true, false, cond, eqb, ltb, List, [], ◌∷◌, ◌++◌, length, get_or, take, drop, refl, sym, ◌∙◌, ap, arith}
use Rattle.std.proofs.lemmas.Bool.{cond-true, cond-false, or_from, or_left, or_right, false_from_ne_true, lt-ltb}
use Rattle.std.proofs.lemmas.List.{drop_more, drop_all, take_more, append_assoc, append-nil}
use Rattle.std.specs.Option.{is_some}
use Rattle.memchr.specs.Find.{IsFirstByte, is_byte}
use Rattle.mail_text.specs.Texts.{begins, front, behind}
use Rattle.mail_text.specs.Lines.{has}

pub has_none : (b : ℕ) (xs : List ℕ) → ((k : ℕ) → k < length xs → eqb (get_or xs k 0) b ≡ true → ⊥) → has b xs ≡ false
has_none b [] none = refl
has_none b (c ∷ cs) none =
    or_from (eqb c b) (has b cs) (false_from_ne_true (eqb c b) (none 0 (omega arith))) (has_none b cs (λ k h e. none (suc k) (omega arith) e))

has_at : (b : ℕ) (xs : List ℕ) (k : ℕ) → k < length xs → eqb (get_or xs k 0) b ≡ true → has b xs ≡ true
has_at b [] k h e = absurd (omega arith)
has_at b (c ∷ cs) zero h e = or_left (eqb c b) (has b cs) e
has_at b (c ∷ cs) (suc k) h e = or_right (eqb c b) (has b cs) (has_at b cs k (omega arith) e)

-- What a search for a byte tells.
pub found : (b : ℕ) (xs : List ℕ) (r : Option ℕ) → IsFirstByte (is_byte b) xs r → is_some r ≡ has b xs
found b xs None f = sym (has_none b xs (λ k h. f k (omega arith) h))
found b xs (Some k) f = sym (has_at b xs k f.0.high f.1)

-- The bytes that pass a test, counted from the front.
pub record Passed (test : ℕ → Bool) (xs : List ℕ) (at : ℕ) : Type 0 where
  pub within : at ≤ length xs
  pub before : front test xs ≡ take at xs ++ front test (drop at xs)
  pub after : behind test xs ≡ behind test (drop at xs)
  pub some : begins test xs ≡ cond (ltb 0 at) true (begins test (drop at xs))

pub passed_none : (test : ℕ → Bool) (xs : List ℕ) → Passed test xs 0
passed_none test xs = record { within = omega arith; before = refl; after = refl; some = refl }

either_true : (b : Bool) → cond b true true ≡ true
either_true true = refl
either_true false = refl

-- a test that passes, and one more byte
both : (at : ℕ) (b : Bool) → cond (ltb 0 at) true true ≡ cond (ltb 0 (at + 1)) true b
both at b = either_true (ltb 0 at) ∙ sym (cond-true (ltb 0 (at + 1)) true b (lt-ltb 0 (at + 1) (omega arith)))

pub passed_more : (test : ℕ → Bool) (xs : List ℕ) (at : ℕ) → at < length xs → test (get_or xs at 0) ≡ true → Passed test xs at → Passed test xs (at + 1)
passed_more test xs at h is p =
    let c = get_or xs at 0 in
    let left = drop (at + 1) xs in
    let here = drop_more xs at 0 h in
    record {
      within = omega arith;
      before = p.before ∙ ap (λ z. take at xs ++ front test z) here ∙ ap (λ z. take at xs ++ z) (cond-true (test c) (c ∷ front test left) [] is)
          ∙ sym (append_assoc (take at xs) (c ∷ []) (front test left)) ∙ ap (λ z. z ++ front test left) (sym (take_more xs at 0 h));
      after = p.after ∙ ap (behind test) here ∙ cond-true (test c) (behind test left) (c ∷ left) is;
      some = p.some ∙ ap (λ z. cond (ltb 0 at) true (begins test z)) here ∙ ap (λ b. cond (ltb 0 at) true b) is ∙ both at (begins test left);
    }

-- How long the front is that passes.
pub record Ends (test : ℕ → Bool) (xs : List ℕ) (at : ℕ) : Type 0 where
  pub before : front test xs ≡ take at xs
  pub after : behind test xs ≡ drop at xs
  pub some : begins test xs ≡ ltb 0 at

same_test : (b : Bool) → cond b true false ≡ b
same_test true = refl
same_test false = refl

or_false : (at : ℕ) → cond (ltb 0 at) true false ≡ ltb 0 at
or_false at = same_test (ltb 0 at)

pub passed_ends : (test : ℕ → Bool) (xs : List ℕ) (at : ℕ) → at < length xs → test (get_or xs at 0) ≡ false → Passed test xs at → Ends test xs at
passed_ends test xs at h isnt p =
    let c = get_or xs at 0 in
    let left = drop (at + 1) xs in
    let here = drop_more xs at 0 h in
    record {
      before = p.before ∙ ap (λ z. take at xs ++ front test z) here ∙ ap (λ z. take at xs ++ z) (cond-false (test c) (c ∷ front test left) [] isnt) ∙ append-nil (take at xs);
      after = p.after ∙ ap (behind test) here ∙ cond-false (test c) (behind test left) (c ∷ left) isnt ∙ sym here;
      some = p.some ∙ ap (λ z. cond (ltb 0 at) true (begins test z)) here ∙ ap (λ b. cond (ltb 0 at) true b) isnt ∙ or_false at;
    }

pub passed_all : (test : ℕ → Bool) (xs : List ℕ) (at : ℕ) → length xs ≤ at → Passed test xs at → Ends test xs at
passed_all test xs at h p =
    let none = drop_all at xs h in
    record {
      before = p.before ∙ ap (λ z. take at xs ++ front test z) none ∙ append-nil (take at xs);
      after = p.after ∙ ap (behind test) none ∙ sym none;
      some = p.some ∙ ap (λ z. cond (ltb 0 at) true (begins test z)) none ∙ or_false at;
    }
