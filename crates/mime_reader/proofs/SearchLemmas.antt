-- Searches from the front of a text.
use Rattle.std.proofs.Common.{◌≡◌, ℕ, zero, suc, ◌+◌, ◌-◌, ◌≤◌, Bool, List, [], ◌∷◌, length, take, drop, refl, sym, ◌∙◌, ap, arith}
use Rattle.std.proofs.lemmas.Bool.{cond_both}
use Rattle.std.proofs.lemmas.List.{drop_all, take_rest}
use Rattle.std.proofs.Math.Seq.{drop-nil}
use Rattle.mail_text.specs.Texts.{behind}

-- A text at the end of another.
pub record IsEnd (xs ys : List ℕ) : Type 0 where
  pub within : length ys ≤ length xs
  pub is : drop (length xs - length ys) xs ≡ ys

pub end_self : (xs : List ℕ) → IsEnd xs xs
end_self xs = record { within = omega arith; is = rw (let none : length xs - length xs ≡ 0 = omega arith in none) refl }

pub end_more : (c : ℕ) (cs ys : List ℕ) → IsEnd cs ys → IsEnd (c ∷ cs) ys
end_more c cs ys e =
    let h = e.within in
    record {
      within = omega arith;
      is = ap (λ n. drop n (c ∷ cs)) (let more : length (c ∷ cs) - length ys ≡ suc (length cs - length ys) = omega arith in more) ∙ e.is;
    }

pub end_behind : (test : ℕ → Bool) (xs : List ℕ) → IsEnd xs (behind test xs)
end_behind test [] = end_self []
end_behind test (c ∷ cs) =
    cond_both (test c) (behind test cs) (c ∷ cs) (λ ys. IsEnd (c ∷ cs) ys) (λ _. end_more c cs (behind test cs) (end_behind test cs)) (λ _. end_self (c ∷ cs))

pub drop-drop : (m n : ℕ) (xs : List ℕ) → drop n (drop m xs) ≡ drop (m + n) xs
drop-drop zero n xs = ap (λ k. drop k xs) (let e : n ≡ 0 + n = omega arith in e)
drop-drop (suc m) n [] = drop-nil n ∙ sym (drop-nil (suc m + n))
drop-drop (suc m) n (c ∷ cs) = drop-drop m n cs ∙ ap (λ k. drop k (c ∷ cs)) (let e : suc (m + n) ≡ suc m + n = omega arith in e)

pub end_then : (xs ys zs : List ℕ) → IsEnd xs ys → IsEnd ys zs → IsEnd xs zs
end_then xs ys zs a b =
    let h = a.within in
    let k = b.within in
    record {
      within = omega arith;
      is = ap (λ n. drop n xs) (let e : length xs - length zs ≡ (length xs - length ys) + (length ys - length zs) = omega arith in e)
          ∙ sym (drop-drop (length xs - length ys) (length ys - length zs) xs) ∙ ap (drop (length ys - length zs)) a.is ∙ b.is;
    }

pub nothing_left : (xs : List ℕ) → take (length xs - length xs) (drop (length xs) xs) ≡ []
nothing_left xs = take_rest xs (length xs) ∙ drop_all (length xs) xs (omega arith)
