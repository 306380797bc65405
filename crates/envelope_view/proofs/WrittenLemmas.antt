-- Texts that are written one behind another.
use Rattle.std.proofs.Common.{◌≡◌, ℕ, List, ◌++◌, ap, ◌∙◌}
use Rattle.std.proofs.lemmas.List.{append_assoc}

pub two : (old i new a b : List ℕ) → i ≡ old ++ a → new ≡ i ++ b → new ≡ old ++ (a ++ b)
two old i new a b p q = q ∙ ap (λ z. z ++ b) p ∙ simp append_assoc

pub three : (old i j new a b c : List ℕ) → i ≡ old ++ a → j ≡ i ++ b → new ≡ j ++ c → new ≡ old ++ (a ++ b ++ c)
three old i j new a b c p q s = s ∙ ap (λ z. z ++ c) (q ∙ ap (λ z. z ++ b) p) ∙ simp append_assoc

pub five : (old i j k l new a b c d e : List ℕ) → i ≡ old ++ a → j ≡ i ++ b → k ≡ j ++ c → l ≡ k ++ d → new ≡ l ++ e → new ≡ old ++ (a ++ b ++ c ++ d ++ e)
five old i j k l new a b c d e p q s t u = u ∙ ap (λ z. z ++ e) (t ∙ ap (λ z. z ++ d) (s ∙ ap (λ z. z ++ c) (q ∙ ap (λ z. z ++ b) p))) ∙ simp append_assoc
