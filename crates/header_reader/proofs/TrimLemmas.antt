-- A trimmed text has nothing left to trim.
use Rattle.std.proofs.Common.{◌≡◌, ℕ, false, List, [], ◌∷◌, refl, ◌∙◌, ap}
use Rattle.std.proofs.lemmas.Bool.{cond_both, cond-false}
use Rattle.mail_text.specs.Texts.{begins, behind, is_blank, before_trimmed, without_blank_end, trimmed}

behind-begins : (y : List ℕ) → begins is_blank (behind is_blank y) ≡ false
behind-begins [] = refl
behind-begins (c ∷ cs) = cond_both (is_blank c) (behind is_blank cs) (c ∷ cs) (λ z. begins is_blank z ≡ false) (λ _. behind-begins cs) (λ h. h)

before_trimmed-begins : (c : ℕ) (e : List ℕ) → is_blank c ≡ false → begins is_blank (before_trimmed c e) ≡ false
before_trimmed-begins c [] h = ap (begins is_blank) (cond-false (is_blank c) [] (c ∷ []) h) ∙ h
before_trimmed-begins c (d ∷ ds) h = h

without_end-begins : (z : List ℕ) → begins is_blank z ≡ false → begins is_blank (without_blank_end z) ≡ false
without_end-begins [] h = refl
without_end-begins (c ∷ cs) h = before_trimmed-begins c (without_blank_end cs) h

behind-none : (e : List ℕ) → begins is_blank e ≡ false → behind is_blank e ≡ e
behind-none [] h = refl
behind-none (c ∷ cs) h = cond-false (is_blank c) (behind is_blank cs) (c ∷ cs) h

without_end-before : (c : ℕ) (e : List ℕ) → without_blank_end e ≡ e → without_blank_end (before_trimmed c e) ≡ before_trimmed c e
without_end-before c [] h =
    cond_both (is_blank c) [] (c ∷ []) (λ z. without_blank_end z ≡ z) (λ _. refl) (λ isnt. cond-false (is_blank c) [] (c ∷ []) isnt)
without_end-before c (d ∷ ds) h = ap (before_trimmed c) h

without_end-again : (z : List ℕ) → without_blank_end (without_blank_end z) ≡ without_blank_end z
without_end-again [] = refl
without_end-again (c ∷ cs) = without_end-before c (without_blank_end cs) (without_end-again cs)

pub trimmed-again : (y : List ℕ) → trimmed (trimmed y) ≡ trimmed y
trimmed-again y =
    let z = behind is_blank y in
    ap without_blank_end (behind-none (without_blank_end z) (without_end-begins z (behind-begins y))) ∙ without_end-again z
