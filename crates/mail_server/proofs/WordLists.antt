-- Lists of words, by how many they are.
use Rattle.std.proofs.Common.{◌≡◌, ℕ, ◌<◌, ◌≤◌, List, [], ◌∷◌, length, get_or, map, refl, sym, ◌∙◌, ap, arith}
use Rattle.std.specs.Prelude.{None}
use Rattle.mail_server.specs.Words.{asked_by}

pub one-word : {X : Type 0} (f : X → List ℕ) (words : List X) (word : X) → 1 ≤ length words → length words < 2 → word ≡ get_or words 0 word → map f words ≡ f word ∷ []
one-word f [] word some few is = absurd (omega arith)
one-word f (w ∷ []) word some few is = ap (λ x. f x ∷ []) (sym is)
one-word f (w ∷ v ∷ vs) word some few is = absurd (omega arith)

pub three-words : {X : Type 0} (f : X → List ℕ) (words : List X) (word name password : X) → 3 ≤ length words → length words < 4 → word ≡ get_or words 0 word → name ≡ get_or words 1 name → password ≡ get_or words 2 password
    → map f words ≡ f word ∷ f name ∷ f password ∷ []
three-words f [] word name password some few is its last = absurd (omega arith)
three-words f (w ∷ []) word name password some few is its last = absurd (omega arith)
three-words f (w ∷ n ∷ []) word name password some few is its last = absurd (omega arith)
three-words f (w ∷ n ∷ p ∷ []) word name password some few is its last =
    ap (λ x. f x ∷ f n ∷ f p ∷ []) (sym is) ∙ ap (λ x. f word ∷ f x ∷ f p ∷ []) (sym its) ∙ ap (λ x. f word ∷ f name ∷ f x ∷ []) (sym last)
three-words f (w ∷ n ∷ p ∷ v ∷ vs) word name password some few is its last = absurd (omega arith)

-- Words of other numbers ask for nothing.

pub no_words : {X : Type 0} (f : X → List ℕ) (words : List X) → length words < 1 → None ≡ asked_by (map f words)
no_words f [] few = refl
no_words f (w ∷ ws) few = absurd (omega arith)

pub two_words : {X : Type 0} (f : X → List ℕ) (words : List X) → 2 ≤ length words → length words < 3 → None ≡ asked_by (map f words)
two_words f [] some few = absurd (omega arith)
two_words f (w ∷ []) some few = absurd (omega arith)
two_words f (w ∷ v ∷ []) some few = refl
two_words f (w ∷ v ∷ u ∷ us) some few = absurd (omega arith)

pub many_words : {X : Type 0} (f : X → List ℕ) (words : List X) → 5 ≤ length words → None ≡ asked_by (map f words)
many_words f [] some = absurd (omega arith)
many_words f (w ∷ []) some = absurd (omega arith)
many_words f (w ∷ v ∷ []) some = absurd (omega arith)
many_words f (w ∷ v ∷ u ∷ []) some = absurd (omega arith)
many_words f (w ∷ v ∷ u ∷ t ∷ []) some = absurd (omega arith)
many_words f (w ∷ v ∷ u ∷ t ∷ s ∷ ss) some = refl
