-- What is left of the content of a string.
use Rattle.std.proofs.Common.{◌≡◌, Bool, true, false, ℕ, List, [], ◌∷◌, ◌||◌, eqb, cond, refl, ◌∙◌, ap}
use Rattle.std.proofs.lemmas.Bool.{cond-false}
use mathlib.Core.Bool.{true≢false}
use Rattle.mail_text.specs.Lines.{has}
use Rattle.imap_grammar.specs.Spellings.{unescaped, quoted_byte}

-- The content that is still to come, behind a `\` or not.
abbrev pub left : Bool → List ℕ → List ℕ
left behind bytes = cond behind (quoted_byte bytes) (unescaped bytes)

neither_first : (a b : Bool) → (a || b) ≡ false → a ≡ false
neither_first true b h = h
neither_first false b h = refl

neither_second : (a b : Bool) → (a || b) ≡ false → b ≡ false
neither_second true b h = absurd (true≢false h)
neither_second false b h = h

as_it_is : (c : ℕ) (cs : List ℕ) → eqb c 92 ≡ false → unescaped cs ≡ cs → unescaped (c ∷ cs) ≡ c ∷ cs
as_it_is c cs other rest = cond-false (eqb c 92) (quoted_byte cs) (c ∷ unescaped cs) other ∙ ap (λ left. c ∷ left) rest

-- A text without a `\` stands for itself.
pub plain_text : (text : List ℕ) → has 92 text ≡ false → unescaped text ≡ text
plain_text [] h = refl
plain_text (c ∷ cs) h = as_it_is c cs (neither_first (eqb c 92) (has 92 cs) h) (plain_text cs (neither_second (eqb c 92) (has 92 cs) h))
