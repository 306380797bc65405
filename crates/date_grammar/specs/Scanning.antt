-- How a text is read word by word.
use Rattle.std.specs.Prelude.{◌≡◌, ℕ, ◌+◌, Bool, true, ◌||◌, not, ◌==◌, ◌⊎◌, List, [], ◌∷◌, Option, Some, None, option_map}
use Rattle.mail_text.specs.Texts.{is_blank}
use Rattle.date_grammar.specs.declared.words.Place.{Place}
use Rattle.date_grammar.specs.declared.words.Place.TheVariants.{Outside, Comment, Quoted}
use Rattle.date_grammar.specs.Words.{uncommented, behind_comments, behind_quoted, split, not_empty, words}

-- A byte of a word: no blank, and no beginning of a comment.
abbrev pub is_plain : ℕ → Bool
is_plain c = not (is_blank c || (c == 40))

-- A text that is at its end, or at a word.
abbrev pub BeginsPlain : List ℕ → Type 0
BeginsPlain [] = Unit {0}
BeginsPlain (c ∷ cs) = is_plain c ≡ true

-- what is left of a text at a place without its comments
abbrev pub left : Place → List ℕ → Option (List ℕ)
left Outside text = uncommented text
left (Comment outer) text = behind_comments (outer + 1) text
left (Quoted outer) text = behind_quoted (outer + 1) text

-- the words of it
abbrev pub words_at : Place → List ℕ → Option (List (List ℕ))
words_at place text = option_map (λ t. not_empty (split t)) (left place text)

-- how many comments are open around the innermost
abbrev pub outer_of : Place → ℕ
outer_of Outside = 0
outer_of (Comment outer) = outer
outer_of (Quoted outer) = outer

-- No first word: there is no word, or a comment doesn't end.
abbrev pub HasNoWord : Option (List (List ℕ)) → Type 0
HasNoWord ws = (ws ≡ None) ⊎ (ws ≡ Some [])

-- A word, and the words of what stands behind it.
abbrev pub words_after : List ℕ → List ℕ → Option (List (List ℕ))
words_after word rest = option_map (λ ws. word ∷ ws) (words rest)
