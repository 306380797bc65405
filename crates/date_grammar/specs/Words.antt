-- The words of a value: what stands between its blanks and its comments (RFC 5322 §3.2.2).
use Rattle.std.specs.Prelude.{ℕ, ◌+◌, ◌-◌, ◌==◌, nat_lt, if◌then◌else◌, List, [], ◌∷◌, Option, Some, None, option_map}
use Rattle.mail_text.specs.Texts.{is_blank}
use Rattle.mail_text.specs.Lines.{put}

abbrev mutual
  -- A text in which each comment has become a blank. None where a comment doesn't end.
  pub uncommented : List ℕ → Option (List ℕ)
  uncommented [] = Some []
  uncommented (c ∷ cs) = if c == 40 then option_map (λ t. 32 ∷ t) (behind_comments 1 cs) else option_map (λ t. c ∷ t) (uncommented cs)

  -- The same of what stands behind the end of so many open comments. A comment holds comments, and bytes that a `\` quotes.
  pub behind_comments : ℕ → List ℕ → Option (List ℕ)
  behind_comments depth [] = None
  behind_comments depth (c ∷ cs) =
      if c == 92 then behind_quoted depth cs
      else (if c == 40 then behind_comments (depth + 1) cs
      else (if c == 41 then (if nat_lt 1 depth then behind_comments (depth - 1) cs else uncommented cs)
      else behind_comments depth cs))

  -- The same where the first byte is quoted.
  pub behind_quoted : ℕ → List ℕ → Option (List ℕ)
  behind_quoted depth [] = None
  behind_quoted depth (c ∷ cs) = behind_comments depth cs

-- The pieces of a text between its blanks, one more than there are blanks.
abbrev pub split : List ℕ → List (List ℕ)
split [] = [] ∷ []
split (c ∷ cs) = if is_blank c then [] ∷ split cs else put c (split cs)

-- A word in front of words. An empty one is none.
abbrev pub put_word : List ℕ → List (List ℕ) → List (List ℕ)
put_word [] ws = ws
put_word (c ∷ cs) ws = (c ∷ cs) ∷ ws

abbrev pub not_empty : List (List ℕ) → List (List ℕ)
not_empty [] = []
not_empty (w ∷ ws) = put_word w (not_empty ws)

-- The words of a value: the pieces between its blanks and comments that aren't empty. None where a comment doesn't end.
abbrev pub words : List ℕ → Option (List (List ℕ))
words text = option_map (λ t. not_empty (split t)) (uncommented text)
