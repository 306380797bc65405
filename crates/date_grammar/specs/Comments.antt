-- Comments as the grammar of mail has them (RFC 5322 §3.2.2).
use Rattle.std.specs.Prelude.{◌≡◌, ◌≢◌, ℕ, List, [], ◌∷◌, ◌++◌, option_map, IsSome}
use Rattle.date_grammar.specs.Words.{uncommented}

-- What stands between the parentheses of a comment: bytes other than parentheses and `\`, bytes behind a `\`, and comments.
pub data IsContent : List ℕ → Type 0 where
  nothing : IsContent []
  byte : (c : ℕ) (cs : List ℕ) → c ≢ 40 → c ≢ 41 → c ≢ 92 → IsContent cs → IsContent (c ∷ cs)
  quoted : (c : ℕ) (cs : List ℕ) → IsContent cs → IsContent (92 ∷ c ∷ cs)
  comment : (inner cs : List ℕ) → IsContent inner → IsContent cs → IsContent (40 ∷ (inner ++ 41 ∷ cs))

-- How comments are told from the rest of a text.
pub record CommentLaws : Type 0 where
  -- A comment counts as a blank.
  pub blank : (content text : List ℕ) → IsContent content → uncommented (40 ∷ (content ++ 41 ∷ text)) ≡ option_map (λ t. 32 ∷ t) (uncommented text)
  -- Where a `(` can be read, a comment begins.
  pub begins : (text : List ℕ) → IsSome (uncommented (40 ∷ text)) → (content rest : List ℕ) × IsContent content × (text ≡ content ++ 41 ∷ rest)
