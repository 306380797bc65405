-- The bytes of a content, one after another.
use Rattle.std.proofs.Common.{◌≡◌, ℕ, List, [], ◌∷◌, ◌++◌, Option, Some, None, refl, sym, ap, append_assoc}
use Rattle.std.specs.Option.{option_map}

-- Bytes before others that may be missing.
abbrev pub before : List ℕ → Option (List ℕ) → Option (List ℕ)
before done rest = option_map (λ bytes. done ++ bytes) rest

pub before_more : (done : List ℕ) (b : ℕ) (rest : Option (List ℕ)) → before done (option_map (λ bytes. b ∷ bytes) rest) ≡ before (done ++ b ∷ []) rest
before_more done b None = refl
before_more done b (Some bytes) = ap Some (sym (append_assoc done (b ∷ []) bytes))

pub before_nothing : (rest : Option (List ℕ)) → before [] rest ≡ rest
before_nothing None = refl
before_nothing (Some bytes) = refl
