-- Steps that follow each other.
use Rattle.std.specs.Prelude.{◌≡◌, List, [], ◌∷◌}

-- The steps of the members of a list, in its order, lead from one state to another.
abbrev pub Chain : {X S : Type 0} → (X → S → S → Type 0) → List X → S → S → Type 0
Chain Step [] old new = new ≡ old
Chain {S = S} Step (x ∷ xs) old new = (mid : S) × Step x old mid × Chain Step xs mid new
