-- Reading bytes from the left.
use Rattle.std.specs.Prelude.{ℕ, zero, suc, ◌-◌, List, [], ◌∷◌, Option, Some, None}

-- The items of bytes, from the left: where something stands at the front, of so many bytes, it is one item and is passed
-- over; else the first byte is an item by itself. The first `over` bytes belong to an item that was found before.
unfoldable pub scan : {A : Type 0} → (List ℕ → Option (ℕ × A)) → (ℕ → A) → ℕ → List ℕ → List A
scan front single over [] = []
scan front single (suc over) (c ∷ cs) = scan front single over cs
scan front single zero (c ∷ cs) = elim (front (c ∷ cs)) [
  | Some found ↦ found.1 ∷ scan front single (found.0 - 1) cs
  | None ↦ single c ∷ scan front single 0 cs
]
