-- What was sent by each link, as it is kept.
use Rattle.std.specs.Prelude.{ℕ, ◌≡◌, ◌==◌, List, [], ◌++◌, Option, Some, None, if◌then◌else◌}
use Rattle.std.specs.Global.{Vec}
use Rattle.std.specs.Ordering.{nat_cmp}
use Rattle.std.specs.BTreeMap.{BTreeMap, get}

abbrev pub bytes_of : Option (Vec ℕ) → List ℕ
bytes_of None = []
bytes_of (Some text) = text.items

-- the text of the link of a number, empty where there is none
abbrev pub text_at : BTreeMap ℕ (Vec ℕ) → ℕ → List ℕ
text_at texts number = bytes_of (get nat_cmp texts number)

-- The bytes were added to the text of the link of a number.
abbrev pub Adds : List ℕ → ℕ → (ℕ → List ℕ) → (ℕ → List ℕ) → Type 0
Adds bytes number old new = (n : ℕ) → new n ≡ (if number == n then old n ++ bytes else old n)
