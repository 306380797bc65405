-- Rows that messages share are distinct, and stay where they are.
use Rattle.std.specs.Prelude.{◌≡◌, ℕ, List}
use Rattle.row_store.specs.Holding.{Stored}
use Rattle.shredder.specs.MessageRows.{AddressTexts, HasName, HasAddress, HasContent, HasBytes}

-- No two field names, no two addresses and no two bodies are equal, and each digest is SHA-256 of its content.
pub record AreDistinct (s : Stored) : Type 0 where
  pub names : (i j : ℕ) (name : List ℕ) → HasName s.tables.shared.field_names i name → HasName s.tables.shared.field_names j name → i ≡ j
  pub addresses : (i j : ℕ) (texts : AddressTexts) → HasAddress s.tables.shared.addresses i texts → HasAddress s.tables.shared.addresses j texts → i ≡ j
  pub contents : (i j : ℕ) (bytes : List ℕ) → HasContent s i bytes → HasContent s j bytes → i ≡ j
  pub digests : (i : ℕ) (bytes : List ℕ) → HasContent s i bytes → HasBytes s i bytes

-- What messages share keeps its ids.
pub record Keeps (s after : Stored) : Type 0 where
  pub names : (id : ℕ) (name : List ℕ) → HasName s.tables.shared.field_names id name → HasName after.tables.shared.field_names id name
  pub addresses : (id : ℕ) (texts : AddressTexts) → HasAddress s.tables.shared.addresses id texts → HasAddress after.tables.shared.addresses id texts
  pub bodies : (id : ℕ) (bytes : List ℕ) → HasBytes s id bytes → HasBytes after id bytes
