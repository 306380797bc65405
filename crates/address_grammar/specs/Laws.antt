-- What was read and is printed is read as the same again.
use Rattle.std.specs.Prelude.{◌≡◌, ◌↔◌, ℕ, ◌<◌, false, List, Some}
use Rattle.mail_text.specs.Texts.{trimmed}
use Rattle.mail_text.specs.Lines.{has}
use Rattle.mime_tree.specs.declared.values.Item.{Item}
use Rattle.address_grammar.specs.Words.{spaced}
use Rattle.address_grammar.specs.Lists.{reading}
use Rattle.address_grammar.specs.Grammar.{Reads}
use Rattle.address_grammar.specs.Printing.{printed}
use Rattle.address_grammar.specs.Ids.{ids_reading}
use Rattle.address_grammar.specs.IdGrammar.{ReadsIds}

pub record AddressLaws : Type 0 where
  -- What a value's places give is what it reads as by the grammar.
  pub is_grammar : (value : List ℕ) (items : List Item) → (reading value ≡ Some items) ↔ Reads value items
  -- Items that a value reads as, printed, are read as these items.
  pub read_again : (value : List ℕ) (items : List Item) → Reads value items → Reads (printed items) items
  -- The print has no white space at its ends, and no control byte that the value lacks.
  pub is_trimmed : (value : List ℕ) (items : List Item) → Reads value items → trimmed (printed items) ≡ printed items
  pub no_control : (value : List ℕ) (items : List Item) (b : ℕ) → Reads value items → b < 32 → has b value ≡ false → has b (printed items) ≡ false

pub record IdLaws : Type 0 where
  -- What a value's pieces between `>` give is what it reads as by the grammar.
  pub is_grammar : (value : List ℕ) (ids : List (List ℕ)) → (ids_reading value ≡ Some ids) ↔ ReadsIds value ids
  -- Ids that a value reads as, printed, are read as these ids.
  pub read_again : (value : List ℕ) (ids : List (List ℕ)) → ReadsIds value ids → ReadsIds (spaced ids) ids
  -- The print has no white space at its ends, and no control byte that the value lacks.
  pub is_trimmed : (value : List ℕ) (ids : List (List ℕ)) → ReadsIds value ids → trimmed (spaced ids) ≡ spaced ids
  pub no_control : (value : List ℕ) (ids : List (List ℕ)) (b : ℕ) → ReadsIds value ids → b < 32 → has b value ≡ false → has b (spaced ids) ≡ false
