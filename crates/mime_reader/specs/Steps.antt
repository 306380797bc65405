-- What the steps of a reader answer.
use Rattle.std.specs.Prelude.{◌≡◌, ℕ, ◌+◌, ◌<◌, true, List, length, Option, Some, None, Result, Ok, Err}
use Rattle.mime_tree.specs.declared.reasons.Reason.{Reason}
use Rattle.mime_reader.specs.declared.faults.ReadFault.{ReadFault}
use Rattle.mime_reader.specs.declared.faults.ReadFault.TheVariants.{Unreadable, NoMemory}
use Rattle.mime_reader.specs.Bodies.{is_usable, parts}

-- A fault that is this outcome, unless memory ran out.
abbrev pub Fails : {A : Type 0} → ReadFault → Result A Reason → Type 0
Fails (Unreadable reason) expected = expected ≡ Err reason
Fails NoMemory expected = Unit {0}

-- An answer that is this outcome, unless memory ran out.
abbrev pub Comes : {A B : Type 0} → (A → B) → Result A ReadFault → Result B Reason → Type 0
Comes view (Ok x) expected = expected ≡ Ok (view x)
Comes view (Err fault) expected = Fails fault expected

-- An answer that is this outcome, unless memory ran out. With what was read the number grows by the size of that.
abbrev pub Answers : {A B : Type 0} → (A → B) → (B → ℕ) → ℕ → ℕ → Result A ReadFault → Result B Reason → Type 0
Answers view size old new (Ok x) expected = (expected ≡ Ok (view x)) × (new ≡ old + size (view x))
Answers view size old new (Err fault) expected = Fails fault expected

-- A fault that tells why a header can't be read. Memory is wanted only for one that can be.
abbrev pub Tells : ReadFault → Option Reason → Type 0
Tells (Unreadable reason) expected = expected ≡ Some reason
Tells NoMemory expected = expected ≡ None

-- The body of a multipart that has parts: its boundary can be used, and a delimiter stands in it.
pub record CanBeCut (enclosing : List (List ℕ)) (boundary text : List ℕ) : Type 0 where
  pub usable : is_usable enclosing boundary ≡ true
  pub some : 0 < length (parts boundary text)
