-- Readings of texts, from which rules are put together.
use Rattle.std.specs.Prelude.{◌≡◌, ℕ, Bool, false, ◌==◌, nat_le, if◌then◌else◌, List, [], ◌∷◌, length, take, drop, Option, Some, None, Result, Ok, Err}
use Rattle.imap_grammar.specs.declared.reader.Fault.{Fault}
use Rattle.imap_grammar.specs.declared.reader.Fault.TheVariants.{NoMemory, NoReading}

-- What the front of a text reads as, and the text behind it. None where no front reads so.
abbrev pub Outcome : Type 0 → Type 0
Outcome A = Option (A × List ℕ)

abbrev pub Reading : Type 0 → Type 0
Reading A = List ℕ → Outcome A

abbrev pub and_then : {A B : Type 0} → Outcome A → (A → Reading B) → Outcome B
and_then None f = None
and_then (Some r) f = f r.0 r.1

infixl 10 ◌>>=◌
abbrev pub ◌>>=◌ : {A B : Type 0} → Reading A → (A → Reading B) → Reading B
p >>= f = λ text. and_then (p text) f

infixl 10 ◌>>◌
abbrev pub ◌>>◌ : {A B : Type 0} → Reading A → Reading B → Reading B
p >> q = p >>= (λ _. q)

abbrev pub pure : {A : Type 0} → A → Reading A
pure a = λ text. Some (a, text)

-- nothing reads so
abbrev pub nothing : {A : Type 0} → Reading A
nothing = λ _. None

-- a value that may be none
abbrev pub given : {A : Type 0} → Option A → Reading A
given None = nothing
given (Some a) = pure a

-- Whether a text begins with a byte.
abbrev pub sees : ℕ → List ℕ → Bool
sees b [] = false
sees b (c ∷ cs) = c == b

-- One byte.
unfoldable pub byte : ℕ → Reading (Unit {0})
byte b = λ text. if sees b text then Some (tt, drop 1 text) else None

abbrev pub space : Reading (Unit {0})
space = byte 32

-- The text behind a byte, where it begins with that.
unfoldable pub after : ℕ → List ℕ → List ℕ
after b text = if sees b text then drop 1 text else text

-- Two rules, of which the first is taken where a text begins with the byte.
abbrev pub begun : {A : Type 0} → ℕ → Reading A → Reading A → Reading A
begun b p q = λ text. if sees b text then p text else q text

-- So many bytes.
unfoldable pub counted : ℕ → Reading (List ℕ)
counted n = λ text. if nat_le n (length text) then Some (take n text, drop n text) else None

-- The end of a command: its last line end, and nothing behind it.
unfoldable pub end : Reading (Unit {0})
end = do
  byte 13
  byte 10
  λ text. if length text == 0 then Some (tt, text) else None

-- What a function that reads answers: what the rule gives, unless memory runs out.
abbrev pub Reads : {A : Type 0} → Outcome A → Result A Fault → List ℕ → Type 0
Reads outcome (Ok a) new = outcome ≡ Some (a, new)
Reads outcome (Err NoReading) new = outcome ≡ None
Reads outcome (Err NoMemory) new = Unit {0}
