-- Columns that are read back. They serve the contracts of private functions alone.
use Rattle.std.specs.Prelude.{◌≡◌, ℕ, ℤ, ⊤, List, length, take, drop, Option, Some, None, nat_lt, if◌then◌else◌}
use Rattle.std.specs.Int.{Width, w32, byte_len, from_be_bytes, cast_signed}
use Rattle.std.specs.Option.{option_and_then}
use Rattle.row_codec.specs.Columns.{Column, number, signed, nothing, text, digest, ◌&◌}

-- a column, and what reads the value at the front and the rest
pub record Codec (A : Type 0) : Type 1 where
  pub column : Column A
  pub read : List ℕ → Option (A × List ℕ)

-- what a function found, seen by view, is what reading gives
abbrev pub Reads : {X Y : Type 0} → (X → Y) → Option X → Option Y → Type 0
Reads view (Some x) read = read ≡ Some (view x)
Reads view None read = read ≡ None

-- the same of another value, which f makes of it
abbrev pub mapped : {A B : Type 0} → (A → B) → Option (A × List ℕ) → Option (B × List ℕ)
mapped f found = option_and_then (λ p. Some (f p.0, p.1)) found

-- ---- what stands at the front, and the rest: so many bytes, a number, a text, one column after the other

abbrev pub front_read : ℕ → List ℕ → Option (List ℕ × List ℕ)
front_read n bytes = if nat_lt (length bytes) n then None else Some (take n bytes, drop n bytes)

unfoldable pub number_read : Width → List ℕ → Option (ℕ × List ℕ)
number_read w bytes = option_and_then (λ p. Some (from_be_bytes w p.0, p.1)) (front_read (byte_len w) bytes)

unfoldable pub text_read : List ℕ → Option (List ℕ × List ℕ)
text_read bytes = option_and_then (λ n. front_read n.0 n.1) (number_read w32 bytes)

abbrev pub both_read : {A B : Type 0} → (List ℕ → Option (A × List ℕ)) → (List ℕ → Option (B × List ℕ)) → List ℕ → Option ((A × B) × List ℕ)
both_read a b bytes = option_and_then (λ p. option_and_then (λ q. Some ((p.0, q.0), q.1)) (b p.1)) (a bytes)

abbrev pub number_codec : Width → Codec ℕ
number_codec w = record { column = number w; read = number_read w }

abbrev pub signed_codec : Width → Codec ℤ
signed_codec w = record { column = signed w; read = λ bytes. mapped (λ n. cast_signed w n) (number_read w bytes) }

abbrev pub nothing_codec : Codec ⊤
nothing_codec = record { column = nothing; read = λ bytes. Some (tt, bytes) }

abbrev pub text_codec : Codec (List ℕ)
text_codec = record { column = text; read = text_read }

abbrev pub digest_codec : Codec (List ℕ)
digest_codec = record { column = digest; read = front_read 32 }

infixr 20 ◌then◌
abbrev pub ◌then◌ : {A B : Type 0} → Codec A → Codec B → Codec (A × B)
a then b = record { column = a.column & b.column; read = both_read a.read b.read }
