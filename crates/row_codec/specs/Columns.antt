-- How the values of columns are written.
use Rattle.std.specs.Prelude.{◌≡◌, ℕ, ℤ, ⊤, FitsSigned, ◌<◌, ◌^◌, List, [], ◌++◌, length}
use Rattle.std.specs.Int.{Width, w32, byte_len, to_be_bytes, cast_unsigned}
use Rattle.row_tables.specs.Fits.{IsText}

-- A column, or several in their order: the bytes that a value is written as, whether its texts are short enough for
-- their lengths, and whether its numbers and digests have their widths.
pub record Column (A : Type 0) : Type 1 where
  pub bytes : A → List ℕ
  pub HasTexts : A → Type 0
  pub HasWidths : A → Type 0

-- the highest byte first
unfoldable pub number_bytes : Width → ℕ → List ℕ
number_bytes w n = to_be_bytes w n

-- the length in four bytes, and the text
unfoldable pub text_bytes : List ℕ → List ℕ
text_bytes text = number_bytes w32 (length text) ++ text

abbrev pub number : Width → Column ℕ
number w = record { bytes = number_bytes w; HasTexts = λ n. Unit {0}; HasWidths = λ n. n < 256 ^ byte_len w }

-- in two's complement
abbrev pub signed : Width → Column ℤ
signed w = record { bytes = λ z. number_bytes w (cast_unsigned w z); HasTexts = λ z. Unit {0}; HasWidths = λ z. FitsSigned w z }

abbrev pub text : Column (List ℕ)
text = record { bytes = text_bytes; HasTexts = IsText; HasWidths = λ t. Unit {0} }

abbrev pub digest : Column (List ℕ)
digest = record { bytes = λ d. d; HasTexts = λ d. Unit {0}; HasWidths = λ d. length d ≡ 32 }

-- no column: the key of a table that has always one row
abbrev pub nothing : Column ⊤
nothing = record { bytes = λ x. []; HasTexts = λ x. Unit {0}; HasWidths = λ x. Unit {0} }

-- one after the other
infixr 20 ◌&◌
abbrev pub ◌&◌ : {A B : Type 0} → Column A → Column B → Column (A × B)
a & b = record {
  bytes = λ p. a.bytes p.0 ++ b.bytes p.1;
  HasTexts = λ p. a.HasTexts p.0 × b.HasTexts p.1;
  HasWidths = λ p. a.HasWidths p.0 × b.HasWidths p.1;
}
