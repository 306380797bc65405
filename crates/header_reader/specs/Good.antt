-- What holds of each field that was read.
use Rattle.std.specs.Prelude.{◌≡◌, ℕ, true, false, List, [], ◌∷◌}
use Rattle.mail_text.specs.Texts.{begins, front, trimmed}
use Rattle.mail_text.specs.Lines.{has}
use Rattle.header_reader.specs.declared.raw.RawField.{RawField}
use Rattle.header_reader.specs.Fields.{is_name, begins_with_dashes}

-- The name is one or more bytes of names and doesn't begin with `--`. The value has no blanks at its ends, and no byte that
-- ends a line or a text.
pub record IsGood (name value : List ℕ) : Type 0 where
  pub some : begins is_name name ≡ true
  pub names : front is_name name ≡ name
  pub no_dashes : begins_with_dashes name ≡ false
  pub is_trimmed : trimmed value ≡ value
  pub no_zero : has 0 value ≡ false
  pub no_lf : has 10 value ≡ false
  pub no_cr : has 13 value ≡ false

abbrev pub AllGood : List RawField → Type 0
AllGood [] = Unit {0}
AllGood (raw ∷ raws) = IsGood raw.name raw.value × AllGood raws
