-- Fields that were read, with the texts of their values.
use Rattle.std.proofs.Common.{◌≡◌, List, [], ◌∷◌, ◌++◌, map, refl, ◌∙◌, ap}
use Rattle.header_reader.specs.declared.raw.RawField.{RawField}
use Rattle.header_reader.specs.Good.{AllGood}
use Rattle.header_reader.specs.Values.{value_of, read_field}
use Rattle.canon_writer.specs.Folding.{field_lines}
use Rattle.canon_writer.specs.Printing.{value_text, header_lines}
use Rattle.canon_writer.proofs.FieldLemmas.{lines_of}
use Rattle.canon_writer.proofs.ValueLemmas.{ValueLaws}

-- A field with the text that its value is printed as.
abbrev pub kept : RawField → RawField
kept raw = record { name = raw.name; value = value_text (value_of raw.name raw.value) }

pub kept_lines : (raws : List RawField) → header_lines (map read_field raws) ≡ lines_of (map kept raws)
kept_lines [] = refl
kept_lines (raw ∷ raws) = ap (λ ls. field_lines raw.name (value_text (value_of raw.name raw.value)) ++ ls) (kept_lines raws)

module _ (values : ValueLaws) where
  field_again : (raw : RawField) → read_field (kept raw) ≡ read_field raw
  field_again raw = λ i. record { name = raw.name; value = values.again raw.name raw.value i }

  pub kept_again : (raws : List RawField) → map read_field (map kept raws) ≡ map read_field raws
  kept_again [] = refl
  kept_again (raw ∷ raws) = ap (λ f. f ∷ map read_field (map kept raws)) (field_again raw) ∙ ap (λ fs. read_field raw ∷ fs) (kept_again raws)

  pub kept_good : (raws : List RawField) → AllGood raws → AllGood (map kept raws)
  kept_good [] g = tt
  kept_good (raw ∷ raws) g = (values.good raw.name raw.value g.0, kept_good raws g.1)
