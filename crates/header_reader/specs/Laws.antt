-- What holds of headers that were read.
use Rattle.std.specs.Prelude.{◌≡◌, ℕ, false, List, drop, None}
use Rattle.mail_text.specs.Lines.{lines, joined, has}
use Rattle.header_reader.specs.Fields.{header, body, fields_of}
use Rattle.header_reader.specs.Faults.{fault_of}
use Rattle.header_reader.specs.Places.{IsBodyPlace}
use Rattle.header_reader.specs.Good.{AllGood}

pub record FieldLaws : Type 0 where
  -- The fields of a text without a zero byte whose header has no fault are good.
  pub good : (text : List ℕ) → has 0 text ≡ false → fault_of (header (lines text)) ≡ None → AllGood (fields_of (header (lines text)))
  -- What stands behind the body's place has the body's lines; where that is no line, it is empty.
  pub body_at : (text : List ℕ) (place : ℕ) → IsBodyPlace text place → joined (lines (drop place text)) ≡ joined (body (lines text))
