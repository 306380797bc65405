-- What holds of wrappers.
use Rattle.std.specs.Prelude.{ℕ, List}
use Rattle.mime_tree.specs.declared.reasons.Reason.{Reason}
use Rattle.date_grammar.specs.Dates.{IsNowPrint}
use Rattle.mime_reader.specs.Arrival.{arrival}
use Rattle.mime_reader.specs.Reading.{HasGoodFields}
use Rattle.mime_reader.specs.Wrapping.{wrapper}

pub record WrappingLaws : Type 0 where
  -- The time of arrival is told as dates are printed.
  pub is_print : (now : ℕ) → IsNowPrint now (arrival now).text
  -- The fields of a wrapper and of its parts are such as are read.
  pub good : (bytes : List ℕ) (reason : Reason) (now : ℕ) → HasGoodFields (wrapper bytes reason now)
