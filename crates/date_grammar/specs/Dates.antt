-- What texts of dates stand for, and the prints of moments.
use Rattle.std.specs.Prelude.{◌≡◌, ℕ, false, min, List, length, Option, option_map, ℤ, pos}
use Rattle.mail_text.specs.Texts.{trimmed}
use Rattle.mail_text.specs.Lines.{has}
use Rattle.mime_tree.specs.declared.values.SentDate.{SentDate}
use Rattle.date_grammar.specs.declared.parts.DateTime.{DateTime}
use Rattle.date_grammar.specs.declared.parts.Stamp.{Stamp}
use Rattle.date_grammar.specs.Calendar.{day_number}
use Rattle.date_grammar.specs.Reading.{reading}
use Rattle.date_grammar.specs.Printing.{printed, sent}
use Rattle.date_grammar.specs.Stamps.{date_text, internal_date, printed_internal, stamp_of, IsDateAt}

-- The date that the value of a header field is, as it is kept.
unfoldable pub sent_date : List ℕ → Option SentDate
sent_date value = option_map sent (reading value)

-- The moment and zone of an internal date of IMAP.
unfoldable pub internal_stamp : List ℕ → Option Stamp
internal_stamp text = option_map stamp_of (internal_date text)

-- The number of a day of a search.
unfoldable pub search_day : List ℕ → Option ℤ
search_day text = option_map day_number (date_text text)

-- A text of a date that can stand as the value of a field: it has no blanks at its ends, and no byte that ends a line or a text.
pub record IsFieldValue (text : List ℕ) : Type 0 where
  pub size : length text ≡ 31
  pub is_trimmed : trimmed text ≡ text
  pub no_zero : has 0 text ≡ false
  pub no_lf : has 10 text ≡ false
  pub no_cr : has 13 text ≡ false

-- The last second of the year 9999.
abbrev pub last_second : ℕ
last_second = 253_402_300_799

-- The print of a moment in +0000, as the date of a header field. A moment behind the year 9999 is printed as its last second.
pub record IsNowPrint (now : ℕ) (text : List ℕ) : Type 0 where
  pub date : DateTime
  pub at : IsDateAt (pos (min now last_second)) (pos 0) date
  pub text_is : text ≡ printed date

-- The print of a moment in its zone, as an internal date.
pub record IsInternalPrint (stamp : Stamp) (text : List ℕ) : Type 0 where
  pub date : DateTime
  pub at : IsDateAt stamp.seconds stamp.zone date
  pub text_is : text ≡ printed_internal date
