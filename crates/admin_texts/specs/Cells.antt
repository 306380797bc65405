-- The columns that cells of a row show. Serves private functions alone.
use Rattle.admin_texts.specs.declared.cells.Cell.{Cell}
use Rattle.admin_texts.specs.declared.cells.Cell.TheVariants.{Number, Integer, Text, Digest}
use Rattle.admin_texts.specs.Columns.{Column}
use Rattle.admin_texts.specs.Columns.Column.{number, integer, text, digest}

abbrev pub column_of : Cell → Column
column_of (Number n) = number n
column_of (Integer z) = integer z.now
column_of (Text bytes) = text bytes.now
column_of (Digest bytes) = digest bytes.now
