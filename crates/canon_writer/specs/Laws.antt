-- The print is read again.
use Rattle.std.specs.Prelude.{◌≡◌, ℕ, List}
use Rattle.base64.specs.GeneralPurpose.{IsBytes}
use Rattle.mime_tree.specs.declared.reasons.Reason.{Reason}
use Rattle.mime_tree.specs.Trees.{Tree}
use Rattle.mail_text.specs.Lines.{IsCrlf}
use Rattle.header_reader.specs.Good.{IsGood}
use Rattle.header_reader.specs.Values.{value_of}
use Rattle.mime_reader.specs.Reading.{IsMessage}
use Rattle.mime_reader.specs.Wrapping.{wrapper}
use Rattle.canon_writer.specs.Printing.{HeadersFit, print, value_text}

pub record PrintLaws : Type 0 where
  -- The print of a message is that message again, where its headers are short enough.
  pub read_again : (text : List ℕ) (tree : Tree) → IsMessage text tree → HeadersFit tree → IsMessage (print tree) tree
  -- So is the print of the message that stands for bytes which can't be read.
  pub wrapped : (bytes : List ℕ) (reason : Reason) (now : ℕ) → IsBytes bytes → IsMessage (print (wrapper bytes reason now)) (wrapper bytes reason now)
  -- The text of a value that was read is read as that value, in a field of the same name.
  pub value_again : (name text : List ℕ) → value_of name (value_text (value_of name text)) ≡ value_of name text
  -- It can stand in a field where the text that was read can.
  pub value_good : (name text : List ℕ) → IsGood name text → IsGood name (value_text (value_of name text))
  -- A print has no other line ends than CRLF.
  pub is_crlf : (text : List ℕ) (tree : Tree) → IsMessage text tree → IsCrlf (print tree)
