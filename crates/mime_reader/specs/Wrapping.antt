-- The message that stands for bytes which can't be read, and mail as it is kept.
use Rattle.std.specs.Prelude.{ℕ, List, [], ◌∷◌, ◌++◌, codes, Some, None, Result, Ok, Err}
use Rattle.mime_tree.specs.declared.values.Field.{Field}
use Rattle.mime_tree.specs.declared.values.Value.TheVariants.{Text, Date}
use Rattle.mime_tree.specs.declared.trees.Encoding.TheVariants.{Plain, Base64}
use Rattle.mime_tree.specs.declared.reasons.Reason.{Reason}
use Rattle.mime_tree.specs.declared.reasons.Reason.TheVariants.{ZeroByte, LoneReturn, NoField, LongHeader, NoBoundary, NoDelimiter, TooDeep, TooMany}
use Rattle.mime_tree.specs.declared.reasons.Mail.{Mail}
use Rattle.mime_tree.specs.Trees.{Tree}
use Rattle.mime_tree.specs.Trees.Tree.{node}
use Rattle.mime_tree.specs.Trees.Content.{leaf, multi}
use Rattle.mime_tree.specs.Trees.Trees.{none, more}
use Rattle.mime_reader.specs.Arrival.{arrival}
use Rattle.mime_reader.specs.Reading.{outcome}

-- A reason in words.
abbrev pub reason_text : Reason → List ℕ
reason_text ZeroByte = codes "a zero byte"
reason_text LoneReturn = codes "a lone carriage return"
reason_text NoField = codes "a line that is no field"
reason_text LongHeader = codes "a long header"
reason_text NoBoundary = codes "no usable boundary"
reason_text NoDelimiter = codes "no delimiter"
reason_text TooDeep = codes "nested too deep"
reason_text TooMany = codes "too many parts"

abbrev pub text_field : List ℕ → List ℕ → Field
text_field name text = record { name = name; value = Text text }

-- The part that tells the reason.
abbrev pub notice : Reason → Tree
notice reason =
    node (text_field (codes "Content-Type") (codes "text/plain; charset=us-ascii") ∷ [])
    (leaf Plain (codes "The attached message could not be read: " ++ reason_text reason ++ codes "."))

-- The part that has the bytes as they came.
abbrev pub attachment : List ℕ → Tree
attachment bytes =
    node (text_field (codes "Content-Type") (codes "application/octet-stream")
    ∷ text_field (codes "Content-Transfer-Encoding") (codes "base64")
    ∷ text_field (codes "Content-Disposition") (codes "attachment; filename=original") ∷ [])
    (leaf Base64 bytes)

abbrev pub wrapper_fields : ℕ → List Field
wrapper_fields now =
    record { name = codes "Date"; value = Date (arrival now) }
    ∷ text_field (codes "Subject") (codes "Unreadable message")
    ∷ text_field (codes "MIME-Version") (codes "1.0")
    ∷ text_field (codes "Content-Type") (codes "multipart/mixed; boundary=\"wrapped\"") ∷ []

-- The message that stands for bytes which can't be read for a reason, and which came at a moment.
unfoldable pub wrapper : List ℕ → Reason → ℕ → Tree
wrapper bytes reason now = node (wrapper_fields now) (multi (more (notice reason) (more (attachment bytes) none)))

-- Bytes as the mail that is kept, by their outcome.
abbrev pub mail_of : List ℕ → ℕ → Result Tree Reason → Mail
mail_of bytes now (Ok tree) = record { message = tree; reason = None }
mail_of bytes now (Err reason) = record { message = wrapper bytes reason now; reason = Some reason }

-- Bytes that came at a moment, as the mail that is kept.
abbrev pub mail : List ℕ → ℕ → Mail
mail bytes now = mail_of bytes now (outcome bytes)
