-- Bytes read as a message, and the reasons why bytes are none.
use Rattle.std.specs.Prelude.{◌≡◌, ℕ, zero, suc, ◌+◌, ◌≤◌, Bool, true, false, nat_lt, if◌then◌else◌, List, [], ◌∷◌, map, Option, Some, None, Result, Ok, Err, ◌↔◌}
use Rattle.mail_text.specs.Lines.{lines, joined, has}
use Rattle.mime_tree.specs.declared.values.Field.{Field}
use Rattle.mime_tree.specs.declared.trees.Encoding.{Encoding}
use Rattle.mime_tree.specs.declared.trees.Encoding.TheVariants.{Plain, Base64}
use Rattle.mime_tree.specs.declared.reasons.Reason.{Reason}
use Rattle.mime_tree.specs.declared.reasons.Reason.TheVariants.{ZeroByte, NoBoundary, NoDelimiter, TooDeep, TooMany}
use Rattle.mime_tree.specs.Trees.{Tree, Content, Trees}
use Rattle.mime_tree.specs.Trees.Tree.{node}
use Rattle.mime_tree.specs.Trees.Content.{leaf, multi, nested}
use Rattle.mime_tree.specs.Trees.Trees.{none, more}
use Rattle.mime_tree.specs.Sizes.{nodes, levels}
use Rattle.header_reader.specs.Fields.{header, body, fields_of}
use Rattle.header_reader.specs.Faults.{fault_of}
use Rattle.header_reader.specs.Good.{IsGood}
use Rattle.header_reader.specs.Values.{read_field}
use Rattle.header_reader.specs.declared.raw.RawField.{RawField}
use Rattle.transfer_codec.specs.Layout.{decoded64}
use Rattle.mime_reader.specs.declared.faults.ReadFault.{ReadFault}
use Rattle.mime_reader.specs.declared.faults.ReadFault.TheVariants.{Unreadable, NoMemory}
use Rattle.mime_reader.specs.declared.kinds.BodyKind.{BodyKind}
use Rattle.mime_reader.specs.declared.kinds.BodyKind.TheVariants.{Multipart, Embedded, Single}
use Rattle.mime_reader.specs.Kinds.{body_kind, boundary_of}
use Rattle.mime_reader.specs.Bodies.{parts, is_usable}

-- The lines of a header that are these fields.
pub record AreFields (ls : List (List ℕ)) (fields : List Field) : Type 0 where
  pub sound : fault_of ls ≡ None
  pub read : map read_field (fields_of ls) ≡ fields

-- The body of a text: the lines behind its first empty one, each with a CRLF before the next.
abbrev pub body_of : List ℕ → List ℕ
body_of text = joined (body (lines text))

-- A text that is these bytes in this encoding. What is said to be base64 and decodes to nothing stands as it is.
abbrev pub IsLeaf : Bool → List ℕ → Encoding → List ℕ → Type 0
IsLeaf base64 text Base64 bytes = (base64 ≡ true) × (decoded64 text ≡ Some bytes)
IsLeaf base64 text Plain bytes = (base64 ≡ true → decoded64 text ≡ None) × (bytes ≡ text)

abbrev pub HasPart : Trees → Type 0
HasPart none = ⊥
HasPart (more tree trees) = Unit {0}

abbrev mutual
  -- A text that is this message or part, inside multiparts with these boundaries, and maybe a part of a digest: its fields stand
  -- in the lines up to the first empty one, and its body in those behind it.
  pub Reads : List (List ℕ) → Bool → List ℕ → Tree → Type 0
  Reads enclosing digest text (node fields content) =
      AreFields (header (lines text)) fields × ReadsBody enclosing (body_kind digest fields) (body_of text) content

  -- A text that is this body.
  pub ReadsBody : List (List ℕ) → BodyKind → List ℕ → Content → Type 0
  ReadsBody enclosing kind text (leaf encoding bytes) = (base64 : Bool) × (kind ≡ Single base64) × IsLeaf base64 text encoding bytes
  ReadsBody enclosing kind text (nested tree) = (kind ≡ Embedded) × Reads enclosing false text tree
  ReadsBody enclosing kind text (multi trees) =
      (boundary : List ℕ) × (digest : Bool) × (kind ≡ Multipart (Some boundary) digest) × (is_usable enclosing boundary ≡ true)
      × HasPart trees × ReadsParts (boundary ∷ enclosing) digest (parts boundary text) trees

  -- Texts that are these parts, in their order.
  pub ReadsParts : List (List ℕ) → Bool → List (List ℕ) → Trees → Type 0
  ReadsParts enclosing digest [] none = Unit {0}
  ReadsParts enclosing digest [] (more tree trees) = ⊥
  ReadsParts enclosing digest (p ∷ ps) none = ⊥
  ReadsParts enclosing digest (p ∷ ps) (more tree trees) = Reads enclosing digest p tree × ReadsParts enclosing digest ps trees

-- How many levels a message may have, and how many messages and parts with itself.
abbrev pub most_levels : ℕ
most_levels = 17

abbrev pub most_nodes : ℕ
most_nodes = 501

-- Bytes that are this whole message.
pub record IsMessage (text : List ℕ) (tree : Tree) : Type 0 where
  pub no_zero : has 0 text ≡ false
  pub reads : Reads [] false text tree
  pub few_levels : levels tree ≤ most_levels
  pub few_nodes : nodes tree ≤ most_nodes

-- What is made of a result, unless it is a reason.
abbrev pub and_then : {A B : Type 0} → Result A Reason → (A → Result B Reason) → Result B Reason
and_then (Ok x) f = f x
and_then (Err reason) f = Err reason

-- A result, unless there is a reason before it.
abbrev pub unless : {A : Type 0} → Option Reason → Result A Reason → Result A Reason
unless None result = result
unless (Some reason) result = Err reason

-- What bytes that may be base64 are.
abbrev pub or_plain : List ℕ → Option (List ℕ) → Content
or_plain text None = leaf Plain text
or_plain text (Some bytes) = leaf Base64 bytes

abbrev pub leaf_of : Bool → List ℕ → Content
leaf_of base64 text = if base64 then or_plain text (decoded64 text) else leaf Plain text

-- How a text is read inside multiparts with some boundaries, in a digest or elsewhere, by its number in preorder.
abbrev pub Reader : Type 0
Reader = List (List ℕ) → Bool → ℕ → List ℕ → Result Tree Reason

-- Texts read one after another, from a number on.
abbrev pub read_parts : (ℕ → List ℕ → Result Tree Reason) → ℕ → List (List ℕ) → Result Trees Reason
read_parts read number [] = Ok none
read_parts read number (p ∷ ps) =
    and_then (read number p) (λ tree. and_then (read_parts read (number + nodes tree) ps) (λ trees. Ok (more tree trees)))

-- The parts of a multipart. It has one at least.
abbrev pub read_multipart : (ℕ → List ℕ → Result Tree Reason) → ℕ → List (List ℕ) → Result Content Reason
read_multipart read number [] = Err NoDelimiter
read_multipart read number (p ∷ ps) = and_then (read_parts read number (p ∷ ps)) (λ trees. Ok (multi trees))

abbrev pub read_body : Reader → List (List ℕ) → BodyKind → ℕ → List ℕ → Result Content Reason
read_body read enclosing (Single base64) number text = Ok (leaf_of base64 text)
read_body read enclosing Embedded number text = and_then (read enclosing false number text) (λ tree. Ok (nested tree))
read_body read enclosing (Multipart None digest) number text = Err NoBoundary
read_body read enclosing (Multipart (Some boundary) digest) number text =
    if is_usable enclosing boundary then read_multipart (read (boundary ∷ enclosing) digest) number (parts boundary text) else Err NoBoundary

abbrev pub fields_in : List ℕ → List Field
fields_in text = map read_field (fields_of (header (lines text)))

-- A message or part of at most so many levels, by its number in preorder; or the first reason. Whether it is too deep or one too
-- many is told before its header is looked at, and the header's fault before the body's.
unfoldable pub read : ℕ → Reader
read zero enclosing digest number text = Err TooDeep
read (suc levels) enclosing digest number text =
    if nat_lt number most_nodes
    then unless (fault_of (header (lines text)))
    (and_then (read_body (read levels) enclosing (body_kind digest (fields_in text)) (number + 1) (body_of text))
    (λ content. Ok (node (fields_in text) content)))
    else Err TooMany

-- The message that bytes are, or why they are none: a zero byte anywhere is the first reason.
unfoldable pub outcome : List ℕ → Result Tree Reason
outcome text = if has 0 text then Err ZeroByte else read most_levels [] false 0 text

-- An answer that is this outcome, unless memory ran out.
abbrev pub Gives : Result Tree ReadFault → Result Tree Reason → Type 0
Gives (Ok tree) expected = expected ≡ Ok tree
Gives (Err (Unreadable reason)) expected = expected ≡ Err reason
Gives (Err NoMemory) expected = Unit {0}

-- Bytes that could be a message by what is seen of them without memory: they have no zero byte, and a header that can be read.
pub record BeginsMessage (text : List ℕ) : Type 0 where
  pub no_zero : has 0 text ≡ false
  pub sound : fault_of (header (lines text)) ≡ None

-- A field that was read from a good one.
pub record IsGoodField (field : Field) : Type 0 where
  pub raw : RawField
  pub is_good : IsGood raw.name raw.value
  pub read : field ≡ read_field raw

abbrev pub AreGoodFields : List Field → Type 0
AreGoodFields [] = Unit {0}
AreGoodFields (f ∷ fs) = IsGoodField f × AreGoodFields fs

abbrev mutual
  -- Each field of a message and of its parts is good.
  pub HasGoodFields : Tree → Type 0
  HasGoodFields (node fields content) = AreGoodFields fields × HasGoodFieldsIn content

  pub HasGoodFieldsIn : Content → Type 0
  HasGoodFieldsIn (leaf encoding bytes) = Unit {0}
  HasGoodFieldsIn (nested tree) = HasGoodFields tree
  HasGoodFieldsIn (multi trees) = HaveGoodFields trees

  pub HaveGoodFields : Trees → Type 0
  HaveGoodFields none = Unit {0}
  HaveGoodFields (more tree trees) = HasGoodFields tree × HaveGoodFields trees

-- How bytes, messages and reasons go together.
pub record ReadingLaws : Type 0 where
  -- Bytes have the message as their outcome exactly where they are it. So they are one message at most, and have a reason
  -- exactly where they are none.
  pub exact : (text : List ℕ) (tree : Tree) → (outcome text ≡ Ok tree) ↔ IsMessage text tree
  -- Where bytes have a reason they are no message.
  pub never_both : (text : List ℕ) (reason : Reason) (tree : Tree) → outcome text ≡ Err reason → IsMessage text tree → ⊥
  -- The fields of a message and of its parts.
  pub good : (text : List ℕ) (tree : Tree) → IsMessage text tree → HasGoodFields tree
  -- The boundary of a multipart is told by its fields alone.
  pub boundary : (digest inner : Bool) (fields : List Field) (boundary : List ℕ) →
      body_kind digest fields ≡ Multipart (Some boundary) inner → boundary_of fields ≡ boundary
