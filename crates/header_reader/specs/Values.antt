-- What the values of fields are read as.
use Rattle.std.specs.Prelude.{ℕ, List, [], ◌∷◌, Option, Some, None, option_map}
use Rattle.mime_tree.specs.declared.values.Field.{Field}
use Rattle.mime_tree.specs.declared.values.Value.{Value}
use Rattle.mime_tree.specs.declared.values.Value.TheVariants.{Text, Addresses, Date, Ids}
use Rattle.address_grammar.specs.Lists.{reading}
use Rattle.address_grammar.specs.Ids.{ids_reading}
use Rattle.date_grammar.specs.Dates.{sent_date}
use Rattle.header_reader.specs.declared.kinds.FieldKind.{FieldKind}
use Rattle.header_reader.specs.declared.kinds.FieldKind.TheVariants.{Unstructured, AddressList, DateTime, OneId, IdList}
use Rattle.header_reader.specs.declared.raw.RawField.{RawField}
use Rattle.header_reader.specs.Kinds.{kind_of}

-- Ids that are one alone.
abbrev pub single : Option (List (List ℕ)) → Option (List (List ℕ))
single None = None
single (Some []) = None
single (Some (id ∷ [])) = Some (id ∷ [])
single (Some (id ∷ other ∷ ids)) = None

-- The typed value that a text is by the grammar of its field's kind, or none.
abbrev pub typed : FieldKind → List ℕ → Option Value
typed Unstructured text = None
typed AddressList text = option_map Addresses (reading text)
typed DateTime text = option_map Date (sent_date text)
typed OneId text = option_map Ids (single (ids_reading text))
typed IdList text = option_map Ids (ids_reading text)

abbrev pub or_text : List ℕ → Option Value → Value
or_text text None = Text text
or_text text (Some value) = value

-- The value of a field by its name: what is no typed value is text.
abbrev pub value_of : List ℕ → List ℕ → Value
value_of name text = or_text text (typed (kind_of name) text)

-- A field as it is kept.
abbrev pub read_field : RawField → Field
read_field raw = record { name = raw.name; value = value_of raw.name raw.value }
