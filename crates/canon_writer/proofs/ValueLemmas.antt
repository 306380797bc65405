-- The text of a value that was read is read as that value, and can stand in a field.
use Rattle.std.proofs.Common.{◌≡◌, ℕ, false, List, [], ◌∷◌, Option, Some, None, option_map, refl, ap, arith}
use Rattle.mail_text.specs.Texts.{trimmed}
use Rattle.mail_text.specs.Lines.{has}
use Rattle.mime_tree.specs.declared.values.Item.{Item}
use Rattle.mime_tree.specs.declared.values.SentDate.{SentDate}
use Rattle.mime_tree.specs.declared.values.Value.{Value}
use Rattle.mime_tree.specs.declared.values.Value.TheVariants.{Addresses, Date, Ids}
use Rattle.address_grammar.specs.Words.{spaced}
use Rattle.address_grammar.specs.Lists.{reading}
use Rattle.address_grammar.specs.Printing.{printed}
use Rattle.address_grammar.specs.Ids.{ids_reading}
use Rattle.address_grammar.specs.Laws.{AddressLaws, IdLaws}
use Rattle.date_grammar.specs.Dates.{sent_date, IsFieldValue}
use Rattle.header_reader.specs.declared.kinds.FieldKind.{FieldKind}
use Rattle.header_reader.specs.declared.kinds.FieldKind.TheVariants.{Unstructured, AddressList, DateTime, OneId, IdList}
use Rattle.header_reader.specs.Kinds.{kind_of}
use Rattle.header_reader.specs.Good.{IsGood}
use Rattle.header_reader.specs.Values.{single, typed, or_text, value_of}
use Rattle.canon_writer.specs.Printing.{value_text}

-- What the print of a date owes.
abbrev pub DatesAgain : Type 0
DatesAgain = (value : List ℕ) (d : SentDate) → sent_date value ≡ Some d → sent_date d.text ≡ Some d

abbrev pub DatesStand : Type 0
DatesStand = (value : List ℕ) (d : SentDate) → sent_date value ≡ Some d → IsFieldValue d.text

-- A text that can be the value of a field.
pub record IsClean (text : List ℕ) : Type 0 where
  pub is_trimmed : trimmed text ≡ text
  pub no_zero : has 0 text ≡ false
  pub no_lf : has 10 text ≡ false
  pub no_cr : has 13 text ≡ false

-- What a text is read as, by what its grammar gives.
abbrev as_addresses : List ℕ → Option (List Item) → Value
as_addresses text found = or_text text (option_map Addresses found)

abbrev as_date : List ℕ → Option SentDate → Value
as_date text found = or_text text (option_map Date found)

abbrev as_one : List ℕ → Option (List (List ℕ)) → Value
as_one text found = or_text text (option_map Ids (single found))

abbrev as_ids : List ℕ → Option (List (List ℕ)) → Value
as_ids text found = or_text text (option_map Ids found)

module _ (addresses : AddressLaws) (ids : IdLaws) (dates : DatesAgain) (stand : DatesStand) where
  addresses_again : (text : List ℕ) (found : Option (List Item)) → reading text ≡ found →
      as_addresses (value_text (as_addresses text found)) (reading (value_text (as_addresses text found))) ≡ as_addresses text found
  addresses_again text None e = ap (as_addresses text) e
  addresses_again text (Some items) e =
      ap (as_addresses (printed items)) ((addresses.is_grammar (printed items) items).1 (addresses.read_again text items ((addresses.is_grammar text items).0 e)))

  date_again : (text : List ℕ) (found : Option SentDate) → sent_date text ≡ found →
      as_date (value_text (as_date text found)) (sent_date (value_text (as_date text found))) ≡ as_date text found
  date_again text None e = ap (as_date text) e
  date_again text (Some d) e = ap (as_date d.text) (dates text d e)

  ids_read : (text : List ℕ) (found : List (List ℕ)) → ids_reading text ≡ Some found → ids_reading (spaced found) ≡ Some found
  ids_read text found e = (ids.is_grammar (spaced found) found).1 (ids.read_again text found ((ids.is_grammar text found).0 e))

  one_again : (text : List ℕ) (found : Option (List (List ℕ))) → ids_reading text ≡ found →
      as_one (value_text (as_one text found)) (ids_reading (value_text (as_one text found))) ≡ as_one text found
  one_again text None e = ap (as_one text) e
  one_again text (Some []) e = ap (as_one text) e
  one_again text (Some (id ∷ [])) e = ap (as_one (spaced (id ∷ []))) (ids_read text (id ∷ []) e)
  one_again text (Some (id ∷ other ∷ more)) e = ap (as_one text) e

  ids_again : (text : List ℕ) (found : Option (List (List ℕ))) → ids_reading text ≡ found →
      as_ids (value_text (as_ids text found)) (ids_reading (value_text (as_ids text found))) ≡ as_ids text found
  ids_again text None e = ap (as_ids text) e
  ids_again text (Some found) e = ap (as_ids (spaced found)) (ids_read text found e)

  kind_again : (kind : FieldKind) (text : List ℕ) →
      or_text (value_text (or_text text (typed kind text))) (typed kind (value_text (or_text text (typed kind text)))) ≡ or_text text (typed kind text)
  kind_again Unstructured text = refl
  kind_again AddressList text = addresses_again text (reading text) refl
  kind_again DateTime text = date_again text (sent_date text) refl
  kind_again OneId text = one_again text (ids_reading text) refl
  kind_again IdList text = ids_again text (ids_reading text) refl

  -- The texts are clean.

  addresses_clean : (text : List ℕ) (found : Option (List Item)) → reading text ≡ found → IsClean text → IsClean (value_text (as_addresses text found))
  addresses_clean text None e c = c
  addresses_clean text (Some items) e c =
      let reads = (addresses.is_grammar text items).0 e in
      record {
        is_trimmed = addresses.is_trimmed text items reads;
        no_zero = addresses.no_control text items 0 reads (omega arith) c.no_zero;
        no_lf = addresses.no_control text items 10 reads (omega arith) c.no_lf;
        no_cr = addresses.no_control text items 13 reads (omega arith) c.no_cr;
      }

  date_clean : (text : List ℕ) (found : Option SentDate) → sent_date text ≡ found → IsClean text → IsClean (value_text (as_date text found))
  date_clean text None e c = c
  date_clean text (Some d) e c =
      let value = stand text d e in
      record { is_trimmed = value.is_trimmed; no_zero = value.no_zero; no_lf = value.no_lf; no_cr = value.no_cr }

  spaced_clean : (text : List ℕ) (found : List (List ℕ)) → ids_reading text ≡ Some found → IsClean text → IsClean (spaced found)
  spaced_clean text found e c =
      let reads = (ids.is_grammar text found).0 e in
      record {
        is_trimmed = ids.is_trimmed text found reads;
        no_zero = ids.no_control text found 0 reads (omega arith) c.no_zero;
        no_lf = ids.no_control text found 10 reads (omega arith) c.no_lf;
        no_cr = ids.no_control text found 13 reads (omega arith) c.no_cr;
      }

  one_clean : (text : List ℕ) (found : Option (List (List ℕ))) → ids_reading text ≡ found → IsClean text → IsClean (value_text (as_one text found))
  one_clean text None e c = c
  one_clean text (Some []) e c = c
  one_clean text (Some (id ∷ [])) e c = spaced_clean text (id ∷ []) e c
  one_clean text (Some (id ∷ other ∷ more)) e c = c

  ids_clean : (text : List ℕ) (found : Option (List (List ℕ))) → ids_reading text ≡ found → IsClean text → IsClean (value_text (as_ids text found))
  ids_clean text None e c = c
  ids_clean text (Some found) e c = spaced_clean text found e c

  kind_clean : (kind : FieldKind) (text : List ℕ) → IsClean text → IsClean (value_text (or_text text (typed kind text)))
  kind_clean Unstructured text c = c
  kind_clean AddressList text c = addresses_clean text (reading text) refl c
  kind_clean DateTime text c = date_clean text (sent_date text) refl c
  kind_clean OneId text c = one_clean text (ids_reading text) refl c
  kind_clean IdList text c = ids_clean text (ids_reading text) refl c

  good_value : (name text : List ℕ) → IsGood name text → IsGood name (value_text (value_of name text))
  good_value name text g =
      let c = kind_clean (kind_of name) text (record { is_trimmed = g.is_trimmed; no_zero = g.no_zero; no_lf = g.no_lf; no_cr = g.no_cr }) in
      record {
        some = g.some;
        names = g.names;
        no_dashes = g.no_dashes;
        is_trimmed = c.is_trimmed;
        no_zero = c.no_zero;
        no_lf = c.no_lf;
        no_cr = c.no_cr;
      }

-- What the print of a header needs of the texts of values.
pub record ValueLaws : Type 0 where
  pub again : (name text : List ℕ) → value_of name (value_text (value_of name text)) ≡ value_of name text
  pub good : (name text : List ℕ) → IsGood name text → IsGood name (value_text (value_of name text))

pub value_laws : AddressLaws → IdLaws → DatesAgain → DatesStand → ValueLaws
value_laws addresses ids dates stand = record {
  again = λ name text. kind_again addresses ids dates stand (kind_of name) text;
  good = good_value addresses ids dates stand;
}
