-- The fields of wrappers.
use Rattle.std.proofs.Common.{◌≡◌, ℕ, List, Some, refl, sym, ◌∙◌, ap}
use Rattle.std.specs.Prelude.{codes}
use Rattle.std.specs.Option.{option_map}
use Rattle.mime_tree.specs.declared.reasons.Reason.{Reason}
use Rattle.mime_tree.specs.declared.values.SentDate.{SentDate}
use Rattle.mime_tree.specs.declared.values.Value.TheVariants.{Date}
use Rattle.date_grammar.specs.Dates.{IsFieldValue, sent_date}
use Rattle.header_reader.specs.Good.{IsGood}
use Rattle.header_reader.specs.Kinds.{kind_of}
use Rattle.header_reader.specs.Values.{or_text, typed}
use Rattle.header_reader.specs.declared.kinds.FieldKind.TheVariants.{Unstructured, DateTime}
use Rattle.mime_reader.specs.Arrival.{arrival}
use Rattle.mime_reader.specs.Reading.{IsGoodField, HasGoodFields}
use Rattle.mime_reader.specs.Wrapping.{text_field, wrapper}

text_good : (name text : List ℕ) → kind_of name ≡ Unstructured → IsGood name text → IsGoodField (text_field name text)
text_good name text kind good = record {
  raw = record { name = name; value = text };
  is_good = good;
  read = ap (λ k. record { name = name; value = or_text text (typed k text) }) (sym kind);
}

date_kind : kind_of (codes "Date") ≡ DateTime
unfolding kind_of
date_kind = refl

date_good : (date : SentDate) → sent_date date.text ≡ Some date → IsFieldValue date.text → IsGoodField (record { name = codes "Date"; value = Date date })
date_good date again good = record {
  raw = record { name = codes "Date"; value = date.text };
  is_good = record { some = refl; names = refl; no_dashes = refl; is_trimmed = good.is_trimmed; no_zero = good.no_zero; no_lf = good.no_lf; no_cr = good.no_cr };
  read = sym (ap (λ k. record { name = codes "Date"; value = or_text date.text (typed k date.text) }) date_kind
      ∙ ap (λ found. record { name = codes "Date"; value = or_text date.text (option_map Date found) }) again);
}

is_plain : (kind_of (codes "Subject") ≡ Unstructured) × (kind_of (codes "MIME-Version") ≡ Unstructured) × (kind_of (codes "Content-Type") ≡ Unstructured)
    × (kind_of (codes "Content-Transfer-Encoding") ≡ Unstructured) × (kind_of (codes "Content-Disposition") ≡ Unstructured)
unfolding kind_of
is_plain = (refl, refl, refl, refl, refl)

subject_good : IsGoodField (text_field (codes "Subject") (codes "Unreadable message"))
subject_good =
    text_good (codes "Subject") (codes "Unreadable message") is_plain.0
    (record { some = refl; names = refl; no_dashes = refl; is_trimmed = refl; no_zero = refl; no_lf = refl; no_cr = refl })

version_good : IsGoodField (text_field (codes "MIME-Version") (codes "1.0"))
version_good =
    text_good (codes "MIME-Version") (codes "1.0") is_plain.1
    (record { some = refl; names = refl; no_dashes = refl; is_trimmed = refl; no_zero = refl; no_lf = refl; no_cr = refl })

mixed_good : IsGoodField (text_field (codes "Content-Type") (codes "multipart/mixed; boundary=\"wrapped\""))
mixed_good =
    text_good (codes "Content-Type") (codes "multipart/mixed; boundary=\"wrapped\"") is_plain.2
    (record { some = refl; names = refl; no_dashes = refl; is_trimmed = refl; no_zero = refl; no_lf = refl; no_cr = refl })

plain_good : IsGoodField (text_field (codes "Content-Type") (codes "text/plain; charset=us-ascii"))
plain_good =
    text_good (codes "Content-Type") (codes "text/plain; charset=us-ascii") is_plain.2
    (record { some = refl; names = refl; no_dashes = refl; is_trimmed = refl; no_zero = refl; no_lf = refl; no_cr = refl })

stream_good : IsGoodField (text_field (codes "Content-Type") (codes "application/octet-stream"))
stream_good =
    text_good (codes "Content-Type") (codes "application/octet-stream") is_plain.2
    (record { some = refl; names = refl; no_dashes = refl; is_trimmed = refl; no_zero = refl; no_lf = refl; no_cr = refl })

encoding_good : IsGoodField (text_field (codes "Content-Transfer-Encoding") (codes "base64"))
encoding_good =
    text_good (codes "Content-Transfer-Encoding") (codes "base64") is_plain.3
    (record { some = refl; names = refl; no_dashes = refl; is_trimmed = refl; no_zero = refl; no_lf = refl; no_cr = refl })

disposition_good : IsGoodField (text_field (codes "Content-Disposition") (codes "attachment; filename=original"))
disposition_good =
    text_good (codes "Content-Disposition") (codes "attachment; filename=original") is_plain.4
    (record { some = refl; names = refl; no_dashes = refl; is_trimmed = refl; no_zero = refl; no_lf = refl; no_cr = refl })

pub wrapper_good : (bytes : List ℕ) (reason : Reason) (now : ℕ) → sent_date (arrival now).text ≡ Some (arrival now) → IsFieldValue (arrival now).text → HasGoodFields (wrapper bytes reason now)
unfolding wrapper
wrapper_good bytes reason now again good = (
  (date_good (arrival now) again good, (subject_good, (version_good, (mixed_good, tt)))),
  (((plain_good, tt), tt), (((stream_good, (encoding_good, (disposition_good, tt))), tt), tt)),
)
