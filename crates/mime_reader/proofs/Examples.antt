-- Worked examples of the definitions.
use Rattle.std.proofs.Common.{◌≡◌, true, false, [], ◌∷◌, ◌++◌, Some, None, Ok, Err, refl}
use Rattle.std.specs.Prelude.{codes}
use Rattle.mime_tree.specs.declared.trees.Encoding.TheVariants.{Plain, Base64}
use Rattle.mime_tree.specs.declared.reasons.Reason.TheVariants.{ZeroByte, NoBoundary, NoDelimiter}
use Rattle.mime_tree.specs.Trees.Tree.{node}
use Rattle.mime_tree.specs.Trees.Content.{leaf, multi, nested}
use Rattle.mime_tree.specs.Trees.Trees.{none, more}
use Rattle.mime_reader.specs.declared.kinds.BodyKind.TheVariants.{Multipart, Embedded, Single}
use Rattle.mime_reader.specs.ContentTypes.{content_type_of, parameters_behind}
use Rattle.mime_reader.specs.Bodies.{parts, is_usable}
use Rattle.mime_reader.specs.Kinds.{body_kind, type_of, has_encoding}
use Rattle.mime_reader.specs.Wrapping.{text_field}
use Rattle.mime_reader.specs.Arrival.{day_at, day_in_years, date_at}
use Rattle.mime_reader.specs.Reading.{read, outcome}
use Rattle.transfer_codec.specs.Base64.{decoded, bits, letters}
use Rattle.jiff_core.specs.Calendar.{weekday_number, days_from_civil, day_count, days_of_years, days_of_months}
use Rattle.date_grammar.specs.Printing.{printed}
use Rattle.header_reader.specs.Kinds.{kind_of}

a_type : content_type_of (codes "multipart/Mixed ; a=\"b\\\"; c\" ;BOUNDARY = x y; d=e") ≡ Some (record {
  top_level = codes "multipart";
  subtype = codes "Mixed";
  parameters = record { name = codes "a"; value = codes "b\"; c" } ∷ record { name = codes "BOUNDARY"; value = codes "x" } ∷ [];
})
unfolding parameters_behind
a_type = refl

no_type : content_type_of (codes "text / plain") ≡ None
no_type = refl

no_parameter : content_type_of (codes "text/plain charset=x; boundary=y") ≡ Some (record { top_level = codes "text"; subtype = codes "plain"; parameters = [] })
unfolding parameters_behind
no_parameter = refl

an_open_quote : content_type_of (codes "text/plain; a=\"b") ≡ Some (record { top_level = codes "text"; subtype = codes "plain"; parameters = [] })
unfolding parameters_behind
an_open_quote = refl

a_digest : body_kind false (text_field (codes "content-type") (codes "Multipart/DIGEST; boundary=\"a b\"") ∷ text_field (codes "Content-Type") (codes "text/plain") ∷ []) ≡ Multipart (Some (codes "a b")) true
unfolding body_kind type_of has_encoding parameters_behind
a_digest = refl

a_message : body_kind true [] ≡ Embedded
unfolding body_kind type_of has_encoding
a_message = refl

an_encoded_message : body_kind true (text_field (codes "Content-Transfer-Encoding") (codes "BASE64") ∷ []) ≡ Single true
unfolding body_kind type_of has_encoding
an_encoded_message = refl

some_parts : parts (codes "a") (codes "x\r\n--a \r\ny\r\n\r\n--ab\n--a\r\n--a--\t\r\nz") ≡ codes "y\r\n\r\n--ab" ∷ codes "" ∷ []
some_parts = refl

closed_before : parts (codes "a") (codes "--a--\r\n--a\r\ny") ≡ []
closed_before = refl

the_last_is_open : parts (codes "a") (codes "--a\r\ny\r\n") ≡ codes "y\r\n" ∷ []
the_last_is_open = refl

usable : is_usable (codes "a" ∷ codes "b" ∷ []) (codes "a--") ≡ true
usable = refl

not_usable : is_usable (codes "b" ∷ codes "a--" ∷ []) (codes "a") ≡ false
not_usable = refl

the_first_second : printed (date_at 0) ≡ codes "Thu, 01 Jan 1970 00:00:00 +0000"
unfolding day_at day_in_years weekday_number days_from_civil day_count days_of_years days_of_months
the_first_second = refl

a_leap_day : day_at 11016 ≡ record { year = 2000; month = 2; day = 29 }
unfolding day_at day_in_years
a_leap_day = refl

-- A multipart with bare line ends, whose first part is a digest of one message and whose last part isn't closed.
a_message_read : outcome (codes "Content-Type: multipart/mixed; boundary=a\n\npreamble\n--a\nContent-Type: multipart/digest; boundary=b\n\n--b\n\nX: y\n\nz\n--b--\nw\n--a \nContent-Transfer-Encoding: base64\n\nZg==\n") ≡ Ok
    (node (text_field (codes "Content-Type") (codes "multipart/mixed; boundary=a") ∷ []) (multi
    (more (node (text_field (codes "Content-Type") (codes "multipart/digest; boundary=b") ∷ []) (multi
    (more (node [] (nested (node (text_field (codes "X") (codes "y") ∷ []) (leaf Plain (codes "z"))))) none)))
    (more (node (text_field (codes "Content-Transfer-Encoding") (codes "base64") ∷ []) (leaf Base64 (codes "f"))) none))))
unfolding outcome read body_kind type_of has_encoding parameters_behind kind_of decoded bits letters
a_message_read = refl

closed_first : outcome (codes "Content-Type: multipart/mixed; boundary=a\n\n--a--\n--a\n") ≡ Err NoDelimiter
unfolding outcome read body_kind type_of has_encoding parameters_behind kind_of
closed_first = refl

no_boundary : outcome (codes "Content-Type: multipart/mixed\n\n--a\n") ≡ Err NoBoundary
unfolding outcome read body_kind type_of has_encoding parameters_behind kind_of
no_boundary = refl

a_zero_byte : outcome (codes "Content-Type: multipart/mixed\n\n--a\n" ++ 0 ∷ []) ≡ Err ZeroByte
unfolding outcome
a_zero_byte = refl
