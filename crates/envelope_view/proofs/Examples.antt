-- Worked examples of envelopes, structures and sections.
use Rattle.std.proofs.Common.{◌≡◌, List, [], ◌∷◌, Some, None, true, false, pos, refl}
use Rattle.std.specs.Fmt.{digits}
use Rattle.std.specs.Prelude.{codes}
use Rattle.mime_tree.specs.declared.values.Field.{Field}
use Rattle.mime_tree.specs.declared.values.Item.TheVariants.{Address, Group, GroupEnd}
use Rattle.mime_tree.specs.declared.values.Value.TheVariants.{Addresses, Date, Ids}
use Rattle.mime_tree.specs.declared.trees.Encoding.TheVariants.{Plain, Base64}
use Rattle.mime_tree.specs.Trees.{Tree}
use Rattle.mime_tree.specs.Trees.Tree.{node}
use Rattle.mime_tree.specs.Trees.Content.{leaf, multi, nested}
use Rattle.mime_tree.specs.Trees.Trees.{none, more}
use Rattle.base64.specs.Rfc4648.{encode_symbols}
use Rattle.transfer_codec.specs.Base64.{letters}
use Rattle.transfer_codec.specs.Layout.{printed64}
use Rattle.mime_reader.specs.ContentTypes.{parameters_behind}
use Rattle.mime_reader.specs.Kinds.{boundary_of, type_of as type_of_fields}
use Rattle.mime_reader.specs.Wrapping.{text_field}
use Rattle.imap_grammar.specs.declared.items.SectionPart.TheVariants as part
use Rattle.imap_writer.specs.Texts.{text_of}
use Rattle.envelope_view.specs.Envelope.{field_text, items_in, items_text, origin_values, destination_values, envelope}
use Rattle.envelope_view.specs.Lines.{line_count}
use Rattle.envelope_view.specs.Structure.{capitals, parameters_text, type_of, leaf_types, encoding_text, body_fields, text_lines, disposition_text, place_fields, single_extension, multipart_extension, leaf_structure, multipart_end, nested_head, structure}
use Rattle.envelope_view.specs.Sections.{section_of}

-- Groups

a_group : items_text (Group (codes "Team")
    ∷ Address [] (codes "a") (codes "x.org")
    ∷ Address (codes "B, C") (codes "b") (codes "x.org")
    ∷ GroupEnd
    ∷ [])
    ≡ codes "((NIL NIL \"Team\" NIL)(NIL NIL \"a\" \"x.org\")(\"B, C\" NIL \"b\" \"x.org\")(NIL NIL NIL NIL))"
unfolding items_text text_of
a_group = refl

nobody : items_text (Group (codes "undisclosed-recipients") ∷ GroupEnd ∷ []) ≡ codes "((NIL NIL \"undisclosed-recipients\" NIL)(NIL NIL NIL NIL))"
unfolding items_text text_of
nobody = refl

-- A usual mail

abbrev jane : Field
jane = record { name = codes "From"; value = Addresses (Address (codes "Doe, Jane") (codes "jane") (codes "example.org") ∷ []) }

abbrev alice : Field
alice = record { name = codes "To"; value = Addresses (Address (codes "Alice") (codes "alice") (codes "example.com") ∷ []) }

abbrev mail_fields : List Field
mail_fields =
    jane
    ∷ alice
    ∷ text_field (codes "Subject") (codes "=?utf-8?Q?Gr=C3=BC=C3=9Fe?=")
    ∷ record { name = codes "Date"; value = Date (record { text = codes "Tue, 01 Jul 2003 10:52:37 +0200"; seconds = pos 1057049557; day = pos 12234 }) }
    ∷ record { name = codes "Message-ID"; value = Ids (codes "<m1@example.org>" ∷ []) }
    ∷ text_field (codes "MIME-Version") (codes "1.0")
    ∷ text_field (codes "Content-Type") (codes "multipart/mixed; boundary=\"b1\"")
    ∷ []

the_envelope : envelope mail_fields
    ≡ codes "(\"Tue, 01 Jul 2003 10:52:37 +0200\" \"=?utf-8?Q?Gr=C3=BC=C3=9Fe?=\" ((\"Doe, Jane\" NIL \"jane\" \"example.org\")) ((\"Doe, Jane\" NIL \"jane\" \"example.org\")) ((\"Doe, Jane\" NIL \"jane\" \"example.org\")) ((\"Alice\" NIL \"alice\" \"example.com\")) NIL NIL NIL \"<m1@example.org>\")"
unfolding envelope origin_values destination_values field_text items_in items_text text_of
the_envelope = refl

-- A Sender that isn't read falls back to the authors; a second one isn't looked at, nor is a Cc that isn't read.
fallen_back : envelope (text_field (codes "SENDER") (codes "what?")
    ∷ record { name = codes "Sender"; value = Addresses (Address [] (codes "a") (codes "x") ∷ []) }
    ∷ text_field (codes "Cc") (codes "what?")
    ∷ record { name = codes "reply-to"; value = Addresses (Address [] (codes "b") (codes "y") ∷ []) }
    ∷ record { name = codes "From"; value = Addresses (Address [] (codes "c\"") (codes "z") ∷ []) }
    ∷ [])
    ≡ codes "(NIL NIL ((NIL NIL \"c\\\"\" \"z\")) ((NIL NIL \"c\\\"\" \"z\")) ((NIL NIL \"b\" \"y\")) NIL NIL NIL NIL NIL)"
unfolding envelope origin_values destination_values field_text items_in items_text text_of
fallen_back = refl

abbrev text_part : Tree
text_part =
    node (text_field (codes "Content-Type") (codes "text/plain; charset=utf-8; format=flowed")
    ∷ text_field (codes "Content-Transfer-Encoding") (codes "quoted-printable")
    ∷ [])
    (leaf Plain (codes "Gr=C3=BC=C3=9Fe"))

abbrev picture : Tree
picture =
    node (text_field (codes "Content-Type") (codes "image/png; name=\"p.png\"")
    ∷ text_field (codes "Content-Transfer-Encoding") (codes "base64")
    ∷ text_field (codes "Content-Disposition") (codes "attachment; filename=\"p.png\"")
    ∷ [])
    (leaf Base64 (137 ∷ 80 ∷ 78 ∷ 71 ∷ 13 ∷ 10 ∷ 26 ∷ 10 ∷ []))

abbrev mail : Tree
mail = node mail_fields (multi (more text_part (more picture none)))

the_structure : structure true false mail
    ≡ codes "((\"TEXT\" \"PLAIN\" (\"CHARSET\" \"utf-8\" \"FORMAT\" \"flowed\") NIL NIL \"QUOTED-PRINTABLE\" 15 1 NIL NIL NIL NIL)(\"IMAGE\" \"PNG\" (\"NAME\" \"p.png\") NIL NIL \"BASE64\" 14 NIL (\"ATTACHMENT\" (\"FILENAME\" \"p.png\")) NIL NIL) \"MIXED\" (\"BOUNDARY\" \"b1\") NIL NIL NIL)"
unfolding capitals parameters_text type_of leaf_types encoding_text body_fields text_lines disposition_text place_fields single_extension multipart_extension leaf_structure multipart_end field_text line_count text_of digits parameters_behind printed64 encode_symbols letters
the_structure = refl

the_picture : section_of (record { path = 2 ∷ []; part = part.Whole }) mail ≡ Some (codes "iVBORw0KGgo=\r\n")
unfolding section_of boundary_of type_of_fields parameters_behind printed64 encode_symbols letters
the_picture = refl

-- Messages within

abbrev small : Tree
small = node (text_field (codes "Subject") (codes "a") ∷ text_field (codes "X") (codes "b") ∷ []) (leaf Plain (codes "c\r\nd"))

abbrev forwarded : Tree
forwarded = node (text_field (codes "Content-Type") (codes "message/rfc822") ∷ []) (nested small)

a_message_within : structure false false forwarded
    ≡ codes "(\"MESSAGE\" \"RFC822\" NIL NIL NIL \"7BIT\" 24 (NIL \"a\" NIL NIL NIL NIL NIL NIL NIL NIL) (\"TEXT\" \"PLAIN\" (\"CHARSET\" \"US-ASCII\") NIL NIL \"7BIT\" 4 2) 5)"
unfolding capitals parameters_text type_of leaf_types encoding_text body_fields text_lines single_extension leaf_structure nested_head envelope origin_values destination_values field_text items_in items_text line_count text_of digits parameters_behind
a_message_within = refl

-- Bytes of the type of messages, in a digest that names no type.
no_message : structure false true (node (text_field (codes "Content-Transfer-Encoding") (codes "base64") ∷ []) (leaf Base64 (codes "f")))
    ≡ codes "(\"APPLICATION\" \"OCTET-STREAM\" NIL NIL NIL \"BASE64\" 6)"
unfolding capitals parameters_text type_of leaf_types encoding_text body_fields text_lines single_extension leaf_structure field_text text_of digits printed64 encode_symbols letters
no_message = refl

the_body : section_of (record { path = 1 ∷ 1 ∷ []; part = part.Whole }) forwarded ≡ Some (codes "c\r\nd")
unfolding section_of boundary_of type_of_fields parameters_behind
the_body = refl

some_fields_of_it : section_of (record { path = 1 ∷ []; part = part.Fields (codes "subject" ∷ codes "x y" ∷ []) false }) forwarded ≡ Some (codes "Subject: a\r\n\r\n")
unfolding section_of
some_fields_of_it = refl

all_others : section_of (record { path = 1 ∷ []; part = part.Fields (codes "subject" ∷ []) true }) forwarded ≡ Some (codes "X: b\r\n\r\n")
unfolding section_of
all_others = refl

-- The header of the part that the body of a message is.
its_own_header : section_of (record { path = 1 ∷ []; part = part.Mime }) small ≡ Some (codes "Subject: a\r\nX: b\r\n\r\n")
unfolding section_of
its_own_header = refl

-- Nothing is within a leaf, and no part but 1 is in a message that is no multipart.
none_within : section_of (record { path = 1 ∷ 1 ∷ []; part = part.Whole }) small ≡ None
unfolding section_of
none_within = refl

no_second : section_of (record { path = 2 ∷ []; part = part.Whole }) small ≡ None
unfolding section_of
no_second = refl

no_message_there : section_of (record { path = 1 ∷ []; part = part.Header }) small ≡ None
unfolding section_of
no_message_there = refl

no_number : section_of (record { path = []; part = part.Mime }) small ≡ None
unfolding section_of
no_number = refl
