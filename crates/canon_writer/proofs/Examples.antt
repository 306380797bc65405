-- Worked examples of the print.
use Rattle.std.proofs.Common.{◌≡◌, [], ◌∷◌, refl}
use Rattle.std.specs.Prelude.{codes}
use Rattle.mime_tree.specs.declared.trees.Encoding.TheVariants.{Plain, Base64}
use Rattle.mime_tree.specs.Trees.Tree.{node}
use Rattle.mime_tree.specs.Trees.Content.{leaf, multi, nested}
use Rattle.mime_tree.specs.Trees.Trees.{none, more}
use Rattle.base64.specs.Rfc4648.{encode_symbols}
use Rattle.transfer_codec.specs.Base64.{letters}
use Rattle.transfer_codec.specs.Layout.{printed64}
use Rattle.mime_reader.specs.ContentTypes.{parameters_behind}
use Rattle.mime_reader.specs.Kinds.{boundary_of, type_of}
use Rattle.mime_reader.specs.Wrapping.{text_field}
use Rattle.canon_writer.specs.Printing.{print}

-- A multipart of an empty part and a message within a part, which has a base64 leaf.
a_multipart : print (node (text_field (codes "Content-Type") (codes "multipart/mixed; boundary=x") ∷ [])
    (multi (more (node [] (leaf Plain [])) (more (node [] (nested (node (text_field (codes "A") (codes "b c") ∷ []) (leaf Base64 (codes "f"))))) none))))
    ≡ codes "Content-Type: multipart/mixed; boundary=x\r\n\r\n--x\r\n\r\n\r\n--x\r\n\r\nA: b c\r\n\r\nZg==\r\n\r\n--x--\r\n"
unfolding boundary_of type_of parameters_behind printed64 encode_symbols letters
a_multipart = refl
