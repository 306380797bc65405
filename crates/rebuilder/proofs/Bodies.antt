-- What the row of a part says of its body.
use Rattle.std.proofs.Common.{◌≡◌, ℕ, ◌<◌, List, sym, ap, ◌∙◌, arith}
use Rattle.mime_tree.specs.declared.trees.Encoding.TheVariants.{Plain, Base64}
use Rattle.mime_tree.specs.Trees.{Tree, Content, Trees}
use Rattle.mime_tree.specs.Trees.Content.{leaf, multi, nested}
use Rattle.row_tables.specs.TableRows.{TableRows}
use Rattle.row_tables.specs.declared.mails.PartNumber.{PartNumber}
use Rattle.row_store.specs.Holding.{stored_by, in_row}
use Rattle.shredder.specs.Paths.{child_path}
use Rattle.shredder.specs.MessageRows.{HasNode, HasBody, HasChildren}
use Rattle.rebuilder.specs.Parts.{IsPart}
use Rattle.rebuilder.proofs.OneValue.{some_same}
use Rattle.rebuilder.proofs.OneMail.{kind_in, stands}

module _ (t : TableRows) (part : PartNumber) (there : IsPart t part) where
  kind_is : (content : Content) → HasBody (stored_by in_row t) part.message part.path content → part.kind ≡ kind_in content
  kind_is content h =
      let at = stands (stored_by in_row t) part.message part.path content h in
      ap (λ (p : PartNumber). p.kind) (some_same (sym there ∙ at.part))

  -- what holds of every body of the part's kind holds of the part's body
  module _ (P : Content → Type 0) where
    pub plain : ((bytes : List ℕ) → HasBody (stored_by in_row t) part.message part.path (leaf Plain bytes) → P (leaf Plain bytes)) → part.kind ≡ 0 → (content : Content) → HasBody (stored_by in_row t) part.message part.path content → P content
    plain p e (leaf Plain bytes) h = p bytes h
    plain p e (leaf Base64 bytes) h = absurd (omega (arith, kind_is (leaf Base64 bytes) h))
    plain p e (multi trees) h = absurd (omega (arith, kind_is (multi trees) h))
    plain p e (nested tree) h = absurd (omega (arith, kind_is (nested tree) h))

    pub base64 : ((bytes : List ℕ) → HasBody (stored_by in_row t) part.message part.path (leaf Base64 bytes) → P (leaf Base64 bytes)) → part.kind ≡ 1 → (content : Content) → HasBody (stored_by in_row t) part.message part.path content → P content
    base64 p e (leaf Base64 bytes) h = p bytes h
    base64 p e (leaf Plain bytes) h = absurd (omega (arith, kind_is (leaf Plain bytes) h))
    base64 p e (multi trees) h = absurd (omega (arith, kind_is (multi trees) h))
    base64 p e (nested tree) h = absurd (omega (arith, kind_is (nested tree) h))

    pub multipart : ((trees : Trees) → HasChildren (stored_by in_row t) part.message part.path 1 trees → P (multi trees)) → part.kind ≡ 2 → (content : Content) → HasBody (stored_by in_row t) part.message part.path content → P content
    multipart p e (multi trees) h = p trees h.1
    multipart p e (leaf Plain bytes) h = absurd (omega (arith, kind_is (leaf Plain bytes) h))
    multipart p e (leaf Base64 bytes) h = absurd (omega (arith, kind_is (leaf Base64 bytes) h))
    multipart p e (nested tree) h = absurd (omega (arith, kind_is (nested tree) h))

    pub within : ((tree : Tree) → HasNode (stored_by in_row t) part.message (child_path part.path 0) tree → P (nested tree)) → 2 < part.kind → (content : Content) → HasBody (stored_by in_row t) part.message part.path content → P content
    within p e (nested tree) h = p tree h.1
    within p e (leaf Plain bytes) h = absurd (omega (arith, kind_is (leaf Plain bytes) h))
    within p e (leaf Base64 bytes) h = absurd (omega (arith, kind_is (leaf Base64 bytes) h))
    within p e (multi trees) h = absurd (omega (arith, kind_is (multi trees) h))
