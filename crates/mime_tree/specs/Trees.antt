-- Messages as trees.
use Rattle.std.specs.Prelude.{ℕ, List}
use Rattle.mime_tree.specs.declared.values.Field.{Field}
use Rattle.mime_tree.specs.declared.trees.Encoding.{Encoding}

mutual
  -- A message or a part: its header fields and its body.
  pub data Tree : Type 0 where
    node : List Field → Content → Tree

  -- A body: bytes with the encoding that they stand in, the parts of a multipart, or a message within.
  pub data Content : Type 0 where
    leaf : Encoding → List ℕ → Content
    multi : Trees → Content
    nested : Tree → Content

  -- Parts in their order.
  pub data Trees : Type 0 where
    none : Trees
    more : Tree → Trees → Trees
