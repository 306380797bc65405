-- Rows that stay the rows of what they were.
use Rattle.std.proofs.Common.{◌≢◌, ℕ, ◌+◌, ◌≤◌, List, [], ◌∷◌, length, Option, Some, None, sym, ◌∙◌, subst, arith}
use Rattle.mime_tree.specs.declared.reasons.Mail.{Mail}
use Rattle.mime_tree.specs.declared.values.Field.{Field}
use Rattle.mime_tree.specs.declared.values.Item.{Item}
use Rattle.mime_tree.specs.declared.trees.Encoding.TheVariants.{Plain, Base64}
use Rattle.mime_tree.specs.Trees.{Tree, Content, Trees}
use Rattle.mime_tree.specs.Trees.Tree.{node}
use Rattle.mime_tree.specs.Trees.Content.{leaf, multi, nested}
use Rattle.mime_tree.specs.Trees.Trees.{none, more}
use Rattle.row_tables.specs.TableRows.{TableRows}
use Rattle.row_tables.specs.declared.mails.HeaderField.{HeaderField}
use Rattle.row_tables.specs.declared.values.AddressField.{AddressField}
use Rattle.row_tables.specs.declared.contents.BodyPart.{BodyPart}
use Rattle.row_tables.specs.declared.change.RowChange.{RowChange}
use Rattle.row_store.specs.Holding.{Stored, stored_by}
use Rattle.shredder.specs.Paths.{child_path}
use Rattle.shredder.specs.MessageRows.{AddressTexts, IsAddressId, AreItemRows, IsFieldRow, AreFieldRows, HasNoValue, HasFields, HasLeaf, HasNode, HasBody, HasChildren, HasNothing, HasRows, items_of, texts_of}
use Rattle.shredder.specs.Distinct.{Keeps}
use Rattle.shredder.specs.Shredding.{SameAt, SameMessage, Shreds}
use Rattle.shredder.specs.Making.{SameValues, IsUnder}
use Rattle.shredder.proofs.PathLemmas.{under_self, under_child}

module _ (s after : Stored) (keeps : Keeps s after) where
  id_stays : (texts : Option AddressTexts) (id : ℕ) → IsAddressId s.tables.shared.addresses texts id → IsAddressId after.tables.shared.addresses texts id
  id_stays None id h = h
  id_stays (Some texts) id h = keeps.addresses id texts h

  pub items_stay : (place : ℕ) (items : List Item) (rows : List AddressField) → AreItemRows s.tables.shared.addresses place items rows → AreItemRows after.tables.shared.addresses place items rows
  items_stay place [] [] h = tt
  items_stay place [] (r ∷ rows) h = h
  items_stay place (i ∷ items) [] h = h
  items_stay place (i ∷ items) (r ∷ rows) h = (record { at = h.0.at; kind = h.0.kind; address = id_stays (texts_of i) r.address h.0.address }, items_stay (place + 1) items rows h.1)

  module _ (message : ℕ) where
    pub values_at : (path : List ℕ) → SameAt message path s.tables after.tables → (place : ℕ) → SameValues message path place s.tables after.tables
    values_at path same place = record { addresses = same.addresses place; date = same.dates place; ids = same.ids place }

    pub field_stays : (path : List ℕ) (place : ℕ) (f : Field) (r : HeaderField) → SameValues message path place s.tables after.tables → IsFieldRow s.tables message path place f r → IsFieldRow after.tables message path place f r
    field_stays path place f r same h = record {
      at = h.at;
      name = keeps.names r.name f.name h.name;
      form = h.form;
      text = h.text;
      addresses = subst (AreItemRows after.tables.shared.addresses 0 (items_of f.value)) (sym same.addresses) (items_stay 0 (items_of f.value) _ h.addresses);
      date = same.date ∙ h.date;
      printed = h.printed;
      ids = same.ids ∙ h.ids;
    }

    pub rows_stay : (path : List ℕ) (place : ℕ) (fields : List Field) (rows : List HeaderField) → ((other : ℕ) → other + 1 ≤ place + length fields → SameValues message path other s.tables after.tables) → AreFieldRows s.tables message path place fields rows → AreFieldRows after.tables message path place fields rows
    rows_stay path place [] [] same h = tt
    rows_stay path place [] (r ∷ rows) same h = h
    rows_stay path place (f ∷ fields) [] same h = h
    rows_stay path place (f ∷ fields) (r ∷ rows) same h =
        (field_stays path place f r (same place (omega arith)) h.0, rows_stay path (place + 1) fields rows (λ other le. same other (omega (arith, le))) h.1)

    pub none_stays : (path : List ℕ) (place : ℕ) → SameValues message path place s.tables after.tables → HasNoValue s.tables message path place → HasNoValue after.tables message path place
    none_stays path place same h = record { addresses = same.addresses ∙ h.addresses; date = same.date ∙ h.date; ids = same.ids ∙ h.ids }

    pub fields_stay : (path : List ℕ) (fields : List Field) → SameAt message path s.tables after.tables → HasFields s.tables message path fields → HasFields after.tables message path fields
    fields_stay path fields same h = record {
      rows = subst (AreFieldRows after.tables message path 0 fields) (sym same.fields) (rows_stay path 0 fields _ (λ other le. values_at path same other) h.rows);
      others = λ place le. none_stays path place (values_at path same place) (h.others place le);
    }

    pub nothing_stays : (path : List ℕ) → SameAt message path s.tables after.tables → HasNothing s.tables message path → HasNothing after.tables message path
    nothing_stays path same h = record { part = same.part ∙ h.part; fields = same.fields ∙ h.fields; values = λ place. none_stays path place (values_at path same place) (h.values place) }

    pub leaf_stays : (path : List ℕ) (kind : ℕ) (bytes : List ℕ) → SameAt message path s.tables after.tables → HasLeaf s message path kind bytes → HasLeaf after message path kind bytes
    leaf_stays path kind bytes same h = record { body = h.body; part = same.part ∙ h.part; bytes_are = keeps.bodies h.body bytes h.bytes_are }

    mutual
      pub node_stays : (path : List ℕ) (tree : Tree) → ((other : List ℕ) → IsUnder path other → SameAt message other s.tables after.tables) → HasNode s message path tree → HasNode after message path tree
      node_stays path (node fields content) same h = (fields_stay path fields (same path (under_self path)) h.0, body_stays path content same h.1)

      pub body_stays : (path : List ℕ) (content : Content) → ((other : List ℕ) → IsUnder path other → SameAt message other s.tables after.tables) → HasBody s message path content → HasBody after message path content
      body_stays path (leaf Plain bytes) same h = leaf_stays path 0 bytes (same path (under_self path)) h
      body_stays path (leaf Base64 bytes) same h = leaf_stays path 1 bytes (same path (under_self path)) h
      body_stays path (multi trees) same h = ((same path (under_self path)).part ∙ h.0, children_stay path 1 trees same h.1)
      body_stays path (nested tree) same h = ((same path (under_self path)).part ∙ h.0, node_stays (child_path path 0) tree (λ other u. same other (under_child path 0 other u)) h.1)

      pub children_stay : (path : List ℕ) (n : ℕ) (trees : Trees) → ((other : List ℕ) → IsUnder path other → SameAt message other s.tables after.tables) → HasChildren s message path n trees → HasChildren after message path n trees
      children_stay path n none same h = (same (child_path path n) (under_child path n (child_path path n) (under_self (child_path path n)))).part ∙ h
      children_stay path n (more tree trees) same h = (node_stays (child_path path n) tree (λ other u. same other (under_child path n other u)) h.0, children_stay path (n + 1) trees same h.1)

    pub message_stays : (mail : Mail) → SameMessage message s.tables after.tables → HasRows s message mail → HasRows after message mail
    message_stays mail same h = record {
      size = same.size ∙ h.size;
      reason = same.reason ∙ h.reason;
      tree_rows = node_stays [] mail.message (λ other u. same.rows other) h.tree_rows;
      others = λ path e. nothing_stays path (same.rows path) (h.others path e);
    }

pub others_stay : (content : BodyPart → List ℕ) (t : TableRows) (message : ℕ) (mail : Mail) (changes : List RowChange) (shreds : Shreds content t message mail changes) (other : ℕ) (its : Mail) → other ≢ message → HasRows (stored_by content t) other its
    → HasRows (stored_by content shreds.after) other its
others_stay content t message mail changes shreds other its n h = message_stays (stored_by content t) (stored_by content shreds.after) shreds.shared other its (shreds.others other n) h
