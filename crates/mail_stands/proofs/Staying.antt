-- Rows that stay the rows of what they were.
use Rattle.std.proofs.Common.{ℕ, ◌≡◌, ◌+◌, List, [], ◌∷◌, Option, Some, None, refl, sym, ◌∙◌, subst}
use Rattle.std.proofs.lemmas.Option.{none-some}
use Rattle.mime_tree.specs.declared.reasons.Mail.{Mail}
use Rattle.mime_tree.specs.declared.values.Field.{Field}
use Rattle.mime_tree.specs.declared.values.Item.{Item}
use Rattle.mime_tree.specs.declared.trees.Encoding.TheVariants.{Plain, Base64}
use Rattle.mime_tree.specs.Trees.{Tree, Content, Trees}
use Rattle.mime_tree.specs.Trees.Tree.{node}
use Rattle.mime_tree.specs.Trees.Content.{leaf, multi, nested}
use Rattle.mime_tree.specs.Trees.Trees.{none, more}
use Rattle.ordered_rows.specs.RowKey.{number_key}
use Rattle.ordered_rows.specs.Listed.{row_at}
use Rattle.row_tables.specs.Keys.{message_key, uid_key, mailbox_message_key}
use Rattle.row_tables.specs.TableRows.{TableRows}
use Rattle.row_tables.specs.declared.mails.HeaderField.{HeaderField}
use Rattle.row_tables.specs.declared.values.AddressField.{AddressField}
use Rattle.row_tables.specs.declared.contents.BodyPart.{BodyPart}
use Rattle.row_tables.specs.declared.marks.MailboxMessage.{MailboxMessage}
use Rattle.row_tables.specs.declared.change.RowChange.{RowChange}
use Rattle.row_store.specs.Holding.{Stored, stored_by}
use Rattle.shredder.specs.Paths.{child_path}
use Rattle.shredder.specs.MessageRows.{AddressTexts, IsAddressId, AreItemRows, IsFieldRow, AreFieldRows, HasNoValue, HasFields, HasLeaf, HasNode, HasBody, HasChildren, HasNothing, HasRows, items_of, texts_of}
use Rattle.shredder.specs.Distinct.{AreDistinct, Keeps}
use Rattle.shredder.specs.Shredding.{SameAt, SameMessage, Shreds}
use Rattle.mail_world.specs.Worlds.{World, Entry}
use Rattle.mail_stands.specs.Facts.{Tied, IsEntryRow, entry_in, mails_in}
use Rattle.mail_stands.specs.Stands.{Stands}
use Rattle.mail_stands.proofs.Showing.{Shows}

-- ---- what a message has in two stores

module _ (s after : Stored) (keeps : Keeps s after) where
  id_stays : (texts : Option AddressTexts) (id : ℕ) → IsAddressId s.tables.shared.addresses texts id → IsAddressId after.tables.shared.addresses texts id
  id_stays None id h = h
  id_stays (Some texts) id h = keeps.addresses id texts h

  items_stay : (place : ℕ) (items : List Item) (rows : List AddressField) → AreItemRows s.tables.shared.addresses place items rows → AreItemRows after.tables.shared.addresses place items rows
  items_stay place [] [] h = tt
  items_stay place [] (r ∷ rows) h = h
  items_stay place (i ∷ items) [] h = h
  items_stay place (i ∷ items) (r ∷ rows) h = (record { at = h.0.at; kind = h.0.kind; address = id_stays (texts_of i) r.address h.0.address }, items_stay (place + 1) items rows h.1)

  module _ (message : ℕ) (same : (path : List ℕ) → SameAt message path s.tables after.tables) where
    field_stays : (path : List ℕ) (place : ℕ) (f : Field) (r : HeaderField) → IsFieldRow s.tables message path place f r → IsFieldRow after.tables message path place f r
    field_stays path place f r h = record {
      at = h.at;
      name = keeps.names r.name f.name h.name;
      form = h.form;
      text = h.text;
      addresses = subst (AreItemRows after.tables.shared.addresses 0 (items_of f.value)) (sym ((same path).addresses place)) (items_stay 0 (items_of f.value) _ h.addresses);
      date = (same path).dates place ∙ h.date;
      printed = h.printed;
      ids = (same path).ids place ∙ h.ids;
    }

    rows_stay : (path : List ℕ) (place : ℕ) (fields : List Field) (rows : List HeaderField) → AreFieldRows s.tables message path place fields rows → AreFieldRows after.tables message path place fields rows
    rows_stay path place [] [] h = tt
    rows_stay path place [] (r ∷ rows) h = h
    rows_stay path place (f ∷ fields) [] h = h
    rows_stay path place (f ∷ fields) (r ∷ rows) h = (field_stays path place f r h.0, rows_stay path (place + 1) fields rows h.1)

    none_stays : (path : List ℕ) (place : ℕ) → HasNoValue s.tables message path place → HasNoValue after.tables message path place
    none_stays path place h = record { addresses = (same path).addresses place ∙ h.addresses; date = (same path).dates place ∙ h.date; ids = (same path).ids place ∙ h.ids }

    fields_stay : (path : List ℕ) (fields : List Field) → HasFields s.tables message path fields → HasFields after.tables message path fields
    fields_stay path fields h = record {
      rows = subst (AreFieldRows after.tables message path 0 fields) (sym (same path).fields) (rows_stay path 0 fields _ h.rows);
      others = λ place le. none_stays path place (h.others place le);
    }

    nothing_stays : (path : List ℕ) → HasNothing s.tables message path → HasNothing after.tables message path
    nothing_stays path h = record { part = (same path).part ∙ h.part; fields = (same path).fields ∙ h.fields; values = λ place. none_stays path place (h.values place) }

    leaf_stays : (path : List ℕ) (kind : ℕ) (bytes : List ℕ) → HasLeaf s message path kind bytes → HasLeaf after message path kind bytes
    leaf_stays path kind bytes h = record { body = h.body; part = (same path).part ∙ h.part; bytes_are = keeps.bodies h.body bytes h.bytes_are }

    mutual
      node_stays : (path : List ℕ) (tree : Tree) → HasNode s message path tree → HasNode after message path tree
      node_stays path (node fields content) h = (fields_stay path fields h.0, body_stays path content h.1)

      body_stays : (path : List ℕ) (content : Content) → HasBody s message path content → HasBody after message path content
      body_stays path (leaf Plain bytes) h = leaf_stays path 0 bytes h
      body_stays path (leaf Base64 bytes) h = leaf_stays path 1 bytes h
      body_stays path (multi trees) h = ((same path).part ∙ h.0, children_stay path 1 trees h.1)
      body_stays path (nested tree) h = ((same path).part ∙ h.0, node_stays (child_path path 0) tree h.1)

      children_stay : (path : List ℕ) (n : ℕ) (trees : Trees) → HasChildren s message path n trees → HasChildren after message path n trees
      children_stay path n none h = (same (child_path path n)).part ∙ h
      children_stay path n (more tree trees) h = (node_stays (child_path path n) tree h.0, children_stay path (n + 1) trees h.1)

  pub message_stays : (message : ℕ) (mail : Mail) → SameMessage message s.tables after.tables → HasRows s message mail → HasRows after message mail
  message_stays message mail same h = record {
    size = same.size ∙ h.size;
    reason = same.reason ∙ h.reason;
    tree_rows = node_stays message same.rows [] mail.message h.tree_rows;
    others = λ path e. nothing_stays message same.rows path (h.others path e);
  }

-- ---- the rows of messages alone

module _ (content : BodyPart → List ℕ) (t : TableRows) where
  -- The rows of a message are told by the tables of messages and of what they share.
  pub told_by_mails : (message : ℕ) (mail : Mail) → HasRows (stored_by content t) message mail → HasRows (mails_in content t) message mail
  told_by_mails message mail h =
      message_stays (stored_by content t) (mails_in content t) (record { names = λ id name here. here; addresses = λ id texts here. here; bodies = λ id bytes here. here }) message mail
      (record { size = refl; reason = refl; rows = λ path. record { part = refl; fields = refl; addresses = λ place. refl; dates = λ place. refl; ids = λ place. refl } }) h

  told_by_all : (message : ℕ) (mail : Mail) → HasRows (mails_in content t) message mail → HasRows (stored_by content t) message mail
  told_by_all message mail h =
      message_stays (mails_in content t) (stored_by content t) (record { names = λ id name here. here; addresses = λ id texts here. here; bodies = λ id bytes here. here }) message mail
      (record { size = refl; reason = refl; rows = λ path. record { part = refl; fields = refl; addresses = λ place. refl; dates = λ place. refl; ids = λ place. refl } }) h

  distinct_in_all : AreDistinct (mails_in content t) → AreDistinct (stored_by content t)
  distinct_in_all d = record { names = d.names; addresses = d.addresses; contents = d.contents; digests = d.digests }

  distinct_in_mails : AreDistinct (stored_by content t) → AreDistinct (mails_in content t)
  distinct_in_mails d = record { names = d.names; addresses = d.addresses; contents = d.contents; digests = d.digests }

-- ---- a message that is added

-- with the messages of other tables
abbrev pub with_mails : TableRows → TableRows → TableRows
with_mails t other = record t { mails = other.mails; shared = other.shared }

tied_weaker : {X Y : Type 0} (R S : X → Y → Type 0) → ((x : X) (y : Y) → R x y → S x y) → (a : Option X) (b : Option Y) → Tied R a b → Tied S a b
tied_weaker R S h None None tied = record { tie = tt }
tied_weaker R S h None (Some y) tied = absurd tied.tie
tied_weaker R S h (Some x) None tied = absurd tied.tie
tied_weaker R S h (Some x) (Some y) tied = record { tie = h x y tied.tie }

module _ (content : BodyPart → List ℕ) (t : TableRows) (message : ℕ) (mail : Mail) (changes : List RowChange) (shreds : Shreds content t message mail changes) where
  others_stay : row_at message_key (number_key message) t.mails.messages ≡ None → (other : ℕ) (its : Mail) → HasRows (mails_in content t) other its → HasRows (mails_in content shreds.after) other its
  others_stay is_new other its h =
      let same = shreds.others other (λ e. none-some _ (sym (subst (λ k. row_at message_key (number_key k) t.mails.messages ≡ None) (sym e) is_new) ∙ h.size)) in
      message_stays (mails_in content t) (mails_in content shreds.after) (record { names = shreds.shared.names; addresses = shreds.shared.addresses; bodies = shreds.shared.bodies }) other its
      (record {
        size = same.size;
        reason = same.reason;
        rows = λ path. record { part = (same.rows path).part; fields = (same.rows path).fields; addresses = (same.rows path).addresses; dates = (same.rows path).dates; ids = (same.rows path).ids };
      }) h

  pub shredded_rows : HasRows (mails_in content shreds.after) message mail
  shredded_rows = told_by_mails content shreds.after message mail shreds.rows

  pub shredded_shows : (world : World) → Shows content t world → row_at message_key (number_key message) t.mails.messages ≡ None → Shows content (with_mails t shreds.after) world
  shredded_shows world s is_new = record {
    users = s.users;
    mailboxes = s.mailboxes;
    names = s.names;
    subscriptions = s.subscriptions;
    next = s.next;
    entries = λ id uid. tied_weaker (IsEntryRow (mails_in content t)) (IsEntryRow (mails_in content shreds.after))
        (λ (row : MailboxMessage) (entry : Entry) is. record { modseq = is.modseq; seconds = is.seconds; zone = is.zone; rows = others_stay is_new row.message entry.message.mail is.rows; kept = is.kept }) _ _ (s.entries id uid);
    gone = s.gone;
    flags = s.flags;
    distinct = distinct_in_mails content shreds.after (shreds.distinct (distinct_in_all content t s.distinct));
  }

-- ---- who reads a message finds its rows among all

pub rows_in_all : (content : BodyPart → List ℕ) (t : TableRows) (world : World) (id uid : ℕ) → Stands content t world
    → Tied (IsEntryRow (stored_by content t)) (row_at mailbox_message_key (uid_key id uid) t.marks.mailbox_messages) (entry_in id uid world.mailboxes)
rows_in_all content t world id uid s =
    tied_weaker (IsEntryRow (mails_in content t)) (IsEntryRow (stored_by content t))
    (λ row entry h. record { modseq = h.modseq; seconds = h.seconds; zone = h.zone; rows = told_by_all content t row.message entry.message.mail h.rows; kept = h.kept })
    (row_at mailbox_message_key (uid_key id uid) t.marks.mailbox_messages) (entry_in id uid world.mailboxes) (s.entries id uid)
