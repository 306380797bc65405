-- The changes of one mail, all together.
use Rattle.std.proofs.Common.{◌≡◌, ℕ, ◌==◌, List, [], ◌∷◌, ◌++◌, length, Option, Some, None, is_some, refl, sym, ap, ◌∙◌, subst}
use mathlib.Core.Bool.{true≢false}
use Rattle.std.proofs.lemmas.Bool.{eq-eqb}
use Rattle.std.specs.Option.{option_map}
use Rattle.std.specs.List.{AllByRecursion, find}
use Rattle.mime_tree.specs.declared.reasons.Mail.{Mail}
use Rattle.mime_tree.specs.declared.reasons.Reason.{Reason}
use Rattle.canon_writer.specs.Printing.{print}
use Rattle.ordered_rows.specs.RowKey.{RowKey, number_key}
use Rattle.ordered_rows.specs.Listed.{has_key, row_at}
use Rattle.row_tables.specs.Keys.{part_key, message_key, body_part_key, part_number_key, field_name_key, address_key, unparsed_message_key}
use Rattle.row_tables.specs.TableRows.{TableRows, no_rows}
use Rattle.row_tables.specs.References.{AreOrdered, AreClosed, IsUnknown, HasMessage}
use Rattle.row_tables.specs.Fits.{applied, Runs}
use Rattle.row_tables.specs.declared.mails.MessageRow.{MessageRow}
use Rattle.row_tables.specs.declared.change.RowChange.{RowChange}
use Rattle.row_tables.specs.declared.change.RowChange.TheVariants.{InsertMessageRow, InsertBodyPart, InsertPartNumber, InsertFieldName, InsertHeaderField, InsertAddressRow, InsertAddressField, InsertDateField, InsertMessageId, InsertUnparsedMessage}
use Rattle.row_store.specs.Holding.{stored_by, in_row}
use Rattle.row_store.specs.Bodies.{ArePlaced}
use Rattle.shredder.specs.Paths.{paths}
use Rattle.shredder.specs.MessageRows.{HasNode, part_at, unparsed_row}
use Rattle.shredder.specs.Shredding.{Shreds}
use Rattle.shredder.specs.Making.{RowLaws, Makes, IsAt, Between, Leads, IsOpen, IsUnion, Among, reason_changes}
use Rattle.shredder.proofs.Lookups.{find_among, union_start}
use Rattle.shredder.proofs.Apart.{apart_along, regrouped}
use Rattle.shredder.proofs.Frames.{makes_then, makes_runs, others_same, keeps_along, distinct_along}
use Rattle.shredder.proofs.Steps.{ordered_along, closed_along, leads_same}
use Rattle.shredder.proofs.PlacedBodies.{all_placed}
use Rattle.shredder.proofs.PartSteps.{nothing_at}
use Rattle.shredder.proofs.PathLemmas.{under_top}

-- ---- the message's own rows

abbrev with_reason : TableRows → ℕ → Option Reason → TableRows
with_reason t message None = t
with_reason t message (Some reason) = applied t (InsertUnparsedMessage (unparsed_row message reason))

-- what changes at paths leave alone
record SameTops (t after : TableRows) : Type 0 where
  messages : after.mails.messages ≡ t.mails.messages
  unparsed : after.mails.unparsed_messages ≡ t.mails.unparsed_messages

top_step : (W : List ℕ → Type 0) (t : TableRows) (change : RowChange) → IsAt W change → SameTops t (applied t change)
top_step W t (InsertMessageRow r) h = absurd h
top_step W t (InsertBodyPart r) h = record { messages = refl; unparsed = refl }
top_step W t (InsertPartNumber r) h = record { messages = refl; unparsed = refl }
top_step W t (InsertFieldName r) h = record { messages = refl; unparsed = refl }
top_step W t (InsertHeaderField r) h = record { messages = refl; unparsed = refl }
top_step W t (InsertAddressRow r) h = record { messages = refl; unparsed = refl }
top_step W t (InsertAddressField r) h = record { messages = refl; unparsed = refl }
top_step W t (InsertDateField r) h = record { messages = refl; unparsed = refl }
top_step W t (InsertMessageId r) h = record { messages = refl; unparsed = refl }
top_step W t (InsertUnparsedMessage r) h = absurd h
top_step W t _ h = absurd h

tops_along : (W : List ℕ → Type 0) (message : ℕ) (t : TableRows) (changes : List RowChange) (after : TableRows) → AllByRecursion (IsAt W) changes → Makes message t changes after → SameTops t after
tops_along W message t [] after all e = subst (SameTops t) e (record { messages = refl; unparsed = refl })
tops_along W message t (change ∷ changes) after all h =
    let one = top_step W t change all.0 in
    let rest = tops_along W message (applied t change) changes after all.1 h.2 in
    record { messages = rest.messages ∙ one.messages; unparsed = rest.unparsed ∙ one.unparsed }

-- ---- all of them

module _ (laws : RowLaws) (t : TableRows) (ordered : AreOrdered t) (closed : AreClosed t) (id : ℕ) (new_id : row_at message_key (number_key id) t.mails.messages ≡ None) (unknown : IsUnknown id t) (mail : Mail) where
  abbrev first : MessageRow
  first = record { id = id; size = length (print mail.message) }

  abbrev one : TableRows
  one = applied t (InsertMessageRow first)

  abbrev pub begun : TableRows
  begun = with_reason one id mail.reason

  abbrev start : List RowChange
  start = InsertMessageRow first ∷ reason_changes id mail.reason

  has_message : HasMessage one id
  has_message = ap is_some (laws.messages.same first t.mails.messages)

  reason_made : (reason : Option Reason) → Makes id one (reason_changes id reason) (with_reason one id reason)
  reason_made None = refl
  reason_made (Some reason) = ((unknown.unparsed, has_message), refl, refl)

  start_made : Makes id t start begun
  start_made = (new_id, refl, reason_made mail.reason)

  same_shared : (reason : Option Reason) → (with_reason one id reason).shared ≡ t.shared
  same_shared None = refl
  same_shared (Some reason) = refl

  same_parts : (reason : Option Reason) → (with_reason one id reason).mails.part_numbers ≡ t.mails.part_numbers
  same_parts None = refl
  same_parts (Some reason) = refl

  same_messages : (reason : Option Reason) → (with_reason one id reason).mails.messages ≡ one.mails.messages
  same_messages None = refl
  same_messages (Some reason) = refl

  reason_there : (reason : Option Reason) → row_at unparsed_message_key (number_key id) (with_reason one id reason).mails.unparsed_messages ≡ option_map (unparsed_row id) reason
  reason_there None = unknown.unparsed
  reason_there (Some reason) = laws.unparsed_messages.same (unparsed_row id reason) t.mails.unparsed_messages

  pub between : (added : TableRows) → added ≡ no_rows → Between id t added begun
  between added e = record {
    ordered = ordered_along laws id t start begun ordered start_made;
    closed = closed_along laws id t start begun closed start_made;
    there = ap is_some (ap (row_at message_key (number_key id)) (same_messages mail.reason)) ∙ has_message;
    names = subst (λ s. IsUnion field_name_key t.shared.field_names added.shared.field_names s.field_names) (sym (same_shared mail.reason))
        (subst (λ (a : TableRows). IsUnion field_name_key t.shared.field_names a.shared.field_names t.shared.field_names) (sym e) (union_start field_name_key t.shared.field_names));
    addresses = subst (λ s. IsUnion address_key t.shared.addresses added.shared.addresses s.addresses) (sym (same_shared mail.reason))
        (subst (λ (a : TableRows). IsUnion address_key t.shared.addresses a.shared.addresses t.shared.addresses) (sym e) (union_start address_key t.shared.addresses));
    bodies = subst (λ s. IsUnion body_part_key t.shared.bodyparts added.shared.bodyparts s.bodyparts) (sym (same_shared mail.reason))
        (subst (λ (a : TableRows). IsUnion body_part_key t.shared.bodyparts a.shared.bodyparts t.shared.bodyparts) (sym e) (union_start body_part_key t.shared.bodyparts));
  }

  no_part : (path : List ℕ) → part_at t id path ≡ None
  no_part path =
      sym (find_among (has_key part_number_key (part_key id path)) (λ r. r.message == id) (λ r q. eq-eqb r.message id (ap (λ (k : RowKey). k.number) (laws.same (part_number_key r) (part_key id path) q))) t.mails.part_numbers)
      ∙ ap (find (has_key part_number_key (part_key id path))) unknown.parts

  pub open_all : IsOpen begun id []
  open_all path under = ap (row_at part_number_key (part_key id path)) (same_parts mail.reason) ∙ no_part path

  pub shreds : (added0 added1 : TableRows) (changes0 changes1 : List RowChange) → changes0 ≡ start → Between id t added0 begun
      → Leads id t begun added0 changes0 (Among (paths [] mail.message)) (λ after. HasNode (stored_by in_row after) id [] mail.message) added1 changes1 → Shreds in_row t id mail changes1
  shreds added0 added1 changes0 changes1 e b l =
      let W : List ℕ → Type 0 = Among (paths [] mail.message) in
      let P : TableRows → Type 0 = λ after. HasNode (stored_by in_row after) id [] mail.message in
      let after = l.after in
      let made : Makes id t (start ++ l.more) after = makes_then id t start l.more begun after start_made l.made in
      let all : changes1 ≡ start ++ l.more = l.grown ∙ ap (λ (c : List RowChange). c ++ l.more) e in
      let tops = tops_along W id begun l.more after l.within l.made in
      record {
        after = after;
        runs = subst (λ (c : List RowChange). Runs t c after) (sym all) (makes_runs id t (start ++ l.more) after made);
        rows = record {
          size = ap (row_at message_key (number_key id)) (tops.messages ∙ same_messages mail.reason) ∙ laws.messages.same first t.mails.messages;
          reason = ap (row_at unparsed_message_key (number_key id)) tops.unparsed ∙ reason_there mail.reason;
          tree_rows = l.holds;
          others = λ path n. nothing_at laws after id path l.between.closed ((leads_same id t laws begun added0 added1 changes0 changes1 W P b l path (λ h. true≢false (sym h ∙ n))).part ∙ open_all path (under_top path));
        };
        others = λ other n. others_same laws id other n t (start ++ l.more) after ordered made;
        shared = keeps_along laws id t (start ++ l.more) after ordered made;
        distinct = distinct_along laws id t (start ++ l.more) after ordered made;
        apart = regrouped t after (apart_along laws id t (start ++ l.more) after ordered made);
      }

  -- the bodies that the changes insert are those that were placed
  pub placed_all : (added0 added1 : TableRows) (changes0 changes1 : List RowChange) → changes0 ≡ start
      → Leads id t begun added0 changes0 (Among (paths [] mail.message)) (λ after. HasNode (stored_by in_row after) id [] mail.message) added1 changes1 → ArePlaced added1.shared.bodyparts changes1
  placed_all added0 added1 changes0 changes1 e l =
      let all : changes1 ≡ start ++ l.more = l.grown ∙ ap (λ (c : List RowChange). c ++ l.more) e in
      subst (ArePlaced added1.shared.bodyparts) (sym all)
      (all_placed id t laws added1.shared.bodyparts l.after l.between.bodies t (start ++ l.more) (λ i row h. h) (makes_then id t start l.more begun l.after start_made l.made))
