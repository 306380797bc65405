-- Names that are subscribed.
use Rattle.std.proofs.Common.{◌≡◌, ◌&&◌, ℕ, Bool, true, false, not, cond, nat_le, List, [], ◌∷◌, length, Some, None, is_some, refl, sym, subst}
use Rattle.std.proofs.lemmas.Option.{none-some}
use Rattle.row_tables.specs.Names.{mailbox_named}
use Rattle.row_tables.specs.TableRows.{TableRows}
use Rattle.row_tables.specs.Fits.{IsText}
use Rattle.row_tables.specs.References.{HasSubscription, subscriptions_of}
use Rattle.row_tables.specs.declared.contents.BodyPart.{BodyPart}
use Rattle.row_tables.specs.declared.change.RowChange.{RowChange}
use Rattle.row_tables.specs.declared.change.RowChange.TheVariants.{InsertSubscription}
use Rattle.row_store.specs.Bodies.{ArePlaced}
use Rattle.mail_world.specs.Names.{is_mailbox_name}
use Rattle.mail_world.specs.Limits.{most_subscriptions}
use Rattle.mail_world.specs.Changes.{BadName, Absent, Full}
use Rattle.mail_stands.specs.Refusals.{is_subscribed, subscribe_refused, unsubscribe_refused}
use Rattle.mail_stands.specs.RowChanges.{subscribe_changes}
use Rattle.mailbox_core.proofs.Lengths.{mailbox_is_text, passes_first}

module _ (t : TableRows) (owner : ℕ) (name : List ℕ) where
  -- a name that isn't refused is a text
  pub subscribed_is_text : subscribe_refused t owner name ≡ None → IsText name
  subscribed_is_text asked =
      mailbox_is_text name (passes_first (is_mailbox_name name)
      ((not (is_some (mailbox_named owner name t.heads.mailboxes)), Absent)
      ∷ (not (is_subscribed t owner name) && nat_le most_subscriptions (length (subscriptions_of owner t.heads.subscriptions)), Full) ∷ []) asked)

  pub unsubscribed_is_text : unsubscribe_refused t owner name ≡ None → IsText name
  unsubscribed_is_text asked = mailbox_is_text name (passes_first (is_mailbox_name name) ((not (is_subscribed t owner name), Absent) ∷ []) asked)

  -- and is there
  pub unsubscribed_there : unsubscribe_refused t owner name ≡ None → HasSubscription t owner name
  unsubscribed_there asked = by (is_mailbox_name name) (is_subscribed t owner name) refl asked
    where
      by : (proper there : Bool) → is_subscribed t owner name ≡ there → cond (not proper) (Some BadName) (cond (not there) (Some Absent) None) ≡ None → is_subscribed t owner name ≡ true
      by false there is e = absurd (none-some BadName (sym e))
      by true false is e = absurd (none-some Absent (sym e))
      by true true is e = is

  pub subscribed_placed : (placed : List BodyPart) (changes : List RowChange) → changes ≡ subscribe_changes t owner name → ArePlaced placed changes
  subscribed_placed placed changes are = subst (λ (l : List RowChange). ArePlaced placed l) (sym are) (by (is_subscribed t owner name))
    where
      by : (there : Bool) → ArePlaced placed (cond there [] (InsertSubscription (record { owner = owner; name = name }) ∷ []))
      by true = tt
      by false = (tt, tt)
