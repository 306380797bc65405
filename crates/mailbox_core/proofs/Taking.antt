-- Recent messages that are taken, over any tables.
use Rattle.std.proofs.Common.{◌≡◌, ◌≤◌, ◌<◌, ℕ, List, [], length, Option, Some, None, IsSome, inl, inr, refl, sym, ◌∙◌, subst, arith}
use Rattle.std.proofs.lemmas.Bool.{false≢true}
use Rattle.std.proofs.lemmas.Option.{none-some, same_Some}
use Rattle.ordered_rows.specs.RowKey.{number_key}
use Rattle.ordered_rows.specs.Listed.{row_at}
use Rattle.row_tables.specs.Keys.{mailbox_key}
use Rattle.row_tables.specs.TableRows.{TableRows}
use Rattle.row_tables.specs.Fits.{CanRun, IsText, Runs}
use Rattle.row_tables.specs.References.{AreClosed, HasMailbox}
use Rattle.row_tables.specs.declared.contents.BodyPart.{BodyPart}
use Rattle.row_tables.specs.declared.heads.Mailbox.{Mailbox as Head}
use Rattle.row_tables.specs.declared.change.RowChange.{RowChange}
use Rattle.row_store.specs.Bodies.{ArePlaced}
use Rattle.row_store.specs.Holding.{in_row}
use Rattle.mail_world.specs.Worlds.{World}
use Rattle.mail_stands.specs.Leading.{KeepsOwners, Leads}
use Rattle.mail_stands.specs.Refusals.{recents_refused, unless_absent}
use Rattle.mail_stands.specs.RowChanges.{recents_changes}
use Rattle.mailbox_core.specs.Rooms.{TakesRecents}
use Rattle.mailbox_core.proofs.Owners.{keeps_all}

abbrev found_at : TableRows → ℕ → Option Head
found_at t id = row_at mailbox_key (number_key id) t.heads.mailboxes

pub takes_of_none : (t : TableRows) (id : ℕ) (changes : List RowChange) → changes ≡ [] → None ≡ row_at mailbox_key (number_key id) t.heads.mailboxes → TakesRecents t id changes
takes_of_none t id changes empty none = inl (empty, λ row found text. none-some row (none ∙ found))

pub takes_of_long : (t : TableRows) (id : ℕ) (changes : List RowChange) (long : Head) → changes ≡ [] → Some long ≡ row_at mailbox_key (number_key id) t.heads.mailboxes → 4294967295 < length long.name → TakesRecents t id changes
takes_of_long t id changes long empty is longer = inl (empty, λ row found text. too_long row (same_Some long row (is ∙ found)) text)
  where
    too_long : (row : Head) → long ≡ row → IsText row.name → ⊥
    too_long row same text = let text' : IsText long.name = subst (λ (r : Head). IsText r.name) (sym same) text in omega arith

pub takes_some : (t : TableRows) (id : ℕ) (changes : List RowChange) (row : Head) → Some row ≡ row_at mailbox_key (number_key id) t.heads.mailboxes → length row.name ≤ 4294967295
    → changes ≡ recents_changes row → TakesRecents t id changes
takes_some t id changes row is text made = inr (row, sym is, text, made)

-- ---- what is there

row_there : {P : Type 0} (o : Option Head) → IsSome o → ((row : Head) → o ≡ Some row → P) → P
row_there None there use_it = absurd (false≢true there)
row_there (Some row) there use_it = use_it row refl

unrefused : (o : Option Head) → IsSome o → unless_absent o (λ row. None) ≡ None
unrefused None there = absurd (false≢true there)
unrefused (Some row) there = refl

pub not_refused_there : (t : TableRows) (id : ℕ) → HasMailbox t id → recents_refused t id ≡ None
not_refused_there t id there = unrefused (found_at t id) there

-- ---- what the changes do

-- the law of changes that fit, and of owners
pub record Laws : Type 0 where
  pub fit : (t : TableRows) (id : ℕ) (row : Head) → AreClosed t → IsText row.name → row_at mailbox_key (number_key id) t.heads.mailboxes ≡ Some row → CanRun t (recents_changes row)
  pub owners : (t after : TableRows) (id : ℕ) (row : Head) → row_at mailbox_key (number_key id) t.heads.mailboxes ≡ Some row → Runs t (recents_changes row) after → KeepsOwners t after

pub record Ends (t : TableRows) (changes : List RowChange) : Type 0 where
  pub after : TableRows
  pub runs : Runs t changes after
  pub owners : KeepsOwners t after

pub taken_ends : (laws : Laws) (t : TableRows) (id : ℕ) (changes : List RowChange) → AreClosed t → TakesRecents t id changes → Ends t changes
taken_ends laws t id changes closed (inl none) =
    record { after = t; runs = subst (λ (l : List RowChange). Runs t l t) (sym none.0) refl; owners = keeps_all t }
taken_ends laws t id changes closed (inr taken) =
    let can : CanRun t (recents_changes taken.0) = laws.fit t id taken.0 closed taken.2 taken.1 in
    record {
      after = can.0;
      runs = subst (λ (l : List RowChange). Runs t l can.0) (sym taken.3) can.1;
      owners = laws.owners t can.0 id taken.0 taken.1 can.1;
    }

pub taken_placed : (placed : List BodyPart) (t : TableRows) (id : ℕ) (changes : List RowChange) → TakesRecents t id changes → ArePlaced placed changes
taken_placed placed t id changes (inl none) = subst (λ (l : List RowChange). ArePlaced placed l) (sym none.0) tt
taken_placed placed t id changes (inr taken) = subst (λ (l : List RowChange). ArePlaced placed l) (sym taken.3) (tt, tt)

module _ (t : TableRows) (id : ℕ) (next : World) (lead : (row : Head) → row_at mailbox_key (number_key id) t.heads.mailboxes ≡ Some row → Leads in_row t (recents_changes row) next) (there : HasMailbox t id) where
  pub some_lead : (changes : List RowChange) × Leads in_row t changes next
  some_lead = row_there (found_at t id) there (λ row found. (recents_changes row, lead row found))

  pub taken_lead : (changes : List RowChange) → TakesRecents t id changes → Leads in_row t changes next
  taken_lead changes (inl none) = row_there (found_at t id) there (λ row found. absurd (none.1 row found (lead row found).runs.0.0))
  taken_lead changes (inr taken) = subst (λ (l : List RowChange). Leads in_row t l next) (sym taken.3) (lead taken.0 taken.1)
