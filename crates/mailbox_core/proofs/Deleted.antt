-- A mailbox that is deleted.
use Rattle.std.proofs.Common.{◌≡◌, ◌⊎◌, ◌==◌, ◌||◌, ℕ, Bool, true, false, not, cond, List, [], ◌∷◌, Option, Some, None, is_some, inl, inr, refl, sym, ap, subst, ◌∙◌}
use Rattle.std.proofs.lemmas.Bool.{eqb-true}
use Rattle.std.proofs.lemmas.Option.{none-some, same_Some}
use Rattle.std.specs.Cmp.{second_so}
use Rattle.ordered_rows.specs.RowKey.{number_key}
use Rattle.ordered_rows.specs.Listed.{IsInOrder, row_at}
use Rattle.ordered_rows.specs.InsertLaws.{InsertLaws}
use Rattle.row_tables.specs.Keys.{mailbox_key}
use Rattle.row_tables.specs.Names.{has_mailbox_name, mailbox_named}
use Rattle.row_tables.specs.TableRows.{TableRows}
use Rattle.row_tables.specs.References.{HasMailbox}
use Rattle.row_tables.specs.declared.heads.Mailbox.{Mailbox as Head}
use Rattle.row_tables.specs.declared.change.RowChange.{RowChange}
use Rattle.row_tables.specs.declared.change.RowChange.TheVariants.{DropMailbox}
use Rattle.mail_world.specs.Names.{is_inbox, is_mailbox_name}
use Rattle.mail_world.specs.Worlds.{is_among}
use Rattle.mail_world.specs.Changes.{Refusal, BadName, Absent, InUse, first_refusal}
use Rattle.mail_stands.specs.Leading.{KeepsOthers}
use Rattle.mail_stands.specs.Refusals.{delete_refused, is_held}
use Rattle.mail_stands.specs.RowChanges.{delete_changes}
use Rattle.mailbox_core.specs.Deleting.{KeepsHeld, id_in}
use Rattle.mailbox_core.proofs.Found.{find_passes}

no_refusal : (refusal : Refusal) → Some refusal ≡ None → ⊥
no_refusal refusal e = none-some refusal (sym e)

may_go : (bad : Bool) (held : List ℕ) (found : Option Head) → first_refusal ((bad, BadName) ∷ (not (is_some found), Absent) ∷ (is_held held found, InUse) ∷ []) ≡ None
    → (row : Head) × (found ≡ Some row) × (is_among row.id held ≡ false)
may_go true held found e = absurd (no_refusal BadName e)
may_go false held None e = absurd (no_refusal Absent e)
may_go false held (Some row) e = by (is_among row.id held) refl e
  where
    by : (b : Bool) → is_among row.id held ≡ b → cond b (Some InUse) None ≡ None → (r : Head) × (Some row ≡ Some r) × (is_among r.id held ≡ false)
    by true is e = absurd (no_refusal InUse e)
    by false is e = (row, refl, is)

module _ (t : TableRows) (owner : ℕ) (name held : List ℕ) where
  -- one that isn't refused
  pub deleted_row : delete_refused t owner name held ≡ None → (row : Head) × (mailbox_named owner name t.heads.mailboxes ≡ Some row) × (is_among row.id held ≡ false)
  deleted_row asked = may_go (not (is_mailbox_name name) || is_inbox name) held (mailbox_named owner name t.heads.mailboxes) asked

  module _ (laws : InsertLaws mailbox_key) (ordered : IsInOrder mailbox_key t.heads.mailboxes) (row : Head) (found : mailbox_named owner name t.heads.mailboxes ≡ Some row) where
    at_id : row_at mailbox_key (number_key row.id) t.heads.mailboxes ≡ Some row
    at_id = laws.at_key (has_mailbox_name owner name) row t.heads.mailboxes ordered found

    pub deleted_there : HasMailbox t row.id
    deleted_there = ap is_some at_id

    its_owner : row.owner ≡ owner
    its_owner = eqb-true row.owner owner (second_so _ _ (find_passes (has_mailbox_name owner name) t.heads.mailboxes row found))

    -- all others stay
    pub held_stay : (after : TableRows) → is_among row.id held ≡ false → KeepsOthers row.id t after → KeepsHeld owner held t after
    held_stay after free others = record { users = others.users; mailboxes = λ id other at. by id other at (row.id == id) refl }
      where
        by : (id : ℕ) (other : Head) → row_at mailbox_key (number_key id) t.heads.mailboxes ≡ Some other → (b : Bool) → (row.id == id) ≡ b
            → (row_at mailbox_key (number_key id) after.heads.mailboxes ≡ Some other) ⊎ ((other.owner ≡ owner) × (is_among id held ≡ false))
        by id other at false e = inl (others.mailboxes id e ∙ at)
        by id other at true e =
            let same_id : row.id ≡ id = eqb-true row.id id e in
            let same : row ≡ other = same_Some row other (sym at_id ∙ subst (λ n. row_at mailbox_key (number_key n) t.heads.mailboxes ≡ Some other) (sym same_id) at) in
            inr (subst (λ (r : Head). r.owner ≡ owner) same its_owner, subst (λ n. is_among n held ≡ false) same_id free)

-- What is planned deletes a mailbox.
pub record Deletes (t : TableRows) (owner : ℕ) (name held : List ℕ) (changes : List RowChange) : Type 0 where
  pub row : Head
  pub asked : delete_refused t owner name held ≡ None
  pub found : mailbox_named owner name t.heads.mailboxes ≡ Some row
  pub free : is_among row.id held ≡ false
  pub are : changes ≡ delete_changes row

pub deletes : (t : TableRows) (owner : ℕ) (name held : List ℕ) (changes : List RowChange) → delete_refused t owner name held ≡ None
    → changes ≡ DropMailbox (id_in (mailbox_named owner name t.heads.mailboxes)) ∷ [] → Deletes t owner name held changes
deletes t owner name held changes asked are =
    let its = deleted_row t owner name held asked in
    record { row = its.0; asked = asked; found = its.1; free = its.2; are = are ∙ ap (λ (o : Option Head). DropMailbox (id_in o) ∷ []) its.1 }

-- nothing was deleted
pub held_all : (owner : ℕ) (held : List ℕ) (t : TableRows) → KeepsHeld owner held t t
held_all owner held t = record { users = refl; mailboxes = λ id row at. inl at }
