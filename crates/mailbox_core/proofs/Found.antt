-- Rows that are found by their names.
use Rattle.std.proofs.Common.{◌≡◌, ℕ, Bool, true, false, cond, List, [], ◌∷◌, Option, Some, IsSomeAnd, ◌==◌, find, refl, sym, subst, eqb-true}
use Rattle.std.proofs.lemmas.Option.{none-some, same_Some}
use Rattle.std.specs.Cmp.{second_so}
use Rattle.ordered_rows.specs.RowKey.{number_key}
use Rattle.ordered_rows.specs.Listed.{IsInOrder, row_at}
use Rattle.ordered_rows.specs.InsertLaws.{InsertLaws}
use Rattle.row_tables.specs.Keys.{mailbox_key}
use Rattle.row_tables.specs.Names.{has_mailbox_name, mailbox_named}
use Rattle.row_tables.specs.declared.heads.Mailbox.{Mailbox}

found_here : {X : Type 0} (p : X → Bool) (x y : X) (b : Bool) (r : Option X) → p x ≡ b → (r ≡ Some y → p y ≡ true) → cond b (Some x) r ≡ Some y → p y ≡ true
found_here p x y true r e behind found = subst (λ z. p z ≡ true) (same_Some x y found) e
found_here p x y false r e behind found = behind found

-- what is found passes the test
pub find_passes : {X : Type 0} (p : X → Bool) (xs : List X) (y : X) → find p xs ≡ Some y → p y ≡ true
find_passes p [] y found = absurd (none-some y found)
find_passes p (x ∷ xs) y found = found_here p x y (p x) (find p xs) refl (find_passes p xs y) found

-- a mailbox that is found under an owner is the owner's, by its id
pub owned_row : (laws : InsertLaws mailbox_key) (rows : List Mailbox) (owner : ℕ) (name : List ℕ) (row : Mailbox) → IsInOrder mailbox_key rows → mailbox_named owner name rows ≡ Some row
    → IsSomeAnd (row_at mailbox_key (number_key row.id) rows) (λ r. r.owner ≡ owner)
owned_row laws rows owner name row ordered found =
    let owner_is : row.owner ≡ owner = eqb-true row.owner owner (second_so _ _ (find_passes (has_mailbox_name owner name) rows row found)) in
    subst (λ (o : Option Mailbox). IsSomeAnd o (λ r. r.owner ≡ owner)) (sym (laws.at_key (has_mailbox_name owner name) row rows ordered found)) owner_is

-- a mailbox that is found at an id has it
pub row_is : (rows : List Mailbox) (id : ℕ) (row : Mailbox) → row_at mailbox_key (number_key id) rows ≡ Some row → row.id ≡ id
row_is rows id row found = eqb-true row.id id (find_passes (λ (r : Mailbox). r.id == id) rows row found)
