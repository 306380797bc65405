-- The names that LIST and LSUB look at, in tables. These serve the contracts of private functions, and of the listing over any tables.
use Rattle.std.specs.Prelude.{◌≡◌, ℕ, ◌==◌, ◌&&◌, nat_eq, Bool, true, false, List, map, filter}
use Rattle.std.specs.List.{starts_with}
use Rattle.row_tables.specs.Names.{is_after}
use Rattle.row_tables.specs.TableRows.{TableRows}
use Rattle.mailbox_names.specs.Names.{has_name}

-- the names of a user's mailboxes, or of the user's subscriptions
abbrev pub names_in : Bool → ℕ → TableRows → List (List ℕ)
names_in true user t = map (λ row. row.name) (filter (λ row. row.owner == user) t.heads.subscriptions)
names_in false user t = map (λ row. row.name) (filter (λ row. row.owner == user) t.heads.mailboxes)

-- the name among names that comes next after a name
pub record IsNextName (name next : List ℕ) (names : List (List ℕ)) : Type 0 where
  pub there : has_name next names ≡ true
  pub after : is_after name next ≡ true
  pub between : (other : List ℕ) → has_name other names ≡ true → is_after name other ≡ true → is_after other next ≡ false

abbrev pub NoneAfter : List ℕ → List (List ℕ) → Type 0
NoneAfter name names = (other : List ℕ) → has_name other names ≡ true → is_after name other ≡ false

-- the names with a front up to the last one
pub record Walked (front : List ℕ) (names : List (List ℕ)) (last : List ℕ) (got : List (List ℕ)) : Type 0 where
  pub sound : (name : List ℕ) → has_name name got ≡ true → (starts_with nat_eq name front && has_name name names) ≡ true
  pub complete : (name : List ℕ) → starts_with nat_eq name front ≡ true → has_name name names ≡ true → is_after last name ≡ false → has_name name got ≡ true
  pub begins : starts_with nat_eq last front ≡ true
