-- Rows that are found by a name, which several of them may have, and what the indexes of names know of them.
use Rattle.std.specs.Prelude.{◌≡◌, ℕ, Bool, true, false, ◌&&◌, ◌==◌, nat_eq, List, [], ◌∷◌, map, Option, Some, None, MatchOption, refl}
use Rattle.std.proofs.Common.{ap, ◌∙◌}
use Rattle.std.specs.List.{filter, find}
use Rattle.std.specs.Ordering.{is_lt, nat_cmp}
use Rattle.std.specs.Cmp.Lexicographic.{pointwise, slice_cmp}
use Rattle.ordered_rows.specs.RowKey.{RowKey}
use Rattle.ordered_rows.specs.Listed.{is_in_group, row_at}
use Rattle.row_tables.specs.Keys.{mailbox_key}
use Rattle.row_tables.specs.declared.heads.User.{User}
use Rattle.row_tables.specs.declared.heads.Mailbox.{Mailbox}
use Rattle.row_tables.specs.declared.heads.Subscription.{Subscription}
use Rattle.row_tables.specs.declared.indexes.NameEntry.{NameEntry}

abbrev pub has_user_name : List ℕ → User → Bool
has_user_name name r = pointwise nat_eq r.name name

abbrev pub has_mailbox_name : ℕ → List ℕ → Mailbox → Bool
has_mailbox_name owner name r = pointwise nat_eq r.name name && (r.owner == owner)

-- the user with the name, of several the one with the least id
abbrev pub user_named : List ℕ → List User → Option User
user_named name rows = find (has_user_name name) rows

-- the mailbox of the owner with the name, of several the one with the least id
abbrev pub mailbox_named : ℕ → List ℕ → List Mailbox → Option Mailbox
mailbox_named owner name rows = find (has_mailbox_name owner name) rows

-- A name comes after another by its bytes.
abbrev pub is_after : List ℕ → List ℕ → Bool
is_after name other = is_lt (slice_cmp nat_cmp name other)

abbrev pub mailbox_is_after : ℕ → List ℕ → Mailbox → Bool
mailbox_is_after owner name r = is_after name r.name && (r.owner == owner)

abbrev pub subscription_is_after : ℕ → List ℕ → Subscription → Bool
subscription_is_after owner name r = is_after name r.name && (r.owner == owner)

-- the mailbox of the owner with the next name after a name, of several the one with the least id
pub record ComesNext (owner : ℕ) (name : List ℕ) (rows : List Mailbox) (r : Mailbox) : Type 0 where
  pub owner_is : r.owner ≡ owner
  pub after : is_after name r.name ≡ true
  pub between : find (λ (s : Mailbox). is_after name s.name && is_after s.name r.name && (s.owner == owner)) rows ≡ None
  pub first : mailbox_named owner r.name rows ≡ Some r

abbrev pub IsNextMailbox : ℕ → List ℕ → List Mailbox → Option Mailbox → Type 0
IsNextMailbox owner name rows None = find (mailbox_is_after owner name) rows ≡ None
IsNextMailbox owner name rows (Some r) = ComesNext owner name rows r

-- the mailbox with the row's id has another owner or another name
abbrev pub IsRename : Mailbox → List Mailbox → Type 0
IsRename r rows = MatchOption (row_at mailbox_key (mailbox_key r) rows) ⊥ (λ old. has_mailbox_name r.owner r.name old ≡ false)

-- of an entry in an index of names: the number among whose rows the name stands, the name, and the row's id
abbrev pub name_key : ℕ → List ℕ → ℕ → RowKey
name_key number name id = record { number = number; text = name; second = []; third = []; place = 0; item = id }

abbrev pub name_entry_key : NameEntry → RowKey
name_entry_key e = name_key e.number e.name e.id

-- Where the rows of a table have their names: the name, and the number among whose rows it stands.
pub record Names (X : Type 0) : Type 1 where
  pub Place : Type 0
  pub place : X → Place
  pub number : Place → ℕ
  pub name : Place → List ℕ
  pub has : Place → X → Bool
  pub id : X → ℕ
  pub same : (p : Place) (row : X) → (pointwise nat_eq (name (place row)) (name p) && true && (number (place row) == number p)) ≡ has p row

-- the index has the ids of the rows with each name, ascending
pub record AreNamed {X : Type 0} (names : Names X) (entries : List NameEntry) (rows : List X) : Type 0 where
  pub each : (p : names.Place) → map (λ e. e.id) (filter (is_in_group name_entry_key (name_key (names.number p) (names.name p) 0)) entries) ≡ map names.id (filter (names.has p) rows)

pub and_true : (b : Bool) → (b && true) ≡ b
and_true true = refl
and_true false = refl

abbrev pub user_naming : Names User
user_naming = record {
  Place = List ℕ;
  place = λ r. r.name;
  number = λ name. 0;
  name = λ name. name;
  has = has_user_name;
  id = λ r. r.id;
  same = λ name r. ap (λ b. b && true) (and_true (pointwise nat_eq r.name name)) ∙ and_true (pointwise nat_eq r.name name);
}

abbrev pub mailbox_naming : Names Mailbox
mailbox_naming = record {
  Place = ℕ × List ℕ;
  place = λ r. (r.owner, r.name);
  number = λ p. p.0;
  name = λ p. p.1;
  has = λ p. has_mailbox_name p.0 p.1;
  id = λ r. r.id;
  same = λ p r. ap (λ b. b && (r.owner == p.0)) (and_true (pointwise nat_eq r.name p.1));
}

-- the first of a list
abbrev pub IsFirst : Option ℕ → List ℕ → Type 0
IsFirst None ids = ids ≡ []
IsFirst (Some i) ids = (rest : List ℕ) × (ids ≡ i ∷ rest)
