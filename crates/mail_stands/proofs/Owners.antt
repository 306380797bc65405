-- Over any tables, rows that are inserted take no user and no mailbox away.
use Rattle.std.proofs.Common.{ℕ, ◌≡◌, ◌+◌, Bool, true, false, List, length, Option, Some, None, refl, sym, ap, subst, ◌∙◌}
use Rattle.std.specs.Prelude.{IsSome, IsSomeAnd, is_some}
use Rattle.std.proofs.lemmas.Bool.{false≢true}
use Rattle.std.proofs.lemmas.Option.{none-some, same_Some}
use Rattle.ordered_rows.specs.RowKey.{RowKey, number_key, same_key}
use Rattle.ordered_rows.specs.Listed.{row_at, with_row, with_replaced, without}
use Rattle.ordered_rows.specs.InsertLaws.{InsertLaws}
use Rattle.row_tables.specs.Keys.{user_key, mailbox_key}
use Rattle.row_tables.specs.TableRows.{TableRows}
use Rattle.row_tables.specs.Fits.{Runs}
use Rattle.row_tables.specs.declared.heads.Mailbox.{Mailbox as Head}
use Rattle.mail_world.specs.Names.{inbox}
use Rattle.mail_stands.specs.Leading.{KeepsOwners, KeepsOthers}
use Rattle.mail_stands.specs.RowChanges.{new_user, new_mailbox, create_changes, add_user_changes, recents_changes, delete_changes}
use Rattle.mail_stands.proofs.Lists.{number_is}

abbrev pub SameKeys : Type 0
SameKeys = (a b : RowKey) → same_key a b ≡ true → a ≡ b

-- what was there is there still
pub insert_keeps : {X : Type 0} → SameKeys → (key : X → RowKey) → InsertLaws key → (row r : X) (k : RowKey) (rows : List X) → row_at key (key row) rows ≡ None → row_at key k rows ≡ Some r
    → row_at key k (with_row key row rows) ≡ Some r
insert_keeps {X} same key laws row r k rows new found = by (same_key (key row) k) refl
  where
    by : (b : Bool) → same_key (key row) k ≡ b → row_at key k (with_row key row rows) ≡ Some r
    by true e = absurd (none-some r (sym (subst (λ j. row_at key j rows ≡ None) (same (key row) k e) new) ∙ found))
    by false e = laws.other row k rows e ∙ found

pub there_as : {X P : Type 0} (o : Option X) → IsSome o → ((x : X) → o ≡ Some x → P) → P
there_as None there use_it = absurd (false≢true there)
there_as (Some x) there use_it = use_it x refl

pub has_owner : (o : Option Head) (row : Head) → o ≡ Some row → IsSomeAnd o (λ now. now.owner ≡ row.owner)
has_owner o row e = subst (λ p. IsSomeAnd p (λ now. now.owner ≡ row.owner)) (sym e) refl

pub create_keeps : SameKeys → InsertLaws mailbox_key → (t after : TableRows) (owner : ℕ) (name : List ℕ) → Runs t (create_changes t owner name) after → KeepsOwners t after
create_keeps same laws t after owner name runs = subst (KeepsOwners t) runs.1.1 (record {
  users = λ id there. there;
  mailboxes = λ id row found. has_owner _ row (insert_keeps same mailbox_key laws (new_mailbox t owner name) row (number_key id) t.heads.mailboxes runs.0.1 found);
})

pub add_user_keeps : SameKeys → InsertLaws user_key → InsertLaws mailbox_key → (t after : TableRows) (name verifier : List ℕ) → Runs t (add_user_changes t name verifier) after → KeepsOwners t after
add_user_keeps same users laws t after name verifier runs = subst (KeepsOwners t) runs.1.1.1 (record {
  users = λ id there. there_as (row_at user_key (number_key id) t.heads.users) there (λ user found. ap is_some (insert_keeps same user_key users (new_user t name verifier) user (number_key id) t.heads.users runs.0.1 found));
  mailboxes = λ id row found. has_owner _ row (insert_keeps same mailbox_key laws (new_mailbox t (length t.heads.users + 1) inbox) row (number_key id) t.heads.mailboxes runs.1.0.1 found);
})

-- ---- a row that is replaced, and one that is removed

pub record Replaces : Type 0 where
  pub same : (row : Head) (rows : List Head) → IsSome (row_at mailbox_key (mailbox_key row) rows) → row_at mailbox_key (mailbox_key row) (with_replaced mailbox_key row rows) ≡ Some row
  pub other : (row : Head) (k : RowKey) (rows : List Head) → same_key (mailbox_key row) k ≡ false → row_at mailbox_key k (with_replaced mailbox_key row rows) ≡ row_at mailbox_key k rows

pub replaced_owner : SameKeys → Replaces → (rows : List Head) (id : ℕ) (row new : Head) → new.id ≡ id → new.owner ≡ row.owner → row_at mailbox_key (number_key id) rows ≡ Some row
    → (other : ℕ) (r : Head) → row_at mailbox_key (number_key other) rows ≡ Some r → IsSomeAnd (row_at mailbox_key (number_key other) (with_replaced mailbox_key new rows)) (λ now. now.owner ≡ r.owner)
replaced_owner same laws rows id row new is owner found other r at = by (same_key (mailbox_key new) (number_key other)) refl
  where
    has : (o : Option Head) → o ≡ Some new → new.owner ≡ r.owner → IsSomeAnd o (λ now. now.owner ≡ r.owner)
    has o e its = subst (λ p. IsSomeAnd p (λ now. now.owner ≡ r.owner)) (sym e) its

    itself : row_at mailbox_key (mailbox_key new) rows ≡ Some row
    itself = ap (λ n. row_at mailbox_key (number_key n) rows) is ∙ found

    by : (b : Bool) → same_key (mailbox_key new) (number_key other) ≡ b → IsSomeAnd (row_at mailbox_key (number_key other) (with_replaced mailbox_key new rows)) (λ now. now.owner ≡ r.owner)
    by true e =
        let k = same (mailbox_key new) (number_key other) e in
        has _ (ap (λ j. row_at mailbox_key j (with_replaced mailbox_key new rows)) (sym k) ∙ laws.same new rows (ap is_some itself))
        (owner ∙ ap (λ h. h.owner) (same_Some row r (sym itself ∙ (ap (λ j. row_at mailbox_key j rows) k ∙ at))))
    by false e = has_owner _ r (laws.other new (number_key other) rows e ∙ at)

pub recents_keep : SameKeys → Replaces → (t after : TableRows) (id : ℕ) (row : Head) → row_at mailbox_key (number_key id) t.heads.mailboxes ≡ Some row → Runs t (recents_changes row) after → KeepsOwners t after
recents_keep same laws t after id row found runs = subst (KeepsOwners t) runs.1 (record {
  users = λ other there. there;
  mailboxes = replaced_owner same laws t.heads.mailboxes id row (record row { first_recent = row.uidnext }) (number_is (λ r. r.id) id t.heads.mailboxes row found) refl found;
})

pub delete_keeps : ((k other : RowKey) (rows : List Head) → same_key k other ≡ false → row_at mailbox_key other (without mailbox_key k rows) ≡ row_at mailbox_key other rows)
    → (t after : TableRows) (row : Head) → Runs t (delete_changes row) after → KeepsOthers row.id t after
delete_keeps laws t after row runs = subst (KeepsOthers row.id t) runs.1 (record {
  users = refl;
  mailboxes = λ other differs. laws (number_key row.id) (number_key other) t.heads.mailboxes differs;
})
