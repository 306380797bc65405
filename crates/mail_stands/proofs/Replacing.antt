-- Rows of mailboxes that are replaced one after another, each with its id and its owner.
use Rattle.std.proofs.Common.{◌≡◌, ◌==◌, Bool, true, false, cond, List, [], ◌∷◌, map, Option, Some, None, refl, sym, ap, subst, ◌∙◌}
use Rattle.std.specs.Prelude.{IsSome, IsSomeAnd, is_some, if◌then◌else◌, ◌||◌}
use Rattle.std.specs.List.{AllByRecursion, list_any}
use Rattle.std.proofs.lemmas.Bool.{eqb-true}
use Rattle.ordered_rows.specs.RowKey.{number_key}
use Rattle.ordered_rows.specs.Listed.{row_at, has_key, with_replaced}
use Rattle.row_tables.specs.Keys.{mailbox_key}
use Rattle.row_tables.specs.TableRows.{TableRows}
use Rattle.row_tables.specs.References.{HasUser}
use Rattle.row_tables.specs.Fits.{IsText, Runs}
use Rattle.row_tables.specs.declared.heads.Mailbox.{Mailbox as Head}
use Rattle.row_tables.specs.declared.change.RowChange.{RowChange}
use Rattle.row_tables.specs.declared.change.RowChange.TheVariants.{UpdateMailbox}
use Rattle.mail_stands.specs.Leading.{KeepsOwners}
use Rattle.mail_stands.proofs.Lists.{all-weaker}
use Rattle.mail_stands.proofs.Heading.{with_head}
use Rattle.mail_stands.proofs.Owners.{SameKeys, Replaces, replaced_owner}

-- ---- owners

some_and : {X Q : Type 0} (P : X → Type 0) (o : Option X) → IsSomeAnd o P → ((x : X) → o ≡ Some x → P x → Q) → Q
some_and P None is use_it = absurd is
some_and P (Some x) is use_it = use_it x refl is

-- the row that has the id has the owner too
abbrev pub IsOwnedAs : TableRows → Head → Type 0
IsOwnedAs t new = IsSomeAnd (row_at mailbox_key (number_key new.id) t.heads.mailboxes) (λ now. now.owner ≡ new.owner)

pub keeps_all : (t : TableRows) → KeepsOwners t t
keeps_all t = record { users = λ id there. there; mailboxes = λ id row found. subst (λ o. IsSomeAnd o (λ now. now.owner ≡ row.owner)) (sym found) refl }

still_owned : (t after : TableRows) (new : Head) → KeepsOwners t after → IsOwnedAs t new → IsOwnedAs after new
still_owned t after new keeps owned =
    some_and (λ now. now.owner ≡ new.owner) (row_at mailbox_key (number_key new.id) t.heads.mailboxes) owned
    (λ row found owner. subst (λ o. IsSomeAnd (row_at mailbox_key (number_key new.id) after.heads.mailboxes) (λ now. now.owner ≡ o)) owner (keeps.mailboxes new.id row found))

pub keeps_both : (t middle after : TableRows) → KeepsOwners t middle → KeepsOwners middle after → KeepsOwners t after
keeps_both t middle after first second = record {
  users = λ id there. second.users id (first.users id there);
  mailboxes = λ id row found.
      some_and (λ now. now.owner ≡ row.owner) (row_at mailbox_key (number_key id) middle.heads.mailboxes) (first.mailboxes id row found)
      (λ now at owner. subst (λ o. IsSomeAnd (row_at mailbox_key (number_key id) after.heads.mailboxes) (λ last. last.owner ≡ o)) owner (second.mailboxes id now at));
}

-- ---- one after another

-- A row can take the place of the one that has its id.
pub record CanReplace (t : TableRows) (new : Head) : Type 0 where
  pub text : IsText new.name
  pub owned : IsOwnedAs t new
  pub user : HasUser t new.owner

abbrev pub replacings : (Head → Head) → List Head → List RowChange
replacings f rows = map (λ row. UpdateMailbox (f row)) rows

-- what becomes of a row
abbrev pub replaced_by : (Head → Head) → List Head → Head → Head
replaced_by f [] row = row
replaced_by f (one ∷ rows) row = replaced_by f rows (if has_key mailbox_key (mailbox_key (f one)) row then f one else row)

abbrev pub with_heads : TableRows → (Head → Head) → List Head → TableRows
with_heads t f rows = record t { heads = record t.heads { mailboxes = map (replaced_by f rows) t.heads.mailboxes } }

replaced_none : (f : Head → Head) (heads : List Head) → map (replaced_by f []) heads ≡ heads
replaced_none f [] = refl
replaced_none f (head ∷ heads) = ap (λ hs. head ∷ hs) (replaced_none f heads)

replaced_more : (f : Head → Head) (one : Head) (rows heads : List Head) → map (replaced_by f rows) (with_replaced mailbox_key (f one) heads) ≡ map (replaced_by f (one ∷ rows)) heads
replaced_more f one rows [] = refl
replaced_more f one rows (head ∷ heads) = ap (λ hs. replaced_by f (one ∷ rows) head ∷ hs) (replaced_more f one rows heads)

module _ (same : SameKeys) (laws : Replaces) (f : Head → Head) where
  one_keeps : (t : TableRows) (new : Head) → IsOwnedAs t new → KeepsOwners t (with_head t new)
  one_keeps t new owned =
      some_and (λ now. now.owner ≡ new.owner) (row_at mailbox_key (number_key new.id) t.heads.mailboxes) owned
      (λ row found owner. record { users = λ id there. there; mailboxes = replaced_owner same laws t.heads.mailboxes new.id row new refl (sym owner) found })

  owned_on : (t : TableRows) (one : Head) (rows : List Head) → IsOwnedAs t (f one) → AllByRecursion (λ row. IsOwnedAs t (f row)) rows → AllByRecursion (λ row. IsOwnedAs (with_head t (f one)) (f row)) rows
  owned_on t one rows owned all = all-weaker (λ row. IsOwnedAs t (f row)) (λ row. IsOwnedAs (with_head t (f one)) (f row)) (λ row is. still_owned t (with_head t (f one)) (f row) (one_keeps t (f one) owned) is) rows all

  pub replacings_keep : (t after : TableRows) (rows : List Head) → AllByRecursion (λ row. IsOwnedAs t (f row)) rows → Runs t (replacings f rows) after → KeepsOwners t after
  replacings_keep t after [] all runs = subst (KeepsOwners t) runs (keeps_all t)
  replacings_keep t after (one ∷ rows) all runs =
      keeps_both t (with_head t (f one)) after (one_keeps t (f one) all.0) (replacings_keep (with_head t (f one)) after rows (owned_on t one rows all.0 all.1) runs.1)

  is_there : (t : TableRows) (new : Head) → IsOwnedAs t new → IsSome (row_at mailbox_key (mailbox_key new) t.heads.mailboxes)
  is_there t new owned = some_and (λ now. now.owner ≡ new.owner) (row_at mailbox_key (number_key new.id) t.heads.mailboxes) owned (λ row found owner. ap is_some found)

  still : (t : TableRows) (one new : Head) → IsOwnedAs t one → CanReplace t new → CanReplace (with_head t one) new
  still t one new owned can = record { text = can.text; owned = still_owned t (with_head t one) new (one_keeps t one owned) can.owned; user = can.user }

  pub replacings_run : (t : TableRows) (rows : List Head) → AllByRecursion (λ row. CanReplace t (f row)) rows → Runs t (replacings f rows) (with_heads t f rows)
  replacings_run t [] all = ap (λ hs. record t { heads = record t.heads { mailboxes = hs } }) (sym (replaced_none f t.heads.mailboxes))
  replacings_run t (one ∷ rows) all = (
    (all.0.text, is_there t (f one) all.0.owned, all.0.user),
    subst (λ hs. Runs (with_head t (f one)) (replacings f rows) (record t { heads = record t.heads { mailboxes = hs } })) (replaced_more f one rows t.heads.mailboxes)
        (replacings_run (with_head t (f one)) rows (all-weaker (λ row. CanReplace t (f row)) (λ row. CanReplace (with_head t (f one)) (f row)) (λ row can. still t (f one) (f row) all.0.owned can) rows all.1)),
  )

-- ---- what becomes of a row, where each replaced row with its id is that row

module _ (f : Head → Head) (ids : (row : Head) → (f row).id ≡ row.id) where
  same_key_is : (one row : Head) → has_key mailbox_key (mailbox_key (f one)) row ≡ (row.id == one.id)
  same_key_is one row = ap (λ n. row.id == n) (ids one)

  stays_new : (row : Head) (rows : List Head) → AllByRecursion (λ one. row.id ≡ one.id → one ≡ row) rows → replaced_by f rows (f row) ≡ f row
  stays_new row [] all = refl
  stays_new row (one ∷ rows) all = by (has_key mailbox_key (mailbox_key (f one)) (f row)) refl (stays_new row rows all.1)
    where
      by : (b : Bool) → has_key mailbox_key (mailbox_key (f one)) (f row) ≡ b → replaced_by f rows (f row) ≡ f row → replaced_by f rows (cond b (f one) (f row)) ≡ f row
      by true e rest =
          let same = sym (ids row) ∙ (eqb-true (f row).id (f one).id e ∙ ids one) in
          subst (λ r. replaced_by f rows (f r) ≡ f row) (sym (all.0 same)) rest
      by false e rest = rest

  pub replaced_as : (row : Head) (rows : List Head) → AllByRecursion (λ one. row.id ≡ one.id → one ≡ row) rows → replaced_by f rows row ≡ cond (list_any (λ one. row.id == one.id) rows) (f row) row
  replaced_as row [] all = refl
  replaced_as row (one ∷ rows) all = ap (λ b. replaced_by f rows (cond b (f one) row)) (same_key_is one row) ∙ by (row.id == one.id) refl (replaced_as row rows all.1)
    where
      by : (b : Bool) → (row.id == one.id) ≡ b → replaced_by f rows row ≡ cond (list_any (λ x. row.id == x.id) rows) (f row) row
          → replaced_by f rows (cond b (f one) row) ≡ cond (b || list_any (λ x. row.id == x.id) rows) (f row) row
      by true e rest = subst (λ r. replaced_by f rows (f r) ≡ f row) (sym (all.0 (eqb-true row.id one.id e))) (stays_new row rows all.1)
      by false e rest = rest
