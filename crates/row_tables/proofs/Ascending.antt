-- The UIDs of a mailbox ascend.
use Rattle.std.proofs.Common.{◌≡◌, ℕ, Bool, true, false, cond, ◌==◌, List, [], ◌∷◌, map, refl, sym, ap, ◌∙◌, subst}
use borrow.Author.Tests.{eqb-true}
use Rattle.std.specs.declared.cmp.Ordering.{Ordering}
use Rattle.std.specs.declared.cmp.Ordering.TheVariants.{Less, Equal, Greater}
use Rattle.std.specs.Ordering.{nat_cmp, ordering_then}
use Rattle.std.specs.Cmp.{tied_itself, nat_cmp_total}
use Rattle.std.specs.List.{AllByRecursion, filter}
use Rattle.std.specs.List.Sorted.{IsStrictlySortedBy}
use Rattle.ordered_rows.specs.RowKey.{key_cmp}
use Rattle.ordered_rows.specs.Listed.{row_cmp, IsInOrder}
use Rattle.row_tables.specs.Keys.{uid_key, mailbox_message_key}
use Rattle.row_tables.specs.References.{uids_of}
use Rattle.row_tables.specs.declared.marks.MailboxMessage.{MailboxMessage}

ends_equal : (r : Ordering) → ordering_then r Equal ≡ Less → r ≡ Less
ends_equal Less e = refl
ends_equal Equal e = e
ends_equal Greater e = e

uids_less : (m u v : ℕ) → key_cmp (uid_key m u) (uid_key m v) ≡ Less → nat_cmp u v ≡ Less
uids_less m u v e =
    ends_equal (nat_cmp u v)
    (sym (ap (λ r. ordering_then (ordering_then (ordering_then (ordering_then (ordering_then r Equal) Equal) Equal) (nat_cmp u v)) Equal) (tied_itself nat_cmp_total m)) ∙ e)

module _ (m : ℕ) where
  abbrev here : MailboxMessage → Bool
  here = λ r. r.mailbox == m

  each_less : (x : MailboxMessage) → x.mailbox ≡ m → (ys : List MailboxMessage) → AllByRecursion (λ y. row_cmp mailbox_message_key x y ≡ Less) ys → AllByRecursion (λ u. nat_cmp x.uid u ≡ Less) (map (λ r. r.uid) (filter here ys))
  each_less x at [] h = tt
  each_less x at (y ∷ ys) h = by (here y) refl (each_less x at ys h.1)
    where
      by : (b : Bool) → here y ≡ b → AllByRecursion (λ u. nat_cmp x.uid u ≡ Less) (map (λ r. r.uid) (filter here ys)) → AllByRecursion (λ u. nat_cmp x.uid u ≡ Less) (map (λ r. r.uid) (cond b (y ∷ filter here ys) (filter here ys)))
      by true q rest =
          let first = subst (λ n. key_cmp (uid_key n x.uid) (uid_key y.mailbox y.uid) ≡ Less) at h.0 in
          (uids_less m x.uid y.uid (subst (λ n. key_cmp (uid_key m x.uid) (uid_key n y.uid) ≡ Less) (eqb-true y.mailbox m q) first), rest)
      by false q rest = rest

  pub uids_ascend : (rows : List MailboxMessage) → IsInOrder mailbox_message_key rows → IsStrictlySortedBy nat_cmp (uids_of m rows)
  unfolding IsStrictlySortedBy
  uids_ascend [] order = tt
  uids_ascend (x ∷ rows) order = by (here x) refl (uids_ascend rows order.1)
    where
      by : (b : Bool) → here x ≡ b → IsStrictlySortedBy nat_cmp (uids_of m rows) → IsStrictlySortedBy nat_cmp (map (λ r. r.uid) (cond b (x ∷ filter here rows) (filter here rows)))
      by true q rest = (each_less x (eqb-true x.mailbox m q) rows order.0, rest)
      by false q rest = rest
