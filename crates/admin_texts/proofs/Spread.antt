-- The messages of the mailboxes, one mailbox after the other, are all messages of mailboxes.
use Rattle.std.proofs.Common.{◌≡◌, ℕ, ◌<◌, ◌≤◌, Bool, true, false, not, cond, ◌==◌, nat_lt, List, [], ◌∷◌, ◌++◌, map, Option, Some, None, IsSome, refl, sym, ap, ◌∙◌, subst, append_assoc, arith}
use Rattle.std.specs.Prelude.{flat_map}
use mathlib.Core.Bool.{true≢false}
use borrow.Author.Tests.{eqb-true, eq-eqb, ltb-true, ltb-false}
use Rattle.std.specs.declared.cmp.Ordering.{Ordering}
use Rattle.std.specs.declared.cmp.Ordering.TheVariants.{Less, Equal, Greater}
use Rattle.std.specs.Ordering.{nat_cmp, ordering_then}
use Rattle.std.specs.List.{AllByRecursion, filter, find}
use Rattle.std.specs.List.Sorted.{IsStrictlySortedBy}
use Rattle.std.proofs.lemmas.List.Kept.{IsStrictlySortedBy-filter}
use Rattle.std.proofs.lemmas.Grind.{flat_map-append}
use Rattle.std.specs.Cmp.Lexicographic.{slice_cmp}
use Rattle.ordered_rows.specs.RowKey.{RowKey, key_cmp, number_key}
use Rattle.ordered_rows.specs.Listed.{row_cmp, IsInOrder, row_at}
use Rattle.row_tables.specs.Keys.{uid_key, mailbox_key, mailbox_message_key}
use Rattle.row_tables.specs.TableRows.{TableRows}
use Rattle.row_tables.specs.References.{AreOrdered, AreClosed, MailboxMessageRefers}
use Rattle.row_tables.specs.declared.heads.Mailbox.{Mailbox}
use Rattle.row_tables.specs.declared.marks.MailboxMessage.{MailboxMessage}
use Rattle.admin_texts.specs.Listing.{mailbox_message_line}
use Rattle.admin_texts.specs.Mailboxes.{line_if_any, lines_at, lines_of}

abbrev line : MailboxMessage → List ℕ
line = mailbox_message_line

abbrev of_mailbox : ℕ → MailboxMessage → Bool
of_mailbox m r = r.mailbox == m

-- ---- one mailbox

module _ (all : List MailboxMessage) (m : ℕ) where
  one_by_one : (rows : List MailboxMessage) → AllByRecursion (λ r. row_at mailbox_message_key (mailbox_message_key r) all ≡ Some r) rows
      → flat_map (lines_at all m) (map (λ (r : MailboxMessage). r.uid) (filter (of_mailbox m) rows)) ≡ flat_map line (filter (of_mailbox m) rows)
  one_by_one [] at = refl
  one_by_one (x ∷ rows) at = by (of_mailbox m x) refl (one_by_one rows at.1)
    where
      by : (b : Bool) → of_mailbox m x ≡ b → flat_map (lines_at all m) (map (λ (r : MailboxMessage). r.uid) (filter (of_mailbox m) rows)) ≡ flat_map line (filter (of_mailbox m) rows)
          → flat_map (lines_at all m) (map (λ (r : MailboxMessage). r.uid) (cond b (x ∷ filter (of_mailbox m) rows) (filter (of_mailbox m) rows))) ≡ flat_map line (cond b (x ∷ filter (of_mailbox m) rows) (filter (of_mailbox m) rows))
      by true e rest =
          let here = subst (λ n. row_at mailbox_message_key (uid_key n x.uid) all ≡ Some x) (eqb-true x.mailbox m e) at.0 in
          ap (λ o. line_if_any o ++ flat_map (lines_at all m) (map (λ (r : MailboxMessage). r.uid) (filter (of_mailbox m) rows))) here ∙ ap (λ l. line x ++ l) rest
      by false e rest = rest

-- ---- the order by mailboxes

less_number : (a b : RowKey) → key_cmp a b ≡ Less → a.number ≤ b.number
less_number a b e = by (nat_lt a.number b.number) (a.number == b.number) refl refl
  where
    by : (s t : Bool) → nat_lt a.number b.number ≡ s → (a.number == b.number) ≡ t → a.number ≤ b.number
    by true t p q = omega (arith, ltb-true a.number b.number p)
    by false true p q = omega (arith, eqb-true a.number b.number q)
    by false false p q =
        let greater : nat_cmp a.number b.number ≡ Greater = ap (λ s. cond s Less (cond (a.number == b.number) Equal Greater)) p ∙ ap (λ t. cond t Equal Greater) q in
        let not_less : Greater ≡ Less = sym (ap (λ r. ordering_then (ordering_then (ordering_then (ordering_then (ordering_then r (slice_cmp nat_cmp a.text b.text)) (slice_cmp nat_cmp a.second b.second)) (slice_cmp nat_cmp a.third b.third)) (nat_cmp a.place b.place)) (nat_cmp a.item b.item)) greater) ∙ e in
        absurd cc

ids_less : (a b : ℕ) → key_cmp (number_key a) (number_key b) ≡ Less → a < b
ids_less a b e = by (nat_lt a b) (a == b) refl refl
  where
    by : (s t : Bool) → nat_lt a b ≡ s → (a == b) ≡ t → a < b
    by true t p q = ltb-true a b p
    by false true p q =
        let equal : Equal ≡ Less = sym (ap (λ s. ordering_then (ordering_then (ordering_then (ordering_then (ordering_then (cond s Less (cond (a == b) Equal Greater)) Equal) Equal) Equal) Equal) Equal) p ∙ ap (λ t. ordering_then (ordering_then (ordering_then (ordering_then (ordering_then (cond t Equal Greater) Equal) Equal) Equal) Equal) Equal) q) ∙ e in
        absurd cc
    by false false p q =
        let greater : Greater ≡ Less = sym (ap (λ s. ordering_then (ordering_then (ordering_then (ordering_then (ordering_then (cond s Less (cond (a == b) Equal Greater)) Equal) Equal) Equal) Equal) Equal) p ∙ ap (λ t. ordering_then (ordering_then (ordering_then (ordering_then (ordering_then (cond t Equal Greater) Equal) Equal) Equal) Equal) Equal) q) ∙ e in
        absurd cc

differ : (a b : ℕ) → (a ≡ b → ⊥) → (a == b) ≡ false
differ a b n = by (a == b) refl
  where
    by : (t : Bool) → (a == b) ≡ t → t ≡ false
    by true e = absurd (n (eqb-true a b e))
    by false e = refl

not_equal : (a b : ℕ) → (a == b) ≡ false → a ≡ b → ⊥
not_equal a b e q = true≢false (sym (eq-eqb a b q) ∙ e)

-- a mailbox of the list has the message
abbrev IsAmong : List Mailbox → MailboxMessage → Type 0
IsAmong mailboxes r = IsSome (row_at mailbox_key (number_key r.mailbox) mailboxes)

-- the mailboxes of a list in order, and the messages of these alone
module _ (b : Mailbox) (bs : List Mailbox) (less : AllByRecursion (λ c. row_cmp mailbox_key b c ≡ Less) bs) where
  found_less : (n : ℕ) (cs : List Mailbox) → AllByRecursion (λ c. row_cmp mailbox_key b c ≡ Less) cs → IsSome (row_at mailbox_key (number_key n) cs) → b.id < n
  found_less n [] h some = absurd (true≢false (sym some))
  found_less n (c ∷ cs) h some = by (c.id == n) refl some (λ q. found_less n cs h.1 q)
    where
      by : (t : Bool) → (c.id == n) ≡ t → IsSome (cond t (Some c) (row_at mailbox_key (number_key n) cs)) → (IsSome (row_at mailbox_key (number_key n) cs) → b.id < n) → b.id < n
      by true e some rest = subst (λ k. b.id < k) (eqb-true c.id n e) (ids_less b.id c.id h.0)
      by false e some rest = rest some

  least : (r : MailboxMessage) → IsAmong (b ∷ bs) r → b.id ≤ r.mailbox
  least r among = by (b.id == r.mailbox) refl among
    where
      by : (t : Bool) → (b.id == r.mailbox) ≡ t → IsSome (cond t (Some b) (row_at mailbox_key (number_key r.mailbox) bs)) → b.id ≤ r.mailbox
      by true e some = omega (arith, eqb-true b.id r.mailbox e)
      by false e some = omega (arith, found_less r.mailbox bs less some)

  -- messages behind one of a later mailbox
  none_here : (r : MailboxMessage) → b.id < r.mailbox → (rows : List MailboxMessage) → AllByRecursion (λ y. row_cmp mailbox_message_key r y ≡ Less) rows → (filter (of_mailbox b.id) rows ≡ []) × (filter (λ x. not (of_mailbox b.id x)) rows ≡ rows)
  none_here r lt [] h = (refl, refl)
  none_here r lt (y ∷ rows) h =
      let out : of_mailbox b.id y ≡ false = differ y.mailbox b.id (λ e. absurd (omega (arith, less_number (mailbox_message_key r) (mailbox_message_key y) h.0, lt, e))) in
      let rest = none_here r lt rows h.1 in (
        ap (λ t. cond t (y ∷ filter (of_mailbox b.id) rows) (filter (of_mailbox b.id) rows)) out ∙ rest.0,
        ap (λ t. cond (not t) (y ∷ filter (λ x. not (of_mailbox b.id x)) rows) (filter (λ x. not (of_mailbox b.id x)) rows)) out ∙ ap (λ l. y ∷ l) rest.1,
      )

  first_come_first : (rows : List MailboxMessage) → IsInOrder mailbox_message_key rows → AllByRecursion (IsAmong (b ∷ bs)) rows → rows ≡ filter (of_mailbox b.id) rows ++ filter (λ x. not (of_mailbox b.id x)) rows
  unfolding IsStrictlySortedBy
  first_come_first [] order among = refl
  first_come_first (r ∷ rows) order among = by (of_mailbox b.id r) refl (first_come_first rows order.1 among.1)
    where
      by : (t : Bool) → of_mailbox b.id r ≡ t → rows ≡ filter (of_mailbox b.id) rows ++ filter (λ x. not (of_mailbox b.id x)) rows → r ∷ rows ≡ cond t (r ∷ filter (of_mailbox b.id) rows) (filter (of_mailbox b.id) rows) ++ cond (not t) (r ∷ filter (λ x. not (of_mailbox b.id x)) rows) (filter (λ x. not (of_mailbox b.id x)) rows)
      by true e rest = ap (λ l. r ∷ l) rest
      by false e rest =
          let above : b.id < r.mailbox = at_least_above (least r among.0) (not_equal r.mailbox b.id e) in
          let none = none_here r above rows order.0 in
          ap (λ l. r ∷ l) (sym none.1) ∙ ap (λ l. l ++ r ∷ filter (λ x. not (of_mailbox b.id x)) rows) (sym none.0)
        where
          at_least_above : b.id ≤ r.mailbox → (r.mailbox ≡ b.id → ⊥) → b.id < r.mailbox
          at_least_above le n = by_less (nat_lt b.id r.mailbox) refl
            where
              by_less : (s : Bool) → nat_lt b.id r.mailbox ≡ s → b.id < r.mailbox
              by_less true q = ltb-true b.id r.mailbox q
              by_less false q = absurd (n (omega (arith, ltb-false b.id r.mailbox q, le)))

  -- those of the other mailboxes
  others_among : (rows : List MailboxMessage) → AllByRecursion (IsAmong (b ∷ bs)) rows → AllByRecursion (IsAmong bs) (filter (λ x. not (of_mailbox b.id x)) rows)
  others_among [] among = tt
  others_among (r ∷ rows) among = by (of_mailbox b.id r) refl (others_among rows among.1)
    where
      by : (t : Bool) → of_mailbox b.id r ≡ t → AllByRecursion (IsAmong bs) (filter (λ x. not (of_mailbox b.id x)) rows) → AllByRecursion (IsAmong bs) (cond (not t) (r ∷ filter (λ x. not (of_mailbox b.id x)) rows) (filter (λ x. not (of_mailbox b.id x)) rows))
      by true e rest = rest
      by false e rest = (subst (λ t. IsSome (cond t (Some b) (row_at mailbox_key (number_key r.mailbox) bs))) (differ b.id r.mailbox (λ q. not_equal r.mailbox b.id e (sym q))) among.0, rest)

  other_lines : (rows : List MailboxMessage) (c : Mailbox) → row_cmp mailbox_key b c ≡ Less → filter (of_mailbox c.id) (filter (λ x. not (of_mailbox b.id x)) rows) ≡ filter (of_mailbox c.id) rows
  other_lines [] c h = refl
  other_lines (r ∷ rows) c h = by (of_mailbox b.id r) (of_mailbox c.id r) refl refl (other_lines rows c h)
    where
      by : (s t : Bool) → of_mailbox b.id r ≡ s → of_mailbox c.id r ≡ t → filter (of_mailbox c.id) (filter (λ x. not (of_mailbox b.id x)) rows) ≡ filter (of_mailbox c.id) rows
          → filter (of_mailbox c.id) (cond (not s) (r ∷ filter (λ x. not (of_mailbox b.id x)) rows) (filter (λ x. not (of_mailbox b.id x)) rows)) ≡ cond t (r ∷ filter (of_mailbox c.id) rows) (filter (of_mailbox c.id) rows)
      by true true e q same = absurd (omega (arith, eqb-true r.mailbox b.id e, eqb-true r.mailbox c.id q, ids_less b.id c.id h))
      by true false e q same = same
      by false true e q same = ap (λ t. cond t (r ∷ filter (of_mailbox c.id) (filter (λ x. not (of_mailbox b.id x)) rows)) (filter (of_mailbox c.id) (filter (λ x. not (of_mailbox b.id x)) rows))) q ∙ ap (λ l. r ∷ l) same
      by false false e q same = ap (λ t. cond t (r ∷ filter (of_mailbox c.id) (filter (λ x. not (of_mailbox b.id x)) rows)) (filter (of_mailbox c.id) (filter (λ x. not (of_mailbox b.id x)) rows))) q ∙ same

  all_others : (rows : List MailboxMessage) (cs : List Mailbox) → AllByRecursion (λ c. row_cmp mailbox_key b c ≡ Less) cs
      → flat_map (λ (c : Mailbox). flat_map line (filter (of_mailbox c.id) rows)) cs ≡ flat_map (λ (c : Mailbox). flat_map line (filter (of_mailbox c.id) (filter (λ x. not (of_mailbox b.id x)) rows))) cs
  all_others rows [] h = refl
  all_others rows (c ∷ cs) h =
      ap (λ l. flat_map line l ++ flat_map (λ (d : Mailbox). flat_map line (filter (of_mailbox d.id) rows)) cs) (sym (other_lines rows c h.0))
      ∙ ap (λ l. flat_map line (filter (of_mailbox c.id) (filter (λ x. not (of_mailbox b.id x)) rows)) ++ l) (all_others rows cs h.1)

by_mailboxes : (bs : List Mailbox) → IsInOrder mailbox_key bs → (rows : List MailboxMessage) → IsInOrder mailbox_message_key rows → AllByRecursion (IsAmong bs) rows → flat_map (λ (b : Mailbox). flat_map line (filter (of_mailbox b.id) rows)) bs ≡ flat_map line rows
unfolding IsStrictlySortedBy
by_mailboxes [] in_order [] order among = refl
by_mailboxes [] in_order (r ∷ rows) order among = absurd (true≢false (sym among.0))
by_mailboxes (b ∷ bs) in_order rows order among =
    let here = filter (of_mailbox b.id) rows in
    let rest = filter (λ x. not (of_mailbox b.id x)) rows in
    ap (λ l. flat_map line here ++ l) (all_others b bs in_order.0 rows bs in_order.0 ∙ by_mailboxes bs in_order.1 rest (IsStrictlySortedBy-filter (row_cmp mailbox_message_key) (λ x. not (of_mailbox b.id x)) rows order) (others_among b bs in_order.0 rows among))
    ∙ sym (flat_map-append line here rest) ∙ ap (flat_map line) (sym (first_come_first b bs in_order.0 rows order among))

pub all_lines : (t : TableRows) → AreOrdered t → AreClosed t → AllByRecursion (λ r. row_at mailbox_message_key (mailbox_message_key r) t.marks.mailbox_messages ≡ Some r) t.marks.mailbox_messages
    → flat_map (λ (b : Mailbox). lines_of t.marks.mailbox_messages b.id) t.heads.mailboxes ≡ flat_map mailbox_message_line t.marks.mailbox_messages
all_lines t ordered closed at = each t.heads.mailboxes ∙ by_mailboxes t.heads.mailboxes ordered.mailboxes t.marks.mailbox_messages ordered.mailbox_messages (among t.marks.mailbox_messages closed.mailbox_messages)
  where
    among : (xs : List MailboxMessage) → AllByRecursion (MailboxMessageRefers t) xs → AllByRecursion (IsAmong t.heads.mailboxes) xs
    among [] h = tt
    among (x ∷ xs) h = (h.0.0, among xs h.1)

    each : (cs : List Mailbox) → flat_map (λ (b : Mailbox). lines_of t.marks.mailbox_messages b.id) cs ≡ flat_map (λ (b : Mailbox). flat_map line (filter (of_mailbox b.id) t.marks.mailbox_messages)) cs
    each [] = refl
    each (c ∷ cs) = ap (λ l. l ++ flat_map (λ (b : Mailbox). lines_of t.marks.mailbox_messages b.id) cs) (one_by_one t.marks.mailbox_messages c.id t.marks.mailbox_messages at) ∙ ap (λ l. flat_map line (filter (of_mailbox c.id) t.marks.mailbox_messages) ++ l) (each cs)
