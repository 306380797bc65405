-- Rows no two of which have one key.
use Rattle.std.proofs.Common.{ℕ, ◌≡◌, ◌+◌, ◌≤◌, ◌==◌, Bool, true, false, cond, List, [], ◌∷◌, ◌++◌, map, refl, sym, ap, subst, ◌∙◌, arith}
use Rattle.std.specs.Prelude.{◌&&◌}
use Rattle.std.specs.List.{AllByRecursion, filter}
use Rattle.std.specs.List.Sorted.{IsStrictlySortedBy}
use Rattle.std.specs.Ordering.{is_lt}
use Rattle.std.specs.declared.cmp.Ordering.TheVariants.{Less}
use Rattle.std.proofs.lemmas.Bool.{true≢false, and_left, and_right, and_parts, eqb-true, eq-eqb, ne_eqb, le-ltb}
use Rattle.ordered_rows.specs.RowKey.{RowKey, key_cmp, same_key}
use Rattle.ordered_rows.specs.Listed.{IsInOrder, row_cmp}
use Rattle.row_tables.specs.Keys.{uid_key, uid_flag_key, flag_key, mailbox_message_key}
use Rattle.row_tables.specs.References.{flags_at}
use Rattle.row_tables.specs.declared.marks.MailboxMessage.{MailboxMessage}
use Rattle.row_tables.specs.declared.marks.FlagRow.{FlagRow}
use Rattle.mail_stands.specs.MovingInbox.{flag_ids_of, moved_flags, moved_rows}
use Rattle.mail_stands.proofs.Batches.{AreApart}
use Rattle.mail_stands.proofs.Counting.{Places}
use Rattle.mail_stands.proofs.Lists.{all-weaker, all-filter, all-append}
use Rattle.mail_stands.proofs.Owners.{SameKeys}

module _ {X : Type 0} (key : X → RowKey) where
  -- in order, no key comes twice
  not_less_itself : Places → (k : RowKey) → is_lt (key_cmp k k) ≡ false
  not_less_itself places k = places k k.place k.place ∙ le-ltb k.place k.place (omega arith)

  other_key : SameKeys → Places → (x y : X) → row_cmp key x y ≡ Less → same_key (key x) (key y) ≡ false
  other_key same places x y less = by (same_key (key x) (key y)) refl
    where
      by : (b : Bool) → same_key (key x) (key y) ≡ b → b ≡ false
      by false e = refl
      by true e =
          absurd (true≢false (sym (ap is_lt (subst (λ k. key_cmp (key x) k ≡ Less) (sym (same (key x) (key y) e)) less)) ∙ not_less_itself places (key x)))

  pub ordered_apart : SameKeys → Places → (rows : List X) → IsInOrder key rows → AreApart key rows
  unfolding IsStrictlySortedBy
  ordered_apart same places [] order = tt
  ordered_apart same places (x ∷ rows) order = (all-weaker (λ y. row_cmp key x y ≡ Less) (λ y. same_key (key x) (key y) ≡ false) (λ y less. other_key same places x y less) rows order.0, ordered_apart same places rows order.1)

  pub apart_filter : (q : X → Bool) (rows : List X) → AreApart key rows → AreApart key (filter q rows)
  apart_filter q [] apart = tt
  apart_filter q (x ∷ rows) apart = by (q x) (apart_filter q rows apart.1)
    where
      by : (b : Bool) → AreApart key (filter q rows) → AreApart key (cond b (x ∷ filter q rows) (filter q rows))
      by true rest = (all-filter (λ y. same_key (key x) (key y) ≡ false) q rows apart.0, rest)
      by false rest = rest

  pub apart_append : (xs ys : List X) → AreApart key xs → AreApart key ys → AllByRecursion (λ x. AllByRecursion (λ y. same_key (key x) (key y) ≡ false) ys) xs → AreApart key (xs ++ ys)
  apart_append [] ys first second cross = second
  apart_append (x ∷ xs) ys first second cross = (all-append (λ y. same_key (key x) (key y) ≡ false) xs ys first.0 cross.0, apart_append xs ys first.1 second cross.1)

-- ---- messages with ascending UIDs

rows_above : (id uid modseq : ℕ) (rows : List MailboxMessage) → AllByRecursion (λ row. uid ≤ row.uid) (moved_rows id uid modseq rows)
rows_above id uid modseq [] = tt
rows_above id uid modseq (row ∷ rows) = (omega arith, all-weaker (λ r. uid + 1 ≤ r.uid) (λ r. uid ≤ r.uid) (λ r le. omega (arith, le)) (moved_rows id (uid + 1) modseq rows) (rows_above id (uid + 1) modseq rows))

pub moved_apart : (id uid modseq : ℕ) (rows : List MailboxMessage) → AreApart mailbox_message_key (moved_rows id uid modseq rows)
moved_apart id uid modseq [] = tt
moved_apart id uid modseq (row ∷ rows) = (
  all-weaker (λ r. uid + 1 ≤ r.uid) (λ r. same_key (uid_key id uid) (mailbox_message_key r) ≡ false) (λ r le. and_left (uid == r.uid) (id == r.mailbox) (ne_eqb uid r.uid (λ same. omega (arith, same, le)))) (moved_rows id (uid + 1) modseq rows) (rows_above id (uid + 1) modseq rows),
  moved_apart id (uid + 1) modseq rows,
)

-- ---- their flags

abbrev pub flags_for : ℕ → ℕ → List ℕ → List FlagRow
flags_for id uid flags = map (λ flag. record { mailbox = id; uid = uid; flag = flag }) flags

flags_above : (id uid : ℕ) (flags : List FlagRow) (rows : List MailboxMessage) → AllByRecursion (λ row. uid ≤ row.uid) (moved_flags id uid flags rows)
flags_above id uid flags [] = tt
flags_above id uid flags (row ∷ rows) =
    all-append (λ r. uid ≤ r.uid) (flags_for id uid (flag_ids_of row flags)) (moved_flags id (uid + 1) flags rows) (own (flag_ids_of row flags))
    (all-weaker (λ r. uid + 1 ≤ r.uid) (λ r. uid ≤ r.uid) (λ r le. omega (arith, le)) (moved_flags id (uid + 1) flags rows) (flags_above id (uid + 1) flags rows))
  where
    own : (ids : List ℕ) → AllByRecursion (λ r. uid ≤ r.uid) (flags_for id uid ids)
    own [] = tt
    own (i ∷ ids) = (omega arith, own ids)

-- no flag comes twice among those of one message
ids_apart : (mailbox uid : ℕ) (flags : List FlagRow) → AreApart flag_key flags → AreApart (λ (i : ℕ). uid_flag_key mailbox uid i) (map (λ r. r.flag) (flags_at mailbox uid flags))
ids_apart mailbox uid [] apart = tt
ids_apart mailbox uid (x ∷ flags) apart = by ((x.uid == uid) && (x.mailbox == mailbox)) refl (ids_apart mailbox uid flags apart.1)
  where
    differs : (x.uid == uid) ≡ true → (x.mailbox == mailbox) ≡ true → (ys : List FlagRow) → AllByRecursion (λ y. same_key (flag_key x) (flag_key y) ≡ false) ys
        → AllByRecursion (λ i. same_key (uid_flag_key mailbox uid x.flag) (uid_flag_key mailbox uid i) ≡ false) (map (λ r. r.flag) (flags_at mailbox uid ys))
    differs here there [] all = tt
    differs here there (y ∷ ys) all = other ((y.uid == uid) && (y.mailbox == mailbox)) refl (differs here there ys all.1)
      where
        other : (b : Bool) → ((y.uid == uid) && (y.mailbox == mailbox)) ≡ b → AllByRecursion (λ i. same_key (uid_flag_key mailbox uid x.flag) (uid_flag_key mailbox uid i) ≡ false) (map (λ r. r.flag) (flags_at mailbox uid ys))
            → AllByRecursion (λ i. same_key (uid_flag_key mailbox uid x.flag) (uid_flag_key mailbox uid i) ≡ false) (map (λ r. r.flag) (cond b (y ∷ flags_at mailbox uid ys) (flags_at mailbox uid ys)))
        other false e rest = rest
        other true e rest =
            let both = and_parts (y.uid == uid) (y.mailbox == mailbox) e in
            let one = subst (λ m. same_key (uid_flag_key m x.uid x.flag) (flag_key y) ≡ false) (eqb-true x.mailbox mailbox there) all.0 in
            let two = subst (λ u. same_key (uid_flag_key mailbox u x.flag) (flag_key y) ≡ false) (eqb-true x.uid uid here) one in
            let three = subst (λ m. same_key (uid_flag_key mailbox uid x.flag) (uid_flag_key m y.uid y.flag) ≡ false) (eqb-true y.mailbox mailbox both.1) two in
            (subst (λ u. same_key (uid_flag_key mailbox uid x.flag) (uid_flag_key mailbox u y.flag) ≡ false) (eqb-true y.uid uid both.0) three, rest)

    by : (b : Bool) → ((x.uid == uid) && (x.mailbox == mailbox)) ≡ b → AreApart (λ (i : ℕ). uid_flag_key mailbox uid i) (map (λ r. r.flag) (flags_at mailbox uid flags))
        → AreApart (λ (i : ℕ). uid_flag_key mailbox uid i) (map (λ r. r.flag) (cond b (x ∷ flags_at mailbox uid flags) (flags_at mailbox uid flags)))
    by false e rest = rest
    by true e rest = let both = and_parts (x.uid == uid) (x.mailbox == mailbox) e in (differs both.0 both.1 flags apart.0, rest)

-- the same for another message
apart_for : (mailbox uid id place : ℕ) (ids : List ℕ) → AreApart (λ (i : ℕ). uid_flag_key mailbox uid i) ids → AreApart flag_key (flags_for id place ids)
apart_for mailbox uid id place [] apart = tt
apart_for mailbox uid id place (i ∷ ids) apart = (differ ids apart.0, apart_for mailbox uid id place ids apart.1)
  where
    flag_differs : (j : ℕ) → same_key (uid_flag_key mailbox uid i) (uid_flag_key mailbox uid j) ≡ false → (i == j) ≡ false
    flag_differs j e = by (i == j) refl
      where
        by : (b : Bool) → (i == j) ≡ b → b ≡ false
        by false q = refl
        by true q =
            absurd (true≢false (sym (ap (λ b. b && (uid == uid) && (mailbox == mailbox)) q ∙ (ap (λ b. b && (mailbox == mailbox)) (eq-eqb uid uid refl) ∙ eq-eqb mailbox mailbox refl)) ∙ e))

    differ : (others : List ℕ) → AllByRecursion (λ j. same_key (uid_flag_key mailbox uid i) (uid_flag_key mailbox uid j) ≡ false) others
        → AllByRecursion (λ r. same_key (uid_flag_key id place i) (flag_key r) ≡ false) (flags_for id place others)
    differ [] all = tt
    differ (j ∷ others) all = (ap (λ b. b && (place == place) && (id == id)) (flag_differs j all.0), differ others all.1)

pub moved_flags_apart : (id uid : ℕ) (flags : List FlagRow) (rows : List MailboxMessage) → AreApart flag_key flags → AreApart flag_key (moved_flags id uid flags rows)
moved_flags_apart id uid flags [] apart = tt
moved_flags_apart id uid flags (row ∷ rows) apart =
    apart_append flag_key (flags_for id uid (flag_ids_of row flags)) (moved_flags id (uid + 1) flags rows)
    (apart_for row.mailbox row.uid id uid (flag_ids_of row flags) (ids_apart row.mailbox row.uid flags apart))
    (moved_flags_apart id (uid + 1) flags rows apart) (cross (flag_ids_of row flags))
  where
    later : (i : ℕ) (r : FlagRow) → uid + 1 ≤ r.uid → same_key (uid_flag_key id uid i) (flag_key r) ≡ false
    later i r le = and_left ((i == r.flag) && (uid == r.uid)) (id == r.mailbox) (and_right (i == r.flag) (uid == r.uid) (ne_eqb uid r.uid (λ same. omega (arith, same, le))))

    cross : (ids : List ℕ) → AllByRecursion (λ x. AllByRecursion (λ y. same_key (flag_key x) (flag_key y) ≡ false) (moved_flags id (uid + 1) flags rows)) (flags_for id uid ids)
    cross [] = tt
    cross (i ∷ ids) = (all-weaker (λ r. uid + 1 ≤ r.uid) (λ r. same_key (uid_flag_key id uid i) (flag_key r) ≡ false) (later i) (moved_flags id (uid + 1) flags rows) (flags_above id (uid + 1) flags rows), cross ids)
