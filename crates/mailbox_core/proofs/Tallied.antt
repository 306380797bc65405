-- Messages that are counted: those that UIDs from one on find, and those without a row of a flag.
use Rattle.std.proofs.Common.{ℕ, zero, suc, ◌≡◌, ◌+◌, ◌-◌, ◌<◌, ◌≤◌, ◌==◌, ◌||◌, Bool, true, false, not, cond, nat_le, List, [], ◌∷◌, length, filter, Option, Some, None, is_some, refl, sym, ap, ◌∙◌, subst, arith}
use Rattle.std.specs.List.{AllByRecursion, count_by, range_with_len}
use Rattle.std.specs.List.Sorted.{IsStrictlySortedBy}
use Rattle.std.specs.Ordering.{nat_cmp}
use Rattle.std.proofs.lemmas.Bool.{false≢true, eqb-true}
use Rattle.std.proofs.lemmas.Bool.Decides.{nat_tests}
use Rattle.std.proofs.lemmas.List.Sums.{count_by-le-length, length-filter, sum_by-cons}
use Rattle.ordered_rows.specs.Listed.{row_at}
use Rattle.row_tables.specs.Keys.{mailbox_message_key, uid_key}
use Rattle.row_tables.specs.TableRows.{TableRows}
use Rattle.row_tables.specs.Indexes.{flag_name_id}
use Rattle.row_tables.specs.References.{AreOrdered, AreClosed, flags_of, uids_of}
use Rattle.row_tables.specs.RowCounts.{entry_count}
use Rattle.row_tables.specs.declared.heads.Mailbox.{Mailbox as Head}
use Rattle.mail_stands.specs.Flagging.{is_flagged, is_flagged_by}
use Rattle.mailbox_core.specs.SummaryRows.{flagged_uids}
use Rattle.mailbox_core.proofs.Counts.{entries_counted}
use Rattle.mailbox_core.proofs.Parting.{Rises, above_first, above_less, behind_first, is_in, not_above, passed, sorted_rise}
use Rattle.mailbox_core.proofs.Flagged.{Places, all_messages, flagged_rise, in_messages, in_rows}

-- a count of one more
more : {X : Type 0} (p : X → Bool) (x : X) (xs : List X) → count_by p (x ∷ xs) ≡ cond (p x) 1 0 + count_by p xs
more p x xs = sum_by-cons (λ y. cond (p y) 1 0) x xs

both : (a b : Bool) (m n : ℕ) → a ≡ b → m ≡ n → cond a 1 0 + m ≡ cond b 1 0 + n
both a b m n e f = ap (λ c. cond c 1 0 + m) e ∙ ap (λ k. cond b 1 0 + k) f

-- tests that agree count alike
pub counts_all : {X : Type 0} (p q : X → Bool) (xs : List X) → AllByRecursion (λ x. p x ≡ q x) xs → count_by p xs ≡ count_by q xs
counts_all p q [] all = refl
counts_all p q (x ∷ xs) all = more p x xs ∙ (both (p x) (q x) (count_by p xs) (count_by q xs) all.0 (counts_all p q xs all.1) ∙ sym (more q x xs))

counts_same : (p q : ℕ → Bool) (ns : List ℕ) → ((n : ℕ) → p n ≡ q n) → count_by p ns ≡ count_by q ns
counts_same p q [] same = refl
counts_same p q (n ∷ ns) same = more p n ns ∙ (both (p n) (q n) (count_by p ns) (count_by q ns) (same n) (counts_same p q ns same) ∙ sym (more q n ns))

-- ---- numbers from one on

le_yes : (a b : ℕ) → a ≤ b → nat_le a b ≡ true
le_yes a b h = grind (arith, nat_tests)

le_no : (a b : ℕ) → b < a → nat_le a b ≡ false
le_no a b h = grind (arith, nat_tests)

le_next : (a b : ℕ) → (b == a) ≡ false → nat_le a b ≡ nat_le (a + 1) b
le_next a b e = grind (arith, nat_tests)

-- the first of them, and those behind it
first_counted : (first : ℕ) (ns : List ℕ) → Rises ns → count_by (nat_le first) ns ≡ cond (is_in first ns) 1 0 + count_by (nat_le (first + 1)) ns
first_counted first [] up = refl
first_counted first (n ∷ ns) up =
    more (nat_le first) n ns ∙ (by (n == first) refl (first_counted first ns up.1) ∙ ap (λ k. cond (is_in first (n ∷ ns)) 1 0 + k) (sym (more (nat_le (first + 1)) n ns)))
  where
    by : (b : Bool) → (n == first) ≡ b → count_by (nat_le first) ns ≡ cond (is_in first ns) 1 0 + count_by (nat_le (first + 1)) ns
        → cond (nat_le first n) 1 0 + count_by (nat_le first) ns ≡ cond (b || is_in first ns) 1 0 + (cond (nat_le (first + 1) n) 1 0 + count_by (nat_le (first + 1)) ns)
    by true e rest =
        let same : n ≡ first = eqb-true n first e in
        let absent : is_in first ns ≡ false = subst (λ k. is_in k ns ≡ false) same (not_above n ns up.0) in
        rw (le_yes first n (omega arith), le_no (first + 1) n (omega arith), rest, absent) refl
    by false e rest = rw (le_next first n e) (omega (arith, rest))

none_from : (first : ℕ) (ns : List ℕ) → AllByRecursion (λ n. n < first + 0) ns → 0 ≡ count_by (nat_le first) ns
none_from first [] all = refl
none_from first (n ∷ ns) all =
    let rest = none_from first ns all.1 in
    let here = more (nat_le first) n ns in
    let no : cond (nat_le first n) 1 0 ≡ 0 = ap {B = ℕ} (λ b. cond b 1 0) (le_no first n (omega (arith, all.0))) in
    omega (arith, rest, here, no)

below_more : (a b : ℕ) (ns : List ℕ) → a ≤ b → AllByRecursion (λ n. n < a) ns → AllByRecursion (λ n. n < b) ns
below_more a b [] less all = tt
below_more a b (n ∷ ns) less all = (omega (arith, all.0), below_more a b ns less all.1)

-- those of a range
within_counted : (first given : ℕ) (ns : List ℕ) → Rises ns → AllByRecursion (λ n. n < first + given) ns → count_by (λ n. is_in n ns) (range_with_len first given) ≡ count_by (nat_le first) ns
within_counted first zero ns up all = none_from first ns all
within_counted first (suc given) ns up all =
    let behind = within_counted (first + 1) given ns up (below_more (first + suc given) (first + 1 + given) ns (omega arith) all) in
    let here = first_counted first ns up in
    more (λ n. is_in n ns) first (range_with_len (first + 1) given) ∙ (ap (λ k. cond (is_in first ns) 1 0 + k) behind ∙ sym here)

-- one more of a range
pub range_more : (p : ℕ → Bool) (first k : ℕ) → count_by p (range_with_len first (k + 1)) ≡ count_by p (range_with_len first k) + cond (p (first + k)) 1 0
range_more p first zero = rw (sym (zero_more first)) (omega arith)
  where
    zero_more : (a : ℕ) → a ≡ a + 0
    zero_more a = omega arith
range_more p first (suc k) =
    let rest = range_more p (first + 1) k in
    let at : first + 1 + k ≡ first + suc k = omega arith in
    let longer : suc k + 1 ≡ suc (k + 1) = omega arith in
    let here = ap (λ n. count_by p (range_with_len first n)) longer ∙ more p first (range_with_len (first + 1) (k + 1)) in
    let there = more p first (range_with_len (first + 1) k) in
    let last : cond (p (first + 1 + k)) 1 0 ≡ cond (p (first + suc k)) 1 0 = ap {B = ℕ} (λ n. cond (p n) 1 0) at in
    omega (arith, rest, here, there, last)

-- the messages of a mailbox whose UIDs are below the next one, as they are found by their UIDs from one on
pub found_from : (t : TableRows) (id first next : ℕ) → IsStrictlySortedBy nat_cmp (uids_of id t.marks.mailbox_messages) → AllByRecursion (λ uid. uid < next) (uids_of id t.marks.mailbox_messages)
    → count_by (λ uid. is_some (row_at mailbox_message_key (uid_key id uid) t.marks.mailbox_messages)) (range_with_len first (next - first))
    ≡ length (filter (λ uid. nat_le first uid) (uids_of id t.marks.mailbox_messages))
found_from t id first next order below =
    let uids : List ℕ = uids_of id t.marks.mailbox_messages in
    sym (counts_same (λ uid. is_in uid uids) (λ uid. is_some (row_at mailbox_message_key (uid_key id uid) t.marks.mailbox_messages)) (range_with_len first (next - first)) (λ uid. in_messages id uid t.marks.mailbox_messages))
    ∙ (within_counted first (next - first) uids (sorted_rise uids order) (below_more next (first + (next - first)) uids (omega arith) below)
    ∙ sym (length-filter (λ uid. nat_le first uid) uids))

-- ---- counting in turn

pub one_at_most : (b : Bool) → cond b 1 0 ≤ 1
one_at_most true = omega arith
one_at_most false = omega arith

-- one more number from one on
pub one_more_from : (first uid : ℕ) (left rest : List ℕ) → left ≡ uid ∷ rest → first ≤ uid → length (filter (λ n. nat_le first n) left) ≡ length (filter (λ n. nat_le first n) rest) + 1
one_more_from first uid left rest is less =
    ap (λ (l : List ℕ). length (filter (λ n. nat_le first n) l)) is
    ∙ (ap (λ b. length (cond b (uid ∷ filter (λ n. nat_le first n) rest) (filter (λ n. nat_le first n) rest))) (le_yes first uid less) ∙ omega arith)

-- those that are kept are at most all messages
pub kept_within : (t : TableRows) (id first : ℕ) → length (filter (λ n. nat_le first n) (uids_of id t.marks.mailbox_messages)) ≤ entry_count id t.marks.mailbox_messages
kept_within t id first =
    let uids : List ℕ = uids_of id t.marks.mailbox_messages in
    let less = count_by-le-length (nat_le first) uids in
    let is = length-filter (nat_le first) uids in
    let all = entries_counted t id in
    omega (arith, less, is, all)

-- what is counted for a row is so for the row that is there
pub recent_told_of : (t : TableRows) (id : ℕ) (given row : Head) (count : ℕ)
    → (AllByRecursion (λ uid. uid < given.uidnext) (uids_of id t.marks.mailbox_messages) → count ≡ length (filter (λ uid. nat_le given.first_recent uid) (uids_of id t.marks.mailbox_messages)))
    → given ≡ row → AllByRecursion (λ uid. uid < row.uidnext) (uids_of id t.marks.mailbox_messages) → count ≡ length (filter (λ uid. nat_le row.first_recent uid) (uids_of id t.marks.mailbox_messages))
recent_told_of t id given row count counted same =
    subst (λ (r : Head). AllByRecursion (λ uid. uid < r.uidnext) (uids_of id t.marks.mailbox_messages) → count ≡ length (filter (λ uid. nat_le r.first_recent uid) (uids_of id t.marks.mailbox_messages))) same counted

-- ---- numbers that aren't in another list

rest_counted : (ns os : List ℕ) → Rises ns → Rises os → AllByRecursion (λ o. is_in o ns ≡ true) os → count_by (λ n. not (is_in n os)) ns + length os ≡ length ns
rest_counted [] [] up over all = refl
rest_counted [] (o ∷ os) up over all = absurd (false≢true all.0)
rest_counted (n ∷ ns) [] up over all = let rest = rest_counted ns [] up.1 tt tt in let here = more (λ m. not (is_in m [])) n ns in omega (arith, rest, here)
rest_counted (n ∷ ns) (o ∷ os) up over all =
    ap (λ k. k + suc (length os)) (more (λ m. not (is_in m (o ∷ os))) n ns) ∙ by (o == n) refl (rest_counted ns os up.1 over.1) (rest_counted ns (o ∷ os) up.1 over)
  where
    by : (b : Bool) → (o == n) ≡ b
        → (AllByRecursion (λ x. is_in x ns ≡ true) os → count_by (λ m. not (is_in m os)) ns + length os ≡ length ns)
        → (AllByRecursion (λ x. is_in x ns ≡ true) (o ∷ os) → count_by (λ m. not ((o == m) || is_in m os)) ns + suc (length os) ≡ length ns)
        → cond (not (b || is_in n os)) 1 0 + count_by (λ m. not ((o == m) || is_in m os)) ns + suc (length os) ≡ suc (length ns)
    by true e here behind =
        let same : o ≡ n = eqb-true o n e in
        let above : AllByRecursion (λ m. n < m) os = subst (λ k. AllByRecursion (λ m. k < m) os) same over.0 in
        let skipped = counts_all (λ m. not ((o == m) || is_in m os)) (λ m. not (is_in m os)) ns (passed o os ns (subst (λ k. AllByRecursion (λ m. k < m) ns) (sym same) up.0)) in
        let rest = here (behind_first n ns os above all.1) in
        rw skipped (omega (arith, rest))
    by false e here behind =
        let less : n < o = above_first n o ns up.0 e all.0 in
        let above : AllByRecursion (λ m. n < m) os = above_less n o os less over.0 in
        let rest = behind (behind_first n ns (o ∷ os) (less, above) all) in
        rw (not_above n os above) (omega (arith, rest))

-- ---- messages without a row of a flag

module _ (t : TableRows) (id : ℕ) (name : List ℕ) where
  abbrev test : ℕ → Bool
  test uid = not (is_flagged id uid name t.marks.flag_names t.marks.flags)

  all_of : (uids : List ℕ) → count_by (λ uid. true) uids ≡ length uids
  all_of [] = refl
  all_of (uid ∷ uids) = let rest = all_of uids in let here = more (λ (u : ℕ). true) uid uids in omega (arith, rest, here)

  -- no message has a flag that has no name
  pub without_unnamed : flag_name_id name t.marks.flag_names ≡ None → entry_count id t.marks.mailbox_messages ≡ length (filter (λ uid. not (is_flagged id uid name t.marks.flag_names t.marks.flags)) (uids_of id t.marks.mailbox_messages))
  without_unnamed none =
      let uids : List ℕ = uids_of id t.marks.mailbox_messages in
      entries_counted t id ∙ (sym (all_of uids)
      ∙ (counts_same (λ uid. true) test uids (λ uid. ap (λ (o : Option ℕ). not (is_flagged_by id uid t.marks.flags o)) (sym none)) ∙ sym (length-filter test uids)))

  -- those that have it are the others
  pub without_named : Places → AreOrdered t → AreClosed t → (flag : ℕ) → Some flag ≡ flag_name_id name t.marks.flag_names → IsStrictlySortedBy nat_cmp (uids_of id t.marks.mailbox_messages)
      → length (filter (λ uid. not (is_flagged id uid name t.marks.flag_names t.marks.flags)) (uids_of id t.marks.mailbox_messages)) + length (flagged_uids flag (flags_of id t.marks.flags)) ≡ entry_count id t.marks.mailbox_messages
  without_named places ordered closed flag named order =
      let uids : List ℕ = uids_of id t.marks.mailbox_messages in
      let flagged : List ℕ = flagged_uids flag (flags_of id t.marks.flags) in
      let rest = rest_counted uids flagged (sorted_rise uids order) (flagged_rise places id flag t.marks.flags ordered.flags) (all_messages t id flag t.marks.flags closed.flags) in
      let same : count_by (λ uid. not (is_in uid flagged)) uids ≡ length (filter test uids) =
      counts_same (λ uid. not (is_in uid flagged)) test uids (λ uid. ap not (in_rows id uid flag t.marks.flags ∙ ap (is_flagged_by id uid t.marks.flags) named)) ∙ sym (length-filter test uids) in
      ap (λ n. n + length flagged) (sym same) ∙ (rest ∙ sym (entries_counted t id))
