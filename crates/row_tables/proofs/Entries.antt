-- Indexes after an insertion.
use Rattle.std.proofs.Common.{◌≡◌, ℕ, Bool, true, false, cond, ◌&&◌, ◌||◌, ◌==◌, nat_eq, nat_lt, List, [], ◌∷◌, map, Option, Some, None, refl, sym, ap, ◌∙◌, subst}
use mathlib.Core.Bool.{true≢false}
use Rattle.std.specs.declared.cmp.Ordering.TheVariants.{Less, Equal, Greater}
use Rattle.std.specs.Ordering.{is_lt, nat_cmp, ordering_then}
use Rattle.std.specs.Cmp.{tied_itself, first_so, second_so}
use Rattle.std.specs.Cmp.Lexicographic.{pointwise, bytes_decides, nat_list_cmp_total}
use Rattle.std.specs.Option.{option_map}
use Rattle.std.specs.List.{filter, find, list_any}
use Rattle.ordered_rows.specs.RowKey.{RowKey, key_cmp, same_key, number_key}
use Rattle.ordered_rows.specs.Listed.{IsInOrder, has_key, is_below, is_in_group, row_at, with_row, placed}
use Rattle.row_tables.specs.Keys.{content_entry_key, digest_key, digest_entry_key, body_part_key}
use Rattle.row_tables.proofs.Lists.{all_map, all_with}
use Rattle.row_tables.specs.Indexes.{has_digest, body_ids, Contents, AreIndexed, AreDigests}
use Rattle.row_tables.specs.declared.contents.BodyPart.{BodyPart}
use Rattle.row_tables.specs.declared.indexes.ContentEntry.{ContentEntry}
use Rattle.row_tables.specs.declared.indexes.DigestEntry.{DigestEntry}

-- what the laws of a table say of a row that was inserted, where a test finds it and where not
pub record Finds {X : Type 0} (key : X → RowKey) : Type 0 where
  pub same : (g : X → Bool) (row : X) (rows : List X) → g row ≡ true → find g rows ≡ None → find g (with_row key row rows) ≡ Some row
  pub other : (g : X → Bool) (row : X) (rows : List X) → g row ≡ false → IsInOrder key rows → find g (with_row key row rows) ≡ find g rows

pub record Keeps {X : Type 0} (key : X → RowKey) : Type 0 where
  pub same : (row : X) (rows : List X) → row_at key (key row) (with_row key row rows) ≡ Some row
  pub other : (row : X) (k : RowKey) (rows : List X) → same_key (key row) k ≡ false → row_at key k (with_row key row rows) ≡ row_at key k rows

pub record Numbers {X : Type 0} (key : X → RowKey) : Type 0 where
  pub same : (f : X → ℕ) (g : X → Bool) (row : X) (rows : List X) → g row ≡ true → ((r : X) → g r ≡ true → is_below key (key row) r ≡ nat_lt (f r) (f row))
      → map f (filter g (with_row key row rows)) ≡ placed (f row) (map f (filter g rows))
  pub other : (f : X → ℕ) (g : X → Bool) (row : X) (rows : List X) → g row ≡ false → IsInOrder key rows → map f (filter g (with_row key row rows)) ≡ map f (filter g rows)

pub indexed_with : {X : Type 0} (key : X → RowKey) (contents : Contents X) (entries : List ContentEntry) (rows : List X) (entry : ContentEntry) (row : X) → Finds key → Keeps content_entry_key → AreIndexed contents entries rows
    → content_entry_key entry ≡ contents.entry (contents.content row) → entry.id ≡ contents.id row → find (contents.has (contents.content row)) rows ≡ None → IsInOrder key rows → AreIndexed contents (with_row content_entry_key entry entries) (with_row key row rows)
indexed_with {X} key contents entries rows entry row finds keeps are same_entry same_id new order = record {
  each = λ c. by c (contents.has c row) refl;
  one = all_with key (λ x. find (contents.has (contents.content x)) (with_row key row rows) ≡ Some x) row rows (all_map (λ x. find (contents.has (contents.content x)) rows ≡ Some x) (λ x. find (contents.has (contents.content x)) (with_row key row rows) ≡ Some x) stays rows are.one) (finds.same (contents.has (contents.content row)) row rows (contents.itself row) new);
}
  where
    stays : (x : X) → find (contents.has (contents.content x)) rows ≡ Some x → find (contents.has (contents.content x)) (with_row key row rows) ≡ Some x
    stays x here = other (contents.has (contents.content x) row) refl
      where
        other : (b : Bool) → contents.has (contents.content x) row ≡ b → find (contents.has (contents.content x)) (with_row key row rows) ≡ Some x
        other true e = let gone : find (contents.has (contents.content x)) rows ≡ None = subst (λ c. find (contents.has c) rows ≡ None) (contents.same (contents.content x) row e) new in cc
        other false e = finds.other (contents.has (contents.content x)) row rows e order ∙ here

    by : (c : contents.Content) (b : Bool) → contents.has c row ≡ b
        → option_map (λ (e : ContentEntry). e.id) (row_at content_entry_key (contents.entry c) (with_row content_entry_key entry entries)) ≡ option_map contents.id (find (contents.has c) (with_row key row rows))
    by c true e =
        let here : contents.content row ≡ c = contents.same c row e in
        let found = finds.same (contents.has c) row rows e (subst (λ n. find (contents.has n) rows ≡ None) here new) in
        let at = subst (λ k. row_at content_entry_key k (with_row content_entry_key entry entries) ≡ Some entry) (same_entry ∙ ap contents.entry here) (keeps.same entry entries) in
        ap (option_map (λ (x : ContentEntry). x.id)) at ∙ ap Some same_id ∙ sym (ap (option_map contents.id) found)
    by c false e =
        let differ : same_key (content_entry_key entry) (contents.entry c) ≡ false = subst (λ k. same_key k (contents.entry c) ≡ false) (sym same_entry) (contents.differs c row e) in
        ap (option_map (λ (x : ContentEntry). x.id)) (keeps.other entry (contents.entry c) entries differ) ∙ are.each c ∙ sym (ap (option_map contents.id) (finds.other (contents.has c) row rows e order))

no_id_none : {X : Type 0} (id : X → ℕ) (o : Option X) → option_map id o ≡ None → o ≡ None
no_id_none id None e = refl
no_id_none id (Some x) e = cc

pub content_is_new : {X : Type 0} (contents : Contents X) (entries : List ContentEntry) (rows : List X) (entry : ContentEntry) (row : X) → AreIndexed contents entries rows → content_entry_key entry ≡ contents.entry (contents.content row)
    → find (contents.has (contents.content row)) rows ≡ None → row_at content_entry_key (content_entry_key entry) entries ≡ None
content_is_new contents entries rows entry row are same new =
    no_id_none (λ (e : ContentEntry). e.id) (row_at content_entry_key (content_entry_key entry) entries)
    (ap (λ k. option_map (λ (e : ContentEntry). e.id) (row_at content_entry_key k entries)) same ∙ are.each (contents.content row) ∙ ap (option_map contents.id) new)

-- entries of one digest are ordered by their ids
pub is_lt_nat : (a b : ℕ) → is_lt (nat_cmp a b) ≡ nat_lt a b
is_lt_nat a b = by (nat_lt a b) (a == b)
  where
    by : (s t : Bool) → is_lt (cond s Less (cond t Equal Greater)) ≡ s
    by true t = refl
    by false true = refl
    by false false = refl

digest_lt : (d : List ℕ) (a b : ℕ) → is_lt (key_cmp (digest_key d a) (digest_key d b)) ≡ nat_lt a b
digest_lt d a b =
    ap (λ r. is_lt (ordering_then (ordering_then (ordering_then (ordering_then r Equal) Equal) Equal) (nat_cmp a b))) (tied_itself nat_list_cmp_total d) ∙ is_lt_nat a b

in_group_digest : (d : List ℕ) (e : DigestEntry) → is_in_group digest_entry_key (digest_key d 0) e ≡ (pointwise nat_eq e.digest d && true && true)
in_group_digest d e = refl

group_is : (d : List ℕ) (e : DigestEntry) → is_in_group digest_entry_key (digest_key d 0) e ≡ true → e.digest ≡ d
group_is d e h = (bytes_decides e.digest d).0 (first_so (pointwise nat_eq e.digest d) true (first_so (pointwise nat_eq e.digest d && true) true h))

pub digests_with : (digests : List DigestEntry) (rows : List BodyPart) (entry : DigestEntry) (row : BodyPart) → Numbers body_part_key → Numbers digest_entry_key → ((a b : ℕ) → is_lt (key_cmp (number_key a) (number_key b)) ≡ nat_lt a b)
    → AreDigests digests rows → entry.digest ≡ row.digest → entry.id ≡ row.id → IsInOrder digest_entry_key digests → IsInOrder body_part_key rows
    → AreDigests (with_row digest_entry_key entry digests) (with_row body_part_key row rows)
digests_with digests rows entry row bodies entries numbers are same_digest same_id order_digests order = record { each = λ d. by d (pointwise nat_eq row.digest d) refl }
  where
    by : (d : List ℕ) (b : Bool) → pointwise nat_eq row.digest d ≡ b
        → map (λ (e : DigestEntry). e.id) (filter (is_in_group digest_entry_key (digest_key d 0)) (with_row digest_entry_key entry digests)) ≡ body_ids d (with_row body_part_key row rows)
    by d true e =
        let here : row.digest ≡ d = (bytes_decides row.digest d).0 e in
        let in_group : is_in_group digest_entry_key (digest_key d 0) entry ≡ true = ap (λ x. pointwise nat_eq x d && true && true) same_digest ∙ ap (λ b. b && true && true) e in
        let lower : (x : DigestEntry) → is_in_group digest_entry_key (digest_key d 0) x ≡ true → is_below digest_entry_key (digest_entry_key entry) x ≡ nat_lt x.id entry.id =
        λ x h. ap (λ y. is_lt (key_cmp (digest_key y x.id) (digest_key entry.digest entry.id))) (group_is d x h ∙ sym (same_digest ∙ here)) ∙ digest_lt entry.digest x.id entry.id in
        entries.same (λ x. x.id) (is_in_group digest_entry_key (digest_key d 0)) entry digests in_group lower
        ∙ ap (λ n. placed n (map (λ (x : DigestEntry). x.id) (filter (is_in_group digest_entry_key (digest_key d 0)) digests))) same_id ∙ ap (placed row.id) (are.each d)
        ∙ sym (bodies.same (λ r. r.id) (has_digest d) row rows e (λ r h. numbers r.id row.id))
    by d false e =
        let out : is_in_group digest_entry_key (digest_key d 0) entry ≡ false = ap (λ x. pointwise nat_eq x d && true && true) same_digest ∙ ap (λ b. b && true && true) e in
        entries.other (λ x. x.id) (is_in_group digest_entry_key (digest_key d 0)) entry digests out order_digests ∙ are.each d ∙ sym (bodies.other (λ r. r.id) (has_digest d) row rows e order)

-- an id that no row has is in no entry
no_id : (g : BodyPart → Bool) (n : ℕ) (rows : List BodyPart) → find (λ r. r.id == n) rows ≡ None → list_any (λ i. i == n) (map (λ (r : BodyPart). r.id) (filter g rows)) ≡ false
no_id g n [] e = refl
no_id g n (r ∷ rows) e = by (r.id == n) (g r) refl e (λ h. no_id g n rows h)
  where
    by : (a b : Bool) → (r.id == n) ≡ a → cond a (Some r) (find (λ x. x.id == n) rows) ≡ None → (find (λ x. x.id == n) rows ≡ None → list_any (λ i. i == n) (map (λ (x : BodyPart). x.id) (filter g rows)) ≡ false)
        → list_any (λ i. i == n) (map (λ (x : BodyPart). x.id) (cond b (r ∷ filter g rows) (filter g rows))) ≡ false
    by true b q h rest = cc
    by false true q h rest = ap (λ c. c || list_any (λ i. i == n) (map (λ (x : BodyPart). x.id) (filter g rows))) q ∙ rest h
    by false false q h rest = rest h

pub or_right : (a b : Bool) → (a || b) ≡ false → b ≡ false
or_right true b e = absurd (true≢false e)
or_right false b e = e

no_entry : (d : List ℕ) (n : ℕ) (entries : List DigestEntry) → list_any (λ i. i == n) (map (λ (e : DigestEntry). e.id) (filter (is_in_group digest_entry_key (digest_key d 0)) entries)) ≡ false → row_at digest_entry_key (digest_key d n) entries ≡ None
no_entry d n [] h = refl
no_entry d n (x ∷ xs) h = by (has_key digest_entry_key (digest_key d n) x) (is_in_group digest_entry_key (digest_key d 0) x) refl refl h (λ k. no_entry d n xs k)
  where
    by : (a b : Bool) → has_key digest_entry_key (digest_key d n) x ≡ a → is_in_group digest_entry_key (digest_key d 0) x ≡ b
        → list_any (λ i. i == n) (map (λ (e : DigestEntry). e.id) (cond b (x ∷ filter (is_in_group digest_entry_key (digest_key d 0)) xs) (filter (is_in_group digest_entry_key (digest_key d 0)) xs))) ≡ false
        → (list_any (λ i. i == n) (map (λ (e : DigestEntry). e.id) (filter (is_in_group digest_entry_key (digest_key d 0)) xs)) ≡ false → row_at digest_entry_key (digest_key d n) xs ≡ None)
        → cond a (Some x) (row_at digest_entry_key (digest_key d n) xs) ≡ None
    by false true q p h rest = rest (or_right (x.id == n) _ h)
    by false false q p h rest = rest h
    by true b q p h rest =
        let outer = first_so (pointwise nat_eq x.digest d && (x.id == n) && true) true q in
        let inner = first_so (pointwise nat_eq x.digest d && (x.id == n)) true outer in
        let same : pointwise nat_eq x.digest d ≡ true = first_so (pointwise nat_eq x.digest d) (x.id == n) inner in
        let id : (x.id == n) ≡ true = second_so (pointwise nat_eq x.digest d) (x.id == n) inner in
        let in_group : b ≡ true = sym p ∙ ap (λ c. c && true && true) same in
        absurd (true≢false (sym (ap (λ c. c || list_any (λ i. i == n) (map (λ (e : DigestEntry). e.id) (filter (is_in_group digest_entry_key (digest_key d 0)) xs))) id) ∙ subst (λ c. list_any (λ i. i == n) (map (λ (e : DigestEntry). e.id) (cond c (x ∷ filter (is_in_group digest_entry_key (digest_key d 0)) xs) (filter (is_in_group digest_entry_key (digest_key d 0)) xs))) ≡ false) in_group h))

pub entry_is_new : (digests : List DigestEntry) (rows : List BodyPart) (row : BodyPart) → AreDigests digests rows → row_at body_part_key (body_part_key row) rows ≡ None → row_at digest_entry_key (digest_key row.digest row.id) digests ≡ None
entry_is_new digests rows row are new =
    no_entry row.digest row.id digests (ap (list_any (λ i. i == row.id)) (are.each row.digest) ∙ no_id (has_digest row.digest) row.id rows new)
