-- A mailbox that is deleted, and its rows.
use Rattle.std.proofs.Common.{ℕ, ◌≡◌, ◌==◌, Bool, true, false, cond, not, List, [], ◌∷◌, map, Option, Some, None, refl, sym, ap, subst, ◌∙◌}
use Rattle.std.specs.Prelude.{◌||◌, nat_eq, is_some}
use Rattle.std.specs.List.{find, filter, AllByRecursion}
use Rattle.std.specs.Option.{option_map, option_and_then}
use Rattle.std.specs.Cmp.Lexicographic.{pointwise}
use Rattle.std.proofs.lemmas.Bool.{true≢false, false≢true, eqb-true, eq-eqb, and_parts}
use Rattle.std.proofs.lemmas.Option.{same_Some}
use Rattle.ordered_rows.specs.RowKey.{RowKey, number_key}
use Rattle.ordered_rows.specs.Listed.{row_at, has_key, has_number, without, without_number}
use Rattle.row_tables.specs.Keys.{uid_key, uid_flag_key, mailbox_key, mailbox_message_key, deleted_message_key, flag_key}
use Rattle.row_tables.specs.Indexes.{flag_name_id}
use Rattle.row_tables.specs.Names as names
use Rattle.row_tables.specs.TableRows.{TableRows}
use Rattle.row_tables.specs.Fits.{applied}
use Rattle.row_tables.specs.declared.heads.Mailbox.{Mailbox as Head}
use Rattle.row_tables.specs.declared.marks.FlagName.{FlagName}
use Rattle.row_tables.specs.declared.marks.FlagRow.{FlagRow}
use Rattle.row_tables.specs.declared.contents.BodyPart.{BodyPart}
use Rattle.row_tables.specs.declared.change.RowChange.TheVariants.{DropMailbox}
use Rattle.row_store.specs.Holding.{Stored}
use Rattle.mail_world.specs.Names.{is_inbox, is_mailbox_name, mailbox_name}
use Rattle.mail_world.specs.Worlds.{World, Mailbox, Entry, mailbox_at, mailbox_named, entry_at, gone_at, has_id, is_named}
use Rattle.mail_world.specs.Changes.{BadName, Absent, InUse, Delete, Refusal, first_refusal}
use Rattle.mail_world.specs.Users as world_users
use Rattle.mail_world.specs.Applying.{apply, refused}
use Rattle.mail_world.specs.Legal.{IsLegal}
use Rattle.mail_stands.specs.Facts.{Tied, IsEntryRow, AreEntries, AreGone, entry_in, gone_in, gone_row, flags_of, has_flag_named}
use Rattle.mail_stands.specs.Flagging.{AreFlagged, is_flagged_by}
use Rattle.mail_stands.specs.Stands.{Stands}
use Rattle.mail_stands.specs.Leading.{Leads}
use Rattle.mail_stands.specs.Refusals.{delete_refused, is_held}
use Rattle.mail_stands.specs.RowChanges.{delete_changes}
use Rattle.mail_stands.proofs.Lists.{all-weaker, all-filter, all_both, all_found, find_passes}
use Rattle.mail_stands.proofs.Frames.{head_named, head_row}
use Rattle.mail_stands.proofs.Refusing.{named_there}
use Rattle.mail_stands.proofs.Showing.{Shows, shown, standing}
use Rattle.mail_stands.proofs.Making.{StaysLegal}
use Rattle.mail_stands.proofs.Owners.{SameKeys}
use Rattle.mail_stands.proofs.Heading.{each_at, unmapped}

-- ---- what is found among those that are left

one_left : {X : Type 0} (p : X → Bool) (x : X) (ys : List X) (r : Option X) (b c : Bool) → p x ≡ b → (b ≡ true → c ≡ true) → find p ys ≡ r → find p (cond c (x ∷ ys) ys) ≡ cond b (Some x) r
one_left p x ys r b true e h i = rw e (ap (λ o. cond b (Some x) o) i)
one_left p x ys r false false e h i = i
one_left p x ys r true false e h i = absurd (false≢true (h refl))

pub find-kept : {X : Type 0} (p q : X → Bool) → ((x : X) → p x ≡ true → q x ≡ true) → (xs : List X) → find p (filter q xs) ≡ find p xs
find-kept p q h [] = refl
find-kept p q h (x ∷ xs) = one_left p x (filter q xs) (find p xs) (p x) (q x) refl (h x) (find-kept p q h xs)

none_left : {X : Type 0} (p : X → Bool) (x : X) (ys : List X) (b c : Bool) → p x ≡ b → (b ≡ true → c ≡ false) → find p ys ≡ None → find p (cond c (x ∷ ys) ys) ≡ None
none_left p x ys b false e h i = i
none_left p x ys false true e h i = rw e i
none_left p x ys true true e h i = absurd (true≢false (h refl))

pub find-lost : {X : Type 0} (p q : X → Bool) → ((x : X) → p x ≡ true → q x ≡ false) → (xs : List X) → find p (filter q xs) ≡ None
find-lost p q h [] = refl
find-lost p q h (x ∷ xs) = none_left p x (filter q xs) (p x) (q x) refl (h x) (find-lost p q h xs)

-- a row, where those of a number are left out
dropped_row : {X : Type 0} → SameKeys → (key : X → RowKey) (k : RowKey) (n : ℕ) (rows : List X) → row_at key k (without_number key n rows) ≡ cond (k.number == n) None (row_at key k rows)
dropped_row {X} same key k n rows = by (k.number == n) refl
  where
    number_of : (x : X) → has_key key k x ≡ true → has_number key n x ≡ (k.number == n)
    number_of x here = ap (λ j. j.number == n) (same (key x) k here)

    by : (b : Bool) → (k.number == n) ≡ b → row_at key k (without_number key n rows) ≡ cond b None (row_at key k rows)
    by true e = find-lost (has_key key k) (λ x. not (has_number key n x)) (λ x here. ap not (number_of x here ∙ e)) rows
    by false e = find-kept (has_key key k) (λ x. not (has_number key n x)) (λ x here. ap not (number_of x here ∙ e)) rows

-- what a mailbox finds, where that of an id is left out
dropped_in : {Z : Type 0} (f : Mailbox → Option Z) (id n : ℕ) (ms : List Mailbox) → option_and_then f (mailbox_at id (filter (λ m. not (has_id n m)) ms)) ≡ cond (id == n) None (option_and_then f (mailbox_at id ms))
dropped_in f id n ms = by (id == n) refl
  where
    by : (b : Bool) → (id == n) ≡ b → option_and_then f (mailbox_at id (filter (λ m. not (has_id n m)) ms)) ≡ cond b None (option_and_then f (mailbox_at id ms))
    by true e = ap (option_and_then f) (find-lost (has_id id) (λ m. not (has_id n m)) (λ m here. ap not (ap (λ k. k == n) (eqb-true m.head.id id here) ∙ e)) ms)
    by false e = ap (option_and_then f) (find-kept (has_id id) (λ m. not (has_id n m)) (λ m here. ap not (ap (λ k. k == n) (eqb-true m.head.id id here) ∙ e)) ms)

-- ---- the facts of what is left

tied_left : {X Y : Type 0} (R : X → Y → Type 0) (b : Bool) (o : Option X) (p : Option Y) → Tied R o p → Tied R (cond b None o) (cond b None p)
tied_left R true o p tied = record { tie = tt }
tied_left R false o p tied = tied

left_entries : SameKeys → (mails : Stored) (rows : _) (ms : List Mailbox) (n : ℕ) → AreEntries mails rows ms → AreEntries mails (without_number mailbox_message_key n rows) (filter (λ m. not (has_id n m)) ms)
left_entries same mails rows ms n are id uid =
    subst (λ o. Tied (IsEntryRow mails) o (entry_in id uid (filter (λ m. not (has_id n m)) ms))) (sym (dropped_row same mailbox_message_key (uid_key id uid) n rows))
    (subst (λ o. Tied (IsEntryRow mails) (cond (id == n) None (row_at mailbox_message_key (uid_key id uid) rows)) o) (sym (dropped_in (λ m. entry_at uid m.entries) id n ms))
    (tied_left (IsEntryRow mails) (id == n) _ _ (are id uid)))

mapped_left : {X Y : Type 0} (f : X → Y) (b : Bool) (o : Option X) → cond b None (option_map f o) ≡ option_map f (cond b None o)
mapped_left f true o = refl
mapped_left f false o = refl

left_gone : SameKeys → (rows : _) (ms : List Mailbox) (n : ℕ) → AreGone rows ms → AreGone (without_number deleted_message_key n rows) (filter (λ m. not (has_id n m)) ms)
left_gone same rows ms n are id uid =
    dropped_row same deleted_message_key (uid_key id uid) n rows
    ∙ (ap (cond (id == n) None) (are id uid) ∙ (mapped_left (gone_row id) (id == n) (gone_in id uid ms) ∙ ap (option_map (gone_row id)) (sym (dropped_in (λ m. gone_at uid m.gone) id n ms))))

flagged_left : SameKeys → (id uid n : ℕ) (rows : List FlagRow) (o : Option ℕ) → is_flagged_by id uid (without_number flag_key n rows) o ≡ cond (id == n) false (is_flagged_by id uid rows o)
flagged_left same id uid n rows None = by (id == n)
  where
    by : (b : Bool) → false ≡ cond b false false
    by true = refl
    by false = refl
flagged_left same id uid n rows (Some flag) = ap is_some (dropped_row same flag_key (uid_flag_key id uid flag) n rows) ∙ by (id == n)
  where
    by : (b : Bool) → is_some (cond b None (row_at flag_key (uid_flag_key id uid flag) rows)) ≡ cond b false (is_some (row_at flag_key (uid_flag_key id uid flag) rows))
    by true = refl
    by false = refl

named_left : (name : List ℕ) (b : Bool) (o : Option Entry) → cond b false (has_flag_named name (flags_of o)) ≡ has_flag_named name (flags_of (cond b None o))
named_left name true o = refl
named_left name false o = refl

left_flags : SameKeys → (names : List FlagName) (rows : List FlagRow) (ms : List Mailbox) (n : ℕ) → AreFlagged names rows ms → AreFlagged names (without_number flag_key n rows) (filter (λ m. not (has_id n m)) ms)
left_flags same names rows ms n are id uid name =
    flagged_left same id uid n rows (flag_name_id name names)
    ∙ (ap (cond (id == n) false) (are id uid name) ∙ (named_left name (id == n) (entry_in id uid ms) ∙ ap (λ o. has_flag_named name (flags_of o)) (sym (dropped_in (λ m. entry_at uid m.entries) id n ms))))

-- ---- the mailbox of a name

same_bytes : (a b : List ℕ) → pointwise nat_eq a b ≡ true → a ≡ b
same_bytes [] [] e = refl
same_bytes [] (y ∷ b) e = absurd (false≢true e)
same_bytes (x ∷ a) [] e = absurd (false≢true e)
same_bytes (x ∷ a) (y ∷ b) e = let parts = and_parts (x == y) (pointwise nat_eq a b) e in ap (λ n. n ∷ a) (eqb-true x y parts.0) ∙ ap (λ rest. y ∷ rest) (same_bytes a b parts.1)

-- each mailbox is the one of its owner and name
each_named : (world : World) → IsLegal world → AllByRecursion (λ m. mailbox_named m.head.owner m.head.name world.mailboxes ≡ Some m) world.mailboxes
each_named world legal = all-weaker _ (λ m. mailbox_named m.head.owner m.head.name world.mailboxes ≡ Some m) (λ m at. (legal.mailboxes m.head.id m at).named) world.mailboxes (each_at world legal)

-- to have the name is to have the id
pub name_is_id : (world : World) (owner : ℕ) (name : List ℕ) (found : Mailbox) → IsLegal world → mailbox_named owner name world.mailboxes ≡ Some found
    → AllByRecursion (λ m. is_named owner name m ≡ has_id found.head.id m) world.mailboxes
name_is_id world owner name found legal is =
    all_both (λ m. mailbox_at m.head.id world.mailboxes ≡ Some m) (λ m. mailbox_named m.head.owner m.head.name world.mailboxes ≡ Some m) (λ m. is_named owner name m ≡ has_id found.head.id m)
    (λ m at named. by m at named (is_named owner name m) (has_id found.head.id m) refl refl) world.mailboxes (each_at world legal) (each_named world legal)
  where
    passes : is_named owner name found ≡ true
    passes = find_passes (is_named owner name) world.mailboxes found is

    the_one : (m : Mailbox) → mailbox_named m.head.owner m.head.name world.mailboxes ≡ Some m → is_named owner name m ≡ true → m ≡ found
    the_one m named here =
        let parts = and_parts (pointwise nat_eq m.head.name name) (m.head.owner == owner) here in
        same_Some m found (sym named ∙ (ap (λ n. mailbox_named m.head.owner n world.mailboxes) (same_bytes m.head.name name parts.0) ∙ (ap (λ o. mailbox_named o name world.mailboxes) (eqb-true m.head.owner owner parts.1) ∙ is)))

    found_at : mailbox_at found.head.id world.mailboxes ≡ Some found
    found_at = among (each_at world legal)
      where
        among : AllByRecursion (λ m. mailbox_at m.head.id world.mailboxes ≡ Some m) world.mailboxes → mailbox_at found.head.id world.mailboxes ≡ Some found
        among all = all_found (λ m. mailbox_at m.head.id world.mailboxes ≡ Some m) (is_named owner name) world.mailboxes found all is

    by : (m : Mailbox) → mailbox_at m.head.id world.mailboxes ≡ Some m → mailbox_named m.head.owner m.head.name world.mailboxes ≡ Some m → (b c : Bool) → is_named owner name m ≡ b → has_id found.head.id m ≡ c → b ≡ c
    by m at named true true e f = refl
    by m at named false false e f = refl
    by m at named true false e f = absurd (true≢false (sym (eq-eqb m.head.id found.head.id (ap (λ x. x.head.id) (the_one m named e))) ∙ f))
    by m at named false true e f = absurd (true≢false (sym passes ∙ (ap (is_named owner name) (same_Some found m (sym found_at ∙ (ap (λ k. mailbox_at k world.mailboxes) (sym (eqb-true m.head.id found.head.id f)) ∙ at))) ∙ e)))

-- lists that tests leave, where the tests agree
filter-same : {X : Type 0} (p q : X → Bool) (xs : List X) → AllByRecursion (λ x. p x ≡ q x) xs → filter p xs ≡ filter q xs
filter-same p q [] all = refl
filter-same p q (x ∷ xs) all = ap (λ b. cond b (x ∷ filter p xs) (filter p xs)) all.0 ∙ ap (λ ys. cond (q x) (x ∷ ys) ys) (filter-same p q xs all.1)

mapped_one : {X Y : Type 0} (f : X → Y) (b : Bool) (x : X) (ys : List Y) (zs : List X) → ys ≡ map f zs → cond b (f x ∷ ys) ys ≡ map f (cond b (x ∷ zs) zs)
mapped_one f true x ys zs e = ap (λ rest. f x ∷ rest) e
mapped_one f false x ys zs e = e

filter-map : {X Y : Type 0} (p : Y → Bool) (f : X → Y) (xs : List X) → filter p (map f xs) ≡ map f (filter (λ x. p (f x)) xs)
filter-map p f [] = refl
filter-map p f (x ∷ xs) = mapped_one f (p (f x)) x (filter p (map f xs)) (filter (λ y. p (f y)) xs) (filter-map p f xs)

-- ---- the mailbox goes

held_same : (held : List ℕ) (o : Option Mailbox) → is_held held (option_map (λ m. m.head) o) ≡ world_users.is_selected held o
held_same held None = refl
held_same held (Some m) = refl

abbrev refusal : List ℕ → Bool → Bool → Option Refusal
refusal name there selected = first_refusal ((not (is_mailbox_name name) || is_inbox name, BadName) ∷ (not there, Absent) ∷ (selected, InUse) ∷ [])

pub delete_same : (content : BodyPart → List ℕ) (t : TableRows) (world : World) (owner : ℕ) (name held : List ℕ) → Stands content t world
    → delete_refused t owner (mailbox_name name) held ≡ refused world (Delete owner name held)
unfolding refused
delete_same content t world owner name held s =
    let its = mailbox_name name in
    ap (λ b. refusal its b (is_held held (names.mailbox_named owner its t.heads.mailboxes))) (named_there owner its t.heads.mailboxes world.mailboxes s.mailboxes)
    ∙ ap (refusal its (is_some (mailbox_named owner its world.mailboxes)))
    (ap (λ rs. is_held held (names.mailbox_named owner its rs)) s.mailboxes ∙ (ap (is_held held) (head_named owner its world.mailboxes) ∙ held_same held (mailbox_named owner its world.mailboxes)))

left_shows : SameKeys → (content : BodyPart → List ℕ) (t : TableRows) (world : World) (n : ℕ) → Shows content t world
    → Shows content (applied t (DropMailbox n)) (record world { mailboxes = filter (λ m. not (has_id n m)) world.mailboxes })
left_shows same content t world n s = record {
  users = s.users;
  mailboxes = ap (without mailbox_key (number_key n)) s.mailboxes ∙ filter-map (λ r. not (has_key mailbox_key (number_key n) r)) (λ m. m.head) world.mailboxes;
  names = all-filter _ (λ r. not (has_key mailbox_key (number_key n) r)) t.heads.mailboxes s.names;
  subscriptions = s.subscriptions;
  next = s.next;
  entries = left_entries same _ t.marks.mailbox_messages world.mailboxes n s.entries;
  gone = left_gone same t.marks.deleted_messages world.mailboxes n s.gone;
  flags = left_flags same t.marks.flag_names t.marks.flags world.mailboxes n s.flags;
  distinct = s.distinct;
}

pub delete_leads : SameKeys → StaysLegal → (content : BodyPart → List ℕ) (t : TableRows) (world : World) (owner : ℕ) (name held : List ℕ) (row : Head) → Stands content t world
    → names.mailbox_named owner (mailbox_name name) t.heads.mailboxes ≡ Some row → delete_refused t owner (mailbox_name name) held ≡ None → Leads content t (delete_changes row) (apply world (Delete owner name held))
unfolding apply
delete_leads same stays content t world owner name held row s found none =
    let its = mailbox_name name in
    unmapped (mailbox_named owner its world.mailboxes) row (sym (head_named owner its world.mailboxes) ∙ (sym (ap (names.mailbox_named owner its) s.mailboxes) ∙ found)) (λ m is head.
    record {
      after = applied t (DropMailbox row.id);
      runs = (
        ap is_some (ap (row_at mailbox_key (number_key row.id)) s.mailboxes ∙ (head_row row.id world.mailboxes ∙ ap (λ k. option_map (λ x. x.head) (mailbox_at k world.mailboxes)) (sym (ap (λ h. h.id) head))))
            ∙ ap (λ o. is_some (option_map (λ x. x.head) o)) (all_found (λ x. mailbox_at x.head.id world.mailboxes ≡ Some x) (is_named owner its) world.mailboxes m (each_at world s.legal) is),
        refl,
      );
      stands = standing content (applied t (DropMailbox row.id)) (apply world (Delete owner name held))
          (stays world (Delete owner name held) s.legal tt (sym (delete_same content t world owner name held s) ∙ none))
          (subst (λ ms. Shows content (applied t (DropMailbox row.id)) (record world { mailboxes = ms }))
          (sym (filter-same (λ x. not (is_named owner its x)) (λ x. not (has_id row.id x)) world.mailboxes
          (all-weaker (λ x. is_named owner its x ≡ has_id m.head.id x) (λ x. not (is_named owner its x) ≡ not (has_id row.id x)) (λ x e. ap not (e ∙ ap (λ h. x.head.id == h.id) head)) world.mailboxes (name_is_id world owner its m s.legal is))))
          (left_shows same content t world row.id (shown content t world s)));
    })
