-- Mailboxes that are renamed, as rows.
use Rattle.std.proofs.Common.{ℕ, ◌≡◌, ◌==◌, Bool, true, false, cond, not, List, [], ◌∷◌, map, length, Option, Some, None, inl, inr, refl, sym, ap, subst, ◌∙◌, ⊎_elim}
use Rattle.std.specs.Prelude.{◌&&◌, nat_lt, is_some, IsSomeAnd}
use Rattle.std.specs.Cmp.{both_ways}
use Rattle.std.specs.List.{AllByRecursion, list_any, filter, find}
use Rattle.std.specs.Option.{option_map}
use Rattle.std.proofs.lemmas.Bool.{true≢false, false≢true, eqb-true, eq-eqb, and_parts, and_from, or_cases, or_from, or_left, or_right, cond_both, false_from_ne_true, cond-false}
use Rattle.std.proofs.lemmas.Option.{none-some, same_Some}
use Rattle.ordered_rows.specs.RowKey.{number_key}
use Rattle.ordered_rows.specs.Listed.{row_at}
use Rattle.ordered_rows.specs.InsertLaws.{InsertLaws}
use Rattle.row_tables.specs.Keys.{mailbox_key}
use Rattle.row_tables.specs.Names as names
use Rattle.row_tables.specs.TableRows.{TableRows}
use Rattle.row_tables.specs.References.{AreClosed, AreOrdered, MailboxRefers}
use Rattle.row_tables.specs.Fits.{Runs}
use Rattle.row_tables.specs.declared.contents.BodyPart.{BodyPart}
use Rattle.row_tables.specs.declared.heads.Mailbox.{Mailbox as Head}
use Rattle.mail_world.specs.Names.{is_inbox, is_mailbox_name, is_renamed, mailbox_name, longest_name}
use Rattle.mail_world.specs.Worlds.{World, Mailbox, mailbox_at, mailbox_named, is_named}
use Rattle.mail_world.specs.Changes.{Refusal, BadName, Absent, Exists, InUse, Full, NoUid, Rename, first_refusal}
use Rattle.mail_world.specs.Renaming.{moves, new_name, with_name, renamed, rename_refused, rename_inbox_refused, inbox_renamed}
use Rattle.mail_world.specs.Applying.{apply, refused}
use Rattle.mail_stands.specs.Stands.{Stands}
use Rattle.mail_stands.specs.Leading.{KeepsOwners, Leads}
use Rattle.mail_stands.specs.Renaming.{AreRenamed, CanRename, IsRenamed, RefusesRename, is_long, is_taken, rename_changes, with_new_name}
use Rattle.mail_stands.proofs.Lists.{all-weaker, all_both, all-map, all-unmap, all_found, find_passes}
use Rattle.mail_stands.proofs.Frames.{head_row, head_named, heads-same, entries_stay, gone_stays, flags_stay}
use Rattle.mail_stands.proofs.Refusing.{named_there}
use Rattle.mail_stands.proofs.Heading.{each_at, unmapped}
use Rattle.mail_stands.proofs.Making.{StaysLegal}
use Rattle.mail_stands.proofs.NewNames.{renamed_name, renamed_text}
use Rattle.mail_stands.proofs.Owners.{SameKeys, Replaces}
use Rattle.mail_stands.proofs.Replacing.{CanReplace, IsOwnedAs, replaced_as, replaced_by, replacings_keep, replacings_run, with_heads}
use Rattle.mail_stands.proofs.Showing.{Shows, standing}

-- ---- over any tables

module _ (laws : InsertLaws mailbox_key) (t : TableRows) (owner : ℕ) (from : List ℕ) (ordered : AreOrdered t) where
  -- a renamed row is the one of its id
  at_id : (row : Head) → IsRenamed t owner from row → row_at mailbox_key (number_key row.id) t.heads.mailboxes ≡ Some row
  at_id row is = laws.at_key (names.has_mailbox_name owner row.name) row t.heads.mailboxes ordered.mailboxes is.named

  owned_as : (to : List ℕ) (row : Head) → IsRenamed t owner from row → IsOwnedAs t (with_new_name from to row)
  owned_as to row is = subst (λ o. IsSomeAnd o (λ now. now.owner ≡ row.owner)) (sym (at_id row is)) refl

  pub rename_keeps : SameKeys → Replaces → (after : TableRows) (to : List ℕ) (rows : List Head) → AreRenamed t owner from rows → Runs t (rename_changes from to rows) after → KeepsOwners t after
  rename_keeps same replaces after to rows are runs =
      replacings_keep same replaces (with_new_name from to) t after rows (all-weaker (IsRenamed t owner from) (λ row. IsOwnedAs t (with_new_name from to row)) (owned_as to) rows are.each) runs

  can_replace : (closed : AreClosed t) (to : List ℕ) → ((row : Head) → IsRenamed t owner from row → is_long from to row ≡ false) → (row : Head) → IsRenamed t owner from row → CanReplace t (with_new_name from to row)
  can_replace closed to short row is = record {
    text = renamed_text from to row.name (short row is);
    owned = owned_as to row is;
    user = all_found (MailboxRefers t) (names.has_mailbox_name owner row.name) t.heads.mailboxes row closed.mailboxes is.named;
  }

  pub rename_runs : SameKeys → Replaces → AreClosed t → (to : List ℕ) (rows : List Head) → CanRename t owner from to → AreRenamed t owner from rows
      → Runs t (rename_changes from to rows) (with_heads t (with_new_name from to) rows)
  rename_runs same replaces closed to rows can are =
      replacings_run same replaces (with_new_name from to) t rows
      (all-weaker (IsRenamed t owner from) (λ row. CanReplace t (with_new_name from to row)) (can_replace closed to can.short) rows are.each)

-- ---- what is renamed in the world

pub none_any : {X : Type 0} (p : X → Bool) (xs : List X) → AllByRecursion (λ x. p x ≡ false) xs → list_any p xs ≡ false
none_any p [] all = refl
none_any p (x ∷ xs) all = or_from (p x) (list_any p xs) all.0 (none_any p xs all.1)

pub found_any : {X : Type 0} (p q : X → Bool) (x : X) (xs : List X) → find q xs ≡ Some x → p x ≡ true → list_any p xs ≡ true
found_any p q x [] found passes = absurd (none-some x found)
found_any {X} p q x (y ∷ ys) found passes = by (q y) found (λ later. found_any p q x ys later passes)
  where
    by : (b : Bool) → cond b (Some y) (find q ys) ≡ Some x → (find q ys ≡ Some x → list_any p ys ≡ true) → list_any p (y ∷ ys) ≡ true
    by true e rest = or_left (p y) (list_any p ys) (ap p (same_Some y x e) ∙ passes)
    by false e rest = or_right (p y) (list_any p ys) (rest e)

-- what an element that passes gives
pub any_gives : {X P : Type 0} (p : X → Bool) (xs : List X) → AllByRecursion (λ x. p x ≡ true → P) xs → list_any p xs ≡ true → P
any_gives p [] all any = absurd (false≢true any)
any_gives {X} {P} p (x ∷ xs) all any = ⊎_elim all.0 (any_gives p xs all.1) (or_cases (p x) (list_any p xs) any)

module _ (content : BodyPart → List ℕ) (t : TableRows) (world : World) (owner : ℕ) (from : List ℕ) (s : Stands content t world) where
  named_in : (user : ℕ) (name : List ℕ) → names.mailbox_named user name t.heads.mailboxes ≡ option_map (λ m. m.head) (mailbox_named user name world.mailboxes)
  named_in user name = ap (names.mailbox_named user name) s.mailboxes ∙ head_named user name world.mailboxes

  is_row : (m : Mailbox) → mailbox_at m.head.id world.mailboxes ≡ Some m → moves owner from m ≡ true → IsRenamed t owner from m.head
  is_row m at moved =
      let both = and_parts (m.head.owner == owner) (is_renamed from m.head.name) moved in
      record {
        named = named_in owner m.head.name
            ∙ ap (λ user. option_map (λ x. x.head) (mailbox_named user m.head.name world.mailboxes)) (sym (eqb-true m.head.owner owner both.0))
            ∙ ap (option_map (λ x. x.head)) (s.legal.mailboxes m.head.id m at).named;
        under = both.1;
      }

  owner_is : (row : Head) → IsRenamed t owner from row → (row.owner == owner) ≡ true
  owner_is row is = (and_parts _ (row.owner == owner) (find_passes (names.has_mailbox_name owner row.name) t.heads.mailboxes row is.named)).1

  moves_row : (m : Mailbox) → IsRenamed t owner from m.head → moves owner from m ≡ true
  moves_row m is = and_from (m.head.owner == owner) (is_renamed from m.head.name) (owner_is m.head is) is.under

  -- ---- tests of those that are renamed

  module _ (p : Head → Bool) (q : Mailbox → Bool) (same : (m : Mailbox) → q m ≡ p m.head) where
    none_moves : ((row : Head) → IsRenamed t owner from row → p row ≡ false) → list_any (λ m. moves owner from m && q m) world.mailboxes ≡ false
    none_moves fails =
        none_any (λ m. moves owner from m && q m) world.mailboxes
        (all-weaker (λ m. mailbox_at m.head.id world.mailboxes ≡ Some m) (λ m. (moves owner from m && q m) ≡ false)
        (λ m at. false_from_ne_true (moves owner from m && q m) (λ both.
        let two = and_parts (moves owner from m) (q m) both in true≢false (sym two.1 ∙ (same m ∙ fails m.head (is_row m at two.0)))))
        world.mailboxes (each_at world s.legal))

    some_moves : (row : Head) → IsRenamed t owner from row → p row ≡ true → list_any (λ m. moves owner from m && q m) world.mailboxes ≡ true
    some_moves row is passes =
        unmapped (mailbox_named owner row.name world.mailboxes) row (sym (named_in owner row.name) ∙ is.named)
        (λ m found head.
        found_any (λ x. moves owner from x && q x) (is_named owner row.name) m world.mailboxes found
        (and_from (moves owner from m) (q m) (moves_row m (subst (IsRenamed t owner from) (sym head) is)) (same m ∙ (ap p head ∙ passes))))

  -- ---- refusals

  module _ (to : List ℕ) where
    abbrev any_long : Bool
    any_long = list_any (λ m. moves owner from m && nat_lt longest_name (length (new_name from to m))) world.mailboxes

    abbrev any_taken : Bool
    any_taken = list_any (λ m. moves owner from m && is_some (mailbox_named owner (new_name from to m) world.mailboxes)) world.mailboxes

    taken_same : (m : Mailbox) → is_some (mailbox_named owner (new_name from to m) world.mailboxes) ≡ is_taken t owner from to m.head
    taken_same m = sym (named_there owner (new_name from to m) t.heads.mailboxes world.mailboxes s.mailboxes)

    there_same : is_some (mailbox_named owner from world.mailboxes) ≡ is_some (names.mailbox_named owner from t.heads.mailboxes)
    there_same = sym (named_there owner from t.heads.mailboxes world.mailboxes s.mailboxes)

    abbrev by_tests : (proper there long taken : Bool) → Option Refusal
    by_tests proper there long taken = first_refusal ((not proper, BadName) ∷ (not there, Absent) ∷ (long, BadName) ∷ (taken, Exists) ∷ [])

    tested : (proper there long taken : Bool) → is_mailbox_name to ≡ proper → is_some (names.mailbox_named owner from t.heads.mailboxes) ≡ there → any_long ≡ long → any_taken ≡ taken
        → rename_refused world owner from to ≡ by_tests proper there long taken
    tested proper there long taken a b c d =
        ap (λ x. by_tests x (is_some (mailbox_named owner from world.mailboxes)) any_long any_taken) a
        ∙ ap (λ x. by_tests proper x any_long any_taken) (there_same ∙ b)
        ∙ ap (λ x. by_tests proper there x any_taken) c
        ∙ ap (by_tests proper there long) d

    none_long : ((row : Head) → IsRenamed t owner from row → is_long from to row ≡ false) → any_long ≡ false
    none_long short = none_moves (is_long from to) (λ m. nat_lt longest_name (length (new_name from to m))) (λ m. refl) short

    refuses : (refusal : Option Refusal) → RefusesRename t owner from to refusal → rename_refused world owner from to ≡ refusal
    refuses None can =
        tested true true false false can.proper can.there (none_long can.short) (none_moves (is_taken t owner from to) (λ m. is_some (mailbox_named owner (new_name from to m) world.mailboxes)) taken_same can.free)
    refuses (Some BadName) (inl improper) = tested false (is_some (names.mailbox_named owner from t.heads.mailboxes)) any_long any_taken improper refl refl refl
    refuses (Some BadName) (inr its) =
        tested true true true any_taken its.proper its.there (some_moves (is_long from to) (λ m. nat_lt longest_name (length (new_name from to m))) (λ m. refl) its.row its.renamed its.long) refl
    refuses (Some Absent) its = tested true false any_long any_taken its.0 its.1 refl refl
    refuses (Some Exists) its =
        tested true true false true its.proper its.there (none_long its.short)
        (some_moves (is_taken t owner from to) (λ m. is_some (mailbox_named owner (new_name from to m) world.mailboxes)) taken_same its.row its.renamed its.taken)
    refuses (Some InUse) its = absurd its
    refuses (Some Full) its = absurd its
    refuses (Some NoUid) its = absurd its

  -- ---- those that are renamed, in the order of their ids

  abbrev moved_heads : List Mailbox → List Head
  moved_heads ms = map (λ m. m.head) (filter (moves owner from) ms)

  each_moved : (ms : List Mailbox) → AllByRecursion (λ m. mailbox_at m.head.id world.mailboxes ≡ Some m) ms → AllByRecursion (IsRenamed t owner from) (moved_heads ms)
  each_moved [] all = tt
  each_moved (m ∷ ms) all = by (moves owner from m) refl (each_moved ms all.1)
    where
      by : (b : Bool) → moves owner from m ≡ b → AllByRecursion (IsRenamed t owner from) (moved_heads ms)
          → AllByRecursion (IsRenamed t owner from) (map (λ x. x.head) (cond b (m ∷ filter (moves owner from) ms) (filter (moves owner from) ms)))
      by true e rest = (is_row m all.0 e, rest)
      by false e rest = rest

  moved_there : (q : Mailbox → Bool) (m : Mailbox) (ms : List Mailbox) → find q ms ≡ Some m → moves owner from m ≡ true → list_any (λ r. m.head.id == r.id) (moved_heads ms) ≡ true
  moved_there q m [] found moved = absurd (none-some m found)
  moved_there q m (x ∷ ms) found moved = by (q x) (moves owner from x) found refl (λ later. moved_there q m ms later moved)
    where
      by : (a b : Bool) → cond a (Some x) (find q ms) ≡ Some m → moves owner from x ≡ b → (find q ms ≡ Some m → list_any (λ r. m.head.id == r.id) (moved_heads ms) ≡ true)
          → list_any (λ r. m.head.id == r.id) (map (λ y. y.head) (cond b (x ∷ filter (moves owner from) ms) (filter (moves owner from) ms))) ≡ true
      by true true e f rest = or_left (m.head.id == x.head.id) (list_any (λ r. m.head.id == r.id) (moved_heads ms)) (eq-eqb m.head.id x.head.id (ap (λ y. y.head.id) (sym (same_Some x m e))))
      by true false e f rest = absurd (true≢false (sym moved ∙ (ap (moves owner from) (sym (same_Some x m e)) ∙ f)))
      by false true e f rest = or_right (m.head.id == x.head.id) (list_any (λ r. m.head.id == r.id) (moved_heads ms)) (rest e)
      by false false e f rest = rest e

  pub renamed_rows : (rows : List Head) × AreRenamed t owner from rows
  renamed_rows = (
    moved_heads world.mailboxes,
    record {
      each = each_moved world.mailboxes (each_at world s.legal);
      all = λ row is.
          unmapped (mailbox_named owner row.name world.mailboxes) row (sym (named_in owner row.name) ∙ is.named)
          (λ m found head. subst (λ r. list_any (λ x. r.id == x.id) (moved_heads world.mailboxes) ≡ true) head
          (moved_there (is_named owner row.name) m world.mailboxes found (moves_row m (subst (IsRenamed t owner from) (sym head) is))));
    },
  )

  -- ---- what the changes lead to

  module _ (laws : InsertLaws mailbox_key) (ordered : AreOrdered t) (to : List ℕ) (rows : List Head) (are : AreRenamed t owner from rows) (can : CanRename t owner from to) where
    abbrev with_new : Mailbox → Mailbox
    with_new m = cond (moves owner from m) (with_name (new_name from to m) m) m

    at_row : (m : Mailbox) → mailbox_at m.head.id world.mailboxes ≡ Some m → row_at mailbox_key (number_key m.head.id) t.heads.mailboxes ≡ Some m.head
    at_row m at = ap (row_at mailbox_key (number_key m.head.id)) s.mailboxes ∙ head_row m.head.id world.mailboxes ∙ ap (option_map (λ x. x.head)) at

    one_row : (m : Mailbox) → mailbox_at m.head.id world.mailboxes ≡ Some m → (row : Head) → IsRenamed t owner from row → m.head.id ≡ row.id → row ≡ m.head
    one_row m at row is same =
        same_Some row m.head (sym (at_id laws t owner from ordered row is) ∙ (ap (λ n. row_at mailbox_key (number_key n) t.heads.mailboxes) (sym same) ∙ at_row m at))

    moves_if : (m : Mailbox) → mailbox_at m.head.id world.mailboxes ≡ Some m → list_any (λ row. m.head.id == row.id) rows ≡ moves owner from m
    moves_if m at =
        both_ways (list_any (λ row. m.head.id == row.id) rows) (moves owner from m)
        (any_gives (λ row. m.head.id == row.id) rows
        (all-weaker (IsRenamed t owner from) (λ row. (m.head.id == row.id) ≡ true → moves owner from m ≡ true)
        (λ row is same. moves_row m (subst (IsRenamed t owner from) (one_row m at row is (eqb-true m.head.id row.id same)) is)) rows are.each))
        (λ moved. are.all m.head (is_row m at moved))

    head_of : (m : Mailbox) → (b : Bool) → cond b (with_new_name from to m.head) m.head ≡ (cond b (with_name (new_name from to m) m) m).head
    head_of m true = refl
    head_of m false = refl

    head_after : (m : Mailbox) → mailbox_at m.head.id world.mailboxes ≡ Some m → replaced_by (with_new_name from to) rows m.head ≡ (with_new m).head
    head_after m at =
        replaced_as (with_new_name from to) (λ row. refl) m.head rows
        (all-weaker (IsRenamed t owner from) (λ row. m.head.id ≡ row.id → row ≡ m.head) (one_row m at) rows are.each)
        ∙ ap (λ b. cond b (with_new_name from to m.head) m.head) (moves_if m at) ∙ head_of m (moves owner from m)

    heads_after : (ms : List Mailbox) → AllByRecursion (λ m. mailbox_at m.head.id world.mailboxes ≡ Some m) ms
        → map (replaced_by (with_new_name from to) rows) (map (λ m. m.head) ms) ≡ map (λ m. m.head) (map with_new ms)
    heads_after [] all = refl
    heads_after (m ∷ ms) all = ap (λ h. h ∷ map (replaced_by (with_new_name from to) rows) (map (λ x. x.head) ms)) (head_after m all.0) ∙ ap (λ hs. (with_new m).head ∷ hs) (heads_after ms all.1)

    all_heads : map (replaced_by (with_new_name from to) rows) t.heads.mailboxes ≡ map (λ m. m.head) (map with_new world.mailboxes)
    all_heads = ap (map (replaced_by (with_new_name from to) rows)) s.mailboxes ∙ heads_after world.mailboxes (each_at world s.legal)

    name_after : (m : Mailbox) → mailbox_at m.head.id world.mailboxes ≡ Some m → is_mailbox_name m.head.name ≡ true → is_mailbox_name (with_new m).head.name ≡ true
    name_after m at proper =
        cond_both (moves owner from m) (with_name (new_name from to m) m) m (λ x. is_mailbox_name x.head.name ≡ true)
        (λ moved. let is = is_row m at moved in renamed_name from to m.head.name can.proper proper is.under (can.short m.head is)) (λ e. proper)

    names_after : AllByRecursion (λ row. is_mailbox_name row.name ≡ true) (map (replaced_by (with_new_name from to) rows) t.heads.mailboxes)
    names_after =
        subst (AllByRecursion (λ row. is_mailbox_name row.name ≡ true)) (sym all_heads)
        (all-map (λ row. is_mailbox_name row.name ≡ true) (λ m. m.head) (map with_new world.mailboxes)
        (all-map (λ m. is_mailbox_name m.head.name ≡ true) with_new world.mailboxes
        (all_both (λ m. mailbox_at m.head.id world.mailboxes ≡ Some m) (λ m. is_mailbox_name m.head.name ≡ true) (λ m. is_mailbox_name (with_new m).head.name ≡ true) name_after world.mailboxes (each_at world s.legal)
        (all-unmap (λ row. is_mailbox_name row.name ≡ true) (λ m. m.head) world.mailboxes (subst (AllByRecursion (λ row. is_mailbox_name row.name ≡ true)) s.mailboxes s.names)))))

    renamed_shows : Shows content (with_heads t (with_new_name from to) rows) (renamed world owner from to)
    renamed_shows =
        let same = heads-same with_new (λ m. cond_both (moves owner from m) (with_name (new_name from to m) m) m (λ x. x.head.id ≡ m.head.id) (λ e. refl) (λ e. refl))
        (λ m. cond_both (moves owner from m) (with_name (new_name from to m) m) m (λ x. x.entries ≡ m.entries) (λ e. refl) (λ e. refl))
        (λ m. cond_both (moves owner from m) (with_name (new_name from to m) m) m (λ x. x.gone ≡ m.gone) (λ e. refl) (λ e. refl)) world.mailboxes in
        record {
          users = s.users;
          mailboxes = all_heads;
          names = names_after;
          subscriptions = s.subscriptions;
          next = s.next;
          entries = entries_stay _ t.marks.mailbox_messages world.mailboxes _ same s.entries;
          gone = gone_stays t.marks.deleted_messages world.mailboxes _ same s.gone;
          flags = flags_stay t.marks.flag_names t.marks.flags world.mailboxes _ same s.flags;
          distinct = s.distinct;
        }

pub rename_same : (content : BodyPart → List ℕ) (t : TableRows) (world : World) (owner : ℕ) (from to : List ℕ) (refusal : Option Refusal) → Stands content t world
    → is_inbox from ≡ false → RefusesRename t owner from (mailbox_name to) refusal → refused world (Rename owner from to) ≡ refusal
unfolding refused
rename_same content t world owner from to refusal s other its =
    cond-false (is_inbox from) (rename_inbox_refused world owner (mailbox_name to)) (rename_refused world owner from (mailbox_name to)) other
    ∙ refuses content t world owner from s (mailbox_name to) refusal its

pub rename_leads : SameKeys → InsertLaws mailbox_key → Replaces → StaysLegal → (content : BodyPart → List ℕ) (t : TableRows) (world : World) (owner : ℕ) (from to : List ℕ) (rows : List Head)
    → AreOrdered t → AreClosed t → Stands content t world → is_inbox from ≡ false → CanRename t owner from (mailbox_name to) → AreRenamed t owner from rows
    → Leads content t (rename_changes from (mailbox_name to) rows) (apply world (Rename owner from to))
unfolding apply
rename_leads same laws replaces stays content t world owner from to rows ordered closed s other can are =
    let name = mailbox_name to in
    let after = with_heads t (with_new_name from name) rows in
    record {
      after = after;
      runs = rename_runs laws t owner from ordered same replaces closed name rows can are;
      stands = standing content after (apply world (Rename owner from to))
          (stays world (Rename owner from to) s.legal tt (rename_same content t world owner from to None s other can))
          (subst (Shows content after) (sym (cond-false (is_inbox from) (inbox_renamed world owner name) (renamed world owner from name) other)) (renamed_shows content t world owner from s laws ordered name rows are can));
    }
