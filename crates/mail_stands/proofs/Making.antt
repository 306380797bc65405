-- Users that come and mailboxes that are made, as rows.
use Rattle.std.proofs.Common.{ℕ, ◌≡◌, ◌+◌, ◌<◌, ◌≤◌, ◌==◌, Bool, true, false, not, List, [], ◌∷◌, ◌++◌, map, length, None, refl, sym, ap, subst, ◌∙◌, arith}
use Rattle.std.specs.Prelude.{◌&&◌, ◌||◌, nat_lt, nat_le, IsSome, is_some}
use Rattle.std.specs.List.{AllByRecursion, list_all, slice_split}
use Rattle.std.specs.Ordering.{is_lt}
use Rattle.std.proofs.lemmas.Bool.{false≢true, lt-ltb, leb-true, eqb-false, ne_eqb, not-false, or_parts}
use Rattle.std.proofs.lemmas.List.{map-append}
use Rattle.ordered_rows.specs.RowKey.{key_cmp, number_key}
use Rattle.ordered_rows.specs.Listed.{row_at, with_row, has_key, is_below}
use Rattle.ordered_rows.specs.InsertLaws.{InsertLaws}
use Rattle.row_tables.specs.Keys.{user_key, mailbox_key}
use Rattle.row_tables.specs.Names as names
use Rattle.row_tables.specs.TableRows.{TableRows}
use Rattle.row_tables.specs.References.{HasUser}
use Rattle.row_tables.specs.Fits.{IsText, Runs, applied}
use Rattle.row_tables.specs.declared.heads.User.{User}
use Rattle.row_tables.specs.declared.heads.Mailbox.{Mailbox as Head}
use Rattle.row_tables.specs.declared.contents.BodyPart.{BodyPart}
use Rattle.row_tables.specs.declared.change.RowChange.TheVariants.{InsertUser}
use Rattle.mail_world.specs.Names.{inbox, is_user_byte, is_user_name, is_name_byte, is_level, separator, is_mailbox_name, created_name}
use Rattle.mail_world.specs.Worlds.{World}
use Rattle.mail_world.specs.Limits.{most_users, most_mailboxes}
use Rattle.mail_world.specs.Changes.{Change, BadName, Exists, Full, AddUser, Create}
use Rattle.mail_world.specs.Users as world_users
use Rattle.mail_world.specs.Applying.{apply, refused}
use Rattle.mail_world.specs.Legal.{IsLegal, IsProper}
use Rattle.mail_stands.specs.Stands.{Stands}
use Rattle.mail_stands.specs.Leading.{Leads}
use Rattle.mail_stands.specs.Refusals.{add_user_refused, create_refused, mailboxes_of}
use Rattle.mail_stands.specs.RowChanges.{new_mailbox, new_user, create_changes, add_user_changes}
use Rattle.mail_stands.proofs.Lists.{all-weaker, all-with, all-map, all-unmap, none_passes, listed, range_below}
use Rattle.mail_stands.proofs.Frames.{new-same, entries_stay, gone_stays, flags_stay}
use Rattle.mail_stands.proofs.Refusing.{not_refused, add_user_same, create_same}
use Rattle.mail_stands.proofs.Showing.{Shows, shown, standing}

-- ---- texts

third : (a b c : Bool) → (a && b && c) ≡ true → c ≡ true
third true true c e = e
third true false c e = absurd (false≢true e)
third false b c e = absurd (false≢true e)

short : (name : List ℕ) (n : ℕ) → nat_le (length name) n ≡ true → n ≤ 255 → IsText name
short name n e few = omega (arith, leb-true (length name) n e, few)

user_text : (name : List ℕ) → is_user_name name ≡ true → IsText name
unfolding is_user_name
user_text name e = short name 64 (third (list_all is_user_byte name) (nat_le 1 (length name)) (nat_le (length name) 64) e) (omega arith)

pub mailbox_text : (name : List ℕ) → is_mailbox_name name ≡ true → IsText name
unfolding is_mailbox_name
mailbox_text name e = short name 255 (third (list_all is_name_byte name) (list_all is_level (slice_split (λ b. b == separator) name)) (nat_le (length name) 255) e) (omega arith)

-- ---- ids

abbrev pub Numbers : Type 0
Numbers = (a b : ℕ) → is_lt (key_cmp (number_key a) (number_key b)) ≡ nat_lt a b

users_below : (world : World) → IsLegal world → AllByRecursion (λ u. u.id < length world.users + 1) world.users
users_below world legal =
    all-weaker (λ u. u.id < 1 + length world.users) (λ u. u.id < length world.users + 1) (λ u less. omega (arith, less)) world.users
    (all-unmap (λ k. k < 1 + length world.users) (λ u. u.id) world.users (subst (AllByRecursion (λ k. k < 1 + length world.users)) (sym legal.user_ids) (range_below 1 (length world.users))))

pub heads_below : (world : World) → IsLegal world → (world.next == 0) ≡ false → AllByRecursion (λ r. r.id < world.next) (map (λ m. m.head) world.mailboxes)
heads_below world legal some =
    all-map (λ r. r.id < world.next) (λ m. m.head) world.mailboxes
    (listed (λ m. m.head.id) (λ m. m.head.id < world.next) world.mailboxes legal.mailbox_ids (λ id m found. (legal.mailboxes id m found).below_next (eqb-false world.next 0 some)))

no_user : (n : ℕ) (rows : List User) → AllByRecursion (λ r. r.id < n) rows → row_at user_key (number_key n) rows ≡ None
no_user n rows below = none_passes (has_key user_key (number_key n)) rows (all-weaker (λ r. r.id < n) (λ r. has_key user_key (number_key n) r ≡ false) (λ r less. ne_eqb r.id n (λ same. omega (arith, same, less))) rows below)

no_head : (n : ℕ) (rows : List Head) → AllByRecursion (λ r. r.id < n) rows → row_at mailbox_key (number_key n) rows ≡ None
no_head n rows below = none_passes (has_key mailbox_key (number_key n)) rows (all-weaker (λ r. r.id < n) (λ r. has_key mailbox_key (number_key n) r ≡ false) (λ r less. ne_eqb r.id n (λ same. omega (arith, same, less))) rows below)

behind_users : Numbers → InsertLaws user_key → (row : User) (rows : List User) → AllByRecursion (λ r. r.id < row.id) rows → with_row user_key row rows ≡ rows ++ row ∷ []
behind_users numbers laws row rows below =
    laws.behind row rows (all-weaker (λ r. r.id < row.id) (λ r. is_below user_key (user_key row) r ≡ true) (λ r less. numbers r.id row.id ∙ lt-ltb r.id row.id less) rows below)

pub behind_heads : Numbers → InsertLaws mailbox_key → (row : Head) (rows : List Head) → AllByRecursion (λ r. r.id < row.id) rows → with_row mailbox_key row rows ≡ rows ++ row ∷ []
behind_heads numbers laws row rows below =
    laws.behind row rows (all-weaker (λ r. r.id < row.id) (λ r. is_below mailbox_key (mailbox_key row) r ≡ true) (λ r less. numbers r.id row.id ∙ lt-ltb r.id row.id less) rows below)

-- ---- a mailbox that is made

abbrev new_head : ℕ → ℕ → List ℕ → Head
new_head id owner name = record { id = id; owner = owner; name = name; uidnext = 1; first_recent = 1; highest = 1 }

abbrev with_new_mailbox : TableRows → ℕ → List ℕ → TableRows
with_new_mailbox t owner name = record t {
  heads = record t.heads { mailboxes = with_row mailbox_key (new_mailbox t owner name) t.heads.mailboxes; counters = record { next = world_users.next_id t.heads.counters.next } };
}

made_shows : Numbers → InsertLaws mailbox_key → (content : BodyPart → List ℕ) (t : TableRows) (world : World) (owner : ℕ) (name : List ℕ) → Shows content t world
    → AllByRecursion (λ r. r.id < world.next) (map (λ m. m.head) world.mailboxes) → is_mailbox_name name ≡ true → Shows content (with_new_mailbox t owner name) (world_users.created world owner name)
made_shows numbers laws content t world owner name s below proper = record {
  users = s.users;
  mailboxes =
      ap (λ n. with_row mailbox_key (new_head n owner name) t.heads.mailboxes) s.next
      ∙ ap (with_row mailbox_key (new_head world.next owner name)) s.mailboxes
      ∙ behind_heads numbers laws (new_head world.next owner name) (map (λ m. m.head) world.mailboxes) below
      ∙ sym (map-append (λ m. m.head) world.mailboxes (world_users.new_mailbox world.next owner name ∷ []));
  names = all-with mailbox_key (λ r. is_mailbox_name r.name ≡ true) (new_mailbox t owner name) t.heads.mailboxes s.names proper;
  subscriptions = s.subscriptions;
  next = ap world_users.next_id s.next;
  entries = entries_stay _ t.marks.mailbox_messages world.mailboxes _ (new-same world.mailboxes (new_head world.next owner name)) s.entries;
  gone = gone_stays t.marks.deleted_messages world.mailboxes _ (new-same world.mailboxes (new_head world.next owner name)) s.gone;
  flags = flags_stay t.marks.flag_names t.marks.flags world.mailboxes _ (new-same world.mailboxes (new_head world.next owner name)) s.flags;
  distinct = s.distinct;
}

pub create_runs : (t : TableRows) (owner : ℕ) (name : List ℕ) → IsText name → HasUser t owner → row_at mailbox_key (number_key t.heads.counters.next) t.heads.mailboxes ≡ None
    → Runs t (create_changes t owner name) (with_new_mailbox t owner name)
create_runs t owner name text there new = ((text, new, there), (tt, refl))

-- the rows of a world have no mailbox with the next id
pub next_new : (content : BodyPart → List ℕ) (t : TableRows) (world : World) → Shows content t world → AllByRecursion (λ r. r.id < world.next) (map (λ m. m.head) world.mailboxes)
    → row_at mailbox_key (number_key t.heads.counters.next) t.heads.mailboxes ≡ None
next_new content t world s below =
    ap (λ n. row_at mailbox_key (number_key n) t.heads.mailboxes) s.next ∙ ap (row_at mailbox_key (number_key world.next)) s.mailboxes ∙ no_head world.next (map (λ m. m.head) world.mailboxes) below

abbrev pub StaysLegal : Type 0
StaysLegal = (world : World) (change : Change) → IsLegal world → IsProper world change → refused world change ≡ None → IsLegal (apply world change)

pub create_leads : Numbers → InsertLaws mailbox_key → StaysLegal → (content : BodyPart → List ℕ) (t : TableRows) (world : World) (owner : ℕ) (name : List ℕ) → Stands content t world → HasUser t owner
    → create_refused t owner (created_name name) ≡ None → Leads content t (create_changes t owner (created_name name)) (apply world (Create owner name))
unfolding apply
create_leads numbers laws stays content t world owner name s there none =
    let its = created_name name in
    let first = not_refused (not (is_mailbox_name its)) BadName ((is_some (names.mailbox_named owner its t.heads.mailboxes), Exists) ∷ (nat_le most_mailboxes (length (mailboxes_of owner t.heads.mailboxes)) || t.heads.counters.next == 0, Full) ∷ []) none in
    let second = not_refused (is_some (names.mailbox_named owner its t.heads.mailboxes)) Exists ((nat_le most_mailboxes (length (mailboxes_of owner t.heads.mailboxes)) || t.heads.counters.next == 0, Full) ∷ []) first.1 in
    let last = not_refused (nat_le most_mailboxes (length (mailboxes_of owner t.heads.mailboxes)) || t.heads.counters.next == 0) Full [] second.1 in
    let room = or_parts (nat_le most_mailboxes (length (mailboxes_of owner t.heads.mailboxes))) (t.heads.counters.next == 0) last.0 in
    let below = heads_below world s.legal (ap (λ n. n == 0) (sym s.next) ∙ room.1) in
    let shows = shown content t world s in
    record {
      after = with_new_mailbox t owner its;
      runs = create_runs t owner its (mailbox_text its (not-false (is_mailbox_name its) first.0)) there (next_new content t world shows below);
      stands = standing content (with_new_mailbox t owner its) (world_users.created world owner its)
          (stays world (Create owner name) s.legal (subst (λ us. IsSome (row_at user_key (number_key owner) us)) s.users there) (sym (create_same content t world owner name s) ∙ none))
          (made_shows numbers laws content t world owner its shows below (not-false (is_mailbox_name its) first.0));
    }

-- ---- a user that comes

abbrev with_new_user : TableRows → List ℕ → List ℕ → TableRows
with_new_user t name verifier = applied t (InsertUser (new_user t name verifier))

abbrev user_of : World → List ℕ → List ℕ → User
user_of world name verifier = record { id = world_users.new_user_id world; name = name; verifier = verifier }

abbrev world_with : World → List ℕ → List ℕ → World
world_with world name verifier = record world { users = world.users ++ user_of world name verifier ∷ [] }

user_shows : Numbers → InsertLaws user_key → (content : BodyPart → List ℕ) (t : TableRows) (world : World) (name verifier : List ℕ) → IsLegal world → Shows content t world
    → Shows content (with_new_user t name verifier) (world_with world name verifier)
user_shows numbers laws content t world name verifier legal s = record {
  users =
      ap (λ us. with_row user_key (record { id = length us + 1; name = name; verifier = verifier }) us) s.users
      ∙ behind_users numbers laws (user_of world name verifier) world.users (users_below world legal);
  mailboxes = s.mailboxes;
  names = s.names;
  subscriptions = s.subscriptions;
  next = s.next;
  entries = s.entries;
  gone = s.gone;
  flags = s.flags;
  distinct = s.distinct;
}

inbox_proper : is_mailbox_name inbox ≡ true
unfolding is_mailbox_name
inbox_proper = refl

inbox_text : IsText inbox
inbox_text = omega arith

pub add_user_runs : InsertLaws user_key → (t : TableRows) (name verifier : List ℕ) → IsText name → row_at user_key (number_key (length t.heads.users + 1)) t.heads.users ≡ None
    → row_at mailbox_key (number_key t.heads.counters.next) t.heads.mailboxes ≡ None → Runs t (add_user_changes t name verifier) (with_new_mailbox (with_new_user t name verifier) (length t.heads.users + 1) inbox)
add_user_runs laws t name verifier text new box_new =
    ((text, new), create_runs (with_new_user t name verifier) (length t.heads.users + 1) inbox inbox_text (ap is_some (laws.same (new_user t name verifier) t.heads.users)) box_new)

pub add_user_leads : Numbers → InsertLaws user_key → InsertLaws mailbox_key → StaysLegal → (content : BodyPart → List ℕ) (t : TableRows) (world : World) (name verifier : List ℕ) → Stands content t world
    → add_user_refused t name ≡ None → Leads content t (add_user_changes t name verifier) (apply world (AddUser name verifier))
unfolding apply
add_user_leads numbers user_laws box_laws stays content t world name verifier s none =
    let first = not_refused (not (is_user_name name)) BadName ((is_some (names.user_named name t.heads.users), Exists) ∷ (nat_le most_users (length t.heads.users) || t.heads.counters.next == 0, Full) ∷ []) none in
    let second = not_refused (is_some (names.user_named name t.heads.users)) Exists ((nat_le most_users (length t.heads.users) || t.heads.counters.next == 0, Full) ∷ []) first.1 in
    let last = not_refused (nat_le most_users (length t.heads.users) || t.heads.counters.next == 0) Full [] second.1 in
    let room = or_parts (nat_le most_users (length t.heads.users)) (t.heads.counters.next == 0) last.0 in
    let below = heads_below world s.legal (ap (λ n. n == 0) (sym s.next) ∙ room.1) in
    let shows = shown content t world s in
    let after = with_new_mailbox (with_new_user t name verifier) (length t.heads.users + 1) inbox in
    record {
      after = after;
      runs = add_user_runs user_laws t name verifier (user_text name (not-false (is_user_name name) first.0))
          (subst (λ us. row_at user_key (number_key (length us + 1)) us ≡ None) (sym s.users) (no_user (length world.users + 1) world.users (users_below world s.legal)))
          (next_new content t world shows below);
      stands = standing content after (world_users.with_user world name verifier) (stays world (AddUser name verifier) s.legal tt (sym (add_user_same content t world name verifier s) ∙ none))
          (subst (λ n. Shows content (with_new_mailbox (with_new_user t name verifier) n inbox) (world_users.with_user world name verifier)) (ap (λ us. length us + 1) (sym s.users))
          (made_shows numbers box_laws content (with_new_user t name verifier) (world_with world name verifier) (world_users.new_user_id world) inbox (user_shows numbers user_laws content t world name verifier s.legal shows) below inbox_proper));
    }
