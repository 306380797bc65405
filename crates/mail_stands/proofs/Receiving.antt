-- Who gets a mail, in the world and in the tables.
use Rattle.std.proofs.Common.{ℕ, ◌≡◌, ◌+◌, ◌==◌, ◌||◌, ◌&&◌, Bool, true, false, cond, not, List, [], ◌∷◌, length, Option, Some, None, refl, sym, ap, subst, ◌∙◌}
use Rattle.std.specs.Prelude.{nat_lt, nat_le}
use Rattle.std.specs.List.{AllByRecursion, find, list_any}
use Rattle.std.specs.Option.{option_map}
use Rattle.std.proofs.lemmas.Bool.{true≢false, false≢true, eqb-true, eq-eqb, and_parts, and_from, or_parts, or_from, not_from_false}
use Rattle.std.proofs.lemmas.List.{length-map}
use Rattle.std.proofs.lemmas.Option.{none-some, same_Some}
use Rattle.row_tables.specs.Names as names
use Rattle.row_tables.specs.TableRows.{TableRows}
use Rattle.row_tables.specs.declared.heads.Mailbox.{Mailbox as Head}
use Rattle.row_tables.specs.declared.contents.BodyPart.{BodyPart}
use Rattle.mail_world.specs.Names.{inbox, same_name}
use Rattle.mail_world.specs.Worlds.{World, Mailbox, mailbox_at, mailbox_named, has_id, is_among, is_named}
use Rattle.mail_world.specs.Limits.{most_messages, last_modseq}
use Rattle.mail_world.specs.Arrivals.{takes_mail, has_no_room, has_no_uids}
use Rattle.mail_stands.specs.Stands.{Stands, AreWhole}
use Rattle.mail_stands.specs.Arriving.{has_no_uid, is_full}
use Rattle.mail_stands.specs.Delivering.{AreAll, AreReceivers, IsReceiver, if_open, is_one_of, open_inbox, uid_for}
use Rattle.mail_stands.proofs.Lists.{all-weaker, all_found, find_passes}
use Rattle.mail_stands.proofs.Counting.{Places, uids_are}
use Rattle.mail_stands.proofs.Frames.{head_named}
use Rattle.mail_stands.proofs.Heading.{each_at}
use Rattle.mail_stands.proofs.Renamed.{any_gives}
use Rattle.mail_stands.proofs.NewNames.{same_bytes}

-- ---- tests

none_of : {X : Type 0} (p : X → Bool) (xs : List X) → find p xs ≡ None → AllByRecursion (λ x. p x ≡ false) xs
none_of p [] none = tt
none_of {X} p (x ∷ xs) none = by (p x) refl none (none_of p xs)
  where
    by : (b : Bool) → p x ≡ b → cond b (Some x) (find p xs) ≡ None → (find p xs ≡ None → AllByRecursion (λ y. p y ≡ false) xs) → AllByRecursion (λ y. p y ≡ false) (x ∷ xs)
    by true e none rest = absurd (none-some x (sym none))
    by false e none rest = (e, rest none)

is_not : (b : Bool) → not b ≡ true → b ≡ false
is_not true e = absurd (false≢true e)
is_not false e = refl

-- the parts of the test of a mailbox
pub record Takes (users : List ℕ) (m : Mailbox) : Type 0 where
  pub name : same_name m.head.name inbox ≡ true
  pub owner : is_among m.head.owner users ≡ true
  pub room : has_no_room 1 m ≡ false
  pub uids : has_no_uids 1 m ≡ false

pub takes_parts : (users : List ℕ) (m : Mailbox) → takes_mail users m ≡ true → Takes users m
takes_parts users m e =
    let three = and_parts (same_name m.head.name inbox && is_among m.head.owner users && not (has_no_room 1 m)) (not (has_no_uids 1 m)) e in
    let two = and_parts (same_name m.head.name inbox && is_among m.head.owner users) (not (has_no_room 1 m)) three.0 in
    let one = and_parts (same_name m.head.name inbox) (is_among m.head.owner users) two.0 in
    record { name = one.0; owner = one.1; room = is_not (has_no_room 1 m) two.1; uids = is_not (has_no_uids 1 m) three.1 }

pub takes_from : (users : List ℕ) (m : Mailbox) → Takes users m → takes_mail users m ≡ true
takes_from users m its =
    and_from (same_name m.head.name inbox && is_among m.head.owner users && not (has_no_room 1 m)) (not (has_no_uids 1 m))
    (and_from (same_name m.head.name inbox && is_among m.head.owner users) (not (has_no_room 1 m))
    (and_from (same_name m.head.name inbox) (is_among m.head.owner users) its.name its.owner) (not_from_false (has_no_room 1 m) its.room)) (not_from_false (has_no_uids 1 m) its.uids)

-- ---- a mailbox of the world

module _ (places : Places) (content : BodyPart → List ℕ) (t : TableRows) (world : World) (whole : AreWhole t) (s : Stands content t world) where
  -- it has as much room as its rows tell
  pub full_same : (m : Mailbox) → mailbox_at m.head.id world.mailboxes ≡ Some m → is_full t 0 m.head ≡ has_no_room 1 m
  full_same m at =
      ap (λ n. nat_lt most_messages (n + 1) || nat_le last_modseq m.head.highest)
      (ap length (uids_are places content t world m.head.id m whole.ordered s at) ∙ length-map m.entries (λ entry. entry.uid))

  pub named_in : (user : ℕ) (name : List ℕ) → names.mailbox_named user name t.heads.mailboxes ≡ option_map (λ m. m.head) (mailbox_named user name world.mailboxes)
  named_in user name = ap (names.mailbox_named user name) s.mailboxes ∙ head_named user name world.mailboxes

  -- what is found is the mailbox of its id
  its_own : (p : Mailbox → Bool) (m : Mailbox) → find p world.mailboxes ≡ Some m → mailbox_at m.head.id world.mailboxes ≡ Some m
  its_own p m found = all_found (λ n. mailbox_at n.head.id world.mailboxes ≡ Some n) p world.mailboxes m (each_at world s.legal) found

  -- an INBOX is found by its owner
  inbox_found : (m : Mailbox) → mailbox_at m.head.id world.mailboxes ≡ Some m → same_name m.head.name inbox ≡ true → mailbox_named m.head.owner inbox world.mailboxes ≡ Some m
  inbox_found m at e =
      subst (λ name. mailbox_named m.head.owner name world.mailboxes ≡ Some m) (same_bytes m.head.name inbox e) (s.legal.mailboxes m.head.id m at).named

  -- what a test of the room gives of the row, and of the mailbox
  opened : (m : Mailbox) → mailbox_at m.head.id world.mailboxes ≡ Some m → has_no_room 1 m ≡ false → has_no_uids 1 m ≡ false → if_open t (Some m.head) ≡ Some m.head
  opened m at room uids = ap (λ b. cond b None (Some m.head)) (or_from (is_full t 0 m.head) (has_no_uid m.head) (full_same m at ∙ room) uids)

  is_open : (m : Mailbox) → mailbox_at m.head.id world.mailboxes ≡ Some m → (b : Bool) → (is_full t 0 m.head || has_no_uid m.head) ≡ b → (row : Head) → cond b None (Some m.head) ≡ Some row
      → (has_no_room 1 m ≡ false) × (has_no_uids 1 m ≡ false) × (m.head ≡ row)
  is_open m at true e row found = absurd (none-some row found)
  is_open m at false e row found =
      let both = or_parts (is_full t 0 m.head) (has_no_uid m.head) e in
      (sym (full_same m at) ∙ both.0, both.1, same_Some m.head row found)

  -- the INBOX of a row that takes a message more
  pub of_open : (user : ℕ) (row : Head) → open_inbox t user ≡ Some row
      → (m : Mailbox) × (mailbox_named user inbox world.mailboxes ≡ Some m) × (mailbox_at m.head.id world.mailboxes ≡ Some m) × (m.head ≡ row) × (has_no_room 1 m ≡ false) × (has_no_uids 1 m ≡ false)
  of_open user row is = by (mailbox_named user inbox world.mailboxes) refl (sym (ap (if_open t) (named_in user inbox)) ∙ is)
    where
      by : (o : Option Mailbox) → mailbox_named user inbox world.mailboxes ≡ o → if_open t (option_map (λ m. m.head) o) ≡ Some row
          → (m : Mailbox) × (mailbox_named user inbox world.mailboxes ≡ Some m) × (mailbox_at m.head.id world.mailboxes ≡ Some m) × (m.head ≡ row) × (has_no_room 1 m ≡ false) × (has_no_uids 1 m ≡ false)
      by None e found = absurd (none-some row found)
      by (Some m) e found =
          let at = its_own (is_named user inbox) m e in
          let its = is_open m at (is_full t 0 m.head || has_no_uid m.head) refl row found in
          (m, e, at, its.2, its.0, its.1)

  -- ---- the UID

  owner_of : (user : ℕ) (m : Mailbox) → is_named user inbox m ≡ true → (same_name m.head.name inbox ≡ true) × (m.head.owner ≡ user)
  owner_of user m e = let both = and_parts (same_name m.head.name inbox) (m.head.owner == user) e in (both.0, eqb-true m.head.owner user both.1)

  among_one : (owner user : ℕ) → is_among owner (user ∷ []) ≡ true → user ≡ owner
  among_one owner user e = by (user == owner) refl e
    where
      by : (b : Bool) → (user == owner) ≡ b → (b || false) ≡ true → user ≡ owner
      by true q e = eqb-true user owner q
      by false q e = absurd (false≢true e)

  one_among : (owner user : ℕ) → user ≡ owner → is_among owner (user ∷ []) ≡ true
  one_among owner user e = ap (λ b. b || false) (eq-eqb user owner e)

  pub uid_same : (user : ℕ) → option_map (λ row. row.uidnext) (open_inbox t user) ≡ uid_for world user
  uid_same user = by (find (takes_mail (user ∷ [])) world.mailboxes) refl
    where
      none : find (takes_mail (user ∷ [])) world.mailboxes ≡ None → (o : Option Head) → open_inbox t user ≡ o → option_map (λ row. row.uidnext) o ≡ None
      none fails None e = refl
      none fails (Some row) e =
          let its = of_open user row e in
          let named = owner_of user its.0 (find_passes (is_named user inbox) world.mailboxes its.0 its.1) in
          let passes = takes_from (user ∷ []) its.0 (record { name = named.0; owner = one_among its.0.head.owner user (sym named.1); room = its.4; uids = its.5 }) in
          absurd (true≢false (sym passes ∙ all_found (λ m. takes_mail (user ∷ []) m ≡ false) (is_named user inbox) world.mailboxes its.0 (none_of (takes_mail (user ∷ [])) world.mailboxes fails) its.1))

      by : (o : Option Mailbox) → find (takes_mail (user ∷ [])) world.mailboxes ≡ o → option_map (λ row. row.uidnext) (open_inbox t user) ≡ option_map (λ m. m.head.uidnext) o
      by None e = none e (open_inbox t user) refl
      by (Some m) e =
          let at = its_own (takes_mail (user ∷ [])) m e in
          let its = takes_parts (user ∷ []) m (find_passes (takes_mail (user ∷ [])) world.mailboxes m e) in
          let found = subst (λ u. mailbox_named u inbox world.mailboxes ≡ Some m) (sym (among_one m.head.owner user its.owner)) (inbox_found m at its.name) in
          ap (option_map (λ row. row.uidnext)) (ap (if_open t) (named_in user inbox ∙ ap (option_map (λ x. x.head)) found) ∙ opened m at its.room its.uids)

  -- ---- all that get it

  module _ (users : List ℕ) (rows : List Head) (are : AreReceivers t users rows) (all : AreAll t users rows) where
    abbrev is_one : Mailbox → Bool
    is_one m = list_any (λ row. has_id row.id m) rows

    -- a mailbox that is one of the rows takes the mail
    one_takes : (m : Mailbox) → mailbox_at m.head.id world.mailboxes ≡ Some m → (row : Head) → IsReceiver t users row → has_id row.id m ≡ true → takes_mail users m ≡ true
    one_takes m at row is here =
        let its = of_open row.owner row is.takes in
        let same : its.0 ≡ m = same_Some its.0 m (sym its.2 ∙ (ap (λ k. mailbox_at k world.mailboxes) (ap (λ r. r.id) its.3 ∙ sym (eqb-true m.head.id row.id here)) ∙ at)) in
        let named = owner_of row.owner its.0 (find_passes (is_named row.owner inbox) world.mailboxes its.0 its.1) in
        subst (λ x. takes_mail users x ≡ true) same
        (takes_from users its.0 (record { name = named.0; owner = subst (λ u. is_among u users ≡ true) (sym named.1) is.user; room = its.4; uids = its.5 }))

    -- and one that takes it is one of the rows
    takes_one : (m : Mailbox) → mailbox_at m.head.id world.mailboxes ≡ Some m → takes_mail users m ≡ true → is_one m ≡ true
    takes_one m at takes =
        let its = takes_parts users m takes in
        let opened_is : open_inbox t m.head.owner ≡ Some m.head = ap (if_open t) (named_in m.head.owner inbox ∙ ap (option_map (λ x. x.head)) (inbox_found m at its.name)) ∙ opened m at its.room its.uids in
        any_gives (λ user. user == m.head.owner) users
        (all-weaker (λ user. is_one_of rows (open_inbox t user) ≡ true) (λ user. (user == m.head.owner) ≡ true → is_one m ≡ true)
        (λ user one here. subst (λ o. is_one_of rows o ≡ true) (ap (open_inbox t) (eqb-true user m.head.owner here) ∙ opened_is) one) users all)
        its.owner

    pub one_same : AllByRecursion (λ m. is_one m ≡ takes_mail users m) world.mailboxes
    one_same =
        all-weaker (λ m. mailbox_at m.head.id world.mailboxes ≡ Some m) (λ m. is_one m ≡ takes_mail users m)
        (λ m at. both (is_one m) (takes_mail users m)
        (λ one. any_gives (λ row. has_id row.id m) rows (all-weaker (IsReceiver t users) (λ row. has_id row.id m ≡ true → takes_mail users m ≡ true) (λ row is here. one_takes m at row is here) rows are.each) one)
        (takes_one m at)) world.mailboxes (each_at world s.legal)
      where
        both : (a b : Bool) → (a ≡ true → b ≡ true) → (b ≡ true → a ≡ true) → a ≡ b
        both true b there back = sym (there refl)
        both false true there back = back refl
        both false false there back = refl
