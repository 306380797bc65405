-- The messages of INBOX that go to a new mailbox, in the world and in the tables.
use Rattle.std.proofs.Common.{ℕ, ◌≡◌, ◌+◌, ◌==◌, Bool, true, false, cond, not, List, [], ◌∷◌, ◌++◌, map, length, Option, Some, None, refl, sym, ap, subst, ◌∙◌, arith}
use Rattle.std.specs.Prelude.{◌&&◌, ◌||◌, nat_lt, count_by, is_some, if◌then◌else◌}
use Rattle.std.specs.List.{AllByRecursion, filter, list_any}
use Rattle.std.specs.Option.{option_map, option_or}
use Rattle.std.proofs.lemmas.Bool.{true≢false, eqb-true, eq-eqb, and_right, le-ltb, or_right}
use Rattle.std.proofs.lemmas.List.{map-append}
use Rattle.std.proofs.lemmas.List.Folds.{find-append}
use Rattle.std.proofs.lemmas.List.Sums.{length-filter}
use Rattle.ordered_rows.specs.RowKey.{RowKey, same_key}
use Rattle.ordered_rows.specs.Listed.{row_at, with_replaced}
use Rattle.row_tables.specs.Keys.{uid_key, uid_flag_key, mailbox_key, mailbox_message_key, deleted_message_key, flag_key}
use Rattle.row_tables.specs.declared.heads.Mailbox.{Mailbox as Head}
use Rattle.row_tables.specs.declared.marks.MailboxMessage.{MailboxMessage}
use Rattle.row_tables.specs.declared.marks.FlagRow.{FlagRow}
use Rattle.mail_world.specs.Worlds.{World, Mailbox, Entry, Gone, gone_at}
use Rattle.mail_world.specs.Arrivals.{numbered, with_changed}
use Rattle.mail_world.specs.Storing.{with_gone, with_all_gone, without_messages}
use Rattle.mail_world.specs.Renaming.{moved_inbox}
use Rattle.mail_world.specs.Users.{with_mailbox}
use Rattle.mail_stands.specs.Facts.{gone_row}
use Rattle.mail_stands.specs.Flagging.{is_flagged_by}
use Rattle.mail_stands.specs.MovingInbox.{gone_rows, taking_mailbox}
use Rattle.mail_stands.specs.Sameness.{InTurn}
use Rattle.mail_stands.proofs.Deleting.{find-kept, find-lost}
use Rattle.mail_stands.proofs.MovingRuns.{emptied_heads}

pub in_turn_weaker : {X Y : Type 0} (R S : X → Y → Type 0) → ((x : X) (y : Y) → R x y → S x y) → (xs : List X) (ys : List Y) → InTurn R xs ys → InTurn S xs ys
in_turn_weaker R S h [] [] are = tt
in_turn_weaker R S h [] (y ∷ ys) are = absurd are
in_turn_weaker R S h (x ∷ xs) [] are = absurd are
in_turn_weaker R S h (x ∷ xs) (y ∷ ys) are = (h x y are.0, in_turn_weaker R S h xs ys are.1)

abbrev pub SameUid : MailboxMessage → Entry → Type 0
SameUid r e = r.uid ≡ e.uid

-- ---- the mailbox that takes the messages

abbrev pub holding : Head → List Entry → List Gone → Mailbox
holding h entries gone = record { head = h; entries = entries; gone = gone }

module _ (id : ℕ) (to : List ℕ) (h : Head) (gone : List Gone) where
  as_many : (rows : List MailboxMessage) (entries : List Entry) → InTurn SameUid rows entries → length (filter (λ e. nat_lt e.uid h.first_recent) entries) ≡ length (filter (λ r. nat_lt r.uid h.first_recent) rows)
  as_many [] [] are = refl
  as_many [] (e ∷ entries) are = absurd are
  as_many (r ∷ rows) [] are = absurd are
  as_many (r ∷ rows) (e ∷ entries) are =
      ap (λ u. length (cond (nat_lt u h.first_recent) (e ∷ filter (λ x. nat_lt x.uid h.first_recent) entries) (filter (λ x. nat_lt x.uid h.first_recent) entries))) (sym are.0)
      ∙ by (nat_lt r.uid h.first_recent) (as_many rows entries are.1)
    where
      by : (b : Bool) → length (filter (λ x. nat_lt x.uid h.first_recent) entries) ≡ length (filter (λ x. nat_lt x.uid h.first_recent) rows)
          → length (cond b (e ∷ filter (λ x. nat_lt x.uid h.first_recent) entries) (filter (λ x. nat_lt x.uid h.first_recent) entries)) ≡ length (cond b (r ∷ filter (λ x. nat_lt x.uid h.first_recent) rows) (filter (λ x. nat_lt x.uid h.first_recent) rows))
      by true same = omega (arith, same)
      by false same = same

  counted : (rows : List MailboxMessage) (entries : List Entry) → InTurn SameUid rows entries → count_by (λ e. nat_lt e.uid h.first_recent) entries ≡ count_by (λ r. nat_lt r.uid h.first_recent) rows
  counted rows entries are = sym (length-filter (λ e. nat_lt e.uid h.first_recent) entries) ∙ as_many rows entries are ∙ length-filter (λ r. nat_lt r.uid h.first_recent) rows

  pub same_length : (rows : List MailboxMessage) (entries : List Entry) → InTurn SameUid rows entries → length (map (λ e. e.message) entries) ≡ length rows
  same_length [] [] are = refl
  same_length [] (e ∷ entries) are = absurd are
  same_length (r ∷ rows) [] are = absurd are
  same_length (r ∷ rows) (e ∷ entries) are = omega (arith, same_length rows entries are.1)

  pub head_told : (rows : List MailboxMessage) (entries : List Entry) → InTurn SameUid rows entries → (moved_inbox id to (holding h entries gone)).head ≡ taking_mailbox id to h rows
  head_told [] [] are = refl
  head_told [] (e ∷ entries) are = absurd are
  head_told (r ∷ rows) [] are = absurd are
  head_told (r ∷ rows) (e ∷ entries) are =
      ap (λ n. record { id = id; owner = h.owner; name = to; uidnext = 1 + n; first_recent = 1 + count_by (λ x. nat_lt x.uid h.first_recent) (e ∷ entries); highest = 2 }) (same_length (r ∷ rows) (e ∷ entries) are)
      ∙ ap (λ n. record { id = id; owner = h.owner; name = to; uidnext = 1 + length (r ∷ rows); first_recent = 1 + n; highest = 2 }) (counted (r ∷ rows) (e ∷ entries) are)

  pub entries_told : (entries : List Entry) → (moved_inbox id to (holding h entries gone)).entries ≡ numbered 1 2 (map (λ e. e.message) entries)
  entries_told [] = refl
  entries_told (e ∷ entries) = refl

  pub gone_told : (entries : List Entry) → (moved_inbox id to (holding h entries gone)).gone ≡ []
  gone_told [] = refl
  gone_told (e ∷ entries) = refl

  pub taken_is : (rows : List MailboxMessage) (entries : List Entry) → InTurn SameUid rows entries
      → moved_inbox id to (holding h entries gone) ≡ holding (taking_mailbox id to h rows) (numbered 1 2 (map (λ e. e.message) entries)) []
  taken_is rows entries are =
      ap (λ x. holding x (moved_inbox id to (holding h entries gone)).entries (moved_inbox id to (holding h entries gone)).gone) (head_told rows entries are)
      ∙ ap (λ es. holding (taking_mailbox id to h rows) es (moved_inbox id to (holding h entries gone)).gone) (entries_told entries)
      ∙ ap (λ g. holding (taking_mailbox id to h rows) (numbered 1 2 (map (λ e. e.message) entries)) g) (gone_told entries)

-- ---- the mailbox that they leave

abbrev pub left : Mailbox → Mailbox
left m = without_messages (λ uid. true) m

-- messages as gone ones
abbrev pairs_of : ℕ → List Entry → List Gone
pairs_of modseq entries = map (λ e. record { uid = e.uid; modseq = modseq }) entries

with_gone_at : (uid : ℕ) (pair : Gone) (gone : List Gone) → gone_at uid (with_gone pair gone) ≡ cond (pair.uid == uid) (Some pair) (gone_at uid gone)
with_gone_at uid pair gone =
    find-append (λ o. o.uid == uid) (filter (λ o. nat_lt o.uid pair.uid) gone) (pair ∷ filter (λ o. not (nat_lt o.uid pair.uid)) gone)
    ∙ by (nat_lt uid pair.uid) refl
  where
    below : (o : Gone) → (o.uid == uid) ≡ true → nat_lt o.uid pair.uid ≡ nat_lt uid pair.uid
    below o here = ap (λ n. nat_lt n pair.uid) (eqb-true o.uid uid here)

    or_same : (b : Bool) (o p q : Option Gone) → o ≡ q → p ≡ None → (b ≡ true → o ≡ None) → option_or o (cond b (Some pair) p) ≡ cond b (Some pair) q
    or_same true o p q e f h = ap (λ x. option_or x (Some pair)) (h refl)
    or_same false o p q e f h = ap (option_or o) f ∙ (or_none o ∙ e)
      where
        or_none : (x : Option Gone) → option_or x None ≡ x
        or_none None = refl
        or_none (Some x) = refl

    itself : (pair.uid == uid) ≡ true → nat_lt uid pair.uid ≡ true → ⊥
    itself same less = absurd (true≢false (sym less ∙ (ap (λ n. nat_lt uid n) (eqb-true pair.uid uid same) ∙ le-ltb uid uid (omega arith))))

    by : (b : Bool) → nat_lt uid pair.uid ≡ b
        → option_or (gone_at uid (filter (λ o. nat_lt o.uid pair.uid) gone)) (cond (pair.uid == uid) (Some pair) (gone_at uid (filter (λ o. not (nat_lt o.uid pair.uid)) gone))) ≡ cond (pair.uid == uid) (Some pair) (gone_at uid gone)
    by true e =
        or_same (pair.uid == uid) _ _ _ (find-kept (λ o. o.uid == uid) (λ o. nat_lt o.uid pair.uid) (λ o here. below o here ∙ e) gone)
        (find-lost (λ o. o.uid == uid) (λ o. not (nat_lt o.uid pair.uid)) (λ o here. ap not (below o here ∙ e)) gone) (λ same. absurd (itself same e))
    by false e =
        ap (λ o. option_or o (cond (pair.uid == uid) (Some pair) (gone_at uid (filter (λ o. not (nat_lt o.uid pair.uid)) gone)))) (find-lost (λ o. o.uid == uid) (λ o. nat_lt o.uid pair.uid) (λ o here. below o here ∙ e) gone)
        ∙ ap (cond (pair.uid == uid) (Some pair)) (find-kept (λ o. o.uid == uid) (λ o. not (nat_lt o.uid pair.uid)) (λ o here. ap not (below o here ∙ e)) gone)

all_gone_at : (uid modseq : ℕ) (entries : List Entry) (gone : List Gone) → gone_at uid (with_all_gone modseq entries gone) ≡ option_or (gone_at uid (pairs_of modseq entries)) (gone_at uid gone)
all_gone_at uid modseq [] gone = refl
all_gone_at uid modseq (e ∷ entries) gone =
    with_gone_at uid (record { uid = e.uid; modseq = modseq }) (with_all_gone modseq entries gone) ∙ by (e.uid == uid) (all_gone_at uid modseq entries gone)
  where
    by : (b : Bool) → gone_at uid (with_all_gone modseq entries gone) ≡ option_or (gone_at uid (pairs_of modseq entries)) (gone_at uid gone)
        → cond b (Some (record { uid = e.uid; modseq = modseq })) (gone_at uid (with_all_gone modseq entries gone)) ≡ option_or (cond b (Some (record { uid = e.uid; modseq = modseq })) (gone_at uid (pairs_of modseq entries))) (gone_at uid gone)
    by true rest = refl
    by false rest = rest

all_stay : (entries : List Entry) → filter (λ e. true) entries ≡ entries
all_stay [] = refl
all_stay (e ∷ entries) = ap (λ es. e ∷ es) (all_stay entries)

none_stays : (entries : List Entry) → filter (λ e. not true) entries ≡ []
none_stays [] = refl
none_stays (e ∷ entries) = none_stays entries

module _ (h : Head) (gone : List Gone) where
  pub left_entries : (entries : List Entry) → (left (holding h entries gone)).entries ≡ []
  left_entries [] = refl
  left_entries (e ∷ entries) = none_stays entries

  pub left_id : (entries : List Entry) → (left (holding h entries gone)).head.id ≡ h.id
  left_id [] = refl
  left_id (e ∷ entries) = refl

  pub left_name : (entries : List Entry) → (left (holding h entries gone)).head.name ≡ h.name
  left_name [] = refl
  left_name (e ∷ entries) = refl

  pub left_gone : (uid : ℕ) (entries : List Entry) → gone_at uid (left (holding h entries gone)).gone ≡ option_or (gone_at uid (pairs_of (h.highest + 1) entries)) (gone_at uid gone)
  left_gone uid [] = refl
  left_gone uid (e ∷ entries) = ap (λ es. gone_at uid (with_all_gone (h.highest + 1) es gone)) (all_stay (e ∷ entries)) ∙ all_gone_at uid (h.highest + 1) (e ∷ entries) gone

  pub left_heads : (rows : List MailboxMessage) (entries : List Entry) (heads : List Head) → InTurn SameUid rows entries → with_replaced mailbox_key h heads ≡ heads
      → emptied_heads h rows heads ≡ with_replaced mailbox_key (left (holding h entries gone)).head heads
  left_heads [] [] heads are self = sym self
  left_heads [] (e ∷ entries) heads are self = absurd are
  left_heads (r ∷ rows) [] heads are self = absurd are
  left_heads (r ∷ rows) (e ∷ entries) heads are self = refl

-- the rows of gone ones
module _ (id modseq : ℕ) where
  pub gone_rows_told : (uid : ℕ) (rows : List MailboxMessage) (entries : List Entry) → InTurn SameUid rows entries → AllByRecursion (λ r. r.mailbox ≡ id) rows
      → row_at deleted_message_key (uid_key id uid) (gone_rows modseq rows) ≡ option_map (gone_row id) (gone_at uid (pairs_of modseq entries))
  gone_rows_told uid [] [] are its = refl
  gone_rows_told uid [] (e ∷ entries) are its = absurd are
  gone_rows_told uid (r ∷ rows) [] are its = absurd are
  gone_rows_told uid (r ∷ rows) (e ∷ entries) are its =
      subst (λ u. row_at deleted_message_key (uid_key id uid) (gone_rows modseq (r ∷ rows)) ≡ cond (u == uid) (Some (record { mailbox = id; uid = u; modseq = modseq })) (option_map (gone_row id) (gone_at uid (pairs_of modseq entries)))) are.0
      (subst (λ m. cond ((r.uid == uid) && (m == id)) (Some (record { mailbox = m; uid = r.uid; modseq = modseq })) (row_at deleted_message_key (uid_key id uid) (gone_rows modseq rows))
      ≡ cond (r.uid == uid) (Some (record { mailbox = id; uid = r.uid; modseq = modseq })) (option_map (gone_row id) (gone_at uid (pairs_of modseq entries)))) (sym its.0)
      (ap (λ b. cond ((r.uid == uid) && b) (Some (record { mailbox = id; uid = r.uid; modseq = modseq })) (row_at deleted_message_key (uid_key id uid) (gone_rows modseq rows))) (eq-eqb id id refl) ∙ by (r.uid == uid) (gone_rows_told uid rows entries are.1 its.1)))
      ∙ mapped (e.uid == uid)
    where
      by : (b : Bool) → row_at deleted_message_key (uid_key id uid) (gone_rows modseq rows) ≡ option_map (gone_row id) (gone_at uid (pairs_of modseq entries))
          → cond (b && true) (Some (record { mailbox = id; uid = r.uid; modseq = modseq })) (row_at deleted_message_key (uid_key id uid) (gone_rows modseq rows))
          ≡ cond b (Some (record { mailbox = id; uid = r.uid; modseq = modseq })) (option_map (gone_row id) (gone_at uid (pairs_of modseq entries)))
      by true rest = refl
      by false rest = rest

      mapped : (b : Bool) → cond b (Some (record { mailbox = id; uid = e.uid; modseq = modseq })) (option_map (gone_row id) (gone_at uid (pairs_of modseq entries)))
          ≡ option_map (gone_row id) (cond b (Some (record { uid = e.uid; modseq = modseq })) (gone_at uid (pairs_of modseq entries)))
      mapped true = refl
      mapped false = refl

  pub gone_elsewhere : (k uid : ℕ) (rows : List MailboxMessage) → AllByRecursion (λ r. r.mailbox ≡ id) rows → (id == k) ≡ false → row_at deleted_message_key (uid_key k uid) (gone_rows modseq rows) ≡ None
  gone_elsewhere k uid [] its other = refl
  gone_elsewhere k uid (r ∷ rows) its other =
      ap (λ b. cond b (Some (record { mailbox = r.mailbox; uid = r.uid; modseq = modseq })) (row_at deleted_message_key (uid_key k uid) (gone_rows modseq rows))) (and_right (r.uid == uid) (r.mailbox == k) (ap (λ m. m == k) its.0 ∙ other))
      ∙ gone_elsewhere k uid rows its.1 other

pub mapped_or : {X Y : Type 0} (f : X → Y) (a b : Option X) → option_or (option_map f a) (option_map f b) ≡ option_map f (option_or a b)
mapped_or f None b = refl
mapped_or f (Some x) b = refl

-- ---- keys of one mailbox and of another

pub uids_elsewhere : (id k uid : ℕ) (uids : List ℕ) → (id == k) ≡ false → list_any (λ j. same_key j (uid_key k uid)) (map (uid_key id) uids) ≡ false
uids_elsewhere id k uid [] other = refl
uids_elsewhere id k uid (u ∷ uids) other = ap (λ b. b || list_any (λ j. same_key j (uid_key k uid)) (map (uid_key id) uids)) (and_right (u == uid) (id == k) other) ∙ uids_elsewhere id k uid uids other

pub flags_elsewhere : (id k uid f : ℕ) (rows : List FlagRow) → AllByRecursion (λ r. r.mailbox ≡ id) rows → (id == k) ≡ false → list_any (λ j. same_key j (uid_flag_key k uid f)) (map flag_key rows) ≡ false
flags_elsewhere id k uid f [] its other = refl
flags_elsewhere id k uid f (r ∷ rows) its other =
    ap (λ b. b || list_any (λ j. same_key j (uid_flag_key k uid f)) (map flag_key rows)) (and_right ((r.flag == f) && (r.uid == uid)) (r.mailbox == k) (ap (λ m. m == k) its.0 ∙ other)) ∙ flags_elsewhere id k uid f rows its.1 other

abbrev rest_of : ℕ → List MailboxMessage → List RowKey
rest_of id all = map (uid_key id) (map (λ r. r.uid) (filter (λ r. r.mailbox == id) all))

-- a UID of the mailbox's messages is among those
pub uid_among : (id uid : ℕ) (all : List MailboxMessage) → is_some (row_at mailbox_message_key (uid_key id uid) all) ≡ true
    → list_any (λ j. same_key j (uid_key id uid)) (map (uid_key id) (map (λ r. r.uid) (filter (λ r. r.mailbox == id) all))) ≡ true
uid_among id uid [] some = absurd (true≢false (sym some))
uid_among id uid (x ∷ all) some = by (x.mailbox == id) (x.uid == uid) refl refl some (uid_among id uid all)
  where
    by : (b c : Bool) → (x.mailbox == id) ≡ b → (x.uid == uid) ≡ c → is_some (cond (c && b) (Some x) (row_at mailbox_message_key (uid_key id uid) all)) ≡ true
        → (is_some (row_at mailbox_message_key (uid_key id uid) all) ≡ true → list_any (λ j. same_key j (uid_key id uid)) (rest_of id all) ≡ true)
        → list_any (λ j. same_key j (uid_key id uid)) (map (uid_key id) (map (λ r. r.uid) (cond b (x ∷ filter (λ r. r.mailbox == id) all) (filter (λ r. r.mailbox == id) all)))) ≡ true
    by true true at here some rest = ap (λ b. (b && (id == id)) || list_any (λ j. same_key j (uid_key id uid)) (rest_of id all)) here ∙ ap (λ b. b || list_any (λ j. same_key j (uid_key id uid)) (rest_of id all)) (eq-eqb id id refl)
    by true false at here some rest = or_right ((x.uid == uid) && (id == id)) (list_any (λ j. same_key j (uid_key id uid)) (rest_of id all)) (rest some)
    by false true at here some rest = rest some
    by false false at here some rest = rest some

-- ---- flags of a message, where two lists find the same

pub same_flagged : (k u : ℕ) (a b : List FlagRow) → ((f : ℕ) → is_some (row_at flag_key (uid_flag_key k u f) a) ≡ is_some (row_at flag_key (uid_flag_key k u f) b)) → (o : Option ℕ) → is_flagged_by k u a o ≡ is_flagged_by k u b o
same_flagged k u a b same None = refl
same_flagged k u a b same (Some f) = same f

pub none_flagged : (k u : ℕ) (a : List FlagRow) → ((f : ℕ) → row_at flag_key (uid_flag_key k u f) a ≡ None) → (o : Option ℕ) → is_flagged_by k u a o ≡ false
none_flagged k u a none None = refl
none_flagged k u a none (Some f) = ap is_some (none f)

-- ---- heads

pub replaced_self : (new : Head) (ms : List Mailbox) → AllByRecursion (λ m. m.head.id ≡ new.id → m.head ≡ new) ms → with_replaced mailbox_key new (map (λ m. m.head) ms) ≡ map (λ m. m.head) ms
replaced_self new [] all = refl
replaced_self new (m ∷ ms) all = by (m.head.id == new.id) refl (replaced_self new ms all.1)
  where
    by : (b : Bool) → (m.head.id == new.id) ≡ b → with_replaced mailbox_key new (map (λ x. x.head) ms) ≡ map (λ x. x.head) ms → cond b new m.head ∷ with_replaced mailbox_key new (map (λ x. x.head) ms) ≡ m.head ∷ map (λ x. x.head) ms
    by true e rest = ap (λ h. h ∷ with_replaced mailbox_key new (map (λ x. x.head) ms)) (sym (all.0 (eqb-true m.head.id new.id e))) ∙ ap (λ hs. m.head ∷ hs) rest
    by false e rest = ap (λ hs. m.head ∷ hs) rest

-- a mailbox that changes among others and one that comes behind them
pub changed_before : (which other : Mailbox → Bool) (f : Mailbox → Mailbox) (new : Mailbox) (world : World) → AllByRecursion (λ x. other x ≡ which x) world.mailboxes → which new ≡ false
    → (with_changed which f (with_mailbox new world)).mailboxes ≡ (with_mailbox new (with_changed other f world)).mailboxes
changed_before which other f new world same fails =
    map-append (λ x. if which x then f x else x) world.mailboxes (new ∷ [])
    ∙ ap (λ b. map (λ x. if which x then f x else x) world.mailboxes ++ cond b (f new) new ∷ []) fails
    ∙ ap (λ ms. ms ++ new ∷ []) (mapped world.mailboxes same)
  where
    mapped : (ms : List Mailbox) → AllByRecursion (λ x. other x ≡ which x) ms → map (λ x. if which x then f x else x) ms ≡ map (λ x. if other x then f x else x) ms
    mapped [] all = refl
    mapped (x ∷ ms) all = ap (λ b. cond b (f x) x ∷ map (λ y. if which y then f y else y) ms) (sym all.0) ∙ ap (λ rest. cond (other x) (f x) x ∷ rest) (mapped ms all.1)
