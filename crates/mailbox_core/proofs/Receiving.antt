-- Who gets a mail, as it is planned user by user.
use Rattle.std.proofs.Common.{◌≡◌, ◌<◌, ◌+◌, ◌==◌, ◌||◌, ◌&&◌, ℕ, Bool, true, false, cond, not, nat_le, nat_lt, List, [], ◌∷◌, ◌++◌, length, map, take, get_or, Option, Some, None, is_some, refl, sym, ap, ◌∙◌, subst, arith}
use Rattle.std.specs.List.{AllByRecursion, list_any}
use Rattle.std.proofs.lemmas.Bool.{true≢false, false≢true, eqb-true, eq-eqb, and_from, and_parts, or_from, or_left, or_parts, or_right, not_from_false, le-ltb}
use Rattle.std.proofs.lemmas.List.{map-append, take_more}
use Rattle.std.proofs.lemmas.Option.{none-some, same_Some}
use Rattle.ordered_rows.specs.Listed.{row_at}
use Rattle.row_tables.specs.Keys.{mailbox_message_key, uid_key}
use Rattle.row_tables.specs.Names.{has_mailbox_name, mailbox_named}
use Rattle.row_tables.specs.TableRows.{TableRows}
use Rattle.row_tables.specs.Fits.{IsText}
use Rattle.row_tables.specs.declared.heads.Mailbox.{Mailbox as Head}
use Rattle.mail_world.specs.Names.{inbox}
use Rattle.mail_world.specs.Worlds.{World, is_among}
use Rattle.mail_world.specs.Limits.{last_modseq, most_messages}
use Rattle.mail_stands.specs.Arriving.{has_no_uid, is_full, message_count}
use Rattle.mail_stands.specs.Delivering.{AreAll, AreOnce, AreReceivers, IsReceiver, if_open, is_one_of, open_inbox, uid_for}
use Rattle.mailbox_core.specs.Delivering.{AreNone, HasLeft, PlansDelivery, if_free, is_free, receiver, uid_of, with_receiver}
use Rattle.mailbox_core.proofs.Found.{find_passes}

-- ---- lists

pub all_weaker : {X : Type 0} (P Q : X → Type 0) → ((x : X) → P x → Q x) → (xs : List X) → AllByRecursion P xs → AllByRecursion Q xs
all_weaker P Q h [] all = tt
all_weaker P Q h (x ∷ xs) all = (h x all.0, all_weaker P Q h xs all.1)

all_then : {X : Type 0} (P : X → Type 0) (xs : List X) (x : X) → AllByRecursion P xs → P x → AllByRecursion P (xs ++ x ∷ [])
all_then P [] x all p = (p, tt)
all_then P (y ∷ xs) x all p = (all.0, all_then P xs x all.1 p)

any_then : {X : Type 0} (p : X → Bool) (xs more : List X) → list_any p xs ≡ true → list_any p (xs ++ more) ≡ true
any_then p [] more any = absurd (false≢true any)
any_then {X} p (x ∷ xs) more any = by (p x) refl any (any_then p xs more)
  where
    by : (b : Bool) → p x ≡ b → (b || list_any p xs) ≡ true → (list_any p xs ≡ true → list_any p (xs ++ more) ≡ true) → (p x || list_any p (xs ++ more)) ≡ true
    by true e any rest = or_left (p x) (list_any p (xs ++ more)) e
    by false e any rest = or_right (p x) (list_any p (xs ++ more)) (rest any)

any_last : {X : Type 0} (p : X → Bool) (xs : List X) (x : X) → p x ≡ true → list_any p (xs ++ x ∷ []) ≡ true
any_last p [] x e = or_left (p x) false e
any_last p (y ∷ xs) x e = or_right (p y) (list_any p (xs ++ x ∷ [])) (any_last p xs x e)

-- ---- what is tested of an INBOX

free_parts : (t : TableRows) (o : Option Head) (row : Head) → if_free t o ≡ Some row → (o ≡ Some row) × (is_free t row ≡ true)
free_parts t None row e = absurd (none-some row e)
free_parts t (Some r) row e = by (is_free t r) refl e
  where
    by : (b : Bool) → is_free t r ≡ b → cond b (Some r) None ≡ Some row → (Some r ≡ Some row) × (is_free t row ≡ true)
    by true q e = (e, subst (λ (x : Head). is_free t x ≡ true) (same_Some r row e) q)
    by false q e = absurd (none-some row e)

open_parts : (t : TableRows) (o : Option Head) (row : Head) → if_open t o ≡ Some row → (o ≡ Some row) × ((is_full t 0 row || has_no_uid row) ≡ false)
open_parts t None row e = absurd (none-some row e)
open_parts t (Some r) row e = by (is_full t 0 r || has_no_uid r) refl e
  where
    by : (b : Bool) → (is_full t 0 r || has_no_uid r) ≡ b → cond b None (Some r) ≡ Some row → (Some r ≡ Some row) × ((is_full t 0 row || has_no_uid row) ≡ false)
    by true q e = absurd (none-some row e)
    by false q e = (e, subst (λ (x : Head). (is_full t 0 x || has_no_uid x) ≡ false) (same_Some r row e) q)

is_none : {X : Type 0} (o : Option X) → not (is_some o) ≡ true → o ≡ None
is_none None e = refl
is_none (Some x) e = absurd (false≢true e)

at_most : (a b : ℕ) → not (nat_lt a b) ≡ true → b < a + 1
at_most a b e = grind (arith, e)

-- a row that is free, in parts and from them
free_gives : (t : TableRows) (row : Head) → is_free t row ≡ true → IsText row.name × (row_at mailbox_message_key (uid_key row.id row.uidnext) t.marks.mailbox_messages ≡ None)
free_gives t row e =
    let both = and_parts (not (nat_lt 4294967295 (length row.name))) (not (is_some (row_at mailbox_message_key (uid_key row.id row.uidnext) t.marks.mailbox_messages))) e in
    let short = at_most 4294967295 (length row.name) both.0 in
    (omega (arith, short), is_none (row_at mailbox_message_key (uid_key row.id row.uidnext) t.marks.mailbox_messages) both.1)

free_from : (t : TableRows) (row : Head) → IsText row.name → row_at mailbox_message_key (uid_key row.id row.uidnext) t.marks.mailbox_messages ≡ None → is_free t row ≡ true
free_from t row text free =
    and_from (not (nat_lt 4294967295 (length row.name))) (not (is_some (row_at mailbox_message_key (uid_key row.id row.uidnext) t.marks.mailbox_messages)))
    (not_from_false (nat_lt 4294967295 (length row.name)) (le-ltb 4294967295 (length row.name) text)) (ap (λ (o : Option _). not (is_some o)) free)

-- ---- the INBOX of a user

pub receives : (t : TableRows) (users : List ℕ) (user : ℕ) (row : Head) → receiver t user ≡ Some row → is_among user users ≡ true → IsReceiver t users row
receives t users user row is among =
    let free = free_parts t (open_inbox t user) row is in
    let opened = open_parts t (mailbox_named user inbox t.heads.mailboxes) row free.0 in
    let owner : row.owner ≡ user = eqb-true row.owner user (and_parts _ (row.owner == user) (find_passes (has_mailbox_name user inbox) t.heads.mailboxes row opened.0)).1 in
    let both = free_gives t row free.1 in
    record {
      user = subst (λ (u : ℕ). is_among u users ≡ true) (sym owner) among;
      takes = subst (λ (u : ℕ). open_inbox t u ≡ Some row) (sym owner) free.0;
      text = both.0;
      free = both.1;
    }

of_receiver : (t : TableRows) (users : List ℕ) (row : Head) → IsReceiver t users row → receiver t row.owner ≡ Some row
of_receiver t users row is = ap (if_free t) is.takes ∙ ap (λ (b : Bool). cond b (Some row) None) (free_from t row is.text is.free)

below : (a b : ℕ) → nat_le a b ≡ false → b < a
below a b e = grind (arith, e)

within : (a b : ℕ) → nat_lt a (b + 1) ≡ false → b < a
within a b e = grind (arith, e)

has_left : (t : TableRows) (users : List ℕ) (row : Head) → IsReceiver t users row → HasLeft row
has_left t users row is =
    let opened = open_parts t (mailbox_named row.owner inbox t.heads.mailboxes) row is.takes in
    let both = or_parts (is_full t 0 row) (has_no_uid row) opened.1 in
    let high = (or_parts (nat_lt most_messages (message_count t row.id + 1)) (nat_le last_modseq row.highest) both.0).1 in
    let less = below 18446744073709551614 row.highest high in
    record { uid = within 4294967295 row.uidnext both.1; modseq = omega (arith, less) }

pub all_left : (t : TableRows) (users : List ℕ) (rows : List Head) → AreReceivers t users rows → AllByRecursion HasLeft rows
all_left t users rows are = all_weaker (IsReceiver t users) HasLeft (has_left t users) rows are.each

-- ---- one user more

more_users : (t : TableRows) (users : List ℕ) (user : ℕ) (row : Head) → IsReceiver t users row → IsReceiver t (users ++ user ∷ []) row
more_users t users user row is = record {
  user = any_then (λ (u : ℕ). u == row.owner) users (user ∷ []) is.user;
  takes = is.takes;
  text = is.text;
  free = is.free;
}

-- the same with a mailbox more
one_more : (rows : List Head) (row : Head) (o : Option Head) → is_one_of rows o ≡ true → is_one_of (rows ++ row ∷ []) o ≡ true
one_more rows row None e = refl
one_more rows row (Some r) e = any_then (λ (other : Head). r.id == other.id) rows (row ∷ []) e

apart_last : (rows : List Head) (row : Head) → AreOnce rows → list_any (λ (other : Head). row.id == other.id) rows ≡ false → AreOnce (rows ++ row ∷ [])
apart_last [] row once none = (tt, tt)
apart_last (r ∷ rows) row once none =
    let parts = or_parts (row.id == r.id) (list_any (λ (other : Head). row.id == other.id) rows) none in
    (all_then (λ (other : Head). (r.id == other.id) ≡ false) rows row once.0 (turned parts.0), apart_last rows row once.1 parts.1)
  where
    turned : (row.id == r.id) ≡ false → (r.id == row.id) ≡ false
    turned e = by (r.id == row.id) refl
      where
        by : (b : Bool) → (r.id == row.id) ≡ b → b ≡ false
        by true q = absurd (true≢false (sym (eq-eqb row.id r.id (sym (eqb-true r.id row.id q))) ∙ e))
        by false q = refl

module _ (t : TableRows) (users : List ℕ) (user : ℕ) (rows : List Head) (uids : List (Option ℕ)) (plan : PlansDelivery t users rows uids) where
  uid_last : (more : List (Option ℕ)) (o : Option Head) → receiver t user ≡ o → more ≡ uids ++ uid_of o ∷ [] → more ≡ map (λ u. uid_of (receiver t u)) (users ++ user ∷ [])
  uid_last more o is e =
      e ∙ (ap (λ (l : List (Option ℕ)). l ++ uid_of o ∷ []) plan.uids_are
      ∙ (ap (λ (p : Option Head). map (λ (u : ℕ). uid_of (receiver t u)) users ++ uid_of p ∷ []) (sym is) ∙ sym (map-append (λ (u : ℕ). uid_of (receiver t u)) users (user ∷ []))))

  pub with_none : (more : List (Option ℕ)) → receiver t user ≡ None → more ≡ uids ++ None ∷ [] → PlansDelivery t (users ++ user ∷ []) rows more
  with_none more none e = record {
    are = record { each = all_weaker (IsReceiver t users) (IsReceiver t (users ++ user ∷ [])) (more_users t users user) rows plan.are.each; once = plan.are.once };
    all = all_then (λ (u : ℕ). is_one_of rows (receiver t u) ≡ true) users user plan.all (ap (is_one_of rows) none);
    uids_are = uid_last more None none e;
  }

  with_old : (more : List (Option ℕ)) (row : Head) → receiver t user ≡ Some row → more ≡ uids ++ Some row.uidnext ∷ [] → is_one_of rows (Some row) ≡ true → PlansDelivery t (users ++ user ∷ []) rows more
  with_old more row is e old = record {
    are = record { each = all_weaker (IsReceiver t users) (IsReceiver t (users ++ user ∷ [])) (more_users t users user) rows plan.are.each; once = plan.are.once };
    all = all_then (λ (u : ℕ). is_one_of rows (receiver t u) ≡ true) users user plan.all (ap (is_one_of rows) is ∙ old);
    uids_are = uid_last more (Some row) is e;
  }

  with_new : (more : List (Option ℕ)) (row : Head) → receiver t user ≡ Some row → more ≡ uids ++ Some row.uidnext ∷ [] → is_one_of rows (Some row) ≡ false → PlansDelivery t (users ++ user ∷ []) (rows ++ row ∷ []) more
  with_new more row is e new = record {
    are = record {
      each = all_then (IsReceiver t (users ++ user ∷ [])) rows row (all_weaker (IsReceiver t users) (IsReceiver t (users ++ user ∷ [])) (more_users t users user) rows plan.are.each)
          (receives t (users ++ user ∷ []) user row is (any_last (λ (u : ℕ). u == user) users user (eq-eqb user user refl)));
      once = apart_last rows row plan.are.once new;
    };
    all = all_then (λ (u : ℕ). is_one_of (rows ++ row ∷ []) (receiver t u) ≡ true) users user
        (all_weaker (λ (u : ℕ). is_one_of rows (receiver t u) ≡ true) (λ (u : ℕ). is_one_of (rows ++ row ∷ []) (receiver t u) ≡ true) (λ u one. one_more rows row (receiver t u) one) users plan.all)
        (ap (is_one_of (rows ++ row ∷ [])) is ∙ any_last (λ (other : Head). row.id == other.id) rows row (eq-eqb row.id row.id refl));
    uids_are = uid_last more (Some row) is e;
  }

  pub with_some : (more : List (Option ℕ)) (row : Head) → receiver t user ≡ Some row → more ≡ uids ++ Some row.uidnext ∷ [] → PlansDelivery t (users ++ user ∷ []) (with_receiver rows row) more
  with_some more row is e = by (is_one_of rows (Some row)) refl
    where
      by : (b : Bool) → is_one_of rows (Some row) ≡ b → PlansDelivery t (users ++ user ∷ []) (cond b rows (rows ++ row ∷ [])) more
      by true old = with_old more row is e old
      by false new = with_new more row is e new

pub plan_more : (t : TableRows) (users : List ℕ) (k : ℕ) (rows : List Head) (uids : List (Option ℕ)) → k < length users → PlansDelivery t (take k users ++ get_or users k 0 ∷ []) rows uids
    → PlansDelivery t (take (k + 1) users) rows uids
plan_more t users k rows uids less plan = subst (λ (l : List ℕ). PlansDelivery t l rows uids) (sym (take_more users k 0 less)) plan

-- ---- what the plan is in a world

module _ (t : TableRows) (world : World) (free : (user : ℕ) (row : Head) → mailbox_named user inbox t.heads.mailboxes ≡ Some row → IsText row.name × (row_at mailbox_message_key (uid_key row.id row.uidnext) t.marks.mailbox_messages ≡ None)) where
  receiver_open : (user : ℕ) → receiver t user ≡ open_inbox t user
  receiver_open user = by (open_inbox t user) refl
    where
      by : (o : Option Head) → open_inbox t user ≡ o → if_free t o ≡ o
      by None e = refl
      by (Some row) e =
          let its = free user row (open_parts t (mailbox_named user inbox t.heads.mailboxes) row e).0 in
          ap (λ (b : Bool). cond b (Some row) None) (free_from t row its.0 its.1)

  pub all_open : (users : List ℕ) (rows : List Head) (uids : List (Option ℕ)) → PlansDelivery t users rows uids → AreAll t users rows
  all_open users rows uids plan =
      all_weaker (λ (u : ℕ). is_one_of rows (receiver t u) ≡ true) (λ (u : ℕ). is_one_of rows (open_inbox t u) ≡ true) (λ u one. subst (λ (o : Option Head). is_one_of rows o ≡ true) (receiver_open u) one) users plan.all

  pub all_told : ((user : ℕ) → uid_of (open_inbox t user) ≡ uid_for world user) → (users : List ℕ) (rows : List Head) (uids : List (Option ℕ)) → PlansDelivery t users rows uids → uids ≡ map (uid_for world) users
  all_told told users rows uids plan = plan.uids_are ∙ each users
    where
      each : (us : List ℕ) → map (λ (u : ℕ). uid_of (receiver t u)) us ≡ map (uid_for world) us
      each [] = refl
      each (u ∷ us) = ap (λ (l : List (Option ℕ)). uid_of (receiver t u) ∷ l) (each us) ∙ ap (λ (x : Option ℕ). x ∷ map (uid_for world) us) (ap uid_of (receiver_open u) ∙ told u)

-- ---- nobody gets it

-- where an INBOX gets it, a user is told a UID
pub some_told : (t : TableRows) (users : List ℕ) (rows : List Head) (uids : List (Option ℕ)) → (rows ≡ [] → ⊥) → PlansDelivery t users rows uids → AreNone uids → ⊥
some_told t users [] uids some plan none = some refl
some_told t users (row ∷ rows) uids some plan none = found users (subst AreNone plan.uids_are none) plan.are.each.0.user
  where
    by : (u : ℕ) (us : List ℕ) (b : Bool) → (u == row.owner) ≡ b → uid_of (receiver t u) ≡ None → (b || is_among row.owner us) ≡ true → (is_among row.owner us ≡ true → ⊥) → ⊥
    by u us true e none among rest = none-some row.uidnext (sym none ∙ (ap (λ (k : ℕ). uid_of (receiver t k)) (eqb-true u row.owner e) ∙ ap uid_of (of_receiver t users row plan.are.each.0)))
    by u us false e none among rest = rest among

    found : (us : List ℕ) → AreNone (map (λ (u : ℕ). uid_of (receiver t u)) us) → is_among row.owner us ≡ true → ⊥
    found [] all among = false≢true among
    found (u ∷ us) all among = by u us (u == row.owner) refl all.0 among (found us all.1)

pub none_there : {X : Type 0} (xs : List X) → length xs ≡ 0 → xs ≡ []
none_there [] e = refl
none_there (x ∷ xs) e = absurd (omega arith)

pub no_users : (t : TableRows) (rows : List Head) (uids : List (Option ℕ)) → rows ≡ [] → uids ≡ [] → PlansDelivery t [] rows uids
no_users t rows uids e f =
    subst (λ (r : List Head). PlansDelivery t [] r uids) (sym e) (subst (λ (u : List (Option ℕ)). PlansDelivery t [] [] u) (sym f) (record { are = record { each = tt; once = tt }; all = tt; uids_are = refl }))
