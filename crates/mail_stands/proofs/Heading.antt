-- The head of a mailbox that changes, as a row.
use Rattle.std.proofs.Common.{ℕ, ◌≡◌, ◌==◌, Bool, true, false, cond, List, [], ◌∷◌, map, Option, Some, None, refl, sym, ap, subst, ◌∙◌}
use Rattle.std.specs.Prelude.{IsSome, if◌then◌else◌}
use Rattle.std.specs.List.{AllByRecursion}
use Rattle.std.specs.Option.{option_map}
use Rattle.std.proofs.lemmas.Bool.{eqb-true, cond_both}
use Rattle.std.proofs.lemmas.Option.{none-some, same_Some}
use Rattle.ordered_rows.specs.RowKey.{number_key}
use Rattle.ordered_rows.specs.Listed.{row_at, with_replaced}
use Rattle.row_tables.specs.Keys.{mailbox_key}
use Rattle.row_tables.specs.TableRows.{TableRows}
use Rattle.row_tables.specs.References.{AreClosed, MailboxRefers}
use Rattle.row_tables.specs.Fits.{IsText, Runs}
use Rattle.row_tables.specs.declared.heads.Mailbox.{Mailbox as Head}
use Rattle.row_tables.specs.declared.contents.BodyPart.{BodyPart}
use Rattle.mail_world.specs.Names.{is_mailbox_name}
use Rattle.mail_world.specs.Worlds.{World, Mailbox, mailbox_at, has_id}
use Rattle.mail_world.specs.Changes.{TakeRecents}
use Rattle.mail_world.specs.Arrivals.{with_changed, unless_absent}
use Rattle.mail_world.specs.Storing.{without_recents}
use Rattle.mail_world.specs.Applying.{apply, refused}
use Rattle.mail_world.specs.Legal.{IsLegal}
use Rattle.mail_stands.specs.Stands.{Stands}
use Rattle.mail_stands.specs.Leading.{Leads}
use Rattle.mail_stands.specs.Refusals as refusals
use Rattle.mail_stands.specs.RowChanges.{recents_changes}
use Rattle.mail_stands.proofs.Lists.{all-weaker, all-replaced, all_found, listed, number_is}
use Rattle.mail_stands.proofs.Frames.{head_row, heads-same, entries_stay, gone_stays, flags_stay}
use Rattle.mail_stands.proofs.Showing.{Shows, shown, standing}
use Rattle.mail_stands.proofs.Making.{StaysLegal, mailbox_text}

-- ---- what a row is in the world

pub unmapped : {P : Type 0} (o : Option Mailbox) (row : Head) → option_map (λ m. m.head) o ≡ Some row → ((m : Mailbox) → o ≡ Some m → m.head ≡ row → P) → P
unmapped None row e use_it = absurd (none-some row e)
unmapped (Some m) row e use_it = use_it m refl (same_Some m.head row e)

-- the mailbox of a row
pub mailbox_of : {P : Type 0} (rows : List Head) (ms : List Mailbox) (id : ℕ) (row : Head) → rows ≡ map (λ m. m.head) ms → row_at mailbox_key (number_key id) rows ≡ Some row
    → ((m : Mailbox) → mailbox_at id ms ≡ Some m → m.head ≡ row → P) → P
mailbox_of rows ms id row same found use_it =
    unmapped (mailbox_at id ms) row (sym (head_row id ms) ∙ (sym (ap (row_at mailbox_key (number_key id)) same) ∙ found)) use_it

pub row_id : (rows : List Head) (id : ℕ) (row : Head) → row_at mailbox_key (number_key id) rows ≡ Some row → row.id ≡ id
row_id rows id row found = number_is (λ r. r.id) id rows row found

-- each mailbox is the one of its id
pub each_at : (world : World) → IsLegal world → AllByRecursion (λ m. mailbox_at m.head.id world.mailboxes ≡ Some m) world.mailboxes
each_at world legal =
    listed (λ m. m.head.id) (λ m. mailbox_at m.head.id world.mailboxes ≡ Some m) world.mailboxes legal.mailbox_ids
    (λ id m found. subst (λ k. mailbox_at k world.mailboxes ≡ Some m) (sym (number_is (λ x. x.head.id) id world.mailboxes m found)) found)

-- ---- a row that is replaced

pub replaced_heads : (new : Head) (f : Mailbox → Mailbox) (ms : List Mailbox) → AllByRecursion (λ m. m.head.id ≡ new.id → (f m).head ≡ new) ms
    → with_replaced mailbox_key new (map (λ m. m.head) ms) ≡ map (λ m. m.head) (map (λ m. if has_id new.id m then f m else m) ms)
replaced_heads new f [] all = refl
replaced_heads new f (m ∷ ms) all = by (m.head.id == new.id) refl (replaced_heads new f ms all.1)
  where
    by : (b : Bool) → (m.head.id == new.id) ≡ b → with_replaced mailbox_key new (map (λ m. m.head) ms) ≡ map (λ m. m.head) (map (λ m. if has_id new.id m then f m else m) ms)
        → cond b new m.head ∷ with_replaced mailbox_key new (map (λ m. m.head) ms) ≡ (cond b (f m) m).head ∷ map (λ m. m.head) (map (λ m. if has_id new.id m then f m else m) ms)
    by true e rest = ap (λ h. h ∷ with_replaced mailbox_key new (map (λ m. m.head) ms)) (sym (all.0 (eqb-true m.head.id new.id e))) ∙ ap (λ hs. (f m).head ∷ hs) rest
    by false e rest = ap (λ hs. m.head ∷ hs) rest

abbrev pub with_head : TableRows → Head → TableRows
with_head t new = record t { heads = record t.heads { mailboxes = with_replaced mailbox_key new t.heads.mailboxes } }

-- A change of a head that leaves its id and its name, and the messages of its mailbox.
pub record OfHead (f : Mailbox → Mailbox) : Type 0 where
  pub id : (m : Mailbox) → (f m).head.id ≡ m.head.id
  pub entries : (m : Mailbox) → (f m).entries ≡ m.entries
  pub gone : (m : Mailbox) → (f m).gone ≡ m.gone

step_of : (id : ℕ) (f : Mailbox → Mailbox) → OfHead f → OfHead (λ m. if has_id id m then f m else m)
step_of id f of = record {
  id = λ m. cond_both (has_id id m) (f m) m (λ n. n.head.id ≡ m.head.id) (λ e. of.id m) (λ e. refl);
  entries = λ m. cond_both (has_id id m) (f m) m (λ n. n.entries ≡ m.entries) (λ e. of.entries m) (λ e. refl);
  gone = λ m. cond_both (has_id id m) (f m) m (λ n. n.gone ≡ m.gone) (λ e. of.gone m) (λ e. refl);
}

pub head_shows : (content : BodyPart → List ℕ) (t : TableRows) (world : World) (new : Head) (f : Mailbox → Mailbox) → Shows content t world → OfHead f
    → AllByRecursion (λ m. m.head.id ≡ new.id → (f m).head ≡ new) world.mailboxes → is_mailbox_name new.name ≡ true → Shows content (with_head t new) (with_changed (has_id new.id) f world)
head_shows content t world new f s of heads proper =
    let same = heads-same (λ m. if has_id new.id m then f m else m) (step_of new.id f of).id (step_of new.id f of).entries (step_of new.id f of).gone world.mailboxes in
    record {
      users = s.users;
      mailboxes = ap (with_replaced mailbox_key new) s.mailboxes ∙ replaced_heads new f world.mailboxes heads;
      names = all-replaced mailbox_key (λ r. is_mailbox_name r.name ≡ true) new t.heads.mailboxes s.names proper;
      subscriptions = s.subscriptions;
      next = s.next;
      entries = entries_stay _ t.marks.mailbox_messages world.mailboxes _ same s.entries;
      gone = gone_stays t.marks.deleted_messages world.mailboxes _ same s.gone;
      flags = flags_stay t.marks.flag_names t.marks.flags world.mailboxes _ same s.flags;
      distinct = s.distinct;
    }

-- ---- recents that are taken

told : (o : Option Mailbox) → refusals.unless_absent (option_map (λ m. m.head) o) (λ row. None) ≡ unless_absent o (λ m. None)
told None = refl
told (Some m) = refl

pub recents_same : (content : BodyPart → List ℕ) (t : TableRows) (world : World) (id : ℕ) → Stands content t world → refusals.recents_refused t id ≡ refused world (TakeRecents id)
unfolding refused
recents_same content t world id s =
    ap (λ rows. refusals.unless_absent (row_at mailbox_key (number_key id) rows) (λ row. None)) s.mailboxes
    ∙ ap (λ o. refusals.unless_absent o (λ row. None)) (head_row id world.mailboxes)
    ∙ told (mailbox_at id world.mailboxes)

abbrev no_recents : Head → Head
no_recents row = record row { first_recent = row.uidnext }

pub recents_run : (t : TableRows) (id : ℕ) (row : Head) → AreClosed t → IsText row.name → row_at mailbox_key (number_key id) t.heads.mailboxes ≡ Some row
    → Runs t (recents_changes row) (with_head t (record row { first_recent = row.uidnext }))
recents_run t id row closed text found =
    let itself = subst (λ n. row_at mailbox_key (number_key n) t.heads.mailboxes ≡ Some row) (sym (row_id t.heads.mailboxes id row found)) found in
    ((text, subst IsSome (sym itself) refl, all_found (MailboxRefers t) _ t.heads.mailboxes row closed.mailboxes found), refl)

pub recents_lead : StaysLegal → (content : BodyPart → List ℕ) (t : TableRows) (world : World) (id : ℕ) (row : Head) → AreClosed t → Stands content t world
    → row_at mailbox_key (number_key id) t.heads.mailboxes ≡ Some row → Leads content t (recents_changes row) (apply world (TakeRecents id))
unfolding apply refused
recents_lead stays content t world id row closed s found =
    let new = record row { first_recent = row.uidnext } in
    let same = row_id t.heads.mailboxes id row found in
    let proper = all_found (λ r. is_mailbox_name r.name ≡ true) _ t.heads.mailboxes row s.names found in
    let heads = mailbox_of t.heads.mailboxes world.mailboxes id row s.mailboxes found (λ m at is. all-weaker _ (λ n. n.head.id ≡ new.id → (without_recents n).head ≡ new)
    (λ n its here. ap no_recents (ap (λ x. x.head) (same_Some n m (sym its ∙ (ap (λ k. mailbox_at k world.mailboxes) (here ∙ same) ∙ at))) ∙ is)) world.mailboxes (each_at world s.legal)) in
    record {
      after = with_head t new;
      runs = recents_run t id row closed (mailbox_text row.name proper) found;
      stands = standing content (with_head t new) (apply world (TakeRecents id))
          (stays world (TakeRecents id) s.legal tt (sym (recents_same content t world id s) ∙ ap (λ o. refusals.unless_absent o (λ r. None)) found))
          (subst (λ k. Shows content (with_head t new) (with_changed (has_id k) without_recents world)) same (head_shows content t world new without_recents (shown content t world s) (record { id = λ m. refl; entries = λ m. refl; gone = λ m. refl }) heads proper));
    }
