-- The tables tell the refusals of the world.
use Rattle.std.proofs.Common.{ℕ, ◌≡◌, ◌==◌, Bool, true, false, cond, not, List, [], ◌∷◌, map, length, Option, None, refl, sym, ap, ◌∙◌, arith}
use Rattle.std.specs.Prelude.{◌||◌, nat_le, count_by, is_some}
use Rattle.std.specs.List.{filter}
use Rattle.std.proofs.lemmas.Option.{none-some}
use Rattle.std.proofs.lemmas.List.Sums.{length-filter}
use Rattle.row_tables.specs.Names as names
use Rattle.row_tables.specs.TableRows.{TableRows}
use Rattle.row_tables.specs.declared.heads.User.{User}
use Rattle.row_tables.specs.declared.heads.Mailbox.{Mailbox as Head}
use Rattle.row_tables.specs.declared.contents.BodyPart.{BodyPart}
use Rattle.mail_world.specs.Names.{is_user_name, is_mailbox_name, created_name}
use Rattle.mail_world.specs.Worlds.{World, Mailbox, mailbox_named, is_owned_by}
use Rattle.mail_world.specs.Limits.{most_users, most_mailboxes}
use Rattle.mail_world.specs.Changes.{Refusal, BadName, Exists, Full, AddUser, Create, first_refusal}
use Rattle.mail_world.specs.Applying.{refused}
use Rattle.mail_stands.specs.Stands.{Stands}
use Rattle.mail_stands.specs.Refusals.{add_user_refused, create_refused, mailboxes_of}
use Rattle.mail_stands.proofs.Lists.{some_map}
use Rattle.mail_stands.proofs.Frames.{head_named}

-- each reason fails where none is given
pub not_refused : (b : Bool) (reason : Refusal) (reasons : List (Bool × Refusal)) → first_refusal ((b, reason) ∷ reasons) ≡ None → (b ≡ false) × (first_refusal reasons ≡ None)
not_refused true reason reasons none = absurd (none-some reason (sym none))
not_refused false reason reasons none = (refl, none)

-- ---- users

abbrev user_refusal : List ℕ → List User → ℕ → Option Refusal
user_refusal name users next =
    first_refusal ((not (is_user_name name), BadName) ∷ (is_some (names.user_named name users), Exists) ∷ (nat_le most_users (length users) || next == 0, Full) ∷ [])

pub add_user_same : (content : BodyPart → List ℕ) (t : TableRows) (world : World) (name verifier : List ℕ) → Stands content t world → add_user_refused t name ≡ refused world (AddUser name verifier)
unfolding refused
add_user_same content t world name verifier s = ap (λ us. user_refusal name us t.heads.counters.next) s.users ∙ ap (user_refusal name world.users) s.next

-- ---- mailboxes

counted : (owner : ℕ) (ms : List Mailbox) → length (mailboxes_of owner (map (λ m. m.head) ms)) ≡ length (filter (is_owned_by owner) ms)
counted owner [] = refl
counted owner (m ∷ ms) = by (m.head.owner == owner) (counted owner ms)
  where
    by : (b : Bool) → length (mailboxes_of owner (map (λ m. m.head) ms)) ≡ length (filter (is_owned_by owner) ms)
        → length (cond b (m.head ∷ mailboxes_of owner (map (λ m. m.head) ms)) (mailboxes_of owner (map (λ m. m.head) ms))) ≡ length (cond b (m ∷ filter (is_owned_by owner) ms) (filter (is_owned_by owner) ms))
    by true e = omega (arith, e)
    by false e = e

pub owned_count : (owner : ℕ) (rows : List Head) (ms : List Mailbox) → rows ≡ map (λ m. m.head) ms → length (mailboxes_of owner rows) ≡ count_by (is_owned_by owner) ms
owned_count owner rows ms same = ap (λ rs. length (mailboxes_of owner rs)) same ∙ counted owner ms ∙ length-filter (is_owned_by owner) ms

pub named_there : (owner : ℕ) (name : List ℕ) (rows : List Head) (ms : List Mailbox) → rows ≡ map (λ m. m.head) ms → is_some (names.mailbox_named owner name rows) ≡ is_some (mailbox_named owner name ms)
named_there owner name rows ms same = ap (λ rs. is_some (names.mailbox_named owner name rs)) same ∙ ap is_some (head_named owner name ms) ∙ some_map (λ m. m.head) (mailbox_named owner name ms)

abbrev mailbox_refusal : List ℕ → Bool → ℕ → ℕ → Option Refusal
mailbox_refusal name exists count next =
    first_refusal ((not (is_mailbox_name name), BadName) ∷ (exists, Exists) ∷ (nat_le most_mailboxes count || next == 0, Full) ∷ [])

pub create_same : (content : BodyPart → List ℕ) (t : TableRows) (world : World) (owner : ℕ) (name : List ℕ) → Stands content t world → create_refused t owner (created_name name) ≡ refused world (Create owner name)
unfolding refused
create_same content t world owner name s =
    let its = created_name name in
    let count = length (mailboxes_of owner t.heads.mailboxes) in
    let exists = is_some (mailbox_named owner its world.mailboxes) in
    ap (λ b. mailbox_refusal its b count t.heads.counters.next) (named_there owner its t.heads.mailboxes world.mailboxes s.mailboxes)
    ∙ ap (λ n. mailbox_refusal its exists n t.heads.counters.next) (owned_count owner t.heads.mailboxes world.mailboxes s.mailboxes)
    ∙ ap (mailbox_refusal its exists (count_by (is_owned_by owner) world.mailboxes)) s.next
