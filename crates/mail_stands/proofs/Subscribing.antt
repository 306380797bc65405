-- Names that are subscribed and unsubscribed, as rows.
use Rattle.std.proofs.Common.{ℕ, ◌≡◌, ◌==◌, Bool, true, false, cond, not, List, [], ◌∷◌, length, Option, Some, None, refl, sym, ap, subst, ◌∙◌}
use Rattle.std.specs.Prelude.{◌&&◌, nat_eq, nat_le, IsSome, is_some}
use Rattle.std.specs.Cmp.Lexicographic.{pointwise}
use Rattle.std.proofs.lemmas.Bool.{eqb-true, and_parts, not-false}
use Rattle.std.proofs.lemmas.List.Sums.{length-filter}
use Rattle.ordered_rows.specs.RowKey.{number_key}
use Rattle.ordered_rows.specs.Listed.{row_at, with_row, without}
use Rattle.row_tables.specs.Keys.{owned_key, user_key, mailbox_key, subscription_key}
use Rattle.row_tables.specs.Names as names
use Rattle.row_tables.specs.TableRows.{TableRows}
use Rattle.row_tables.specs.References.{HasUser, HasSubscription, MailboxRefers, AreClosed, subscriptions_of}
use Rattle.row_tables.specs.Fits.{IsText, Runs, applied}
use Rattle.row_tables.specs.declared.heads.Mailbox.{Mailbox as Head}
use Rattle.row_tables.specs.declared.heads.Subscription.{Subscription}
use Rattle.row_tables.specs.declared.contents.BodyPart.{BodyPart}
use Rattle.row_tables.specs.declared.change.RowChange.{RowChange}
use Rattle.row_tables.specs.declared.change.RowChange.TheVariants.{InsertSubscription, RemoveSubscription}
use Rattle.mail_world.specs.Names.{is_mailbox_name, mailbox_name}
use Rattle.mail_world.specs.Worlds.{World, mailbox_named}
use Rattle.mail_world.specs.Limits.{most_subscriptions}
use Rattle.mail_world.specs.Changes.{BadName, Absent, Full, Subscribe, Unsubscribe, Refusal, first_refusal}
use Rattle.mail_world.specs.Subscriptions as world_subscriptions
use Rattle.mail_world.specs.Applying.{apply, refused}
use Rattle.mail_stands.specs.Stands.{Stands}
use Rattle.mail_stands.specs.Leading.{Leads, KeepsOwners}
use Rattle.mail_stands.specs.Refusals.{is_subscribed, subscribe_refused, unsubscribe_refused}
use Rattle.mail_stands.specs.RowChanges.{subscribe_changes, unsubscribe_changes}
use Rattle.mail_stands.proofs.Lists.{all_found, find_passes}
use Rattle.mail_stands.proofs.Refusing.{not_refused, named_there}
use Rattle.mail_stands.proofs.Showing.{Shows, shown, standing}
use Rattle.mail_stands.proofs.Making.{StaysLegal, mailbox_text}
use Rattle.mail_stands.proofs.Owners.{there_as, has_owner}

-- ---- refusals

abbrev refusal : List ℕ → Bool → Bool → ℕ → Option Refusal
refusal name there subscribed count =
    first_refusal ((not (is_mailbox_name name), BadName) ∷ (not there, Absent) ∷ (not subscribed && nat_le most_subscriptions count, Full) ∷ [])

pub subscribe_same : (content : BodyPart → List ℕ) (t : TableRows) (world : World) (owner : ℕ) (name : List ℕ) → Stands content t world → subscribe_refused t owner (mailbox_name name) ≡ refused world (Subscribe owner name)
unfolding refused
subscribe_same content t world owner name s =
    let its = mailbox_name name in
    ap (λ b. refusal its b (is_subscribed t owner its) (length (subscriptions_of owner t.heads.subscriptions))) (named_there owner its t.heads.mailboxes world.mailboxes s.mailboxes)
    ∙ ap (λ rows. refusal its (is_some (mailbox_named owner its world.mailboxes)) (is_some (row_at subscription_key (owned_key owner its) rows)) (length (subscriptions_of owner rows))) s.subscriptions
    ∙ ap (refusal its (is_some (mailbox_named owner its world.mailboxes)) (world_subscriptions.is_subscribed owner its world)) (length-filter (λ r. r.owner == owner) world.subscriptions)

pub unsubscribe_same : (content : BodyPart → List ℕ) (t : TableRows) (world : World) (owner : ℕ) (name : List ℕ) → Stands content t world
    → unsubscribe_refused t owner (mailbox_name name) ≡ refused world (Unsubscribe owner name)
unfolding refused
unsubscribe_same content t world owner name s =
    ap (λ rows. first_refusal ((not (is_mailbox_name (mailbox_name name)), BadName) ∷ (not (is_some (row_at subscription_key (owned_key owner (mailbox_name name)) rows)), Absent) ∷ [])) s.subscriptions

-- ---- a name that is subscribed

abbrev row_of : ℕ → List ℕ → Subscription
row_of owner name = record { owner = owner; name = name }

-- Where the user has a mailbox, the user is there.
owner_there : (t : TableRows) (owner : ℕ) (name : List ℕ) (row : Head) → AreClosed t → names.mailbox_named owner name t.heads.mailboxes ≡ Some row → HasUser t owner
owner_there t owner name row closed found =
    subst (HasUser t) (eqb-true row.owner owner (and_parts (pointwise nat_eq row.name name) (row.owner == owner) (find_passes (names.has_mailbox_name owner name) t.heads.mailboxes row found)).1)
    (all_found (MailboxRefers t) (names.has_mailbox_name owner name) t.heads.mailboxes row closed.mailboxes found)

none_there : {X : Type 0} (o : Option X) → is_some o ≡ false → o ≡ None
none_there None e = refl
none_there (Some x) e = absurd cc

-- what the tables are after the changes
abbrev subscribed_rows : TableRows → ℕ → List ℕ → Bool → TableRows
subscribed_rows t owner name true = t
subscribed_rows t owner name false = applied t (InsertSubscription (row_of owner name))

abbrev changes_if : ℕ → List ℕ → Bool → List RowChange
changes_if owner name b = cond b [] (InsertSubscription (row_of owner name) ∷ [])

runs_if : (t : TableRows) (owner : ℕ) (name : List ℕ) (b : Bool) → is_subscribed t owner name ≡ b → IsText name → HasUser t owner → Runs t (changes_if owner name b) (subscribed_rows t owner name b)
runs_if t owner name true e text there = refl
runs_if t owner name false e text there = ((text, none_there (row_at subscription_key (owned_key owner name) t.heads.subscriptions) e, there), refl)

pub subscribe_runs : (t : TableRows) (owner : ℕ) (name : List ℕ) → IsText name → HasUser t owner → Runs t (subscribe_changes t owner name) (subscribed_rows t owner name (is_subscribed t owner name))
subscribe_runs t owner name text there = runs_if t owner name (is_subscribed t owner name) refl text there

abbrev subscribed_world : World → ℕ → List ℕ → Bool → World
subscribed_world world owner name b = cond b world (record world { subscriptions = with_row subscription_key (row_of owner name) world.subscriptions })

subscribed_shows : (content : BodyPart → List ℕ) (t : TableRows) (world : World) (owner : ℕ) (name : List ℕ) (b : Bool) → Shows content t world → Shows content (subscribed_rows t owner name b) (subscribed_world world owner name b)
subscribed_shows content t world owner name true s = s
subscribed_shows content t world owner name false s = record {
  users = s.users;
  mailboxes = s.mailboxes;
  names = s.names;
  subscriptions = ap (with_row subscription_key (row_of owner name)) s.subscriptions;
  next = s.next;
  entries = s.entries;
  gone = s.gone;
  flags = s.flags;
  distinct = s.distinct;
}

pub subscribe_leads : StaysLegal → (content : BodyPart → List ℕ) (t : TableRows) (world : World) (owner : ℕ) (name : List ℕ) → AreClosed t → Stands content t world
    → subscribe_refused t owner (mailbox_name name) ≡ None → Leads content t (subscribe_changes t owner (mailbox_name name)) (apply world (Subscribe owner name))
unfolding apply
subscribe_leads stays content t world owner name closed s none =
    let its = mailbox_name name in
    let full = not (is_subscribed t owner its) && nat_le most_subscriptions (length (subscriptions_of owner t.heads.subscriptions)) in
    let first = not_refused (not (is_mailbox_name its)) BadName ((not (is_some (names.mailbox_named owner its t.heads.mailboxes)), Absent) ∷ (full, Full) ∷ []) none in
    let second = not_refused (not (is_some (names.mailbox_named owner its t.heads.mailboxes))) Absent ((full, Full) ∷ []) first.1 in
    let there = there_as {P = HasUser t owner} (names.mailbox_named owner its t.heads.mailboxes) (not-false (is_some (names.mailbox_named owner its t.heads.mailboxes)) second.0) (λ row found. owner_there t owner its row closed found) in
    record {
      after = subscribed_rows t owner its (is_subscribed t owner its);
      runs = subscribe_runs t owner its (mailbox_text its (not-false (is_mailbox_name its) first.0)) there;
      stands = standing content (subscribed_rows t owner its (is_subscribed t owner its)) (apply world (Subscribe owner name))
          (stays world (Subscribe owner name) s.legal tt (sym (subscribe_same content t world owner name s) ∙ none))
          (subst (λ rows. Shows content (subscribed_rows t owner its (is_subscribed t owner its)) (subscribed_world world owner its (is_some (row_at subscription_key (owned_key owner its) rows)))) s.subscriptions
          (subscribed_shows content t world owner its (is_subscribed t owner its) (shown content t world s)));
    }

-- ---- a name that is unsubscribed

pub unsubscribe_runs : (t : TableRows) (owner : ℕ) (name : List ℕ) → IsText name → HasSubscription t owner name → Runs t (unsubscribe_changes owner name) (applied t (RemoveSubscription (owner, name)))
unsubscribe_runs t owner name text there = ((text, there), refl)

unsubscribed_shows : (content : BodyPart → List ℕ) (t : TableRows) (world : World) (owner : ℕ) (name : List ℕ) → Shows content t world
    → Shows content (applied t (RemoveSubscription (owner, name))) (world_subscriptions.unsubscribed world owner name)
unsubscribed_shows content t world owner name s = record {
  users = s.users;
  mailboxes = s.mailboxes;
  names = s.names;
  subscriptions = ap (without subscription_key (owned_key owner name)) s.subscriptions;
  next = s.next;
  entries = s.entries;
  gone = s.gone;
  flags = s.flags;
  distinct = s.distinct;
}

pub unsubscribe_leads : StaysLegal → (content : BodyPart → List ℕ) (t : TableRows) (world : World) (owner : ℕ) (name : List ℕ) → Stands content t world
    → unsubscribe_refused t owner (mailbox_name name) ≡ None → Leads content t (unsubscribe_changes owner (mailbox_name name)) (apply world (Unsubscribe owner name))
unfolding apply
unsubscribe_leads stays content t world owner name s none =
    let its = mailbox_name name in
    let first = not_refused (not (is_mailbox_name its)) BadName ((not (is_subscribed t owner its), Absent) ∷ []) none in
    let second = not_refused (not (is_subscribed t owner its)) Absent [] first.1 in
    record {
      after = applied t (RemoveSubscription (owner, its));
      runs = unsubscribe_runs t owner its (mailbox_text its (not-false (is_mailbox_name its) first.0)) (not-false (is_subscribed t owner its) second.0);
      stands = standing content (applied t (RemoveSubscription (owner, its))) (apply world (Unsubscribe owner name))
          (stays world (Unsubscribe owner name) s.legal tt (sym (unsubscribe_same content t world owner name s) ∙ none))
          (unsubscribed_shows content t world owner its (shown content t world s));
    }

-- ---- users and mailboxes stay as they are

abbrev pub KeepsHeads : TableRows → TableRows → Type 0
KeepsHeads t after = (after.heads.users ≡ t.heads.users) × (after.heads.mailboxes ≡ t.heads.mailboxes)

ends_if : (t after : TableRows) (owner : ℕ) (name : List ℕ) (b : Bool) → Runs t (changes_if owner name b) after → KeepsHeads t after
ends_if t after owner name true runs = subst (KeepsHeads t) runs (refl, refl)
ends_if t after owner name false runs = subst (KeepsHeads t) runs.1 (refl, refl)

keeps_heads : (t after : TableRows) → KeepsHeads t after → KeepsOwners t after
keeps_heads t after same = record {
  users = λ id there. subst (λ rows. IsSome (row_at user_key (number_key id) rows)) (sym same.0) there;
  mailboxes = λ id row found. has_owner _ row (ap (row_at mailbox_key (number_key id)) same.1 ∙ found);
}

pub subscribe_keeps : (t after : TableRows) (owner : ℕ) (name : List ℕ) → Runs t (subscribe_changes t owner name) after → KeepsOwners t after
subscribe_keeps t after owner name runs = keeps_heads t after (ends_if t after owner name (is_subscribed t owner name) runs)

pub unsubscribe_keeps : (t after : TableRows) (owner : ℕ) (name : List ℕ) → Runs t (unsubscribe_changes owner name) after → KeepsOwners t after
unsubscribe_keeps t after owner name runs = keeps_heads t after (subst (KeepsHeads t) runs.1 (refl, refl))
