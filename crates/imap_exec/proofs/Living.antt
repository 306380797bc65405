-- Sessions stay those of users who are there.
use Rattle.std.proofs.Common.{◌≡◌, ◌⊎◌, ℕ, Bool, true, false, cond, List, [], ◌∷◌, ◌++◌, Option, Some, None, IsSome, IsSomeAnd, find, filter, not, ◌==◌, refl, sym, subst, ◌∙◌, ⊎_elim}
use Rattle.std.proofs.lemmas.Bool.{true≢false, eq-eqb, or_left, or_right}
use Rattle.ordered_rows.specs.RowKey.{number_key}
use Rattle.ordered_rows.specs.Listed.{row_at}
use Rattle.row_tables.specs.Keys.{mailbox_key, user_key}
use Rattle.row_tables.specs.TableRows.{TableRows}
use Rattle.row_tables.specs.References.{HasMailbox, HasUser}
use Rattle.row_tables.specs.declared.heads.Mailbox.{Mailbox}
use Rattle.row_tables.specs.declared.heads.User.{User}
use Rattle.session_view.specs.declared.sessions.SessionPart.{SessionPart}
use Rattle.session_view.specs.declared.sessions.Selection.{Selection}
use Rattle.session_view.specs.declared.sessions.State.{State}
use Rattle.session_view.specs.declared.sessions.State.TheVariants.{Fresh, Asked, Known, Selected}
use Rattle.session_view.specs.Parts.{has_number, state_in, state_of, with_state}
use Rattle.mail_world.specs.Worlds.{is_among}
use Rattle.mail_stands.specs.Leading.{KeepsOwners}
use Rattle.mailbox_core.specs.Deleting.{KeepsHeld}
use Rattle.imap_steps.specs.Managing.{held, selected_in}
use Rattle.imap_exec.specs.Ready.{HasOwned, IsLive, AreLive}
use Rattle.imap_exec.specs.Users.{selection_in, user_in}

module _ (t : TableRows) where
  -- the session of a number
  live_found : (test : SessionPart → Bool) (parts : List SessionPart) → AreLive t parts → IsLive t (state_in (find test parts))
  live_found test [] live = tt
  live_found test (part ∷ parts) live = by (test part) (live_found test parts live.1)
    where
      by : (b : Bool) → IsLive t (state_in (find test parts)) → IsLive t (state_in (cond b (Some part) (find test parts)))
      by true rest = live.0
      by false rest = rest

  pub live_at : (number : ℕ) (parts : List SessionPart) → AreLive t parts → IsLive t (state_of number parts)
  live_at number parts live = live_found (has_number number) parts live

  -- its user
  has_user : (state : State) (user : ℕ) → user_in state ≡ Some user → IsLive t state → HasUser t user
  has_user Fresh user e live = cc
  has_user (Asked tag) user e live = cc
  has_user (Known other) user e live = subst (HasUser t) (some_is other user e) live
    where
      some_is : (a b : ℕ) → Some a ≡ Some b → a ≡ b
      some_is a b e = cc
  has_user (Selected other selection) user e live = subst (HasUser t) (some_is other user e) live.0
    where
      some_is : (a b : ℕ) → Some a ≡ Some b → a ≡ b
      some_is a b e = cc

  pub user_is_there : (number user : ℕ) (parts : List SessionPart) → user_in (state_of number parts) ≡ Some user → AreLive t parts → HasUser t user
  user_is_there number user parts e live = has_user (state_of number parts) user e (live_at number parts live)

  -- the mailbox that it has selected
  selected_there : (mailbox user : ℕ) → HasOwned t user mailbox → HasMailbox t mailbox
  selected_there mailbox user owned = by (row_at mailbox_key (number_key mailbox) t.heads.mailboxes) owned
    where
      by : (o : Option Mailbox) → IsSomeAnd o (λ row. row.owner ≡ user) → IsSome o
      by None is = absurd is
      by (Some row) is = refl

  has_selected_mailbox : (state : State) (selection : Selection) → selection_in state ≡ Some selection → IsLive t state → HasMailbox t selection.mailbox
  has_selected_mailbox Fresh selection e live = cc
  has_selected_mailbox (Asked tag) selection e live = cc
  has_selected_mailbox (Known user) selection e live = cc
  has_selected_mailbox (Selected user other) selection e live = subst (λ (s : Selection). HasMailbox t s.mailbox) (some_is other selection e) (selected_there other.mailbox user live.1)
    where
      some_is : (a b : Selection) → Some a ≡ Some b → a ≡ b
      some_is a b e = cc

  pub selection_is_there : (number : ℕ) (selection : Selection) (parts : List SessionPart) → selection_in (state_of number parts) ≡ Some selection → AreLive t parts → HasMailbox t selection.mailbox
  selection_is_there number selection parts e live = has_selected_mailbox (state_of number parts) selection e (live_at number parts live)

  -- a session's new state
  pub live_with : (number : ℕ) (state : State) (parts : List SessionPart) → IsLive t state → AreLive t parts → AreLive t (with_state number state parts)
  live_with number state [] is live = tt
  live_with number state (part ∷ parts) is live = by (has_number number part) (live_with number state parts is live.1)
    where
      by : (b : Bool) → AreLive t (with_state number state parts) → AreLive t (cond b (record { number = number; state = state } ∷ parts) (part ∷ with_state number state parts))
      by true rest = (is, live.1)
      by false rest = (live.0, rest)

  -- a new session
  pub live_more : (number : ℕ) (parts : List SessionPart) → AreLive t parts → AreLive t (parts ++ record { number = number; state = Fresh } ∷ [])
  live_more number [] live = (tt, tt)
  live_more number (part ∷ parts) live = (live.0, live_more number parts live.1)

  -- those that are left once one took leave
  pub live_left : (number : ℕ) (parts : List SessionPart) → AreLive t parts → AreLive t (filter (λ part. not (has_number number part)) parts)
  live_left number [] live = tt
  live_left number (part ∷ parts) live = by (not (has_number number part)) (live_left number parts live.1)
    where
      by : (b : Bool) → AreLive t (filter (λ part. not (has_number number part)) parts) → AreLive t (cond b (part ∷ filter (λ part. not (has_number number part)) parts) (filter (λ part. not (has_number number part)) parts))
      by true rest = (live.0, rest)
      by false rest = rest

-- Where users and mailboxes stay, sessions do.
module _ (t after : TableRows) (keeps : KeepsOwners t after) where
  owned_stays : (user mailbox : ℕ) → HasOwned t user mailbox → HasOwned after user mailbox
  owned_stays user mailbox owned = by (row_at mailbox_key (number_key mailbox) t.heads.mailboxes) (keeps.mailboxes mailbox) owned
    where
      now : Option Mailbox
      now = row_at mailbox_key (number_key mailbox) after.heads.mailboxes

      same : (o : Option Mailbox) (owner : ℕ) → owner ≡ user → IsSomeAnd o (λ row. row.owner ≡ owner) → IsSomeAnd o (λ row. row.owner ≡ user)
      same o owner e is = subst (λ u. IsSomeAnd o (λ row. row.owner ≡ u)) e is

      by : (o : Option Mailbox) → ((row : Mailbox) → o ≡ Some row → IsSomeAnd now (λ row'. row'.owner ≡ row.owner)) → IsSomeAnd o (λ row. row.owner ≡ user) → IsSomeAnd now (λ row. row.owner ≡ user)
      by None kept is = absurd is
      by (Some row) kept is = same now row.owner is (kept row refl)

  state_stays : (state : State) → IsLive t state → IsLive after state
  state_stays Fresh live = tt
  state_stays (Asked tag) live = tt
  state_stays (Known user) live = keeps.users user live
  state_stays (Selected user selection) live = (keeps.users user live.0, owned_stays user selection.mailbox live.1)

  pub live_stay : (parts : List SessionPart) → AreLive t parts → AreLive after parts
  live_stay [] live = tt
  live_stay (part ∷ parts) live = (state_stays part.state live.0, live_stay parts live.1)

-- Where users stay, and the mailboxes that sessions have selected, sessions do.
module _ (t after : TableRows) (by_user : ℕ) (all : List ℕ) (keeps : KeepsHeld by_user all t after) where
  user_kept : (id : ℕ) → HasUser t id → HasUser after id
  user_kept id there = subst (λ (users : List User). IsSome (row_at user_key (number_key id) users)) (sym keeps.users) there

  owned_kept : (user mailbox : ℕ) → is_among mailbox all ≡ true → HasOwned t user mailbox → HasOwned after user mailbox
  owned_kept user mailbox selected owned = by (row_at mailbox_key (number_key mailbox) t.heads.mailboxes) (keeps.mailboxes mailbox) owned
    where
      now : Option Mailbox
      now = row_at mailbox_key (number_key mailbox) after.heads.mailboxes

      by : (o : Option Mailbox) → ((row : Mailbox) → o ≡ Some row → (now ≡ Some row) ⊎ ((row.owner ≡ by_user) × (is_among mailbox all ≡ false))) → IsSomeAnd o (λ row. row.owner ≡ user)
          → IsSomeAnd now (λ row. row.owner ≡ user)
      by None kept is = absurd is
      by (Some row) kept is =
          ⊎_elim (λ (same : now ≡ Some row). subst (λ (o : Option Mailbox). IsSomeAnd o (λ r. r.owner ≡ user)) (sym same) is)
          (λ (gone : (row.owner ≡ by_user) × (is_among mailbox all ≡ false)). absurd (true≢false (sym selected ∙ gone.1))) (kept row refl)

  abbrev Covers : List ℕ → Type 0
  Covers ids = (id : ℕ) → is_among id ids ≡ true → is_among id all ≡ true

  state_kept : (parts : List SessionPart) (state : State) → Covers (selected_in state ++ held parts) → IsLive t state → IsLive after state × Covers (held parts)
  state_kept parts Fresh covers live = (tt, covers)
  state_kept parts (Asked tag) covers live = (tt, covers)
  state_kept parts (Known user) covers live = (user_kept user live, covers)
  state_kept parts (Selected user selection) covers live =
      let id : ℕ = selection.mailbox in (
        (user_kept user live.0, owned_kept user id (covers id (or_left (id == id) (is_among id (held parts)) (eq-eqb id id refl))) live.1),
        λ other there. covers other (or_right (id == other) (is_among other (held parts)) there),
      )

  live_covered : (parts : List SessionPart) → Covers (held parts) → AreLive t parts → AreLive after parts
  live_covered [] covers live = tt
  live_covered (part ∷ parts) covers live = let its = state_kept parts part.state covers live.0 in (its.0, live_covered parts its.1 live.1)

pub live_held : (t after : TableRows) (by_user : ℕ) (parts : List SessionPart) → KeepsHeld by_user (held parts) t after → AreLive t parts → AreLive after parts
live_held t after by_user parts keeps live = live_covered t after by_user (held parts) keeps parts (λ id there. there) live
