-- The id of a mailbox is given once.
use Rattle.std.proofs.Common.{ℕ, ◌≡◌, ◌<◌, ◌==◌, Bool, true, false, cond, not, List, [], ◌∷◌, ◌++◌, map, Option, Some, None, refl, sym, ap, ◌∙◌, arith}
use Rattle.std.specs.Prelude.{◌||◌, nat_le}
use Rattle.std.specs.List.{filter}
use Rattle.std.specs.Option.{option_map, is_some}
use Rattle.std.specs.Prelude.{length}
use Rattle.std.proofs.lemmas.Bool.{cond_both, eqb-false, ne_eqb, or_parts}
use Rattle.std.proofs.lemmas.List.Folds.{find-append}
use Rattle.std.proofs.lemmas.Option.{none-some}
use Rattle.row_tables.specs.Names.{user_named}
use Rattle.mail_world.specs.Names.{inbox, is_inbox, mailbox_name, created_name, is_mailbox_name, is_user_name}
use Rattle.mail_world.specs.Flags.{distinct}
use Rattle.mail_world.specs.Worlds.{World, Mailbox, mailbox_at, mailbox_named, has_id, is_named, is_among}
use Rattle.mail_world.specs.Limits.{most_users}
use Rattle.mail_world.specs.Changes.{Change, AddUser, Create, Delete, Rename, Subscribe, Unsubscribe, Append, Deliver, Copy, StoreFlags, Expunge, TakeRecents, BadName, Exists, Full}
use Rattle.mail_world.specs.Users.{new_mailbox, with_mailbox, new_user_id, is_full_of_mailboxes}
use Rattle.mail_world.specs.Subscriptions.{is_subscribed}
use Rattle.mail_world.specs.Arrivals.{with_changed, with_messages, takes_mail, copied}
use Rattle.mail_world.specs.Storing.{with_stored, without_messages, without_recents}
use Rattle.mail_world.specs.Renaming.{moves, new_name, with_name, renamed, inbox_renamed, with_inbox_moved, moved_inbox, rename_inbox_refused, rename_refused}
use Rattle.mail_world.specs.Applying.{refused, apply}
use Rattle.mail_world.specs.Legal.{IsLegal, Ascend}
use Rattle.mail_world.specs.Laws.{KeepsIds}
use Rattle.mail_world.proofs.Following.{step, step-at, found_in_all, more_keeps, left_keeps, stored_keeps}
use Rattle.mail_world.proofs.Making.{next_above}
use Rattle.mail_world.proofs.Moving.{accepted_as}
use Rattle.mail_world.proofs.Coming.{has_room}
use Rattle.mail_world.proofs.Accepting.{not_refused}

same_ids : (before after : World) → after.next ≡ before.next → ((id : ℕ) → mailbox_at id before.mailboxes ≡ None → mailbox_at id after.mailboxes ≡ None) → KeepsIds before after
same_ids before after next none = record {
  given = λ id was. record { from_one = was.from_one; below_next = λ more. omega (arith, next, was.below_next (λ zero. more (next ∙ zero))) };
  once = λ id was lost. none id lost;
}

changed_ids : (world : World) (which : Mailbox → Bool) (f : Mailbox → Mailbox) → ((m : Mailbox) → (f m).head.id ≡ m.head.id) → KeepsIds world (with_changed which f world)
changed_ids world which f keeps = same_ids world (with_changed which f world) refl (λ id lost. step-at which f keeps id world.mailboxes ∙ ap (option_map (step which f)) lost)

made_ids : (world : World) (mailboxes : List Mailbox) (new : Mailbox) (later : World) → (world.next == 0) ≡ false → new.head.id ≡ world.next → later.next ≡ (with_mailbox new world).next → later.mailboxes ≡ mailboxes ++ new ∷ []
    → ((id : ℕ) → mailbox_at id world.mailboxes ≡ None → mailbox_at id mailboxes ≡ None) → KeepsIds world later
made_ids world mailboxes new later some is next list none = record {
  given = λ id was. record {
    from_one = was.from_one;
    below_next = λ more. omega (arith, next, was.below_next (eqb-false world.next 0 some), next_above world.next (eqb-false world.next 0 some) (λ zero. more (next ∙ zero)));
  };
  once = λ id was lost.
      ap (mailbox_at id) list ∙ find-append (has_id id) mailboxes (new ∷ [])
      ∙ rw (none id lost) (rw (ne_eqb new.head.id id (λ same. differ id (was.below_next (eqb-false world.next 0 some)) same)) refl);
}
  where
    differ : (id : ℕ) → id < world.next → new.head.id ≡ id → ⊥
    differ id less same = omega (arith, less, same, is)

lost_still : (q : Mailbox → Bool) (id : ℕ) (ms : List Mailbox) → Ascend (map (λ m. m.head.id) ms) → mailbox_at id ms ≡ None → (o : Option Mailbox) → mailbox_at id (filter q ms) ≡ o → o ≡ None
lost_still q id ms ascend lost None found = refl
lost_still q id ms ascend lost (Some m) found = absurd (none-some m (sym lost ∙ found_in_all q id ms m ascend found))

moved_ids : (world : World) (owner : ℕ) (to : List ℕ) → (world.next == 0) ≡ false → (o : Option Mailbox) → KeepsIds world (with_inbox_moved o world owner to)
moved_ids world owner to some None = same_ids world world refl (λ id lost. lost)
moved_ids world owner to some (Some source) =
    made_ids world (map (step (is_named owner inbox) (without_messages (λ uid. true))) world.mailboxes) (moved_inbox world.next to source) _ some
    (more_keeps false (map (λ entry. entry.message) source.entries) (new_mailbox world.next source.head.owner to)) refl refl
    (λ id lost. step-at (is_named owner inbox) (without_messages (λ uid. true)) (left_keeps (λ uid. true)) id world.mailboxes ∙ ap (option_map (step (is_named owner inbox) (without_messages (λ uid. true)))) lost)

renamed_ids : (world : World) (owner : ℕ) (from to : List ℕ) → (b : Bool) → cond b (rename_inbox_refused world owner to) (rename_refused world owner from to) ≡ None
    → KeepsIds world (cond b (inbox_renamed world owner to) (renamed world owner from to))
renamed_ids world owner from to true accepted = moved_ids world owner to (accepted_as world owner to accepted).room.1 (mailbox_named owner inbox world.mailboxes)
renamed_ids world owner from to false accepted = changed_ids world (moves owner from) (λ m. with_name (new_name from to m) m) (λ m. refl)

pub all-keep_ids : (world : World) (change : Change) → IsLegal world → refused world change ≡ None → KeepsIds world (apply world change)
unfolding apply refused
all-keep_ids world (AddUser name verifier) legal accepted =
    let first = not_refused (not (is_user_name name)) BadName ((is_some (user_named name world.users), Exists) ∷ (nat_le most_users (length world.users) || world.next == 0, Full) ∷ []) accepted in
    let second = not_refused (is_some (user_named name world.users)) Exists ((nat_le most_users (length world.users) || world.next == 0, Full) ∷ []) first.1 in
    let third = not_refused (nat_le most_users (length world.users) || world.next == 0) Full [] second.1 in
    made_ids world world.mailboxes (new_mailbox world.next (new_user_id world) inbox) _ (or_parts (nat_le most_users (length world.users)) (world.next == 0) third.0).1 refl refl refl (λ id lost. lost)
all-keep_ids world (Create owner name) legal accepted =
    let first = not_refused (not (is_mailbox_name (created_name name))) BadName ((is_some (mailbox_named owner (created_name name) world.mailboxes), Exists) ∷ (is_full_of_mailboxes owner world, Full) ∷ []) accepted in
    let second = not_refused (is_some (mailbox_named owner (created_name name) world.mailboxes)) Exists ((is_full_of_mailboxes owner world, Full) ∷ []) first.1 in
    let third = not_refused (is_full_of_mailboxes owner world) Full [] second.1 in
    made_ids world world.mailboxes (new_mailbox world.next owner (created_name name)) _ (has_room owner world third.0).1 refl refl refl (λ id lost. lost)
all-keep_ids world (Delete owner name held) legal accepted =
    same_ids world _ refl (λ id lost. lost_still (λ m. not (is_named owner (mailbox_name name) m)) id world.mailboxes legal.mailbox_ids lost _ refl)
all-keep_ids world (Rename owner from to) legal accepted = renamed_ids world owner from (mailbox_name to) (is_inbox from) accepted
all-keep_ids world (Subscribe owner name) legal accepted =
    cond_both (is_subscribed owner (mailbox_name name) world) world _ (KeepsIds world) (λ e. same_ids world world refl (λ id lost. lost)) (λ e. same_ids world _ refl (λ id lost. lost))
all-keep_ids world (Unsubscribe owner name) legal accepted = same_ids world _ refl (λ id lost. lost)
all-keep_ids world (Append mailbox flags date mail taken) legal accepted =
    changed_ids world (has_id mailbox) (with_messages taken (record { flags = distinct flags; date = date; mail = mail } ∷ [])) (more_keeps taken (record { flags = distinct flags; date = date; mail = mail } ∷ []))
all-keep_ids world (Deliver users mail date taken) legal accepted =
    changed_ids world (takes_mail users) (λ m. with_messages (is_among m.head.id taken) (record { flags = []; date = date; mail = mail } ∷ []) m) (λ m. more_keeps (is_among m.head.id taken) (record { flags = []; date = date; mail = mail } ∷ []) m)
all-keep_ids world (Copy mailbox uids target taken) legal accepted = changed_ids world (has_id target) (with_messages taken (copied world mailbox uids)) (more_keeps taken (copied world mailbox uids))
all-keep_ids world (StoreFlags mailbox uids how flags) legal accepted = changed_ids world (has_id mailbox) (with_stored uids how flags) (stored_keeps uids how flags)
all-keep_ids world (Expunge mailbox uids) legal accepted = changed_ids world (has_id mailbox) (without_messages (λ uid. is_among uid uids)) (left_keeps (λ uid. is_among uid uids))
all-keep_ids world (TakeRecents mailbox) legal accepted = changed_ids world (has_id mailbox) without_recents (λ m. refl)
