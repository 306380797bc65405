-- Each change that isn't refused keeps a legal store legal.
use Rattle.std.proofs.Common.{ℕ, ◌≡◌, Bool, true, false, cond, List, None, refl, arith}
use Rattle.std.proofs.lemmas.Option.{none-some}
use Rattle.std.proofs.lemmas.Bool.{false≢true}
use Rattle.std.specs.List.Sorted.{IsStrictlySortedBy}
use Rattle.ordered_rows.specs.InsertLaws.{InsertLaws}
use Rattle.row_tables.specs.Keys.{subscription_key}
use Rattle.mail_world.specs.Names.{is_inbox, mailbox_name, created_name}
use Rattle.mail_world.specs.Worlds.{World, no_world}
use Rattle.mail_world.specs.Changes.{Change, AddUser, Create, Delete, Rename, Subscribe, Unsubscribe, Append, Deliver, Copy, StoreFlags, Expunge, TakeRecents}
use Rattle.mail_world.specs.Renaming.{rename_refused, renamed, rename_inbox_refused, inbox_renamed}
use Rattle.mail_world.specs.Applying.{refused, apply}
use Rattle.mail_world.specs.Legal.{IsLegal, IsProper}
use Rattle.mail_world.proofs.Staying.{append-stays, deliver-stays, copy-stays, store-stays, expunge-stays, recents-stay}
use Rattle.mail_world.proofs.Coming.{create-stays, delete-stays, user-stays}
use Rattle.mail_world.proofs.Subscribing.{subscribe-stays, unsubscribe-stays}
use Rattle.mail_world.proofs.Moving.{rename_inbox-stays}
use Rattle.mail_world.proofs.Renamed.{rename-stays}

pub no_world-legal : IsLegal no_world
unfolding IsStrictlySortedBy
no_world-legal = record {
  user_ids = refl;
  user_names = λ id user found. absurd (none-some user found);
  few_users = omega arith;
  mailbox_ids = tt;
  mailboxes = λ id m found. absurd (none-some m found);
  inboxes = λ user there. absurd (false≢true there);
  few_mailboxes = λ user. omega arith;
  subscriptions = tt;
  subscribers = tt;
  few_subscriptions = λ user. omega arith;
  next = omega arith;
}

renames : (world : World) (owner : ℕ) (from to : List ℕ) → IsLegal world → (b : Bool) → is_inbox from ≡ b → cond b (rename_inbox_refused world owner to) (rename_refused world owner from to) ≡ None
    → IsLegal (cond b (inbox_renamed world owner to) (renamed world owner from to))
renames world owner from to legal true e accepted = rename_inbox-stays world owner to legal accepted
renames world owner from to legal false e accepted = rename-stays world owner from to legal e accepted

pub all-stay : InsertLaws subscription_key → (world : World) (change : Change) → IsLegal world → IsProper world change → refused world change ≡ None → IsLegal (apply world change)
unfolding apply refused
all-stay laws world (AddUser name verifier) legal proper accepted = user-stays world name verifier legal accepted
all-stay laws world (Create owner name) legal proper accepted = create-stays world owner (created_name name) legal proper accepted
all-stay laws world (Delete owner name held) legal proper accepted = delete-stays world owner (mailbox_name name) held legal accepted
all-stay laws world (Rename owner from to) legal proper accepted = renames world owner from (mailbox_name to) legal (is_inbox from) refl accepted
all-stay laws world (Subscribe owner name) legal proper accepted = subscribe-stays laws world owner (mailbox_name name) legal accepted
all-stay laws world (Unsubscribe owner name) legal proper accepted = unsubscribe-stays world owner (mailbox_name name) legal
all-stay laws world (Append mailbox flags date mail taken) legal proper accepted = append-stays world mailbox flags date mail taken legal proper.0 proper.1 accepted
all-stay laws world (Deliver users mail date taken) legal proper accepted = deliver-stays world users mail date taken legal proper
all-stay laws world (Copy mailbox uids target taken) legal proper accepted = copy-stays world mailbox uids target taken legal accepted
all-stay laws world (StoreFlags mailbox uids how flags) legal proper accepted = store-stays world mailbox uids how flags legal proper accepted
all-stay laws world (Expunge mailbox uids) legal proper accepted = expunge-stays world mailbox uids legal accepted
all-stay laws world (TakeRecents mailbox) legal proper accepted = recents-stay world mailbox legal
