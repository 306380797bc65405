-- Whether a change is refused, and what it makes of the store.
use Rattle.std.specs.Prelude.{Option, None, if◌then◌else◌}
use Rattle.mail_world.specs.Names.{is_inbox, mailbox_name, created_name}
use Rattle.mail_world.specs.Worlds.{World}
use Rattle.mail_world.specs.Changes.{Change, AddUser, Create, Delete, Rename, Subscribe, Unsubscribe, Append, Deliver, Copy, StoreFlags, Expunge, TakeRecents, Refusal}
use Rattle.mail_world.specs.Users.{create_refused, created, delete_refused, deleted, add_user_refused, with_user}
use Rattle.mail_world.specs.Subscriptions.{subscribe_refused, subscribed, unsubscribe_refused, unsubscribed}
use Rattle.mail_world.specs.Arrivals.{append_refused, appended, delivered, copy_refused, with_copies}
use Rattle.mail_world.specs.Storing.{store_refused, stored, expunge_refused, expunged, recents_refused, recents_taken}
use Rattle.mail_world.specs.Renaming.{rename_refused, renamed, rename_inbox_refused, inbox_renamed}

-- Why a change of the store is not made, the first reason of several; none where it is made. A delivery is made in any case: it
-- leaves out the users whose INBOX can't take the mail.
unfoldable pub refused : World → Change → Option Refusal
refused world (AddUser name verifier) = add_user_refused world name
refused world (Create owner name) = create_refused world owner (created_name name)
refused world (Delete owner name held) = delete_refused world owner (mailbox_name name) held
refused world (Rename owner from to) =
    if is_inbox from then rename_inbox_refused world owner (mailbox_name to) else rename_refused world owner from (mailbox_name to)
refused world (Subscribe owner name) = subscribe_refused world owner (mailbox_name name)
refused world (Unsubscribe owner name) = unsubscribe_refused world owner (mailbox_name name)
refused world (Append mailbox flags date mail taken) = append_refused world mailbox flags
refused world (Deliver users mail date taken) = None
refused world (Copy mailbox uids target taken) = copy_refused world mailbox uids target
refused world (StoreFlags mailbox uids how flags) = store_refused world mailbox uids how flags
refused world (Expunge mailbox uids) = expunge_refused world mailbox uids
refused world (TakeRecents mailbox) = recents_refused world mailbox

-- The store after a change that isn't refused. All that the rule of the change doesn't name is as before.
unfoldable pub apply : World → Change → World
apply world (AddUser name verifier) = with_user world name verifier
apply world (Create owner name) = created world owner (created_name name)
apply world (Delete owner name held) = deleted world owner (mailbox_name name)
apply world (Rename owner from to) =
    if is_inbox from then inbox_renamed world owner (mailbox_name to) else renamed world owner from (mailbox_name to)
apply world (Subscribe owner name) = subscribed world owner (mailbox_name name)
apply world (Unsubscribe owner name) = unsubscribed world owner (mailbox_name name)
apply world (Append mailbox flags date mail taken) = appended world mailbox flags date mail taken
apply world (Deliver users mail date taken) = delivered world users mail date taken
apply world (Copy mailbox uids target taken) = with_copies world mailbox uids target taken
apply world (StoreFlags mailbox uids how flags) = stored world mailbox uids how flags
apply world (Expunge mailbox uids) = expunged world mailbox uids
apply world (TakeRecents mailbox) = recents_taken world mailbox
