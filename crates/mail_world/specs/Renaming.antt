-- RENAME: a mailbox with its inferiors, or the messages of INBOX (RFC 3501 §6.3.5).
use Rattle.std.specs.Prelude.{ℕ, ◌+◌, ◌&&◌, Bool, true, false, not, nat_le, nat_lt, List, [], ◌∷◌, length, map, Option, Some, None, is_some, count_by}
use Rattle.std.specs.List.{list_any}
use Rattle.mail_world.specs.Names.{inbox, is_mailbox_name, is_renamed, renamed_as, longest_name}
use Rattle.mail_world.specs.Worlds.{World, Mailbox, mailbox_named, is_named, is_owned_by}
use Rattle.mail_world.specs.Limits.{last_modseq}
use Rattle.mail_world.specs.Changes.{Refusal, BadName, Absent, Exists, Full, first_refusal}
use Rattle.mail_world.specs.Users.{new_mailbox, with_mailbox, is_full_of_mailboxes}
use Rattle.mail_world.specs.Arrivals.{with_changed, with_messages}
use Rattle.mail_world.specs.Storing.{without_messages}

-- whether a mailbox is renamed: it is the user's, and has the name or an inferior one
abbrev pub moves : ℕ → List ℕ → Mailbox → Bool
moves owner from mailbox = is_owned_by owner mailbox && is_renamed from mailbox.head.name

abbrev pub new_name : List ℕ → List ℕ → Mailbox → List ℕ
new_name from to mailbox = renamed_as from to mailbox.head.name

-- The names of all mailboxes that are there count, of those too that are renamed.
abbrev pub rename_refused : World → ℕ → List ℕ → List ℕ → Option Refusal
rename_refused world owner from to =
    first_refusal ((not (is_mailbox_name to), BadName)
    ∷ (not (is_some (mailbox_named owner from world.mailboxes)), Absent)
    ∷ (list_any (λ mailbox. moves owner from mailbox && nat_lt longest_name (length (new_name from to mailbox))) world.mailboxes, BadName)
    ∷ (list_any (λ mailbox. moves owner from mailbox && is_some (mailbox_named owner (new_name from to mailbox) world.mailboxes)) world.mailboxes, Exists) ∷ [])

-- A renamed mailbox keeps its messages, their UIDs and its UIDVALIDITY.
abbrev pub with_name : List ℕ → Mailbox → Mailbox
with_name name mailbox = record mailbox { head = record mailbox.head { name = name } }

abbrev pub renamed : World → ℕ → List ℕ → List ℕ → World
renamed world owner from to = with_changed (moves owner from) (λ mailbox. with_name (new_name from to mailbox) mailbox) world

-- whether INBOX has messages, and no mod-sequence left with which they could go
abbrev pub keeps_its_messages : Mailbox → Bool
keeps_its_messages mailbox = nat_le 1 (length mailbox.entries) && nat_le last_modseq mailbox.head.highest

abbrev pub rename_inbox_refused : World → ℕ → List ℕ → Option Refusal
rename_inbox_refused world owner to =
    first_refusal ((not (is_mailbox_name to), BadName)
    ∷ (not (is_some (mailbox_named owner inbox world.mailboxes)), Absent)
    ∷ (is_some (mailbox_named owner to world.mailboxes), Exists)
    ∷ (is_full_of_mailboxes owner world, Full)
    ∷ (list_any (λ mailbox. is_named owner inbox mailbox && keeps_its_messages mailbox) world.mailboxes, Full) ∷ [])

-- The mailbox into which the messages of INBOX go, as UIDs from 1 on. Those that were recent still are.
abbrev pub moved_inbox : ℕ → List ℕ → Mailbox → Mailbox
moved_inbox id to source =
    let moved = with_messages false (map (λ entry. entry.message) source.entries) (new_mailbox id source.head.owner to) in
    record moved { head = record moved.head { first_recent = 1 + count_by (λ entry. nat_lt entry.uid source.head.first_recent) source.entries } }

-- INBOX stays, without its messages; inferiors of it stay as they are.
abbrev pub with_inbox_moved : Option Mailbox → World → ℕ → List ℕ → World
with_inbox_moved None world owner to = world
with_inbox_moved (Some source) world owner to =
    with_mailbox (moved_inbox world.next to source) (with_changed (is_named owner inbox) (without_messages (λ uid. true)) world)

abbrev pub inbox_renamed : World → ℕ → List ℕ → World
inbox_renamed world owner to = with_inbox_moved (mailbox_named owner inbox world.mailboxes) world owner to
