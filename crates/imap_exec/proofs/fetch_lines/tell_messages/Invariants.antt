use Rattle.std.proofs.Common.{◌≡◌, ◌++◌, take}
use Rattle.row_store.specs.Holding.{in_row}
use Rattle.mail_world.specs.Worlds.{World}
use Rattle.mail_stands.specs.Stands.{Stands}
use Rattle.imap_steps.specs.Fetching.{fetched}
use Rattle.imap_exec.specs.Fetching.{Reads}
use Rattle.imap_exec.proofs.FetchReading.{Done}
use Rattle.imap_exec.proofs.fetch_lines.tell_messages.Given as goal

-- The store was read, and the messages so far are told.
abbrev pub invariant-loop-uid : goal.invariant-loop-uid
invariant-loop-uid g l =
    Reads g.D.Disk.told Done l.fn.store l.store
    × ((w : World) → Stands in_row l.fn.store.tables w → l.answer.items ≡ l.fn.answer.items ++ fetched w l.selection l.by_uid l.items l.seen (take l.uid-index l.uids))
