use Rattle.std.proofs.Common.{◌≡◌, ◌++◌, ℕ, List, drop}
use Rattle.std.specs.Ordering.{nat_cmp}
use Rattle.std.specs.List.Sorted.{IsStrictlySortedBy}
use Rattle.row_tables.specs.declared.contents.BodyPart.{BodyPart}
use Rattle.mail_world.specs.Worlds.{World}
use Rattle.mail_stands.specs.Stands.{Stands}
use Rattle.imap_steps.specs.Fetching.{unseen_among}
use Rattle.imap_exec.proofs.fetch_lines.unseen_among.Given as goal

-- Those that were taken and those that are left are in order, and of the latter those that are unseen are to come.
abbrev pub invariant-loop-uid : goal.invariant-loop-uid
invariant-loop-uid l =
    ((content : BodyPart → List ℕ) (w : World) → Stands content l.tables w
    → l.unseen.items ++ unseen_among w l.mailbox (drop l.uid-index l.uids) ≡ unseen_among w l.mailbox l.uids)
    × (IsStrictlySortedBy nat_cmp l.uids → IsStrictlySortedBy nat_cmp (l.unseen.items ++ drop l.uid-index l.uids))
