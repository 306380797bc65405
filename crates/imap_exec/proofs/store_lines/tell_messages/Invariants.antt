use Rattle.std.proofs.Common.{◌≡◌, ◌++◌, ℕ, List, take}
use Rattle.row_tables.specs.declared.contents.BodyPart.{BodyPart}
use Rattle.mail_world.specs.Worlds.{World}
use Rattle.mail_stands.specs.Stands.{Stands}
use Rattle.imap_steps.specs.Storing.{told}
use Rattle.imap_exec.proofs.store_lines.tell_messages.Given as goal

abbrev pub invariant-loop-uid : goal.invariant-loop-uid
invariant-loop-uid l = (content : BodyPart → List ℕ) (w : World) → Stands content l.tables w → l.answer.items ≡ l.fn.answer.items ++ told w l.selection l.by_uid (take l.uid-index l.uids)
