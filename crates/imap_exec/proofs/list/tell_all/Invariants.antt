use Rattle.std.proofs.Common.{◌≡◌, ◌++◌, take}
use Rattle.imap_steps.specs.Listing.{list_lines}
use Rattle.imap_exec.proofs.list.tell_all.Given as goal

abbrev pub invariant-all : goal.invariant-all
invariant-all l = l.answer.items ≡ l.fn.answer.items ++ list_lines l.subscribed (take l.its-index l.all)
