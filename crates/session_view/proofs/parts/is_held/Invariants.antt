use Rattle.std.proofs.Common.{◌≡◌, false, take}
use Rattle.std.specs.List.{list_any}
use Rattle.session_view.specs.Parts.{has_selected}
use Rattle.session_view.proofs.parts.is_held.Given as goal

abbrev pub invariant-loop-part : goal.invariant-loop-part
invariant-loop-part l = list_any (has_selected l.mailbox) (take l.part-index l.parts) ≡ false
