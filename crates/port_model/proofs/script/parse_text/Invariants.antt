use Rattle.std.proofs.Common.{◌≡◌, ◌≤◌, ◌++◌, length}
use Rattle.std.specs.Option.{option_map}
use Rattle.port_model.specs.Script.{text_bytes}
use Rattle.port_model.proofs.script.parse_text.Given as goal

abbrev pub invariant-loop-left : goal.invariant-loop-left
invariant-loop-left l = (option_map (λ cs. l.bytes.items ++ cs) (text_bytes l.left) ≡ text_bytes l.fn.text) × (length l.bytes.items ≤ 65536)

abbrev pub decreases-loop-left : goal.decreases-loop-left
decreases-loop-left l = length l.left
