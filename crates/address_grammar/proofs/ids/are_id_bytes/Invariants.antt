use Rattle.std.proofs.Common.{◌≡◌, drop}
use Rattle.address_grammar.specs.Ids.{are_id_bytes}
use Rattle.address_grammar.proofs.ids.are_id_bytes.Given as goal

abbrev pub invariant-loop-b : goal.invariant-loop-b
invariant-loop-b l = are_id_bytes l.text ≡ are_id_bytes (drop l.b-index l.text)
