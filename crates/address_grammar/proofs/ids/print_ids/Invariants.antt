use Rattle.std.proofs.Common.{◌≡◌, ◌++◌, drop, cond}
use Rattle.address_grammar.specs.Words.{each_spaced, spaced}
use Rattle.address_grammar.proofs.ids.print_ids.Given as goal

abbrev pub invariant-loop-id : goal.invariant-loop-id
invariant-loop-id l = l.out.items ++ cond l.begun (each_spaced (drop l.id-index l.ids)) (spaced (drop l.id-index l.ids)) ≡ spaced l.ids
