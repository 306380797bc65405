use Rattle.std.proofs.Common.{◌≡◌, length}
use Rattle.address_grammar.specs.Words.{bare}
use Rattle.address_grammar.specs.Addresses.{behind_route}
use Rattle.address_grammar.proofs.addresses.behind_route.Given as goal

abbrev pub invariant-domains : goal.invariant-domains
invariant-domains l = behind_route (bare l.pieces) ≡ behind_route (bare l.rest)

abbrev pub decreases-domains : goal.decreases-domains
decreases-domains l = length l.rest
