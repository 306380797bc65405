use Rattle.std.proofs.Common.{◌≡◌, ℕ, List, map, take}
use Rattle.mailbox_names.specs.Names.{has_name}
use Rattle.mailbox_names.proofs.listing.set_of.Given as goal

abbrev pub invariant-names : goal.invariant-names
invariant-names l = (text : List ℕ) → has_name text (map (λ name. name.now) l.there.keys) ≡ has_name text (map (λ name. name.now) (take l.name-index l.names))
