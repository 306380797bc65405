use Rattle.std.proofs.Common.{◌≡◌, ◌++◌, not, length, map}
use Rattle.mailbox_names.specs.Names.{has_name}
use Rattle.mailbox_names.proofs.listing.told.Given as goal

abbrev pub invariant-found : goal.invariant-found
invariant-found l = l.all.items ++ map (λ text. record { name = text.now; noselect = not (has_name text.now (map (λ name. name.now) l.there.keys)) }) l.found.keys
    ≡ map (λ text. record { name = text.now; noselect = not (has_name text.now (map (λ name. name.now) l.there.keys)) }) l.fn.found.keys

abbrev pub decreases-found : goal.decreases-found
decreases-found l = length l.found.keys
