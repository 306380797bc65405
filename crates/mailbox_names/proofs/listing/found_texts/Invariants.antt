use Rattle.std.proofs.Common.{◌≡◌, ℕ, List, map, take}
use Rattle.std.specs.List.{list_any}
use Rattle.mailbox_names.specs.Names.{has_name}
use Rattle.mailbox_names.specs.Finding.{gives}
use Rattle.mailbox_names.proofs.listing.found_texts.Given as goal

abbrev pub invariant-names : goal.invariant-names
invariant-names l = (text : List ℕ) → has_name text (map (λ name. name.now) l.found.keys) ≡ list_any (gives l.pattern text) (map (λ name. name.now) (take l.name-index l.names))
