use Rattle.std.proofs.Common.{false, length, map}
use Rattle.std.specs.List.{filter}
use Rattle.row_tables.specs.Names.{is_after}
use Rattle.mailbox_core.specs.Listing.{Walked, names_in}
use Rattle.mailbox_core.proofs.listing.mailboxes_from.Given as goal

abbrev pub invariant-names : goal.invariant-names
invariant-names l = Walked l.front (names_in false l.user l.tables) l.last (map (λ n. n.now) l.names.items)

abbrev pub decreases-names : goal.decreases-names
decreases-names l = length (filter (is_after l.last) (names_in false l.user l.tables))
