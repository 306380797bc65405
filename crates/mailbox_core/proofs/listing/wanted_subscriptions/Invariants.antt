use Rattle.std.proofs.Common.{◌≡◌, ◌++◌, true, map}
use Rattle.std.specs.List.{filter}
use Rattle.mailbox_names.specs.Fronts.{is_wanted}
use Rattle.mailbox_core.specs.Listing.{names_in}
use Rattle.mailbox_core.proofs.listing.wanted_subscriptions.Given as goal

abbrev pub invariant-rows : goal.invariant-rows
invariant-rows l = (map (λ n. n.now) l.names.items ++ filter (is_wanted l.front) (map (λ row. row.name) l.rows)) ≡ filter (is_wanted l.front) (names_in true l.user l.tables)
