use Rattle.std.proofs.Common.{ℕ, true, Bool, List, Bor, map, subst, sym}
use Rattle.mailbox_names.specs.Fronts.{IsPart}
use Rattle.mailbox_core.specs.Listing.{names_in}
use Rattle.mailbox_core.proofs.NameRows.{filter_part}
use Rattle.mailbox_core.proofs.listing.wanted_names.Goals as goal

pub returns-in_ok-names : goal.returns-in_ok-names
returns-in_ok-names c =
    subst (λ (s : Bool). IsPart c.args.front.now (names_in s c.args.user c.args.tables.now) (map (λ (x : Bor (List ℕ)). x.now) c.in_ok-names.names.items)) (sym c.if-subscribed.true)
    (subst (λ (l : List (List ℕ)). IsPart c.args.front.now (names_in true c.args.user c.args.tables.now) l) (sym c.in_ok-names.ensures) (filter_part c.args.front.now (names_in true c.args.user c.args.tables.now)))
