use Rattle.std.proofs.Common.{◌≡◌, ◌&&◌, ℕ, List, map, take}
use Rattle.mailbox_names.specs.Names.{inbox}
use Rattle.mailbox_names.specs.Listing.{finds}
use Rattle.mailbox_names.specs.Finding.{Adds, is_level_of}
use Rattle.mailbox_names.specs.Fronts.{AreFronts}
use Rattle.mailbox_names.proofs.listing.add_levels.Given as goal

abbrev pub invariant-levels : goal.invariant-levels
invariant-levels l = (pattern : List ℕ) → l.finds_inbox ≡ finds pattern inbox → AreFronts pattern l.name l.fronts
    → Adds (λ text. finds pattern text && is_level_of (take l.i l.name) text) (map (λ name. name.now) l.fn.found.keys) (map (λ name. name.now) l.found.keys)
