use Rattle.std.proofs.Common.{List, ℕ, Bor, map, ap, ◌∙◌}
use Rattle.mailbox_names.specs.Names.{has_name}
use Rattle.mailbox_names.proofs.Sets.{key_inserted}
use Rattle.mailbox_names.proofs.listing.add.Goals as goal

pub returns : goal.returns
returns c = λ text.
    ap (λ (l : List (Bor (List ℕ))). has_name text (map (λ (n : Bor (List ℕ)). n.now) l)) c.in_ok-insert.ensures.keys
    ∙ key_inserted (λ (n : Bor (List ℕ)). n.now) c.args.found.now.keys c.args.text text
