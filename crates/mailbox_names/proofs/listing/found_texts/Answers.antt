use Rattle.std.proofs.Common.{◌≡◌, ℕ, List, Bor, map, subst}
use Rattle.std.specs.List.{list_any}
use Rattle.std.proofs.lemmas.List.{take_all}
use Rattle.mailbox_names.specs.Names.{has_name}
use Rattle.mailbox_names.specs.Finding.{gives}
use Rattle.mailbox_names.proofs.Sets.{sorted_keys}
use Rattle.mailbox_names.proofs.listing.found_texts.Goals as goal

pub returns : goal.returns
returns c = record {
  order = sorted_keys (λ (n : Bor (List ℕ)). n.now) c.names.found.keys c.len.ensures.ordered;
  each = λ text.
      subst (λ (l : List (Bor (List ℕ))). has_name text (map (λ (n : Bor (List ℕ)). n.now) c.names.found.keys) ≡ list_any (gives c.args.pattern.now text) (map (λ (n : Bor (List ℕ)). n.now) l))
      (take_all c.names.name-index c.args.names.now c.names-test.false) (c.names.invariant text);
}
