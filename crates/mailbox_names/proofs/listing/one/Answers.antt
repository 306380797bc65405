use Rattle.std.proofs.Common.{◌≡◌, Bool, not, List, ℕ, Bor, map, ap, ◌∙◌}
use Rattle.mailbox_names.specs.declared.listed.Listed.{Listed}
use Rattle.mailbox_names.specs.Names.{has_name}
use Rattle.mailbox_names.proofs.Sets.{key_found}
use Rattle.mailbox_names.proofs.listing.one.Goals as goal

pub returns : goal.returns
returns c =
    let there : c.contains-noselect.result ≡ has_name c.args.text.now (map (λ (n : Bor (List ℕ)). n.now) c.args.there.now.keys) =
    c.contains-noselect.ensures ∙ key_found (λ (n : Bor (List ℕ)). n.now) c.args.there.now.keys c.args.text.now in
    let told : List ℕ → Bool → Listed = λ (n : List ℕ) (b : Bool). record { name = n; noselect = not b } in
    ap (λ (n : List ℕ). told n c.contains-noselect.result) c.in_ok-name.ensures ∙ ap (λ (b : Bool). told c.args.text.now b) there
