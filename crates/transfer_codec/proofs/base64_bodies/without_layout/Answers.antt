use Rattle.std.proofs.Common.{◌≡◌, ◌∙◌, ap, rules}
use Rattle.std.specs.List.{filter}
use Rattle.std.proofs.lemmas.List.Elements.{filter_from_retain}
use Rattle.transfer_codec.specs.Layout.{is_content}
use Rattle.transfer_codec.proofs.base64_bodies.without_layout.Goals as goal

pub returns : goal.returns
returns c =
    let copied : c.in_ok-text.text.items ≡ c.args.body.now = search rules in
    filter_from_retain _ is_content (λ p x b q called. search rules) _ _ _ c.retain.ensures.filtered ∙ ap (filter is_content) copied
