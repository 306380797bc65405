use Rattle.std.proofs.Common.{ℕ, false, List, Bor, [], ◌∷◌, ◌++◌, map, ap, subst, sym, ◌∙◌}
use Rattle.mailbox_core.specs.Listing.{Walked, names_in}
use Rattle.mailbox_core.proofs.Walking.{walk_none, walk_first}
use Rattle.mailbox_core.proofs.NameRows.{pushed_name}
use Rattle.mailbox_core.proofs.listing.first_mailbox.Goals as goal

pub returns-in_ok-push : goal.returns-in_ok-push
returns-in_ok-push c =
    let all = names_in false c.args.user c.args.tables.now in
    subst (λ (l : List (List ℕ)). Walked c.args.front.now all c.args.front.now l)
    (sym (pushed_name c.new-names.result.items c.push.new.self.items c.args.front c.in_ok-push.ensures.items ∙ ap (λ (l : List (Bor (List ℕ))). map (λ (x : Bor (List ℕ)). x.now) l ++ c.args.front.now ∷ []) c.new-names.ensures.items))
    (walk_first c.args.front.now all (sym c.has_mailbox.ensures ∙ c.if-has_mailbox.true))

pub returns-else-has_mailbox : goal.returns-else-has_mailbox
returns-else-has_mailbox c =
    let all = names_in false c.args.user c.args.tables.now in
    subst (λ (l : List (Bor (List ℕ))). Walked c.args.front.now all c.args.front.now (map (λ (x : Bor (List ℕ)). x.now) l)) (sym c.new-names.ensures.items)
    (walk_none c.args.front.now all (sym c.has_mailbox.ensures ∙ c.if-has_mailbox.false))
