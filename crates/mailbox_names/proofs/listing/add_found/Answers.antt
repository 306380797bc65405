use Rattle.std.proofs.Common.{ℕ, List, Bor, map, sym, subst}
use Rattle.std.proofs.lemmas.Result.{on_ok_weaker}
use Rattle.mailbox_names.specs.Fronts.{AreFronts}
use Rattle.mailbox_names.proofs.Levels.{name_given}
use Rattle.mailbox_names.proofs.listing.add_found.Goals as goal

pub returns : goal.returns
returns c =
    let are : AreFronts c.args.pattern.now c.args.name.now c.as_slice-fronts.result.now =
    subst (AreFronts c.args.pattern.now c.args.name.now) (sym c.as_slice-fronts.ensures.value) c.in_ok-fronts.ensures in
    on_ok_weaker _ (λ added. name_given c.args.pattern.now c.args.name.now c.as_slice-fronts.result.now c.args.finds_inbox c.args.levels c.requires.inbox c.requires.levels are
    (map (λ (n : Bor (List ℕ)). n.now) c.args.found.now.keys) (map (λ (n : Bor (List ℕ)). n.now) c.add_levels_if.new.found.keys) (map (λ (n : Bor (List ℕ)). n.now) c.add_if.new.found.keys)
    added (c.in_ok-add_levels_if.ensures c.args.pattern.now c.requires.inbox are)) c.add_if.ensures
