use Rattle.std.proofs.Common.{ℕ, List, Bor, map, ◌∙◌}
use Rattle.std.proofs.lemmas.Result.{IfOk-weaker}
use Rattle.mailbox_names.proofs.Levels.{told_all}
use Rattle.mailbox_names.proofs.listing.list.Goals as goal

pub returns : goal.returns
returns c =
    let told = told_all (λ (n : Bor (List ℕ)). n.now) c.args.pattern.now (map (λ (n : Bor (List ℕ)). n.now) c.args.names.now) (map (λ (n : Bor (List ℕ)). n.now) c.in_ok-there.there.keys) c.in_ok-found.found.keys c.in_ok-there.ensures c.in_ok-found.ensures in
    IfOk-weaker c.told.result _ _ (λ all is. is ∙ told) c.told.ensures
