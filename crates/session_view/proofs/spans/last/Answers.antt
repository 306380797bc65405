use Rattle.std.proofs.Common.{◌≡◌, true, arith}
use Rattle.std.proofs.lemmas.Grind.{common_steps}
use Rattle.session_view.proofs.Covering.{last_is}
use Rattle.session_view.proofs.spans.last.Goals as goal

pub returns : goal.returns
returns c =
    let is : c.args.by_uid ≡ true = grind (arith, common_steps) in
    let last = last_is c.args.uids.now c.args.by_uid is c.requires.ascend in
    grind (arith, common_steps, last)
