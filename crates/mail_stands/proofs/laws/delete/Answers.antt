use Rattle.std.proofs.Common.{refl}
use Rattle.mail_stands.proofs.Deleting.{delete_same, delete_leads}
use Rattle.mail_stands.proofs.Owners.{delete_keeps}
use Rattle.mail_stands.proofs.laws.delete.Goals as goal

pub returns-clause-refusal : goal.returns-clause-refusal
returns-clause-refusal c = delete_same

pub returns-clause-leads : goal.returns-clause-leads
returns-clause-leads c = delete_leads c.keys.ensures.same c.stores_stay_legal.ensures.changed

pub returns-clause-fit : goal.returns-clause-fit
returns-clause-fit c t row there = (_, (there, refl))

pub returns-clause-others : goal.returns-clause-others
returns-clause-others c = delete_keeps c.row_after_remove.ensures.other
