use Rattle.mail_stands.proofs.Subscribing.{unsubscribe_same, unsubscribe_leads, unsubscribe_runs, unsubscribe_keeps}
use Rattle.mail_stands.proofs.laws.unsubscribe.Goals as goal

pub returns-clause-refusal : goal.returns-clause-refusal
returns-clause-refusal c = unsubscribe_same

pub returns-clause-leads : goal.returns-clause-leads
returns-clause-leads c = unsubscribe_leads c.stores_stay_legal.ensures.changed

pub returns-clause-fit : goal.returns-clause-fit
returns-clause-fit c t owner name text there = (_, unsubscribe_runs t owner name text there)

pub returns-clause-owners : goal.returns-clause-owners
returns-clause-owners c = unsubscribe_keeps
