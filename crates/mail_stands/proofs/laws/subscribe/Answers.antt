use Rattle.mail_stands.proofs.Subscribing.{subscribe_same, subscribe_leads, subscribe_runs, subscribe_keeps}
use Rattle.mail_stands.proofs.laws.subscribe.Goals as goal

pub returns-clause-refusal : goal.returns-clause-refusal
returns-clause-refusal c = subscribe_same

pub returns-clause-leads : goal.returns-clause-leads
returns-clause-leads c = subscribe_leads c.stores_stay_legal.ensures.changed

pub returns-clause-fit : goal.returns-clause-fit
returns-clause-fit c t owner name text there = (_, subscribe_runs t owner name text there)

pub returns-clause-owners : goal.returns-clause-owners
returns-clause-owners c = subscribe_keeps
