use Rattle.mail_stands.proofs.Refusing.{create_same}
use Rattle.mail_stands.proofs.Making.{create_leads, create_runs}
use Rattle.mail_stands.proofs.Owners.{create_keeps}
use Rattle.mail_stands.proofs.laws.create.Goals as goal

pub returns-clause-refusal : goal.returns-clause-refusal
returns-clause-refusal c = create_same

pub returns-clause-leads : goal.returns-clause-leads
returns-clause-leads c = create_leads c.keys.ensures.numbers c.insertion.ensures c.stores_stay_legal.ensures.changed

pub returns-clause-fit : goal.returns-clause-fit
returns-clause-fit c t owner name text there new = (_, create_runs t owner name text there new)

pub returns-clause-owners : goal.returns-clause-owners
returns-clause-owners c = create_keeps c.keys.ensures.same c.insertion.ensures
