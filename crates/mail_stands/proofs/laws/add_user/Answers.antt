use Rattle.mail_stands.proofs.Refusing.{add_user_same}
use Rattle.mail_stands.proofs.Making.{add_user_leads, add_user_runs}
use Rattle.mail_stands.proofs.Owners.{add_user_keeps}
use Rattle.mail_stands.proofs.laws.add_user.Goals as goal

pub returns-clause-refusal : goal.returns-clause-refusal
returns-clause-refusal c = add_user_same

pub returns-clause-leads : goal.returns-clause-leads
returns-clause-leads c = add_user_leads c.keys.ensures.numbers c.insertion.ensures c.insertion-2.ensures c.stores_stay_legal.ensures.changed

pub returns-clause-fit : goal.returns-clause-fit
returns-clause-fit c t name verifier text new box_new = (_, add_user_runs c.insertion.ensures t name verifier text new box_new)

pub returns-clause-owners : goal.returns-clause-owners
returns-clause-owners c = add_user_keeps c.keys.ensures.same c.insertion.ensures c.insertion-2.ensures
