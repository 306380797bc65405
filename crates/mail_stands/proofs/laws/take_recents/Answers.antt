use Rattle.mail_stands.proofs.Heading.{recents_same, recents_lead, recents_run}
use Rattle.mail_stands.proofs.Owners.{recents_keep}
use Rattle.mail_stands.proofs.laws.take_recents.Goals as goal

pub returns-clause-refusal : goal.returns-clause-refusal
returns-clause-refusal c = recents_same

pub returns-clause-leads : goal.returns-clause-leads
returns-clause-leads c = recents_lead c.stores_stay_legal.ensures.changed

pub returns-clause-fit : goal.returns-clause-fit
returns-clause-fit c t id row closed text found = (_, recents_run t id row closed text found)

pub returns-clause-owners : goal.returns-clause-owners
returns-clause-owners c = recents_keep c.keys.ensures.same (record { same = c.row_after_replace.ensures.same; other = c.row_after_replace.ensures.other })
