use Rattle.mail_model.proofs.HandedOut.{stays, whole}
use Rattle.mail_model.proofs.change_laws.handed_out_stays.Goals as goal

pub returns-clause-later : goal.returns-clause-later
returns-clause-later c = stays

pub returns-clause-whole : goal.returns-clause-whole
returns-clause-whole c = whole
