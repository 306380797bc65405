use Rattle.rebuilder.proofs.OneMail.{one_mail}
use Rattle.rebuilder.proofs.mails.law_one_mail.Goals as goal

pub returns : goal.returns
returns c = one_mail
