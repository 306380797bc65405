use Rattle.lmtp_core.proofs.CommandLemmas.{domain_asked, local_asked}
use Rattle.lmtp_core.proofs.laws.recipients_are_asked_as_written.Goals as goal

pub returns-clause-local : goal.returns-clause-local
returns-clause-local c = λ local some all. local_asked local some all

pub returns-clause-domain : goal.returns-clause-domain
returns-clause-domain c = λ local domain some all all_domain. domain_asked local domain some all all_domain
